-- What only private functions' contracts name. No reader has to believe it.
-- Assumes nothing.
use Rattle.std.specs.Prelude.{ℕ}

-- what is told of a record is no longer, with the space before it: " delivered ", 10 digits, a space and 4 digits
abbrev pub told_max : ℕ
told_max = 26
