-- Assumes nothing.
use Rattle.std.specs.Prelude.{ℕ, List, ◌++◌, length, take, drop}

-- dst with src copied to its start: as much of src as fits, then dst's own bytes
abbrev pub copied : List ℕ → List ℕ → List ℕ
copied src dst = take (length dst) src ++ drop (length src) dst
