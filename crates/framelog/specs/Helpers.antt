-- What only the contract of a private function names.
-- Assumes nothing.
use Rattle.std.specs.Prelude.{ℕ, ◌+◌, List, ◌++◌, length, drop}
use Rattle.le.specs.Word.{bytes}
use Rattle.framelog.specs.Layout.{header_size}

-- a record with a frame's length in the header's bytes and the frame behind them, else as it was
abbrev pub filled : List ℕ → List ℕ → List ℕ
filled frame r = bytes header_size (length frame) ++ frame ++ drop (header_size + length frame) r
