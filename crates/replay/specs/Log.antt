-- A log is its records, one behind the other, with no header (document 01, "The frame log"); "a short last record is a record refused with 50" (document 02, Q-2).
-- Assumes nothing.
use Rattle.std.specs.Prelude.{ℕ, zero, suc, length, take, drop}
use mathlib.Core.List.{List, [], ◌∷◌, map, flatten}
use Rattle.framelog.specs.Layout.{record_size, record_of}

-- a log cut into records of a size, of which no more are asked for than so many. What is left at the end may be shorter, and is one too
unfoldable pub cut_in : ℕ → ℕ → List ℕ → List (List ℕ)
cut_in zero size log = []
cut_in (suc most) size [] = []
cut_in (suc most) size (b ∷ log) = take size (b ∷ log) ∷ cut_in most size (drop size (b ∷ log))

-- all of its records: there are no more of them than bytes
abbrev pub records : List ℕ → List (List ℕ)
records log = cut_in (length log) record_size log

-- the log of a list of frames: the record of each
abbrev pub log_of : List (List ℕ) → List ℕ
log_of frames = flatten (map (record_of record_size) frames)
