-- Document 01, "The frame log": "Writing: 50, then 52 for a frame over 256; the slice stays untouched."
-- Assumes nothing.
use Rattle.std.specs.Prelude.{ℕ, cond, not, List, ltb, eqb, length, Result, Ok, Err}
use Rattle.framelog.specs.Layout.{frame_max, record_of}
use Rattle.framelog.specs.declared.Reason.{Reason}
use Rattle.framelog.specs.declared.Reason.TheVariants.{WrongSize, FrameLong}

-- what the writer answers for a frame and a slice
unfoldable pub written : ℕ → List ℕ → List ℕ → Result (Unit {0}) Reason
written size frame slice =
    cond (not (eqb (length slice) size)) (Err WrongSize)
    (cond (ltb (frame_max size) (length frame)) (Err FrameLong)
    (Ok tt))

-- what the slice holds after that answer
abbrev pub slice_after : Result (Unit {0}) Reason → ℕ → List ℕ → List ℕ → List ℕ
slice_after (Ok done) size frame slice = record_of size frame
slice_after (Err reason) size frame slice = slice
