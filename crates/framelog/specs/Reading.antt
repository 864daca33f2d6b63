-- Document 01, "The frame log": "Reading, in order: 50 slice isn't 260 bytes; 52 length over 256; 51 bytes 2 or 3 not zero; 53 a non-zero byte after the frame."
-- Assumes nothing.
use Rattle.std.specs.Prelude.{ℕ, Bool, cond, not, List, [], ltb, eqb, length, Result, Ok, Err}
use Rattle.le.specs.Compare.{same}
use Rattle.framelog.specs.Layout.{frame_max, length_of_def, reserved_of, zeros, cut_of, rest_of}
use Rattle.framelog.specs.declared.Reason.{Reason}
use Rattle.framelog.specs.declared.Reason.TheVariants.{WrongSize, NotZero, FrameLong, BadEnd}

-- all bytes are zero
abbrev pub is_zero_def : List ℕ → Bool
is_zero_def s = same s (zeros (length s))

-- what the reader answers: how long the frame is
unfoldable pub read_of : ℕ → List ℕ → Result ℕ Reason
read_of size r =
    cond (not (eqb (length r) size)) (Err WrongSize)
    (cond (ltb (frame_max size) (length_of_def r)) (Err FrameLong)
    (cond (not (is_zero_def (reserved_of r))) (Err NotZero)
    (cond (not (is_zero_def (rest_of r))) (Err BadEnd)
    (Ok (length_of_def r)))))

-- the frame itself, or no bytes of a record that is refused
abbrev pub frame_after : Result ℕ Reason → List ℕ → List ℕ
frame_after (Ok n) r = cut_of n r
frame_after (Err reason) r = []
