-- Document 01, "Frames" and the last lines of "Reassembly": the writer and the frame count, with refusals 10, 12, 13 and 14, the first that applies.
-- Assumes nothing.
use Rattle.std.specs.Prelude.{ℕ, ◌+◌, ◌-◌, ◌*◌, ◌/◌, Bool, cond, ◌||◌, List, Result, Ok, Err, ◌++◌, ltb, leb, eqb, length, take, drop}
use Rattle.frame.specs.Layout.{message_max, piece_max, header_for, frame_of}
use Rattle.frame.specs.declared.Envelope.{Envelope}
use Rattle.frame.specs.declared.write.Reason.{Reason}
use Rattle.frame.specs.declared.write.Reason.TheVariants.{MessageLong, PieceSize, NoFrame, OutputShort}

abbrev pub number_of : Reason → ℕ
number_of MessageLong = 10
number_of PieceSize = 12
number_of NoFrame = 13
number_of OutputShort = 14

-- 12: the piece size is 0 or over 232
abbrev pub bad_size : ℕ → Bool
bad_size size = eqb size 0 || ltb piece_max size

-- "the length divided by the piece size, rounded up"
abbrev pub rounded_up : ℕ → ℕ → ℕ
rounded_up total size = (total + (size - 1)) / size

-- how many frames: "1 for an empty message", else that
unfoldable pub count_of : ℕ → ℕ → ℕ
count_of total size = cond (eqb total 0) 1 (rounded_up total size)

-- what the count answers: "The count refuses with 10 and 12 alike."
unfoldable pub counted : ℕ → ℕ → Result ℕ Reason
counted total size =
    cond (ltb message_max total) (Err MessageLong)
    (cond (bad_size size) (Err PieceSize)
    (Ok (count_of total size)))

-- "all pieces but the last have the piece size"
abbrev pub piece_of : ℕ → ℕ → List ℕ → List ℕ
piece_of size index message = take size (drop (index * size) message)

-- the frame with that Index; Data Total Size is the message's length
abbrev pub frame_at : Envelope → List ℕ → ℕ → ℕ → List ℕ
frame_at e message size index = frame_of (header_for e (length message) index) (piece_of size index message)

-- what the writer answers: the frame's length, or the first refusal that applies
unfoldable pub written : Envelope → List ℕ → ℕ → ℕ → List ℕ → Result ℕ Reason
written e message size index out =
    cond (ltb message_max (length message)) (Err MessageLong)
    (cond (bad_size size) (Err PieceSize)
    (cond (leb (count_of (length message) size) index) (Err NoFrame)
    (cond (ltb (length out) (length (frame_at e message size index))) (Err OutputShort)
    (Ok (length (frame_at e message size index))))))

-- what the output holds after an answer: the frame, then its own bytes behind it; or all of its own
abbrev pub output_of : Result ℕ Reason → List ℕ → List ℕ → List ℕ
output_of (Ok n) frame out = frame ++ drop n out
output_of (Err reason) frame out = out

-- the output once the writer has answered
abbrev pub output_after : Envelope → List ℕ → ℕ → ℕ → List ℕ → List ℕ
output_after e message size index out = output_of (written e message size index out) (frame_at e message size index) out
