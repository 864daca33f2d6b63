-- Document 01, "Frames" and the table of "Reassembly": the reader, with refusals 1 to 4, the first that applies.
-- Assumes nothing.
use Rattle.std.specs.Prelude.{ℕ, cond, not, List, ltb, eqb, length, drop}
use Rattle.le.specs.Word.{word}
use Rattle.frame.specs.Layout.{header_size, frame_max, type_version, header_of}
use Rattle.frame.specs.declared.read.Reason.{Reason}
use Rattle.frame.specs.declared.read.Reason.TheVariants.{FrameShort, FrameLong, WrongType, OtherReceiver}
use Rattle.frame.specs.declared.read.Parsed.{Parsed}
use Rattle.frame.specs.declared.read.Parsed.TheVariants.{Header, Refused}

abbrev pub number_of : Reason → ℕ
number_of FrameShort = 1
number_of FrameLong = 2
number_of WrongType = 3
number_of OtherReceiver = 4

-- what the reader answers to the frame f, where our Receiver ID is us
unfoldable pub parsed : ℕ → List ℕ → Parsed
parsed us f =
    cond (ltb (length f) header_size) (Refused FrameShort)
    (cond (ltb frame_max (length f)) (Refused FrameLong)
    (cond (not (eqb (word 1 f) type_version)) (Refused WrongType)
    (cond (not (eqb (header_of f).receiver us)) (Refused OtherReceiver)
    (Header (header_of f)))))

-- the data: the frame from byte 24 on
abbrev pub data_of : List ℕ → List ℕ
data_of f = drop header_size f
