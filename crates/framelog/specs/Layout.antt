-- Document 01, "The frame log": "frame length u16, two zero bytes, the frame, zeros to the end". The rules are stated over the record's size; the one in use has
-- 260 bytes.
-- Assumes nothing.
use Rattle.std.specs.Prelude.{ℕ, ◌+◌, ◌-◌, List, ◌++◌, length, take, drop, replicate}
use Rattle.le.specs.Word.{word, bytes}
use Rattle.framelog.specs.declared.Reason.{Reason}
use Rattle.framelog.specs.declared.Reason.TheVariants.{WrongSize, NotZero, FrameLong, BadEnd}

abbrev pub number_of : Reason → ℕ
number_of WrongSize = 50
number_of NotZero = 51
number_of FrameLong = 52
number_of BadEnd = 53

abbrev pub record_size : ℕ
record_size = 260

-- what stands before the frame
abbrev pub header_size : ℕ
header_size = 4

-- the longest frame of a record of that size
abbrev pub frame_max : ℕ → ℕ
frame_max size = size - header_size

abbrev pub length_of_def : List ℕ → ℕ
length_of_def r = word 2 r

-- the two bytes that are zero
abbrev pub reserved_of : List ℕ → List ℕ
reserved_of r = take 2 (drop 2 r)

abbrev pub zeros : ℕ → List ℕ
zeros n = replicate n 0

-- where a frame of n bytes ends
abbrev pub end_of : ℕ → ℕ
end_of n = header_size + n

-- the frame of n bytes
abbrev pub cut_of : ℕ → List ℕ → List ℕ
cut_of n r = take n (drop header_size r)

-- what stands behind the frame
abbrev pub rest_of : List ℕ → List ℕ
rest_of r = drop (end_of (length_of_def r)) r

-- the record of a frame
abbrev pub record_of : ℕ → List ℕ → List ℕ
record_of size frame = bytes 2 (length frame) ++ (zeros 2 ++ (frame ++ zeros (frame_max size - length frame)))
