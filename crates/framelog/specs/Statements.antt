-- What is proved of records of every legal size (`Size`). The proofs are in `proofs/Theorems.antt`, under the names given here.
-- Assumes nothing.
use Rattle.std.specs.Prelude.{ℕ, ◌^◌, ◌≤◌, ◌<◌, ◌≡◌, List, length, Ok}
use Rattle.le.specs.Word.{AreBytes}
use Rattle.framelog.specs.Layout.{record_size, header_size, frame_max, record_of}
use Rattle.framelog.specs.Reading.{read_of, frame_after}
use Rattle.framelog.specs.Writing.{written, slice_after}

-- a size of records: the header fits, and two bytes count the longest frame
pub record Size (size : ℕ) : Type 0 where
  pub least : header_size ≤ size
  pub most : frame_max size < 2 ^ 16

-- `size_in_use`. 260 is one.
abbrev pub SizeInUse : Type 0
SizeInUse = Size record_size

-- `writes_each`. Each frame that is no longer than a record holds is written to each slice of the record's size.
abbrev pub WritesEach : Type 0
WritesEach = (size : ℕ) (frame slice : List ℕ) → length slice ≡ size → length frame ≤ frame_max size → written size frame slice ≡ Ok tt

-- `reads_back`. What the writer leaves in a slice reads back as the frame that was written, and no slice gets longer or shorter.
pub record ReadsBackAs (size : ℕ) (frame r : List ℕ) : Type 0 where
  pub read : read_of size r ≡ Ok (length frame)
  pub frame_is : frame_after (read_of size r) r ≡ frame
  pub size_is : length r ≡ size

abbrev pub ReadsBack : Type 0
ReadsBack =
    (size : ℕ) (frame slice : List ℕ)
    → Size size
    → written size frame slice ≡ Ok tt
    → ReadsBackAs size frame (slice_after (written size frame slice) size frame slice)

-- `read_was_written`. Each record that is read is the record of its frame: there is no other that reads as that frame.
abbrev pub ReadWasWritten : Type 0
ReadWasWritten =
    (size : ℕ) (r : List ℕ) (n : ℕ)
    → Size size
    → AreBytes r
    → read_of size r ≡ Ok n
    → r ≡ record_of size (frame_after (read_of size r) r)
