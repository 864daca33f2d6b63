-- The theorems of `specs/Statements.antt`: a record reads back as the frame that was written, and is the only one that does.
-- Assumes nothing.
use Prim.Native.Nat.{ℕ, ◌+◌, ◌-◌, ◌≤◌}
use mathlib.Core.Bool.{true, not}
use mathlib.Core.Path.{◌≡◌, refl, sym, ap, ap₂, subst, ◌∙◌}
use mathlib.Core.List.{List, ◌++◌}
use borrow.Author.Tests.{not-false, ltb-false, eqb-true}
use native.Mathlib.Omega.{arith}
use lib.Dec.{ltb, eqb}
use lib.ListN.{length, take, drop, length-drop, length-replicate, take-append-drop}
use lib.Seq.{take_at, drop_at, drop-drop, length-take-le}
use Rattle.std.specs.Prelude.{Result, Ok}
use Rattle.std.proofs.lemmas.List.{drop-replicate}
use Rattle.le.specs.Word.{bytes}
use Rattle.le.proofs.Words.{word_bytes, bytes_word, length-bytes}
use Rattle.le.proofs.Comparing.{same_true, equal_same}
use Rattle.le.proofs.Tests.{apart, past}
use Rattle.framelog.specs.Layout.{header_size, frame_max, length_of_def, reserved_of, zeros, end_of, rest_of, record_of}
use Rattle.framelog.specs.Reading.{is_zero_def, read_of, frame_after}
use Rattle.framelog.specs.Writing.{written, slice_after}
use Rattle.framelog.specs.Statements.{Size, SizeInUse, WritesEach, ReadsBackAs, ReadsBack, ReadWasWritten}
use Rattle.framelog.specs.declared.Reason.{Reason}
use Rattle.framelog.proofs.Answers.{frame_read, write_done, record_length}

zeros_zero : (n : ℕ) → is_zero_def (zeros n) ≡ true
zeros_zero n = equal_same (zeros n) (zeros (length (zeros n))) (ap zeros (sym (length-replicate n 0)))

-- the words and parts of the record of a frame
module _ (size : ℕ) (frame : List ℕ) (legal : Size size) (fits : length frame ≤ frame_max size) where
  abbrev r : List ℕ
  r = record_of size frame

  abbrev rest : List ℕ
  rest = zeros (frame_max size - length frame)

  length_is : length_of_def r ≡ length frame
  length_is = word_bytes 2 (length frame) (zeros 2 ++ (frame ++ rest)) (omega (arith, legal.most))

  behind_length : drop 2 r ≡ zeros 2 ++ (frame ++ rest)
  behind_length = drop_at (bytes 2 (length frame)) (zeros 2 ++ (frame ++ rest)) 2 (length-bytes 2 (length frame))

  behind_header : drop header_size r ≡ frame ++ rest
  behind_header = sym (drop-drop 2 2 r) ∙ ap (drop 2) behind_length

  -- from any place behind the frame on there are zeros
  behind_frame : (at : ℕ) → header_size + length frame ≤ at → drop at r ≡ zeros (size - at)
  behind_frame at past =
      let on = at - header_size - length frame in
      let place : at ≡ header_size + length frame + on = omega arith in
      let left : frame_max size - length frame - on ≡ size - at = omega arith in
      ap (λ (k : ℕ). drop k r) place
      ∙ sym (drop-drop on (header_size + length frame) r)
      ∙ ap (drop on) (sym (drop-drop (length frame) header_size r) ∙ ap (drop (length frame)) behind_header ∙ drop_at frame rest (length frame) refl)
      ∙ drop-replicate {X = ℕ} on (frame_max size - length frame) 0
      ∙ ap zeros left

  zero_behind : (at : ℕ) → header_size + length frame ≤ at → is_zero_def (drop at r) ≡ true
  zero_behind at past = ap (λ (s : List ℕ). is_zero_def s) (behind_frame at past) ∙ zeros_zero (size - at)

  reads : read_of size r ≡ Ok (length frame)
  reads =
      frame_read size r (record_length size frame legal fits) (rw length_is fits)
      (ap (λ (s : List ℕ). is_zero_def (take 2 s)) behind_length ∙ zeros_zero 2)
      (zero_behind (end_of (length_of_def r)) (rw length_is (omega arith)))
      ∙ ap Ok length_is

  reads_as : ReadsBackAs size frame r
  reads_as =
      record {
        read = reads;
        frame_is = ap (λ (x : Result ℕ Reason). frame_after x r) reads ∙ ap (take (length frame)) behind_header ∙ take_at frame rest (length frame) refl;
        size_is = record_length size frame legal fits;
      }

-- what is known where the writer is done
record Fits (size : ℕ) (frame slice : List ℕ) : Type 0 where
  whole : length slice ≡ size
  fits : length frame ≤ frame_max size

done : (size : ℕ) (frame slice : List ℕ) → written size frame slice ≡ Ok tt → Fits size frame slice
unfolding written
done size frame slice e =
    let by_size = past (not (eqb (length slice) size)) (λ q. apart (cc)) e in
    let by-frame = past (ltb (frame_max size) (length frame)) (λ q. apart (cc)) by_size.1 in
    record { whole = eqb-true _ _ (not-false _ by_size.0); fits = ltb-false _ _ by-frame.0 }

pub size_in_use : SizeInUse
size_in_use = record { least = omega arith; most = omega arith }

pub writes_each : WritesEach
writes_each = write_done

pub reads_back : ReadsBack
reads_back size frame slice legal e =
    let known = done size frame slice e in
    subst (ReadsBackAs size frame) (sym (ap (λ (w : Result (Unit {0}) Reason). slice_after w size frame slice) e)) (reads_as size frame legal known.fits)

-- what is known of a record that is read
record Good (size : ℕ) (r : List ℕ) (n : ℕ) : Type 0 where
  whole : length r ≡ size
  most : length_of_def r ≤ frame_max size
  reserved : is_zero_def (reserved_of r) ≡ true
  rest : is_zero_def (rest_of r) ≡ true
  is : n ≡ length_of_def r

good : (size : ℕ) (r : List ℕ) (n : ℕ) → read_of size r ≡ Ok n → Good size r n
unfolding read_of
good size r n e =
    let by_size = past (not (eqb (length r) size)) (λ q. apart (cc)) e in
    let by_length = past (ltb (frame_max size) (length_of_def r)) (λ q. apart (cc)) by_size.1 in
    let by-reserved = past (not (is_zero_def (reserved_of r))) (λ q. apart (cc)) by_length.1 in
    let by_rest = past (not (is_zero_def (rest_of r))) (λ q. apart (cc)) by-reserved.1 in
    let is : length_of_def r ≡ n = cc by_rest.1 in
    record {
      whole = eqb-true _ _ (not-false _ by_size.0);
      most = ltb-false _ _ by_length.0;
      reserved = not-false _ by-reserved.0;
      rest = not-false _ by_rest.0;
      is = sym is;
    }

all_zero : (s : List ℕ) (n : ℕ) → is_zero_def s ≡ true → length s ≡ n → s ≡ zeros n
all_zero s n e l = same_true s (zeros (length s)) e ∙ ap zeros l

pub read_was_written : ReadWasWritten
read_was_written size r n legal are e =
    let g = good size r n e in
    let frame = take (length_of_def r) (drop header_size r) in
    let frame_is : frame_after (read_of size r) r ≡ frame = ap (λ (x : Result ℕ Reason). frame_after x r) e ∙ ap (λ (k : ℕ). take k (drop header_size r)) g.is in
    let room : length (drop header_size r) ≡ size - header_size = length-drop header_size r ∙ ap (λ (k : ℕ). k - header_size) g.whole in
    let long : length frame ≡ length_of_def r = length-take-le (length_of_def r) (drop header_size r) (omega (arith, g.most)) in
    let first : take 2 r ≡ bytes 2 (length frame) = sym (bytes_word 2 r are (omega (arith, g.whole, legal.least))) ∙ ap (bytes 2) (sym long) in
    let two : length (reserved_of r) ≡ 2 = length-take-le 2 (drop 2 r) (rw (length-drop 2 r) (omega (arith, g.whole, legal.least))) in
    let left : length (rest_of r) ≡ frame_max size - length frame = length-drop (end_of (length_of_def r)) r ∙ omega (arith, g.whole, long) in
    let behind : drop header_size r ≡ frame ++ zeros (frame_max size - length frame) =
    sym (take-append-drop (length_of_def r) (drop header_size r))
    ∙ ap (λ (l : List ℕ). frame ++ l) (drop-drop (length_of_def r) header_size r ∙ all_zero (rest_of r) _ g.rest left) in
    let middle : drop 2 r ≡ zeros 2 ++ (frame ++ zeros (frame_max size - length frame)) =
    sym (take-append-drop 2 (drop 2 r)) ∙ ap₂ (λ (a b : List ℕ). a ++ b) (all_zero (reserved_of r) 2 g.reserved two) (drop-drop 2 2 r ∙ behind) in
    sym (take-append-drop 2 r) ∙ ap₂ (λ (a b : List ℕ). a ++ b) first middle ∙ ap (record_of size) (sym frame_is)
