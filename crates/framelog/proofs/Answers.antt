-- The laws of a record: one for each answer, with what leads there.
-- Assumes nothing.
use Prim.Native.Nat.{ℕ, zero, suc, ◌+◌, ◌-◌, ◌/◌, ◌%◌, ◌^◌, ◌≤◌, ◌<◌}
use mathlib.Core.Bool.{true, false}
use mathlib.Core.Path.{◌≡◌, refl, sym, ap, ◌∙◌}
use mathlib.Core.List.{List, ◌++◌, append-nil, append_assoc}
use borrow.Author.Tests.{le-ltb, eq-eqb, ne_eqb}
use native.Mathlib.Omega.{arith}
use lib.ListN.{length, take, drop, length-append, length-drop, length-replicate, drop_of_length-le}
use lib.Seq.{get_or-drop, length-take-le}
use Rattle.std.specs.Prelude.{Ok, Err}
use Rattle.std.proofs.lemmas.List.{take-replicate, drop-replicate}
use Rattle.le.specs.Word.{word, bytes, AreBytes}
use Rattle.le.specs.Copy.{copied}
use Rattle.le.proofs.Words.{length-bytes, word_same, word_within}
use Rattle.le.proofs.Comparing.{equal_same, other_list}
use Rattle.le.proofs.Parts.{copied_whole}
use Rattle.framelog.specs.Layout.{header_size, frame_max, length_of_def, reserved_of, zeros, rest_of, record_of}
use Rattle.framelog.specs.Helpers.{filled}
use Rattle.framelog.specs.Reading.{is_zero_def, read_of}
use Rattle.framelog.specs.Writing.{written}
use Rattle.framelog.specs.Statements.{Size}
use Rattle.framelog.specs.declared.Reason.TheVariants.{WrongSize}

-- the words of zeros are 0, and each of them is a byte
word-zeros : (k n : ℕ) → word k (zeros n) ≡ 0
unfolding word
word-zeros zero n = refl
word-zeros (suc k) zero = refl
word-zeros (suc k) (suc n) = rw (word-zeros k n)

zeros_are : (n : ℕ) → AreBytes (zeros n)
zeros_are zero i = omega arith
zeros_are (suc n) zero = omega arith
zeros_are (suc n) (suc i) = zeros_are n i

-- the reserved bytes are zero where their word is
module _ (r : List ℕ) (large : header_size ≤ length r) where
  two : length (reserved_of r) ≡ 2
  two = length-take-le 2 (drop 2 r) (rw (length-drop 2 r) (omega arith))

  pub reserved_not : (word 2 (drop 2 r) ≡ 0 → ⊥) → is_zero_def (reserved_of r) ≡ false
  reserved_not ne =
      other_list (reserved_of r) (zeros (length (reserved_of r)))
      (λ e. ne (sym (word_within 2 0 2 (drop 2 r) (omega arith) (rw (length-drop 2 r) (omega arith))) ∙ ap (word 2) e ∙ word-zeros 2 (length (reserved_of r))))

  pub reserved_zero : AreBytes r → word 2 (drop 2 r) ≡ 0 → is_zero_def (reserved_of r) ≡ true
  reserved_zero are e =
      let n = length (drop 2 r) in
      let from : AreBytes (drop 2 r) = λ i. rw (get_or-drop 2 r i 0) (are (2 + i)) in
      let first : reserved_of r ≡ take 2 (zeros n) =
      word_same 2 (drop 2 r) (zeros n) from (zeros_are n) (sym (length-replicate n 0)) (e ∙ sym (word-zeros 2 n)) in
      equal_same (reserved_of r) (zeros (length (reserved_of r))) (first ∙ take-replicate 2 n 0 (rw (length-drop 2 r) (omega arith)) ∙ ap zeros (sym two))

-- 50, and the frame
module _ (size : ℕ) (r : List ℕ) where
  pub wrong_size : (length r ≡ size → ⊥) → read_of size r ≡ Err WrongSize
  unfolding read_of
  wrong_size ne = rw (ne_eqb (length r) size ne)

  pub frame_read : length r ≡ size → length_of_def r ≤ frame_max size → is_zero_def (reserved_of r) ≡ true → is_zero_def (rest_of r) ≡ true
      → read_of size r ≡ Ok (length_of_def r)
  unfolding read_of
  frame_read whole most reserved rest = rw (eq-eqb (length r) size whole, le-ltb (frame_max size) (length_of_def r) most, reserved, rest)

-- the record
pub write_done : (size : ℕ) (frame slice : List ℕ) → length slice ≡ size → length frame ≤ frame_max size → written size frame slice ≡ Ok tt
unfolding written
write_done size frame slice whole h = rw (eq-eqb (length slice) size whole, le-ltb (frame_max size) (length frame) h)

-- the header's bytes are the lowest four of a length, of which the last two are zero where two bytes count it
pub lowest : (n : ℕ) → take header_size (bytes 8 n) ≡ bytes header_size n
unfolding bytes
lowest n = refl

counted : (n : ℕ) → n < 2 ^ 16 → bytes header_size n ≡ bytes 2 n ++ zeros 2
unfolding bytes
counted n h =
    let third : n / 256 / 256 % 256 ≡ 0 = omega arith in
    let fourth : n / 256 / 256 / 256 % 256 ≡ 0 = omega arith in
    rw (third, fourth)

-- zeros that are filled are the record, which is copied over all of a slice of its size
module _ (size : ℕ) (frame : List ℕ) (legal : Size size) (fits : length frame ≤ frame_max size) where
  of_zeros : filled frame (zeros size) ≡ record_of size frame
  of_zeros =
      let left : size - (header_size + length frame) ≡ frame_max size - length frame = omega (arith, legal.least) in
      rw (counted (length frame) (omega (arith, legal.most)), drop-replicate {X = ℕ} (header_size + length frame) size 0, left) (simp append_assoc)

  pub record_length : length (record_of size frame) ≡ size
  record_length = simp (length-append, length-bytes, length-replicate) (omega (arith, legal.least))

  pub copied_out : (slice out r : List ℕ) → length slice ≡ size → r ≡ filled frame (zeros size) → out ≡ copied r slice → out ≡ record_of size frame
  copied_out slice out r whole e-r e =
      let is = e-r ∙ of_zeros in
      let long : length r ≡ size = ap length is ∙ record_length in
      rw (e, copied_whole r slice (omega arith), drop_of_length-le slice {i = length r} (omega arith), append-nil r) is
