-- The laws of a log's records.
--     no_records     of no bytes there is none
--     first_record   else the first bytes are one, and the rest has the others
--     behind_record  where the rest begins
--     length_part    a record is no longer than what is left
--     some_part      and it is not empty, where something is left
-- Assumes nothing.
use Prim.Native.Nat.{ℕ, zero, suc, ◌+◌, ◌≤◌}
use mathlib.Core.Path.{◌≡◌, refl, sym, ap, ◌∙◌}
use mathlib.Core.List.{List, [], ◌∷◌}
use native.Mathlib.Omega.{arith}
use lib.ListN.{length, take, drop, length-drop}
use lib.Seq.{get_or-drop}
use Rattle.le.specs.Word.{AreBytes}
use Rattle.framelog.specs.Layout.{record_size}
use Rattle.replay.specs.Log.{cut_in, records}
use Rattle.replay.specs.Statements.{FirstRecord, NoRecords}

none_cut : (most size : ℕ) → cut_in most size [] ≡ []
unfolding cut_in
none_cut zero size = refl
none_cut (suc most) size = refl

-- to ask for more records than there can be changes nothing
once_more : (j k size : ℕ) (log : List ℕ) → cut_in j size (drop size log) ≡ cut_in k size (drop size log) → cut_in (suc j) size log ≡ cut_in (suc k) size log
unfolding cut_in
once_more j k size [] e = refl
once_more j k size (b ∷ log) e = ap (λ (rs : List (List ℕ)). take size (b ∷ log) ∷ rs) e

none_left : (most size : ℕ) (log : List ℕ) → length log ≤ 0 → cut_in most size log ≡ []
none_left most size [] h = none_cut most size
none_left most size (b ∷ log) h = absurd (omega arith)

enough : (j k size : ℕ) (log : List ℕ) → 1 ≤ size → length log ≤ j → length log ≤ k → cut_in j size log ≡ cut_in k size log
enough zero k size log some p q = none_left zero size log p ∙ sym (none_left k size log p)
enough (suc j) zero size log some p q = none_left (suc j) size log q ∙ sym (none_left zero size log q)
enough (suc j) (suc k) size log some p q =
    let left = length-drop size log in
    once_more j k size log (enough j k size (drop size log) some (omega arith) (omega arith))

pub none_of : (s : List ℕ) → length s ≤ 0 → s ≡ []
none_of [] h = refl
none_of (b ∷ s) h = absurd (omega arith)

pub no_records : NoRecords
no_records log e = ap records e ∙ none_cut 0 record_size

pub first_record : FirstRecord
unfolding cut_in
first_record [] some = absurd (omega arith)
first_record (b ∷ log) some =
    let left = length-drop record_size (b ∷ log) in
    ap (λ (rs : List (List ℕ)). take record_size (b ∷ log) ∷ rs)
    (enough (length log) (length (drop record_size (b ∷ log))) record_size (drop record_size (b ∷ log)) (omega arith) (omega arith) (omega arith))

pub behind_record : (n : ℕ) (log : List ℕ) → drop n log ≡ drop (length (take n log)) log
behind_record zero log = refl
behind_record (suc n) [] = refl
behind_record (suc n) (b ∷ log) = behind_record n log

pub length_part : (n : ℕ) (log : List ℕ) → length (take n log) ≤ length log
length_part zero log = omega arith
length_part (suc n) [] = omega arith
length_part (suc n) (b ∷ log) = omega (arith, length_part n log)

pub some_part : (n : ℕ) (log : List ℕ) → 1 ≤ length log → 1 ≤ length (take (suc n) log)
some_part n [] h = h
some_part n (b ∷ log) h = omega arith

-- parts of bytes are bytes
pub are_drop : (n : ℕ) (s : List ℕ) → AreBytes s → AreBytes (drop n s)
are_drop n s are i = rw (get_or-drop n s i 0) (are (n + i))

pub are_take : (n : ℕ) (s : List ℕ) → AreBytes s → AreBytes (take n s)
are_take zero s are i = omega arith
are_take (suc n) [] are i = are i
are_take (suc n) (b ∷ s) are zero = are zero
are_take (suc n) (b ∷ s) are (suc i) = are_take n s (λ j. are (suc j)) i
