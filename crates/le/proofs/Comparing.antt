-- The laws of `same`.
--     same_self      a list is the same as itself
--     same_true      lists that are the same are equal
--     equal_same     and equal lists are the same
--     other_length   lists of different lengths are not the same
--     other_word     nor are lists with different words at a place
--     other_list     nor are lists that are not equal
--     byte_on        from a place with equal bytes on, what follows decides
--     byte_off       and different bytes do
--     word_on        from a place with equal words on, what follows decides
--     none_left      from the end on there is nothing to decide
-- Assumes nothing.
use Rattle.std.proofs.lemmas.Bool.{and_parts}
use Rattle.std.proofs.Common.{◌≡◌, ℕ, zero, suc, ◌+◌, ◌<◌, ◌≤◌, Bool, true, false, ◌&&◌, eqb, List, [], ◌∷◌, length, get_or, take, drop, sym, refl, ap, ◌∙◌, ap₂, add-one, arith, length-drop, drop_of_length-le, get_or-drop, drop-cons, drop-drop, eq-eqb, ne_eqb, eqb-true}
use Rattle.le.specs.Word.{word, AreBytes}
use Rattle.le.specs.Compare.{same}
use Rattle.le.proofs.Tests.{apart, never}
use Rattle.le.proofs.Words.{word_same}

pub same_self : (s : List ℕ) → same s s ≡ true
unfolding same
same_self [] = refl
same_self (x ∷ xs) = rw (eq-eqb x x refl, same_self xs)

pub same_true : (s t : List ℕ) → same s t ≡ true → s ≡ t
unfolding same
same_true [] [] e = refl
same_true [] (y ∷ ys) e = never (sym e)
same_true (x ∷ xs) [] e = never (sym e)
same_true (x ∷ xs) (y ∷ ys) e =
    let p = and_parts (eqb x y) (same xs ys) e in
    ap₂ (λ (h : ℕ) (l : List ℕ). h ∷ l) (eqb-true x y p.0) (same_true xs ys p.1)

pub equal_same : (s t : List ℕ) → s ≡ t → same s t ≡ true
equal_same s t e = rw (← e, same_self s)

pub other_list : (s t : List ℕ) → (s ≡ t → ⊥) → same s t ≡ false
other_list s t ne = go (same s t) refl
  where
    go : (b : Bool) → same s t ≡ b → b ≡ false
    go true e = absurd (ne (same_true s t e))
    go false e = refl

pub other_length : (s t : List ℕ) → (length s ≡ length t → ⊥) → same s t ≡ false
other_length s t ne = other_list s t (λ e. ne (ap length e))

pub other_word : (s t : List ℕ) (i : ℕ) → (word 8 (drop i s) ≡ word 8 (drop i t) → ⊥) → same s t ≡ false
other_word s t i ne = other_list s t (λ e. ne (ap (λ (l : List ℕ). word 8 (drop i l)) e))

-- one element
same_step : (s t : List ℕ) (i : ℕ) → i < length s → i < length t
    → same (drop i s) (drop i t) ≡ eqb (get_or s i 0) (get_or t i 0) && same (drop (i + 1) s) (drop (i + 1) t)
unfolding same
same_step s t i p q = rw (add-one i, drop-cons s i 0 p, drop-cons t i 0 q)

module _ (s t : List ℕ) (i : ℕ) (long : length s ≡ length t) (inside : i < length s) where
  pub byte_on : get_or s i 0 ≡ get_or t i 0 → same (drop i s) (drop i t) ≡ same (drop (i + 1) s) (drop (i + 1) t)
  byte_on e = same_step s t i inside (omega arith) ∙ rw (eq-eqb (get_or s i 0) (get_or t i 0) e)

  pub byte_off : (get_or s i 0 ≡ get_or t i 0 → ⊥) → same (drop i s) (drop i t) ≡ false
  byte_off ne = same_step s t i inside (omega arith) ∙ rw (ne_eqb (get_or s i 0) (get_or t i 0) ne)

-- k elements
same_on : (k : ℕ) (s t : List ℕ) → take k s ≡ take k t → same s t ≡ same (drop k s) (drop k t)
unfolding same
same_on zero s t e = refl
same_on (suc k) [] [] e = refl
same_on (suc k) [] (y ∷ ys) e = apart (cc)
same_on (suc k) (x ∷ xs) [] e = apart (cc)
same_on (suc k) (x ∷ xs) (y ∷ ys) e = rw (eq-eqb x y (cc)) (same_on k xs ys (cc))

pub word_on : (s t : List ℕ) (i : ℕ) → AreBytes s → AreBytes t → length s ≡ length t → word 8 (drop i s) ≡ word 8 (drop i t)
    → same (drop i s) (drop i t) ≡ same (drop (i + 8) s) (drop (i + 8) t)
word_on s t i s-bytes t-bytes long e =
    let first = word_same 8 (drop i s) (drop i t) (from s s-bytes) (from t t-bytes) (rw (length-drop i s, length-drop i t, long)) e in
    same_on 8 (drop i s) (drop i t) first ∙ ap₂ same (drop-drop 8 i s) (drop-drop 8 i t)
  where
    from : (l : List ℕ) → AreBytes l → AreBytes (drop i l)
    from l h j = rw (get_or-drop i l j 0) (h (i + j))

pub none_left : (s t : List ℕ) (i : ℕ) → length s ≡ length t → length s ≤ i → same (drop i s) (drop i t) ≡ true
unfolding same
none_left s t i long end = rw (drop_of_length-le s {i = i} end, drop_of_length-le t {i = i} (omega arith))
