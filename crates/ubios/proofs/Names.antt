-- The laws of names: what stands before the first zero.
-- Assumes nothing.
use Prim.Native.Nat.{ℕ, suc, ◌+◌, ◌≤◌, ◌<◌}
use mathlib.Core.Bool.{Bool, true, false, cond, ◌||◌}
use mathlib.Core.Path.{◌≡◌, refl, ap, ap₂, sym, ◌∙◌}
use mathlib.Core.List.{List, [], ◌∷◌, ◌++◌, append-nil}
use borrow.Author.Tests.{lt-ltb, eq-eqb, ne_eqb, ltb-false, eqb-true, eqb-false}
use native.Mathlib.Nat.{add-zero}
use native.Mathlib.Omega.{arith}
use lib.Dec.{eqb, ltb}
use lib.ListN.{length, take, drop, get_or, length-append, take-append-drop}
use lib.Seq.{take_all, take-take, get_or-take, get_or-drop}
use Rattle.le.specs.Compare.{same}
use Rattle.le.proofs.Tests.{agree}
use Rattle.le.proofs.Words.{byte_at}
use Rattle.std.specs.List.{list_any}
use Rattle.std.proofs.lemmas.Bool.{or_parts}
use Rattle.le.proofs.Comparing.{same_true, equal_same, other_list, other_length}
use Rattle.ubios.specs.Layout.{name_max, up_to_zero, name_of, root_name}
use Rattle.ubios.specs.Lookup.{is_empty, is_long, has_zero, no_name, bad_name}

pub ends : (b : ℕ) (s : List ℕ) → b ≡ 0 → up_to_zero (b ∷ s) ≡ []
unfolding up_to_zero
ends b s e = rw (eq-eqb b 0 e)

goes_on : (b : ℕ) (s : List ℕ) → (b ≡ 0 → ⊥) → up_to_zero (b ∷ s) ≡ b ∷ up_to_zero s
unfolding up_to_zero
goes_on b s ne = rw (ne_eqb b 0 ne)

none : up_to_zero [] ≡ []
unfolding up_to_zero
none = refl

-- what stands before the first zero is the list's start
pub start : (s : List ℕ) → take (length (up_to_zero s)) s ≡ up_to_zero s
unfolding up_to_zero
start [] = refl
start (b ∷ s) = go (eqb b 0) (start s)
  where
    go : (t : Bool) → take (length (up_to_zero s)) s ≡ up_to_zero s
        → take (length (cond t [] (b ∷ up_to_zero s))) (b ∷ s) ≡ cond t [] (b ∷ up_to_zero s)
    go true e = refl
    go false e = ap (λ (l : List ℕ). b ∷ l) e

-- a list has a zero if what stands before the first is not all of it
pub zero_among : (s : List ℕ) → list_any (λ y. eqb y 0) s ≡ has_zero s
unfolding up_to_zero
zero_among [] = refl
zero_among (b ∷ s) = go (eqb b 0) (zero_among s)
  where
    go : (t : Bool) → list_any (λ y. eqb y 0) s ≡ has_zero s
        → t || list_any (λ y. eqb y 0) s ≡ ltb (length (cond t [] (b ∷ up_to_zero s))) (length (b ∷ s))
    go true e = sym (lt-ltb 0 (suc (length s)) (omega arith))
    go false e =
        e ∙ agree (length (up_to_zero s)) (length s) (suc (length (up_to_zero s))) (suc (length s)) (λ l. omega arith) (λ l. omega arith)

-- 39 by its tests
pub name_tested : (name : List ℕ) {a b c : Bool} → is_empty name ≡ a → is_long name ≡ b → has_zero name ≡ c → bad_name name ≡ a || (b || c)
unfolding bad_name no_name
name_tested name p q r = ap₂ ◌||◌ p (ap₂ ◌||◌ q r)

-- a name that can be sought is one that a table can have: it fits the field, and has no zero
pub sought : (name : List ℕ) → bad_name name ≡ false → no_name name ≡ false
unfolding bad_name
sought name e = (or_parts (is_empty name) _ e).1

fits : (name : List ℕ) → no_name name ≡ false → length name ≤ name_max
unfolding no_name
fits name e = ltb-false _ _ (or_parts (is_long name) _ e).0

pub whole : (name : List ℕ) → no_name name ≡ false → up_to_zero name ≡ name
unfolding no_name
whole name e = sym (start name) ∙ take_all (length (up_to_zero name)) name (ltb-false _ _ (or_parts (is_long name) _ e).1)

-- what stands before the first zero of two joined lists, of which the first has none
pub joined : (s t : List ℕ) → up_to_zero s ≡ s → up_to_zero (s ++ t) ≡ s ++ up_to_zero t
joined [] t e = refl
joined (b ∷ s) t e = go (eqb b 0) refl (joined s t)
  where
    go : (z : Bool) → eqb b 0 ≡ z → (up_to_zero s ≡ s → up_to_zero (s ++ t) ≡ s ++ up_to_zero t) → up_to_zero (b ∷ (s ++ t)) ≡ b ∷ (s ++ up_to_zero t)
    go true q later = let x = sym (ends b s (eqb-true b 0 q)) ∙ e in cc
    go false q later =
        let ne = eqb-false b 0 q in
        let none : up_to_zero s ≡ s = let x = sym (goes_on b s ne) ∙ e in cc in
        goes_on b (s ++ t) ne ∙ ap (λ (l : List ℕ). b ∷ l) (later none)

-- a name with more behind it is the same as the name only if a zero comes next
by_rest : (name rest : List ℕ) → same (name ++ up_to_zero rest) name ≡ eqb (get_or rest 0 0) 0
by_rest name [] = equal_same (name ++ up_to_zero []) name (ap (λ (l : List ℕ). name ++ l) none ∙ append-nil name)
by_rest name (b ∷ rest) = go (eqb b 0) refl
  where
    go : (z : Bool) → eqb b 0 ≡ z → same (name ++ up_to_zero (b ∷ rest)) name ≡ eqb b 0
    go true q =
        equal_same (name ++ up_to_zero (b ∷ rest)) name (ap (λ (l : List ℕ). name ++ l) (ends b rest (eqb-true b 0 q)) ∙ append-nil name) ∙ sym q
    go false q =
        let longer : length (name ++ up_to_zero (b ∷ rest)) ≡ length name + suc (length (up_to_zero rest)) =
        ap (λ (l : List ℕ). length (name ++ l)) (goes_on b rest (eqb-false b 0 q)) ∙ length-append name (b ∷ up_to_zero rest) in
        other_length (name ++ up_to_zero (b ∷ rest)) name (λ e. absurd (omega arith)) ∙ sym q

-- which tables have that name
module _ (t name : List ℕ) (good : no_name name ≡ false) where
  field_start : take (length name) (take name_max t) ≡ take (length name) t
  field_start = take-take (length name) name_max t (fits name good)

  pub other_start : same (take (length name) t) name ≡ false → same (name_of t) name ≡ false
  other_start e = other_list (name_of t) name (λ q. let z = sym (equal_same (take (length name) t) name (starts_with q)) ∙ e in cc)
    where
      starts_with : name_of t ≡ name → take (length name) t ≡ name
      starts_with q =
          sym field_start ∙ sym (ap (λ (n : List ℕ). take (length n) (take name_max t)) q) ∙ start (take name_max t) ∙ q

  module _ (starts : same (take (length name) t) name ≡ true) where
    starts_is : take (length name) t ≡ name
    starts_is = same_true (take (length name) t) name starts

    pub fills : length name ≡ name_max → same (name_of t) name ≡ true
    fills e =
        let all : take name_max t ≡ name = ap (λ (n : ℕ). take n t) (sym e) ∙ starts_is in
        equal_same (name_of t) name (ap up_to_zero all ∙ whole name good)

    pub by_next : (length name ≡ name_max → ⊥) → same (name_of t) name ≡ eqb (get_or t (length name) 0) 0
    by_next ne =
        let n = length name in
        let rest = drop n (take name_max t) in
        let less : n < name_max = omega (arith, fits name good, ne) in
        let field : take name_max t ≡ name ++ rest =
        sym (take-append-drop n (take name_max t)) ∙ ap (λ (l : List ℕ). l ++ rest) (field_start ∙ starts_is) in
        let next : get_or rest 0 0 ≡ get_or t n 0 =
        get_or-drop n (take name_max t) 0 0 ∙ ap (λ (i : ℕ). get_or (take name_max t) i 0) (add-zero n) ∙ get_or-take name_max t n 0 less in
        ap (λ (l : List ℕ). same l name) (ap up_to_zero field ∙ joined name rest (whole name good))
        ∙ by_rest name rest
        ∙ ap (λ (b : ℕ). eqb b 0) next

-- the root's name is one that a table can have
pub root_name_good : no_name root_name ≡ false
unfolding no_name up_to_zero
root_name_good = refl

-- whether a table has a name, by what it starts with and the byte behind that
pub ruleset start_tests = (other_start, fills, by_next, byte_at)
