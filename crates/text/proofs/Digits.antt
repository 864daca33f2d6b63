-- The laws of a number's digits.
--     one_digit    of a number below ten there is one
--     last_digit   of any other, the digits of its tenth and one more
--     digits_most  how many there are
--     all_low, spelt   they are spelt one by one, the last one first
--     counted      how many there are, by the power of ten that a number reaches
-- Assumes nothing.
use Prim.Native.Nat.{ℕ, zero, suc, max, ◌+◌, ◌-◌, ◌*◌, ◌/◌, ◌%◌, ◌≤◌, ◌<◌, ◌^◌}
use mathlib.Core.Bool.{Bool, true, false}
use mathlib.Core.Path.{◌≡◌, refl, sym, ap, ◌∙◌}
use mathlib.Core.List.{List, [], ◌∷◌, ◌++◌, append_assoc}
use borrow.Author.Tests.{lt-ltb, le-ltb, ltb-true, ltb-false}
use native.Mathlib.Numerals.{add-one}
use native.Mathlib.Omega.{arith}
use lib.Dec.{ltb}
use lib.ListN.{length, drop, set, length-append}
use Rattle.std.proofs.lemmas.List.{drop-set}
use Rattle.text.specs.Decimal.{digit, digits_within, decimal}
use Rattle.text.specs.Statements.{DigitsMost}

within_small : (k n : ℕ) → n < 10 → digits_within k n ≡ digit n ∷ []
unfolding digits_within
within_small zero n h = refl
within_small (suc k) n h = rw (lt-ltb n 10 h)

within_large : (k n : ℕ) → 10 ≤ n → digits_within (suc k) n ≡ digits_within k (n / 10) ++ (digit (n % 10) ∷ [])
unfolding digits_within
within_large k n h = rw (le-ltb n 10 h)

-- more divisions than enough change nothing
enough : (j k n : ℕ) → n ≤ j → n ≤ k → digits_within j n ≡ digits_within k n
enough zero k n p q = let small : n < 10 = omega arith in within_small zero n small ∙ sym (within_small k n small)
enough (suc j) zero n p q = let small : n < 10 = omega arith in within_small (suc j) n small ∙ sym (within_small zero n small)
enough (suc j) (suc k) n p q = go (ltb n 10) refl (λ large. enough j k (n / 10) (omega arith) (omega arith))
  where
    go : (t : Bool) → ltb n 10 ≡ t → (10 ≤ n → digits_within j (n / 10) ≡ digits_within k (n / 10)) → digits_within (suc j) n ≡ digits_within (suc k) n
    go true e before = let small : n < 10 = ltb-true n 10 e in within_small (suc j) n small ∙ sym (within_small (suc k) n small)
    go false e before =
        let large : 10 ≤ n = ltb-false n 10 e in
        within_large j n large ∙ ap (λ (l : List ℕ). l ++ (digit (n % 10) ∷ [])) (before large) ∙ sym (within_large k n large)

pub one_digit : (n : ℕ) → n < 10 → decimal n ≡ digit n ∷ []
unfolding decimal
one_digit n h = within_small n n h

pub last_digit : (n : ℕ) → 10 ≤ n → decimal n ≡ decimal (n / 10) ++ (digit (n % 10) ∷ [])
unfolding decimal
last_digit zero h = absurd (omega arith)
last_digit (suc n) h = within_large n (suc n) h ∙ ap (λ (l : List ℕ). l ++ (digit (suc n % 10) ∷ [])) (enough n (suc n / 10) (suc n / 10) (omega arith) (omega arith))

-- what holds of a number below ten, and of any other where it holds of its tenth, holds of each number
pub by_tenths : (P : ℕ → Type 0)
    → ((n : ℕ) → n < 10 → P n)
    → ((n : ℕ) → 10 ≤ n → P (n / 10) → P n)
    → (n : ℕ) → P n
by_tenths P one more n = within n n (omega arith)
  where
    by_test : (n : ℕ) (t : Bool) → ltb n 10 ≡ t → (10 ≤ n → P (n / 10)) → P n
    by_test n true e tenth = one n (ltb-true n 10 e)
    by_test n false e tenth = more n (ltb-false n 10 e) (tenth (ltb-false n 10 e))

    within : (k n : ℕ) → n ≤ k → P n
    within zero n h = one n (omega arith)
    within (suc k) n h = by_test n (ltb n 10) refl (λ large. within k (n / 10) (omega arith))

pub length_one : (n : ℕ) → n < 10 → length (decimal n) ≡ 1
length_one n h = ap length (one_digit n h)

pub length_more : (n : ℕ) → 10 ≤ n → length (decimal n) ≡ length (decimal (n / 10)) + 1
length_more n h = ap length (last_digit n h) ∙ length-append (decimal (n / 10)) (digit (n % 10) ∷ [])

abbrev Most : ℕ → Type 0
Most n = (k : ℕ) → n < 10 ^ k → 1 ≤ k → length (decimal n) ≤ k

most_more : (n : ℕ) → 10 ≤ n → Most (n / 10) → Most n
most_more n large tenth zero h p = absurd (omega arith)
most_more n large tenth (suc zero) h p = absurd (omega arith)
most_more n large tenth (suc (suc k)) h p = omega (arith, length_more n large, tenth (suc k) (omega arith) (omega arith))

pub digits_most : DigitsMost
digits_most = by_tenths Most (λ n small k h p. omega (arith, length_one n small)) most_more

-- so many digits of a number, the last ones, with zeros in front where it has fewer
unfoldable pub low : ℕ → ℕ → List ℕ
low zero n = []
low (suc k) n = low k (n / 10) ++ (digit (n % 10) ∷ [])

-- of as many as it has, they are its digits
pub all_low : (n : ℕ) → decimal n ≡ low (length (decimal n)) n
unfolding low
all_low = by_tenths (λ n. decimal n ≡ low (length (decimal n)) n) one more
  where
    one : (n : ℕ) → n < 10 → decimal n ≡ low (length (decimal n)) n
    one n small = let same : n % 10 ≡ n = omega arith in rw (length_one n small, one_digit n small, same) refl

    more : (n : ℕ) → 10 ≤ n → decimal (n / 10) ≡ low (length (decimal (n / 10))) (n / 10) → decimal n ≡ low (length (decimal n)) n
    more n large tenth = rw (length_more n large, add-one (length (decimal (n / 10))), ← tenth) (last_digit n large)

-- one more of them is spelt, in front of those that stand there already
pub spelt : (rest at : ℕ) (out all : List ℕ)
    → 0 < at
    → at ≤ length out
    → all ≡ low at rest ++ drop at out
    → all ≡ low (at - 1) (rest / 10) ++ drop (at - 1) (set out (at - 1) (digit (rest % 10)))
unfolding low
spelt rest zero out all some inside e = absurd (omega arith)
spelt rest (suc k) out all some inside e =
    let before : suc k - 1 ≡ k = omega arith in
    let stored : digit (rest % 10) ∷ drop (suc k) out ≡ drop k (set out k (digit (rest % 10))) =
    sym (drop-set out k (digit (rest % 10)) (omega arith) ∙ ap (λ (n : ℕ). digit (rest % 10) ∷ drop n out) (add-one k)) in
    rw before (e ∙ append_assoc (low k (rest / 10)) (digit (rest % 10) ∷ []) (drop (suc k) out) ∙ ap (λ (l : List ℕ). low k (rest / 10) ++ l) stored)

-- how many digits a number has whose power of ten is known
abbrev Counted : ℕ → Type 0
Counted n = (k : ℕ) → 10 ^ k ≤ n → n < 10 * 10 ^ k → length (decimal n) ≡ k + 1

counted_one : (n : ℕ) → n < 10 → Counted n
counted_one n small zero from below = length_one n small
counted_one n small (suc k) from below = absurd (omega arith)

counted_more : (n : ℕ) → 10 ≤ n → Counted (n / 10) → Counted n
counted_more n large tenth zero from below = absurd (omega arith)
counted_more n large tenth (suc k) from below = omega (arith, length_more n large, tenth k (omega arith) (omega arith))

-- 0 has as many as 1
pub counted : (n m k : ℕ) → m ≡ max n 1 → 10 ^ k ≤ m → m < 10 * 10 ^ k → length (decimal n) ≡ k + 1
counted zero m zero is from below = length_one 0 (omega arith)
counted zero m (suc k) is from below = absurd (omega arith)
counted (suc n) m k is from below = by_tenths Counted counted_one counted_more (suc n) k (omega arith) (omega arith)
