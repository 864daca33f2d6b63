-- What is proved of decimal text. The proofs are in `proofs/Theorems.antt`, under the names given here.
-- Assumes nothing.
use Rattle.std.specs.Prelude.{ℕ, ◌+◌, ◌-◌, ◌*◌, ◌^◌, ◌≤◌, ◌<◌, ◌≡◌, List, [], ◌∷◌, length}
use Rattle.text.specs.Decimal.{decimal}

-- the number that digits spell behind a number that was spelt before them
abbrev pub value_from : ℕ → List ℕ → ℕ
value_from before [] = before
value_from before (d ∷ ds) = value_from (10 * before + (d - 48)) ds

abbrev pub value_of : List ℕ → ℕ
value_of ds = value_from 0 ds

-- '0' to '9'
abbrev pub AreDigits : List ℕ → Type 0
AreDigits [] = Unit {0}
AreDigits (d ∷ ds) = (48 ≤ d) × (d ≤ 57) × AreDigits ds

-- a digit or more, and no zero in front of another digit
abbrev pub NoZeroInFront : List ℕ → Type 0
NoZeroInFront [] = ⊥
NoZeroInFront (d ∷ []) = Unit {0}
NoZeroInFront (d ∷ e ∷ ds) = d ≡ 48 → ⊥

pub record Numeral (ds : List ℕ) : Type 0 where
  pub digits : AreDigits ds
  pub front : NoZeroInFront ds

-- `spells`. The text of a number is a numeral, and its value is the number.
abbrev pub Spells : Type 0
Spells = (n : ℕ) → Numeral (decimal n) × (value_of (decimal n) ≡ n)

-- `only_spelling`. There is no other: each numeral is the text of its value.
abbrev pub OnlySpelling : Type 0
OnlySpelling = (ds : List ℕ) → Numeral ds → decimal (value_of ds) ≡ ds

-- `digits_most`. A number below 10 ^ k, for any k but 0, has at most k digits.
abbrev pub DigitsMost : Type 0
DigitsMost = (n k : ℕ) → n < 10 ^ k → 1 ≤ k → length (decimal n) ≤ k
