-- The theorems of `specs/Statements.antt`: the digits of a number spell it, and nothing else does.
-- Assumes nothing.
use Prim.Native.Nat.{ℕ, ◌+◌, ◌-◌, ◌*◌, ◌/◌, ◌%◌, ◌≤◌, ◌<◌}
use mathlib.Core.Path.{◌≡◌, refl, sym, ap, subst, ◌∙◌}
use mathlib.Core.List.{List, [], ◌∷◌, ◌++◌, append-nil, append_assoc}
use native.Mathlib.Omega.{arith}
use Rattle.text.specs.Decimal.{digit, decimal}
use Rattle.text.specs.Statements.{value_from, value_of, AreDigits, NoZeroInFront, Numeral, Spells, OnlySpelling}
use Rattle.text.proofs.Digits.{one_digit, last_digit, by_tenths}

-- a digit behind others
value_snoc : (before : ℕ) (ds : List ℕ) (d : ℕ) → value_from before (ds ++ (d ∷ [])) ≡ 10 * value_from before ds + (d - 48)
value_snoc before [] d = refl
value_snoc before (e ∷ ds) d = value_snoc (10 * before + (e - 48)) ds d

digits_snoc : (ds : List ℕ) (d : ℕ) → AreDigits ds → d < 10 → AreDigits (ds ++ (digit d ∷ []))
digits_snoc [] d are h = (omega arith, omega arith, tt)
digits_snoc (e ∷ ds) d are h = (are.0, are.1, digits_snoc ds d are.2 h)

-- a zero in front of it, if there was none before
front_snoc : (ds : List ℕ) (d : ℕ) → NoZeroInFront ds → 1 ≤ value_of ds → AreDigits ds → NoZeroInFront (ds ++ (d ∷ []))
front_snoc [] d front some are = absurd front
front_snoc (e ∷ []) d front some are = λ zero. omega (arith, zero)
front_snoc (e ∷ f ∷ ds) d front some are = front

record Spelt (n : ℕ) : Type 0 where
  numeral : Numeral (decimal n)
  value : value_of (decimal n) ≡ n

spelt_one : (n : ℕ) → n < 10 → Spelt n
spelt_one n small =
    record {
      numeral = subst Numeral (sym (one_digit n small)) (record { digits = (omega arith, omega arith, tt); front = tt });
      value = ap value_of (one_digit n small) ∙ omega arith;
    }

spelt_more : (n : ℕ) → 10 ≤ n → Spelt (n / 10) → Spelt n
spelt_more n large tenth =
    let ds = decimal (n / 10) in
    let was = tenth.numeral in
    let some : 1 ≤ value_of ds = omega (arith, tenth.value) in
    record {
      numeral =
          subst Numeral (sym (last_digit n large))
          (record { digits = digits_snoc ds (n % 10) was.digits (omega arith); front = front_snoc ds (digit (n % 10)) was.front some was.digits });
      value = ap value_of (last_digit n large) ∙ value_snoc 0 ds (digit (n % 10)) ∙ omega (arith, tenth.value);
    }

pub spells : Spells
spells n = let s = by_tenths Spelt spelt_one spelt_more n in (s.numeral, s.value)

-- digits behind those of a number that is not 0
behind : (before : ℕ) (ds : List ℕ) → 1 ≤ before → AreDigits ds → decimal (value_from before ds) ≡ decimal before ++ ds
behind before [] some are = sym (append-nil (decimal before))
behind before (d ∷ ds) some are =
    let next = 10 * before + (d - 48) in
    let tenth : next / 10 ≡ before = omega (arith, are.0, are.1) in
    let last : digit (next % 10) ≡ d = omega (arith, are.0, are.1) in
    behind next ds (omega arith) are.2
    ∙ ap (λ (l : List ℕ). l ++ ds) (last_digit next (omega arith))
    ∙ rw (tenth, last) (append_assoc (decimal before) (d ∷ []) ds)

pub only_spelling : OnlySpelling
only_spelling [] numeral = absurd numeral.front
only_spelling (d ∷ []) numeral =
    let is = numeral.digits in
    let value : 10 * 0 + (d - 48) ≡ d - 48 = omega arith in
    let first : digit (d - 48) ≡ d = omega (arith, is.0) in
    ap decimal value ∙ one_digit (d - 48) (omega (arith, is.1)) ∙ ap (λ (e : ℕ). e ∷ []) first
only_spelling (d ∷ e ∷ ds) numeral =
    let is = numeral.digits in
    let first : digit (d - 48) ≡ d = omega (arith, is.0) in
    let some : 1 ≤ d - 48 = omega (arith, is.0, numeral.front) in
    let value : 10 * 0 + (d - 48) ≡ d - 48 = omega arith in
    ap (λ (n : ℕ). decimal (value_from n (e ∷ ds))) value
    ∙ behind (d - 48) (e ∷ ds) some is.2
    ∙ ap (λ (l : List ℕ). l ++ (e ∷ ds)) (one_digit (d - 48) (omega (arith, is.1)) ∙ ap (λ (e : ℕ). e ∷ []) first)
