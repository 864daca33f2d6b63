-- Equations that cannot be, and choices by a test.
-- Assumes nothing.
use Rattle.std.proofs.Common.{◌≡◌, ℕ, ◌<◌, ◌≤◌, Bool, true, false, cond, ltb, sym, refl, ◌∙◌, arith, ltb-false, ltb-true, le-ltb, lt-ltb}

-- what follows from an equation of two constructors, which `cc` turns into this one
pub apart : {A : Type 0} → ◌≡◌ {A = ℕ} 0 1 → A
apart z = absurd (omega arith)

pub never : {A : Type 0} → true ≡ false → A
never e = apart (cc)

-- what is not the first branch is the second, and the test is false
pub past : {A : Type 0} {x y z : A} (b : Bool) → (x ≡ z → ⊥) → cond b x y ≡ z → (b ≡ false) × (y ≡ z)
past true other e = absurd (other e)
past false other e = (refl, e)

-- what holds of either branch holds of the choice
pub either : {A : Type 0} (P : A → Type 0) (b : Bool) {x y : A} → P x → P y → P (cond b x y)
either P true p q = p
either P false p q = q

-- two comparisons that say the same
pub agree : (a b c d : ℕ) → (a < b → c < d) → (b ≤ a → d ≤ c) → ltb a b ≡ ltb c d
agree a b c d less not-less = go (ltb a b) refl
  where
    go : (t : Bool) → ltb a b ≡ t → ltb a b ≡ ltb c d
    go true e = e ∙ sym (lt-ltb c d (less (ltb-true a b e)))
    go false e = e ∙ sym (le-ltb c d (not-less (ltb-false a b e)))
