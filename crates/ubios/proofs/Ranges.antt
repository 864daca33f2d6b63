-- What `find_map` over a range answers, said of the numbers in it.
-- Assumes nothing.
use Rattle.std.proofs.Common.{◌≡◌, ℕ, ◌+◌, ◌-◌, ◌<◌, ◌≤◌, Option, Some, None, sym, ap, subst, arith, MatchOption, IfSome, IsSomeAnd, IsTrue}
use Rattle.std.specs.Option.{option_map}
use Rattle.std.specs.Iterator.Runs.{Run, SomeRun, CallKeepsClosure, AllItemsGive, IsFirstToGive}
use Rattle.std.specs.declared.ops.Range.{Range}
use Rattle.std.proofs.iter.Yields.{nat_range_steps}
use Rattle.std.proofs.iter.runs.Sources.{range_runs}
use denote.Param.Members.{Mut, Called}

id_some : {A : Type 0} (o : Option A) (x : A) → option_map (λ y. y) o ≡ Some x → o ≡ Some x
id_some None x e = cc
id_some (Some y) x e = e

-- the item at a place of a run
item : (p : Run nat_range_steps) (k : ℕ) → k < p.len → p.at k ≡ Some (p.from.start + k)
item p k l = id_some (p.at k) _ ((range_runs p p.seen).3 k l)

-- no number from the one on and below the other is a hit, or the answer is the first that is
abbrev pub FirstHit : {B : Type 0} → (ℕ → Option B) → ℕ → ℕ → Option B → Type 0
FirstHit hit from end r =
    MatchOption r ((j : ℕ) → from ≤ j → j < end → hit j ≡ None)
    (λ y. (i : ℕ) × (from ≤ i) × (i < end) × (hit i ≡ Some y) × ((j : ℕ) → from ≤ j → j < i → hit j ≡ None))

module _ {B F : Type 0} (g : Mut F (ℕ × Unit {0}) (Option B)) (f : F) (hit : ℕ → Option B)
    (keeps : CallKeepsClosure g f)
    (gives : (x : ℕ) (y : Option B) → Called g f (x, tt) y f → y ≡ hit x) where
  called : (p : Run nat_range_steps) (k : ℕ) (r : Option B) → k < p.len → IfSome (p.at k) (λ x. Called g f (x, tt) r f) → hit (p.from.start + k) ≡ r
  called p k r l h = sym (gives _ _ (subst (λ o. IfSome o (λ x. Called g f (x, tt) r f)) (item p k l) h))

  called_there : (p : Run nat_range_steps) (k : ℕ) (r : Option B) → k < p.len → IsSomeAnd (p.at k) (λ x. Called g f (x, tt) r f) → hit (p.from.start + k) ≡ r
  called_there p k r l h = sym (gives _ _ (subst (λ o. IsSomeAnd o (λ x. Called g f (x, tt) r f)) (item p k l) h))

  pub first_in_range : (r : Option B) (s : Range ℕ)
      → SomeRun nat_range_steps s (λ p. MatchOption r (IsTrue p.whole × AllItemsGive p g f None) (λ y. (i : ℕ) × (i < p.len) × (p.len ≡ i + 1) × IsFirstToGive p g f (Some y) None i))
      → FirstHit hit s.start s.end r
  first_in_range None s h = λ j a b.
      let p = h.0 in
      let start = ap (λ (q : Range ℕ). q.start) h.1 in
      let end = ap (λ (q : Range ℕ). q.end) h.1 in
      let long = (range_runs p p.seen).1 h.2.0 in
      let is : p.from.start + (j - p.from.start) ≡ j = omega arith in
      let here = called p (j - p.from.start) None (omega arith) (h.2.1 keeps (j - p.from.start)) in
      rw is at here
  first_in_range (Some y) s h =
      let p = h.0 in
      let i = h.2.0 in
      let start = ap (λ (q : Range ℕ). q.start) h.1 in
      let end = ap (λ (q : Range ℕ). q.end) h.1 in
      let long = (range_runs p p.seen).0 in
      let within : i < p.len = h.2.1 in
      let first = h.2.3 keeps in (
        p.from.start + i,
        omega arith,
        omega arith,
        called_there p i (Some y) within first.0,
        λ j a b.
            let is : p.from.start + (j - p.from.start) ≡ j = omega arith in
            let here = called_there p (j - p.from.start) None (omega arith) (first.1 (j - p.from.start) (omega arith)) in
            rw is at here,
      )
