-- The laws of the search for SYST, and of the choice.
-- Assumes nothing.
use Prim.Native.Nat.{ℕ, zero, suc, ◌+◌, ◌*◌, ◌-◌, ◌%◌, ◌≤◌, ◌<◌}
use mathlib.Core.Bool.{Bool, true, false, cond, ◌&&◌}
use mathlib.Core.Path.{◌≡◌, refl, sym, ap, ap₂, subst, ◌∙◌}
use mathlib.Core.List.{List, [], ◌∷◌}
use borrow.Author.Tests.{eq-eqb, ne_eqb, le-leb, lt-leb, eqb-true, eqb-false, leb-true, leb-false}
use native.Mathlib.Omega.{arith}
use lib.Dec.{eqb, leb}
use lib.ListN.{length, drop}
use Rattle.std.proofs.Math.Bool.{and-false}
use Rattle.std.proofs.lemmas.Iterator.Adapters.{option_map_id}
use Rattle.std.proofs.Common.{Option, None, Some, Result, Ok, Err, is_ok, ok_or, IsTrue, MatchOption, IfSome, IsSomeAnd, Bor, add-one}
use Rattle.std.specs.Fn.{CalledAt}
use Rattle.std.specs.declared.ops.Range.{Range}
use denote.Param.Members.{Mut, Called}
use Rattle.std.specs.Iterator.Runs.{Run, IsMapRun, ItemsCountUp, CallKeepsClosure, NoItemPasses, EndsAtFirstPassing}
use Rattle.std.proofs.iter.Yields.{nat_range_steps}
use Rattle.std.proofs.iter.runs.Sources.{range_runs}
use Rattle.sfi.specs.Kinds.{syst}
use Rattle.sfi.specs.Checks.{signature_of, length_of_def, checked, passes_as_def}
use Rattle.sfi.specs.Search.{memory_size, step, tries, page_size, is_hit_def, places, first_hit, located}
use Rattle.sfi.specs.Choice.{between}
use Rattle.sfi.specs.declared.Table.{Table}
use Rattle.sfi.specs.declared.Reason.{Reason}
use Rattle.sfi.specs.declared.Reason.TheVariants.{BadMemory, NoSyst, Neither}
use Rattle.sfi.specs.declared.choice.Source.TheVariants.{Board, BuiltIn}
use Rattle.sfi.proofs.Answers.{passes_as, fails_as}

-- which places are hits
module _ (memory : List ℕ) (at : ℕ) where
  pub fails : (reason : Reason) → checked (drop at memory) ≡ Err reason → is_hit_def memory at ≡ false
  unfolding is_hit_def
  fails reason e = rw (fails_as (drop at memory) reason syst.signature e)

  passed : (table : Table) → checked (drop at memory) ≡ Ok table → (signature_of (drop at memory) ≡ syst.signature → ⊥) → is_hit_def memory at ≡ false
  unfolding is_hit_def
  passed table e ne = rw (passes_as (drop at memory) table syst.signature e, ne_eqb (signature_of (drop at memory)) syst.signature ne)

  pub other_signature : (signature_of (drop at memory) ≡ syst.signature → ⊥) → is_hit_def memory at ≡ false
  other_signature ne = go (checked (drop at memory)) refl
    where
      go : (c : Result Table Reason) → checked (drop at memory) ≡ c → is_hit_def memory at ≡ false
      go (Err reason) e = fails reason e
      go (Ok table) e = passed table e ne

  pub past_page : page_size - at % page_size < length_of_def (drop at memory) → is_hit_def memory at ≡ false
  unfolding is_hit_def
  past_page h =
      rw (lt-leb (at % page_size + length_of_def (drop at memory)) page_size (omega arith)) (and-false (passes_as_def syst.signature (checked (drop at memory))))

  pub hit : (table : Table) → checked (drop at memory) ≡ Ok table → signature_of (drop at memory) ≡ syst.signature
      → length_of_def (drop at memory) ≤ page_size - at % page_size → is_hit_def memory at ≡ true
  unfolding is_hit_def
  hit table e signed h =
      rw (
        passes_as (drop at memory) table syst.signature e,
        eq-eqb (signature_of (drop at memory)) syst.signature signed,
        le-leb (at % page_size + length_of_def (drop at memory)) page_size (omega arith),
      )

  -- a hit by its tests, what costs least first
  pub tested : is_hit_def memory at
      ≡ eqb (signature_of (drop at memory)) syst.signature
      && (leb (length_of_def (drop at memory)) (page_size - at % page_size) && is_ok (checked (drop at memory)))
  tested = go _ refl _ refl _ refl
    where
      go : (a : Bool) → eqb (signature_of (drop at memory)) syst.signature ≡ a → (b : Bool) → leb (length_of_def (drop at memory)) (page_size - at % page_size) ≡ b
          → (c : Result Table Reason) → checked (drop at memory) ≡ c → is_hit_def memory at ≡ a && (b && is_ok c)
      go false p b q c e = other_signature (eqb-false _ _ p)
      go true p false q c e = past_page (omega (arith, leb-false _ _ q))
      go true p true q (Err reason) e = fails reason e
      go true p true q (Ok table) e = hit table e (eqb-true _ _ p) (leb-true _ _ q)

-- the places from one on
places_from : (i : ℕ) → i < tries → places (tries - i) (step * i) ≡ step * i ∷ places (tries - (i + 1)) (step * (i + 1))
unfolding places
places_from i h =
    let one_less : tries - i ≡ suc (tries - (i + 1)) = omega arith in
    let on : step * i + step ≡ step * (i + 1) = omega arith in
    rw (one_less, on)

no_places : (i at : ℕ) → tries ≤ i → places (tries - i) at ≡ []
unfolding places
no_places i at h = let none : tries - i ≡ 0 = omega arith in rw none

-- the search from the i-th place on: at a hit, past another place, and at the end
module _ (memory : List ℕ) where
  abbrev pub from : ℕ → Result ℕ Reason
  from i = first_hit memory (places (tries - i) (step * i))

  pub over : (i : ℕ) → i < tries → is_hit_def memory (step * i) ≡ false → from i ≡ from (i + 1)
  unfolding first_hit
  over i h e = ap (first_hit memory) (places_from i h) ∙ rw e

  pub at : (i : ℕ) → i < tries → is_hit_def memory (step * i) ≡ true → from i ≡ Ok (step * i)
  unfolding first_hit
  at i h e = ap (first_hit memory) (places_from i h) ∙ rw e

  pub end : (i : ℕ) → tries ≤ i → from i ≡ Err NoSyst
  unfolding first_hit
  end i h = ap (first_hit memory) (no_places i (step * i) h)

  pub bad_memory : (length memory ≡ memory_size → ⊥) → located memory ≡ Err BadMemory
  unfolding located
  bad_memory ne = rw (ne_eqb (length memory) memory_size ne)

  pub searched : length memory ≡ memory_size → located memory ≡ from 0
  unfolding located
  searched e = rw (eq-eqb (length memory) memory_size e)

-- the first n places are no hits
pub none_to : (memory : List ℕ) (n : ℕ) → n ≤ tries → ((j : ℕ) → j < n → is_hit_def memory (step * j) ≡ false) → from memory 0 ≡ from memory n
none_to memory zero h none = refl
none_to memory (suc n) h none =
    none_to memory n (omega arith) (λ j l. none j (omega arith))
    ∙ over memory n h (none n (omega arith))
    ∙ ap (from memory) (add-one n)

-- a run over 16 times each of the numbers below `tries` gives the places
module _ {S : Type 0} {steps : S → Option ℕ → S → Type 0}
    (p : Run steps)
    (q : Run nat_range_steps)
    (whole_memory : q.from ≡ record { start = 0; end = tries })
    {G : Type 0}
    (m : Mut G (ℕ × Unit {0}) ℕ)
    (h : G)
    (every : IsMapRun p q m h)
    (stays : CallKeepsClosure m h)
    (times : (x y : ℕ) → Called m h (x, tt) y h → y ≡ step * x) where
  numbers : ItemsCountUp q 0 tries
  numbers = subst (λ (r : Range ℕ). ItemsCountUp q r.start r.end) whole_memory (range_runs q q.seen)

  most : p.len ≤ tries
  most = omega (arith, numbers.0, every.1)

  all_tried : p.whole ≡ true → p.len ≡ tries
  all_tried w = omega (arith, numbers.1 (every.0 ∙ w), every.1)

  place_of : (k : ℕ) (o : Option ℕ) → IfSome (Some k) (λ x. IsSomeAnd o (λ y. Called m h (x, tt) y h)) → o ≡ Some (step * k)
  place_of k None c = absurd c
  place_of k (Some y) c = ap Some (times k y c)

  place_at : (k : ℕ) → k < p.len → p.at k ≡ Some (step * k)
  place_at k l =
      let same : 0 + k ≡ k = omega arith in
      let number = sym (option_map_id (q.at k)) ∙ numbers.3 k (omega (arith, every.1)) ∙ ap Some same in
      place_of k (p.at k) (subst (λ (o : Option ℕ). IfSome o (λ x. IsSomeAnd (p.at k) (λ y. Called m h (x, tt) y h))) number ((every.2 stays).0 k))

  -- what `find` says of such a run, with a test for hits
  module _ {F : Type 0}
      (g : Mut F (Bor ℕ × Unit {0}) Bool)
      (f : F)
      (memory : List ℕ)
      (keeps : CallKeepsClosure g f)
      (says : (x : ℕ) (b : Bool) → CalledAt g f x b f → is_hit_def memory x ≡ b) where
    -- below n there is none, if `find` passed over all places there
    missed : (n : ℕ) → n ≤ p.len → ((j : ℕ) → j < n → IfSome (p.at j) (λ x. CalledAt g f x false f)) → from memory 0 ≡ from memory n
    missed n inside none =
        none_to memory n (omega (arith, most))
        (λ j h. says (step * j) false (subst (λ (o : Option ℕ). IfSome o (λ x. CalledAt g f x false f)) (place_at j (omega arith)) (none j h)))

    passed_over : (o : Option ℕ) → IsSomeAnd o (λ x. CalledAt g f x false f) → IfSome o (λ x. CalledAt g f x false f)
    passed_over None h = absurd h
    passed_over (Some x) h = h

    pub first_of_run : (r : Option ℕ) → MatchOption r (IsTrue p.whole × NoItemPasses p g f) (EndsAtFirstPassing p g f) → length memory ≡ memory_size
        → ok_or r NoSyst ≡ located memory
    first_of_run None m size =
        let all = all_tried m.0 in
        sym (searched memory size ∙ missed tries (omega arith) (λ j h. m.1 keeps j) ∙ end memory tries (omega arith))
    first_of_run (Some x) m size =
        let i : ℕ = m.0 in
        let at_i = sym m.2 ∙ place_at i (omega (arith, m.1)) in
        let is : x ≡ step * i = cc in
        let said = m.3 keeps in
        sym
        (searched memory size
        ∙ missed i (omega (arith, m.1)) (λ j h. passed_over (p.at j) (said.1 j h))
        ∙ at memory i (omega (arith, m.1, most)) (ap (is_hit_def memory) (sym is) ∙ says x true said.0)
        ∙ ap Ok (sym is))

-- which table is chosen, by its tests
pub between_tested : (signature : ℕ) (board built_in : List ℕ) {a b : Bool} → passes_as_def signature (checked board) ≡ a → passes_as_def signature (checked built_in) ≡ b
    → between signature board built_in ≡ cond a (Ok Board) (cond b (Ok BuiltIn) (Err Neither))
unfolding between
between_tested signature board built_in p q = ap₂ (λ (a b : Bool). cond a (Ok Board) (cond b (Ok BuiltIn) (Err Neither))) p q
