-- The laws of the places: the lowest of a kind, a sender's own, which are legal, and the bytes of each.
-- Assumes nothing.
use Rattle.std.proofs.lemmas.Bool.{and_parts}
use Prim.Native.Nat.{ℕ, zero, suc, ◌+◌, ◌-◌, ◌*◌, ◌≤◌, ◌<◌}
use mathlib.Core.Bool.{Bool, true, false, cond, not, ◌&&◌}
use mathlib.Core.Path.{◌≡◌, refl, sym, ap, ◌∙◌}
use mathlib.Core.List.{List, [], ◌∷◌, ◌++◌, append_assoc}
use native.Mathlib.Nat.{suc_inj}
use native.Mathlib.Omega.{arith}
use borrow.Author.Tests.{le-leb, leb-true, eq-eqb, ne_eqb, eqb-true, eqb-false, ltb-true, ltb-false}
use lib.Dec.{eqb, leb, ltb}
use lib.ListN.{length, get_or, take, drop, set, replicate, length-append, length-take, length-drop, length-set, take-append-drop, get_or-eq_default}
use lib.Seq.{take-append-le, drop-append-le, take_at, drop_at, take-take, drop-drop, take-add, set_out, get_or-set_same, get_or-set_other}
use Rattle.std.specs.Prelude.{Option, Some, None}
use Rattle.std.specs.List.{position, position_or_len}
use Rattle.std.specs.Option.{is_some}
use Rattle.le.proofs.Tests.{never}
use Rattle.reassembly.specs.Step.{consistent, landed}
use Rattle.reassembly.specs.declared.State.{State}
use Rattle.reassembly.specs.declared.State.TheVariants.{Fresh, Open}
use Rattle.reassembly.proofs.Answers.{fresh}
use Rattle.heads.specs.Places.{place_size, buffer_min, part, with_part, is_free_def, is_of_def, lowest, none, place_of, open_of_def, without, all_consistent, is_alone_def, distinct, legal}

-- ---- the lowest place of a kind

module _ (P : State → Bool) where
  pub lowest_le : (ps : List State) → lowest P ps ≤ length ps
  unfolding lowest
  lowest_le [] = omega arith
  lowest_le (p ∷ ps) = go (P p) refl (lowest_le ps)
    where
      go : (t : Bool) → P p ≡ t → lowest P ps ≤ length ps → lowest P (p ∷ ps) ≤ suc (length ps)
      go true e h = rw e (omega arith)
      go false e h = rw e (omega arith)

  -- what stands there is of that kind,
  pub lowest_at : (ps : List State) → lowest P ps < length ps → P (get_or ps (lowest P ps) Fresh) ≡ true
  unfolding lowest
  lowest_at [] h = absurd (omega arith)
  lowest_at (p ∷ ps) h = go (P p) refl (lowest_at ps) h
    where
      go : (t : Bool) → P p ≡ t → (lowest P ps < length ps → P (get_or ps (lowest P ps) Fresh) ≡ true)
          → lowest P (p ∷ ps) < suc (length ps) → P (get_or (p ∷ ps) (lowest P (p ∷ ps)) Fresh) ≡ true
      go true e ih h = rw e e
      go false e ih h = rw e (ih (let l : suc (lowest P ps) < suc (length ps) = rw e at h in omega arith))

  -- and none before it is;
  pub lowest_before : (ps : List State) (j : ℕ) → j < lowest P ps → P (get_or ps j Fresh) ≡ false
  unfolding lowest
  lowest_before [] j h = absurd (omega arith)
  lowest_before (p ∷ ps) j h = go (P p) refl (lowest_before ps) j h
    where
      go : (t : Bool) → P p ≡ t → ((j : ℕ) → j < lowest P ps → P (get_or ps j Fresh) ≡ false)
          → (j : ℕ) → j < lowest P (p ∷ ps) → P (get_or (p ∷ ps) j Fresh) ≡ false
      go true e ih j h = absurd (let l : j < 0 = rw e at h in omega arith)
      go false e ih zero h = e
      go false e ih (suc j) h = ih j (let l : suc j < suc (lowest P ps) = rw e at h in omega arith)

  -- it is std's first position that passes;
  lowest_walk : (ps : List State) → position_or_len P ps ≡ lowest P ps
  unfolding lowest
  lowest_walk [] = refl
  lowest_walk (p ∷ ps) = go (P p) (lowest_walk ps)
    where
      go : (t : Bool) → position_or_len P ps ≡ lowest P ps → cond (not t) (1 + position_or_len P ps) 0 ≡ cond t 0 (suc (lowest P ps))
      go true e = refl
      go false e = omega arith

  position_is : (ps : List State) → position P ps ≡ cond (ltb (lowest P ps) (length ps)) (Some (lowest P ps)) None
  position_is ps = ap (λ (n : ℕ). cond (ltb n (length ps)) (Some n) None) (lowest_walk ps)

  pub position_some : (ps : List State) (k : ℕ) → position P ps ≡ Some k → (k ≡ lowest P ps) × (k < length ps)
  position_some ps k e = go (ltb (lowest P ps) (length ps)) refl (sym (position_is ps) ∙ e)
    where
      go : (t : Bool) → ltb (lowest P ps) (length ps) ≡ t → cond t (Some (lowest P ps)) None ≡ Some k → (k ≡ lowest P ps) × (k < length ps)
      go true less some =
          let same : k ≡ lowest P ps = cc in
          let inside = ltb-true (lowest P ps) (length ps) less in
          (same, omega arith)
      go false less some = absurd (cc)

  pub position_none : (ps : List State) → position P ps ≡ None → length ps ≤ lowest P ps
  position_none ps e = go (ltb (lowest P ps) (length ps)) refl (sym (position_is ps) ∙ e)
    where
      go : (t : Bool) → ltb (lowest P ps) (length ps) ≡ t → cond t (Some (lowest P ps)) None ≡ None → length ps ≤ lowest P ps
      go true less none = absurd (cc)
      go false less none = ltb-false (lowest P ps) (length ps) less

  pub none_walk : (ps : List State) (found : Option ℕ) → found ≡ position P ps → none P ps ≡ not (is_some found)
  none_walk ps found e = go (ltb (lowest P ps) (length ps)) refl (e ∙ position_is ps)
    where
      go : (t : Bool) → ltb (lowest P ps) (length ps) ≡ t → found ≡ cond t (Some (lowest P ps)) None → none P ps ≡ not (is_some found)
      go true less is =
          let inside = ltb-true (lowest P ps) (length ps) less in
          ne_eqb (lowest P ps) (length ps) (λ same. omega arith) ∙ ap (λ (f : Option ℕ). not (is_some f)) (sym is)
      go false less is =
          let past = ltb-false (lowest P ps) (length ps) less in
          eq-eqb (lowest P ps) (length ps) (omega (arith, lowest_le ps)) ∙ ap (λ (f : Option ℕ). not (is_some f)) (sym is)

  -- it is not behind one of that kind;
  pub lowest_found : (ps : List State) (k : ℕ) → P (get_or ps k Fresh) ≡ true → lowest P ps ≤ k
  lowest_found ps k e = go (ltb k (lowest P ps)) refl
    where
      go : (t : Bool) → ltb k (lowest P ps) ≡ t → lowest P ps ≤ k
      go true less = never (sym e ∙ lowest_before ps k (ltb-true k (lowest P ps) less))
      go false less = ltb-false k (lowest P ps) less

  -- where none is of that kind, it is as many as there are;
  pub lowest_none : (ps : List State) → ((k : ℕ) → k < length ps → P (get_or ps k Fresh) ≡ false) → lowest P ps ≡ length ps
  lowest_none ps none = go (ltb (lowest P ps) (length ps)) refl
    where
      go : (t : Bool) → ltb (lowest P ps) (length ps) ≡ t → lowest P ps ≡ length ps
      go true less =
          let l = ltb-true (lowest P ps) (length ps) less in
          never (sym (lowest_at ps l) ∙ none (lowest P ps) l)
      go false less = omega (arith, ltb-false (lowest P ps) (length ps) less, lowest_le ps)

  -- where another state is put in that is of that kind as the one before it was, it stays
  pub lowest_set : (ps : List State) (k : ℕ) (x : State) → P x ≡ P (get_or ps k Fresh) → lowest P (set ps k x) ≡ lowest P ps
  unfolding lowest
  lowest_set [] k x e = refl
  lowest_set (p ∷ ps) zero x e = rw e
  lowest_set (p ∷ ps) (suc k) x e = rw (lowest_set ps k x e)

-- a place that is free is fresh
pub free_fresh : (p : State) → is_free_def p ≡ true → p ≡ Fresh
free_fresh Fresh e = refl
free_fresh (Open p) e = never (sym e)

-- ---- the place of a sender

-- fresh, or open with this sender
abbrev pub Of : ℕ → State → Type 0
Of s Fresh = Unit {0}
Of s (Open p) = p.words.sender ≡ s

pub is_of : (s : ℕ) (p : State) → is_of_def s p ≡ true → Of s p
is_of s Fresh e = tt
is_of s (Open p) e = eqb-true p.words.sender s e

-- what is one sender's is no other's
pub of_other : (s t : ℕ) (p : State) → Of s p → (s ≡ t → ⊥) → is_of_def t p ≡ false
of_other s t Fresh o other = refl
of_other s t (Open p) o other = ne_eqb p.words.sender t (λ e. other (sym o ∙ e))

pub of_same : (s t : ℕ) (p : State) → Of s p → is_of_def t p ≡ true → s ≡ t
of_same s t Fresh o e = never (sym e)
of_same s t (Open p) o e = sym o ∙ eqb-true p.words.sender t e

-- no other place than k is the sender's
abbrev pub OnlyAt : ℕ → ℕ → List State → Type 0
OnlyAt s k ps = (j : ℕ) → is_of_def s (get_or ps j Fresh) ≡ true → j ≡ k

module _ (s : ℕ) (ps : List State) where
  -- what is a sender's stands in a place
  pub place_inside : (k : ℕ) → is_of_def s (get_or ps k Fresh) ≡ true → k < length ps
  place_inside k e = go (ltb k (length ps)) refl
    where
      go : (t : Bool) → ltb k (length ps) ≡ t → k < length ps
      go true less = ltb-true k (length ps) less
      go false less = never (sym e ∙ ap (is_of_def s) (get_or-eq_default ps Fresh {n = k} (ltb-false k (length ps) less)))

  -- who has a place has a message open there; who has none has nothing open and nothing to drop
  pub place_open : place_of s ps < length ps → is_of_def s (open_of_def s ps) ≡ true
  place_open h = lowest_at (is_of_def s) ps h

  pub no_place_fresh : length ps ≤ place_of s ps → open_of_def s ps ≡ Fresh
  no_place_fresh h = get_or-eq_default ps Fresh {n = place_of s ps} h

  pub no_place_dropped : length ps ≤ place_of s ps → without s ps ≡ ps
  no_place_dropped h = set_out ps (place_of s ps) Fresh h

  pub fresh_no_place : open_of_def s ps ≡ Fresh → place_of s ps ≡ length ps
  fresh_no_place e = go (ltb (place_of s ps) (length ps)) refl
    where
      go : (t : Bool) → ltb (place_of s ps) (length ps) ≡ t → place_of s ps ≡ length ps
      go true less = never (sym (place_open (ltb-true (place_of s ps) (length ps) less)) ∙ ap (is_of_def s) e)
      go false less = omega (arith, ltb-false (place_of s ps) (length ps) less, lowest_le (is_of_def s) ps)

  pub open_is_of : Of s (open_of_def s ps)
  open_is_of = go (ltb (place_of s ps) (length ps)) refl
    where
      go : (t : Bool) → ltb (place_of s ps) (length ps) ≡ t → Of s (open_of_def s ps)
      go true less = is_of s (open_of_def s ps) (place_open (ltb-true (place_of s ps) (length ps) less))
      go false less = rw (no_place_fresh (ltb-false (place_of s ps) (length ps) less)) tt

  pub length_without : length (without s ps) ≡ length ps
  length_without = length-set ps (place_of s ps) Fresh

  -- its own place would be free: where none is, it has none
  pub none_free_no_place : length ps ≤ lowest is_free_def (without s ps) → length ps ≤ place_of s ps
  none_free_no_place h = go (ltb (place_of s ps) (length ps)) refl
    where
      go : (t : Bool) → ltb (place_of s ps) (length ps) ≡ t → length ps ≤ place_of s ps
      go true less =
          let l = ltb-true (place_of s ps) (length ps) less in
          let found = lowest_found is_free_def (without s ps) (place_of s ps) (ap is_free_def (get_or-set_same ps (place_of s ps) Fresh Fresh l)) in
          absurd (omega arith)
      go false less = ltb-false (place_of s ps) (length ps) less

-- where nobody has anything open, every place is free
pub all_free : (ps : List State) → ((s : ℕ) → open_of_def s ps ≡ Fresh) → (k : ℕ) → is_free_def (get_or ps k Fresh) ≡ true
all_free ps nothing k = go (get_or ps k Fresh) refl
  where
    go : (p : State) → get_or ps k Fresh ≡ p → is_free_def p ≡ true
    go Fresh e = refl
    go (Open p) e =
        let s = p.words.sender in
        let own : is_of_def s (get_or ps k Fresh) ≡ true = rw e (eq-eqb s s refl) in
        absurd (omega (arith, fresh_no_place s ps (nothing s), lowest_found (is_of_def s) ps k own, place_inside s ps k own))

-- ---- another state put into place k: what is at place j then

pub data Stored (ps : List State) (k : ℕ) (x : State) (j : ℕ) : Type 0 where
  stored : j ≡ k → get_or (set ps k x) j Fresh ≡ x → Stored ps k x j
  kept : get_or (set ps k x) j Fresh ≡ get_or ps j Fresh → Stored ps k x j

pub at_set : (ps : List State) (k : ℕ) (x : State) (j : ℕ) → Stored ps k x j
at_set ps k x j = go (eqb j k) (ltb k (length ps)) refl refl
  where
    go : (same inside : Bool) → eqb j k ≡ same → ltb k (length ps) ≡ inside → Stored ps k x j
    go true true e l =
        let same = eqb-true j k e in
        stored same (rw same (get_or-set_same ps k x Fresh (ltb-true k (length ps) l)))
    go true false e l = kept (rw (set_out ps k x (ltb-false k (length ps) l)))
    go false inside e l = kept (get_or-set_other ps k j x Fresh (eqb-false j k e))

-- one sender's state in the stead of another of its own leaves every other sender its place and what it has open
module _ (s : ℕ) (ps : List State) (k : ℕ) (x : State) (before : Of s (get_or ps k Fresh)) (after : Of s x) (t : ℕ) (other : s ≡ t → ⊥) where
  pub others_place : place_of t (set ps k x) ≡ place_of t ps
  others_place = lowest_set (is_of_def t) ps k x (of_other s t x after other ∙ sym (of_other s t (get_or ps k Fresh) before other))

  pub others_open : open_of_def t (set ps k x) ≡ open_of_def t ps
  others_open = go (ltb (place_of t ps) (length ps)) refl
    where
      go : (b : Bool) → ltb (place_of t ps) (length ps) ≡ b → open_of_def t (set ps k x) ≡ open_of_def t ps
      go true less =
          let own = place_open t ps (ltb-true (place_of t ps) (length ps) less) in
          let elsewhere : place_of t ps ≡ k → ⊥ = λ e. other (of_same s t (open_of_def t ps) (rw e before) own) in
          rw others_place (get_or-set_other ps k (place_of t ps) x Fresh elsewhere)
      go false less =
          let none = ltb-false (place_of t ps) (length ps) less in
          no_place_fresh t (set ps k x) (rw (length-set ps k x, others_place) none) ∙ sym (no_place_fresh t ps none)

-- one sender's state in place k, where it has no other, is at its place, and is what it has open
module _ (s : ℕ) (ps : List State) (k : ℕ) (x : State) (inside : k < length ps) (only : OnlyAt s k ps) where
  only_set : OnlyAt s k (set ps k x)
  only_set j own = go (at_set ps k x j)
    where
      go : Stored ps k x j → j ≡ k
      go (stored same is) = same
      go (kept is) = only j (sym (ap (is_of_def s) is) ∙ own)

  pub place_set : is_of_def s x ≡ true → place_of s (set ps k x) ≡ k
  place_set own =
      let there : is_of_def s (get_or (set ps k x) k Fresh) ≡ true = rw (get_or-set_same ps k x Fresh inside) own in
      only_set (place_of s (set ps k x))
      (place_open s (set ps k x) (omega (arith, lowest_found (is_of_def s) (set ps k x) k there, place_inside s (set ps k x) k there)))

  pub open_set : Of s x → open_of_def s (set ps k x) ≡ x
  open_set of = go (ltb (place_of s (set ps k x)) (length (set ps k x))) refl x refl of
    where
      there : place_of s (set ps k x) ≡ k → open_of_def s (set ps k x) ≡ x
      there e = ap (λ (j : ℕ). get_or (set ps k x) j Fresh) e ∙ get_or-set_same ps k x Fresh inside

      go : (t : Bool) → ltb (place_of s (set ps k x)) (length (set ps k x)) ≡ t → (y : State) → x ≡ y → Of s y → open_of_def s (set ps k x) ≡ x
      go true less y e of = there (only_set (place_of s (set ps k x)) (place_open s (set ps k x) (ltb-true (place_of s (set ps k x)) (length (set ps k x)) less)))
      go false less Fresh e of = no_place_fresh s (set ps k x) (ltb-false (place_of s (set ps k x)) (length (set ps k x)) less) ∙ sym e
      go false less (Open p) e of = there (place_set (rw e (eq-eqb p.words.sender s of)))

-- ---- legal places: each is fresh or consistent,

pub each_consistent : (ps : List State) → all_consistent ps ≡ true → (k : ℕ) → consistent (get_or ps k Fresh) place_size ≡ true
unfolding all_consistent
each_consistent [] e k = fresh place_size
each_consistent (p ∷ ps) e zero = (and_parts (consistent p place_size) (all_consistent ps) e).0
each_consistent (p ∷ ps) e (suc k) = each_consistent ps (and_parts (consistent p place_size) (all_consistent ps) e).1 k

pub consistent_each : (ps : List State) → ((k : ℕ) → consistent (get_or ps k Fresh) place_size ≡ true) → all_consistent ps ≡ true
unfolding all_consistent
consistent_each [] each = refl
consistent_each (p ∷ ps) each = rw (each 0) (consistent_each ps (λ k. each (suc k)))

pub consistent_set : (ps : List State) (k : ℕ) (x : State) → all_consistent ps ≡ true → consistent x place_size ≡ true → all_consistent (set ps k x) ≡ true
consistent_set ps k x e ok = consistent_each (set ps k x) (λ j. go j (at_set ps k x j))
  where
    go : (j : ℕ) → Stored ps k x j → consistent (get_or (set ps k x) j Fresh) place_size ≡ true
    go j (stored same is) = rw is ok
    go j (kept is) = rw is (each_consistent ps e j)

-- and no two have one sender

-- the sender of the first has none of the others
alone : (p : State) (ps : List State) (s k : ℕ) → is_alone_def p ps ≡ true → is_of_def s p ≡ true → is_of_def s (get_or ps k Fresh) ≡ true → ⊥
alone Fresh ps s k e a b = never (sym a)
alone (Open p) ps s k e a b =
    let t = p.words.sender in
    let b' : is_of_def t (get_or ps k Fresh) ≡ true = rw (eqb-true t s a) b in
    let less = place_inside t ps k b' in
    let found = lowest_found (is_of_def t) ps k b' in
    let none = eqb-true (lowest (is_of_def t) ps) (length ps) e in
    omega arith

pub one_place : (ps : List State) → distinct ps ≡ true → (s j k : ℕ) → is_of_def s (get_or ps j Fresh) ≡ true → is_of_def s (get_or ps k Fresh) ≡ true → j ≡ k
unfolding distinct
one_place [] e s j k a b = never (sym a)
one_place (p ∷ ps) e s zero zero a b = refl
one_place (p ∷ ps) e s zero (suc k) a b = absurd (alone p ps s k (and_parts (is_alone_def p ps) (distinct ps) e).0 a b)
one_place (p ∷ ps) e s (suc j) zero a b = absurd (alone p ps s j (and_parts (is_alone_def p ps) (distinct ps) e).0 b a)
one_place (p ∷ ps) e s (suc j) (suc k) a b = ap suc (one_place ps (and_parts (is_alone_def p ps) (distinct ps) e).1 s j k a b)

is_alone : (p : State) (ps : List State) → ((s k : ℕ) → is_of_def s p ≡ true → is_of_def s (get_or ps k Fresh) ≡ true → ⊥) → is_alone_def p ps ≡ true
is_alone Fresh ps none = refl
is_alone (Open p) ps none = eq-eqb (lowest (is_of_def t) ps) (length ps) (lowest_none (is_of_def t) ps (λ k h. go k (is_of_def t (get_or ps k Fresh)) refl))
  where
    t : ℕ
    t = p.words.sender

    go : (k : ℕ) (b : Bool) → is_of_def t (get_or ps k Fresh) ≡ b → is_of_def t (get_or ps k Fresh) ≡ false
    go k true e = absurd (none t k (eq-eqb t t refl) e)
    go k false e = e

pub one_each : (ps : List State) → ((s j k : ℕ) → is_of_def s (get_or ps j Fresh) ≡ true → is_of_def s (get_or ps k Fresh) ≡ true → j ≡ k) → distinct ps ≡ true
unfolding distinct
one_each [] one = refl
one_each (p ∷ ps) one =
    let tail : (s j k : ℕ) → is_of_def s (get_or ps j Fresh) ≡ true → is_of_def s (get_or ps k Fresh) ≡ true → j ≡ k = λ s j k a b. suc_inj (one s (suc j) (suc k) a b) in
    rw (is_alone p ps (λ s k a b. let z = one s 0 (suc k) a b in omega arith)) (one_each ps tail)

-- also where a state is put in whose sender has no other place
pub distinct_set : (ps : List State) (k : ℕ) (x : State) → distinct ps ≡ true → ((s j : ℕ) → is_of_def s x ≡ true → is_of_def s (get_or ps j Fresh) ≡ true → j ≡ k)
    → distinct (set ps k x) ≡ true
distinct_set ps k x e own = one_each (set ps k x) (λ s i j a b. go s i j (at_set ps k x i) (at_set ps k x j) a b)
  where
    go : (s i j : ℕ) → Stored ps k x i → Stored ps k x j → is_of_def s (get_or (set ps k x) i Fresh) ≡ true → is_of_def s (get_or (set ps k x) j Fresh) ≡ true → i ≡ j
    go s i j (stored at_i is-i) (stored at_j is-j) a b = cc
    go s i j (stored at_i is-i) (kept is-j) a b = at_i ∙ sym (own s j (sym (ap (is_of_def s) is-i) ∙ a) (sym (ap (is_of_def s) is-j) ∙ b))
    go s i j (kept is-i) (stored at_j is-j) a b = own s i (sym (ap (is_of_def s) is-j) ∙ b) (sym (ap (is_of_def s) is-i) ∙ a) ∙ sym at_j
    go s i j (kept is-i) (kept is-j) a b = one_place ps e s i j (sym (ap (is_of_def s) is-i) ∙ a) (sym (ap (is_of_def s) is-j) ∙ b)

-- so the places stay legal without what a sender has open
pub consistent_without : (s : ℕ) (ps : List State) → all_consistent ps ≡ true → all_consistent (without s ps) ≡ true
consistent_without s ps e = consistent_set ps (place_of s ps) Fresh e (fresh place_size)

pub distinct_without : (s : ℕ) (ps : List State) → distinct ps ≡ true → distinct (without s ps) ≡ true
distinct_without s ps e = distinct_set ps (place_of s ps) Fresh e (λ t j a b. never (sym a))

-- where places are distinct, a sender's is the only one, and without it there is none
pub only_place : (ps : List State) → distinct ps ≡ true → (s : ℕ) → OnlyAt s (place_of s ps) ps
only_place ps e s k own =
    let less = place_inside s ps k own in
    let found = lowest_found (is_of_def s) ps k own in
    one_place ps e s k (place_of s ps) own (place_open s ps (omega arith))

pub dropped : (ps : List State) → distinct ps ≡ true → (s k : ℕ) → is_of_def s (get_or (without s ps) k Fresh) ≡ true → ⊥
dropped ps e s k own = go (at_set ps (place_of s ps) Fresh k)
  where
    go : Stored ps (place_of s ps) Fresh k → ⊥
    go (stored same is) = never (sym own ∙ ap (is_of_def s) is)
    go (kept is) =
        let own' = sym (ap (is_of_def s) is) ∙ own in
        let same = only_place ps e s k own' in
        let inside : place_of s ps < length ps = omega (arith, place_inside s ps k own') in
        let gone : get_or (without s ps) k Fresh ≡ Fresh = rw same (get_or-set_same ps (place_of s ps) Fresh Fresh inside) in
        never (sym own ∙ ap (is_of_def s) gone)

-- the three parts of the test
pub record Known (ps : List State) (room : ℕ) : Type 0 where
  pub room_enough : buffer_min ≤ room
  pub places_consistent : all_consistent ps ≡ true
  pub all_distinct : distinct ps ≡ true

pub legal_known : (ps : List State) (room : ℕ) → legal ps room ≡ true → Known ps room
unfolding legal
legal_known ps room e =
    let a = and_parts (leb buffer_min room) (all_consistent ps && distinct ps) e in
    let b = and_parts (all_consistent ps) (distinct ps) a.1 in
    record { room_enough = leb-true buffer_min room a.0; places_consistent = b.0; all_distinct = b.1 }

pub known_legal : (ps : List State) (room : ℕ) → Known ps room → legal ps room ≡ true
unfolding legal
known_legal ps room known = rw (le-leb buffer_min room known.room_enough, known.places_consistent, known.all_distinct)

-- places that are all fresh are legal
pub fresh_consistent : (n : ℕ) → all_consistent (replicate n Fresh) ≡ true
unfolding all_consistent
fresh_consistent zero = refl
fresh_consistent (suc n) = rw (fresh place_size) (fresh_consistent n)

pub fresh_distinct : (n : ℕ) → distinct (replicate n Fresh) ≡ true
unfolding distinct
fresh_distinct zero = refl
fresh_distinct (suc n) = fresh_distinct n

pub fresh_legal : (n room : ℕ) → buffer_min ≤ room → legal (replicate n Fresh) room ≡ true
fresh_legal n room h = known_legal (replicate n Fresh) room (record { room_enough = h; places_consistent = fresh_consistent n; all_distinct = fresh_distinct n })

-- ---- the bytes of a place

-- a part of the first of two lists, and what is dropped behind one that stands for the start of another
in_first : (m n : ℕ) (l r : List ℕ) → m + n ≤ length l → take n (drop m (l ++ r)) ≡ take n (drop m l)
in_first m n l r h = rw (drop-append-le m l r (omega arith)) (take-append-le n (drop m l) r (simp length-drop (omega arith)))

drop_on : (m e : ℕ) (b : List ℕ) → e ≤ m → drop m b ≡ drop (m - e) (drop e b)
drop_on m e b h = ap (λ (n : ℕ). drop n b) (let s : m ≡ e + (m - e) = omega arith in s) ∙ sym (drop-drop (m - e) e b)

behind : (m e : ℕ) (l b : List ℕ) → length l ≡ e → e ≤ m → drop m (l ++ drop e b) ≡ drop m b
behind m e l b len h =
    drop_on m e (l ++ drop e b) h ∙ ap (drop (m - e)) (drop_at l (drop e b) e len) ∙ sym (drop_on m e b h)

regroup : (a c p d e : List ℕ) → a ++ ((c ++ (p ++ d)) ++ e) ≡ (a ++ c) ++ (p ++ (d ++ e))
regroup a c p d e = simp append_assoc

-- data that lands in a part lands in the whole
landed_in : (at n filled : ℕ) (p b : List ℕ) → filled + length p ≤ n → at + n ≤ length b
    → take at b ++ (landed filled p (take n (drop at b)) ++ drop (at + n) b) ≡ landed (at + filled) p b
landed_in at n filled p b fits inside =
    let m = filled + length p in
    let start : take at b ++ take filled (take n (drop at b)) ≡ take (at + filled) b = rw (take-take filled n (drop at b) (omega arith)) (sym (take-add at filled b)) in
    let rest : drop m (take n (drop at b)) ++ drop (at + n) b ≡ drop (at + m) b =
    rw (← drop-drop n at b, ← drop-append-le m (take n (drop at b)) (drop n (drop at b)) (simp (length-take, length-drop) (omega arith)), take-append-drop n (drop at b))
    (drop-drop m at b) in
    let sum : at + m ≡ at + filled + length p = omega arith in
    regroup (take at b) (take filled (take n (drop at b))) p (drop m (take n (drop at b))) (drop (at + n) b)
    ∙ rw (start, rest, sum)

-- a place's own bytes put back change nothing
pub part_back : (k : ℕ) (b : List ℕ) → with_part k (part k b) b ≡ b
part_back k b =
    rw (← drop-drop place_size (place_size * k) b, take-append-drop place_size (drop (place_size * k) b)) (take-append-drop (place_size * k) b)

-- where the place is in the buffer, it has 4,096 bytes
module _ (k : ℕ) (b : List ℕ) (inside : place_size * k + place_size ≤ length b) where
  pub length_part : length (part k b) ≡ place_size
  length_part = simp (length-take, length-drop) (omega arith)

  -- what is put into its bytes stands there and is read from its start on, the buffer stays as long, and the bytes of the other places and those behind it stay
  module _ (bytes : List ℕ) (size : length bytes ≡ place_size) where
    before_part : length (take (place_size * k) b) ≡ place_size * k
    before_part = simp length-take (omega arith)

    pub length_with_part : length (with_part k bytes b) ≡ length b
    length_with_part = simp (length-append, length-take, length-drop) (omega arith)

    from_part : drop (place_size * k) (with_part k bytes b) ≡ bytes ++ drop (place_size * k + place_size) b
    from_part = drop_at (take (place_size * k) b) (bytes ++ drop (place_size * k + place_size) b) (place_size * k) before_part

    pub part_same : part k (with_part k bytes b) ≡ bytes
    part_same = rw from_part (take_at bytes (drop (place_size * k + place_size) b) place_size size)

    pub part_start : (n : ℕ) → n ≤ place_size → take n (drop (place_size * k) (with_part k bytes b)) ≡ take n bytes
    part_start n h = rw from_part (take-append-le n bytes (drop (place_size * k + place_size) b) (omega arith))

    pub behind_part : (m : ℕ) → place_size * k + place_size ≤ m → drop m (with_part k bytes b) ≡ drop m b
    behind_part m h =
        rw (← append_assoc (take (place_size * k) b) bytes (drop (place_size * k + place_size) b))
        (behind m (place_size * k + place_size) (take (place_size * k) b ++ bytes) b (simp length-append (omega (arith, before_part))) h)

    pub part_other : (j : ℕ) → (j ≡ k → ⊥) → part j (with_part k bytes b) ≡ part j b
    part_other j other = go (ltb j k) refl
      where
        go : (t : Bool) → ltb j k ≡ t → part j (with_part k bytes b) ≡ part j b
        go true less =
            let l = ltb-true j k less in
            in_first (place_size * j) place_size (take (place_size * k) b) (bytes ++ drop (place_size * k + place_size) b) (omega (arith, before_part))
            ∙ sym (in_first (place_size * j) place_size (take (place_size * k) b) (drop (place_size * k) b) (omega (arith, before_part)))
            ∙ ap (part j) (take-append-drop (place_size * k) b)
        go false less =
            let l = ltb-false j k less in
            ap (take place_size) (behind_part (place_size * j) (omega arith))

  -- data that lands in a place's bytes lands at that place of the buffer
  pub landed_part : (filled : ℕ) (p : List ℕ) → filled + length p ≤ place_size → with_part k (landed filled p (part k b)) b ≡ landed (place_size * k + filled) p b
  landed_part filled p fits = landed_in (place_size * k) place_size filled p b fits inside
