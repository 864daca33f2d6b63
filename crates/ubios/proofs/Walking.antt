-- The laws of the look-up: which slots lead to a passing table of the name, and what a walk over the slots meets.
-- Assumes nothing.
use Rattle.std.specs.Prelude.{Result, Ok, Err, Option, Some, None}
use mathlib.Core.Logic.{inl, inr}
use Rattle.std.proofs.lemmas.Option.{same_Some}
use Rattle.std.proofs.lemmas.Bool.{cases_lt, and_parts, cond-true}
use Prim.Native.Nat.{ℕ, zero, suc, ◌+◌, ◌*◌, ◌-◌, ◌/◌, ◌≤◌, ◌<◌}
use mathlib.Core.Bool.{Bool, true, false, cond, not, ◌&&◌}
use mathlib.Core.Path.{◌≡◌, refl, sym, ap, ap₂, ◌∙◌}
use mathlib.Core.List.{List, [], ◌∷◌, map}
use borrow.Author.Tests.{ltb-true, ltb-false}
use native.Mathlib.Numerals.{add-one}
use native.Mathlib.Omega.{arith}
use lib.Dec.{ltb}
use lib.ListN.{length, take, drop, length-take, length-drop}
use lib.Seq.{drop-drop}
use Rattle.le.specs.Word.{word}
use Rattle.le.proofs.Words.{word_within}
use Rattle.std.proofs.lemmas.List.{drop-take}
use Rattle.le.specs.Compare.{same}
use Rattle.ubios.specs.Layout.{table_header, root_header, name_of, is_gap, addresses, slots_of}
use Rattle.ubios.specs.Checks.{table_at, checked, root_checked}
use Rattle.ubios.specs.Lookup.{bad_name, passes, leads_on, leads, body_of, Lead, lead_at, led_to, named, body_in, body_at, hits, answer_of, looked_up, found}
use Rattle.ubios.specs.Helpers.{hit_of, first_of}
use Rattle.ubios.specs.declared.Table.{Table}
use Rattle.ubios.specs.declared.Root.{Root}
use Rattle.ubios.specs.declared.Reason.{Reason}
use Rattle.ubios.specs.declared.Reason.TheVariants.{BadName}
use Rattle.ubios.specs.declared.lookup.Body.{Body}
use Rattle.ubios.proofs.Answers.{passes_only, header_fits, header_used, root_passes_only}
use Rattle.ubios.proofs.Ranges.{FirstHit}

neither_way : (a : Bool) → a && false ≡ false
neither_way true = refl
neither_way false = refl

-- which slots lead to a passing table of the name
module _ (region : List ℕ) (base : ℕ) (name : List ℕ) (address : ℕ) where
  pub at_gap : is_gap address ≡ true → leads region base name address ≡ false
  unfolding leads leads_on
  at_gap e = rw e

  pub other_name : same (name_of (table_at region base address)) name ≡ false → leads region base name address ≡ false
  unfolding leads
  other_name e = ap (λ (b : Bool). leads_on region base address && b) e ∙ neither_way (leads_on region base address)

  pub fails : (reason : Reason) → checked table_header region base address ≡ Err reason → leads region base name address ≡ false
  unfolding leads leads_on
  fails reason e =
      ap (λ (c : Result Table Reason). not (is_gap address) && passes c && same (name_of (table_at region base address)) name) e
      ∙ ap (λ (b : Bool). b && same (name_of (table_at region base address)) name) (neither_way (not (is_gap address)))

  pub below_region : address < base → leads region base name address ≡ false
  below_region h = go (checked table_header region base address) refl
    where
      go : (c : Result Table Reason) → checked table_header region base address ≡ c → leads region base name address ≡ false
      go (Ok t) e = absurd (omega (arith, (passes_only table_header region base address t e).inside.start))
      go (Err reason) e = fails reason e

  pub leads_there : (table : Table) → is_gap address ≡ false → checked table_header region base address ≡ Ok table
      → same (name_of (table_at region base address)) name ≡ true → leads region base name address ≡ true
  unfolding leads leads_on
  leads_there table ne e named = rw (ne, e, named)

  -- what is known of a slot that does
  pub record Led : Type 0 where
    pub table : Table
    pub passes : checked table_header region base address ≡ Ok table
    pub named : same (name_of (table_at region base address)) name ≡ true

  pub led : leads region base name address ≡ true → Led
  unfolding leads leads_on
  led e =
      let p = and_parts (leads_on region base address) _ e in
      let q = and_parts (not (is_gap address)) _ p.0 in
      go (checked table_header region base address) refl q.1 p.1
    where
      go : (c : Result Table Reason) → checked table_header region base address ≡ c → passes c ≡ true → same (name_of (table_at region base address)) name ≡ true → Led
      go (Ok t) r h n = record { table = t; passes = r; named = n }
      go (Err reason) r h n = cc

  module _ (slot : ℕ) where
    pub hit : (table : Table) → is_gap address ≡ false → checked table_header region base address ≡ Ok table
        → same (name_of (table_at region base address)) name ≡ true
        → hit_of region base name slot address ≡ Some (body_of slot table)
    hit table ne e named =
        rw (leads_there table ne e named)
        (ap (λ (t : Table). Some (body_of slot t)) (sym (passes_only table_header region base address table e).is))

-- the addresses from one slot on
pub slots_from : (s : List ℕ) (count slot : ℕ) → slot < count
    → addresses (count - slot) (drop (8 * slot) s) ≡ word 8 (drop (8 * slot) s) ∷ addresses (count - (slot + 1)) (drop (8 * (slot + 1)) s)
unfolding addresses
slots_from s count slot h =
    let one_less : count - slot ≡ suc (count - (slot + 1)) = omega arith in
    let on : 8 * slot + 8 ≡ 8 * (slot + 1) = omega arith in
    rw (one_less, drop-drop 8 (8 * slot) s, on)

pub slots_end : (s : List ℕ) (count slot : ℕ) → count ≤ slot → addresses (count - slot) s ≡ []
unfolding addresses
slots_end s count slot h = let none : count - slot ≡ 0 = omega arith in rw none

-- addresses that are cut out are those that stood there
cut : (n : ℕ) (s : List ℕ) → 8 * n ≤ length s → addresses n (take (8 * n) s) ≡ addresses n s
unfolding addresses
cut zero s h = refl
cut (suc n) s h =
    let more : 8 * suc n ≡ 8 + 8 * n = omega arith in
    let first : word 8 (take (8 + 8 * n) s) ≡ word 8 s = word_within 8 0 (8 + 8 * n) s (omega arith) (omega arith) in
    let room = length-drop 8 s in
    rw (more, first, drop-take 8 (8 * n) s, cut n (drop 8 s) (omega arith))

-- a walk over the slots, which meets a hit or passes the slot over
module _ (region : List ℕ) (base : ℕ) (name : List ℕ) where
  pub no_slots : (k : ℕ) → hits region base name k [] ≡ []
  unfolding hits named led_to
  no_slots k = refl

  -- one slot more: the filter keeps its table exactly where it leads to one of the name
  next : (k a : ℕ) (slots : List ℕ)
      → hits region base name k (a ∷ slots) ≡ cond (leads region base name a) (body_at region base k a ∷ hits region base name (suc k) slots) (hits region base name (suc k) slots)
  unfolding hits named led_to leads
  next k a slots = by_lead (leads_on region base a)
    where
      rest : List Lead
      rest = led_to region base (suc k) slots

      by_name : (s : Bool) → map body_in (cond s (lead_at region base k a ∷ named name rest) (named name rest)) ≡ cond s (body_at region base k a ∷ map body_in (named name rest)) (map body_in (named name rest))
      by_name true = refl
      by_name false = refl

      by_lead : (l : Bool) → map body_in (named name (cond l (lead_at region base k a ∷ rest) rest))
          ≡ cond (l && same (name_of (table_at region base a)) name) (body_at region base k a ∷ map body_in (named name rest)) (map body_in (named name rest))
      by_lead true = by_name (same (name_of (table_at region base a)) name)
      by_lead false = refl

  pub passes_over : (k a : ℕ) (slots : List ℕ) → leads region base name a ≡ false → hits region base name k (a ∷ slots) ≡ hits region base name (suc k) slots
  passes_over k a slots e = next k a slots ∙ rw e

  pub meets : (k a : ℕ) (slots : List ℕ) → leads region base name a ≡ true
      → hits region base name k (a ∷ slots) ≡ body_at region base k a ∷ hits region base name (suc k) slots
  meets k a slots e = next k a slots ∙ rw e

  -- the hits from one slot on
  abbrev pub onward : ℕ → List ℕ → ℕ → List Body
  onward count s k = hits region base name k (addresses (count - k) (drop (8 * k) s))

  module _ (count : ℕ) (s : List ℕ) (k : ℕ) where
    -- the slot's address
    abbrev a : ℕ
    a = word 8 (drop (8 * k) s)

    pub none_left : count ≤ k → onward count s k ≡ []
    none_left h = ap (hits region base name k) (slots_end (drop (8 * k) s) count k h) ∙ no_slots k

    module _ (h : k < count) where
      one_slot : onward count s k ≡ cond (leads region base name a) (body_at region base k a ∷ onward count s (k + 1)) (onward count s (k + 1))
      one_slot = ap (hits region base name k) (slots_from s count k h) ∙ rw (add-one k) (next k a _)

      pub turn : hit_of region base name k a ≡ None → onward count s k ≡ onward count s (k + 1)
      turn e = one_slot ∙ go (leads region base name a) e
        where
          go : (t : Bool) → cond t (Some (body_at region base k a)) None ≡ None
              → cond t (body_at region base k a ∷ onward count s (k + 1)) (onward count s (k + 1)) ≡ onward count s (k + 1)
          go true q = cc
          go false q = refl

      pub met : (b : Body) → hit_of region base name k a ≡ Some b → onward count s k ≡ b ∷ onward count s (k + 1)
      met b e = one_slot ∙ go (leads region base name a) e
        where
          go : (t : Bool) → cond t (Some (body_at region base k a)) None ≡ Some b
              → cond t (body_at region base k a ∷ onward count s (k + 1)) (onward count s (k + 1)) ≡ b ∷ onward count s (k + 1)
          go true q = ap (λ (x : Body). x ∷ onward count s (k + 1)) (same_Some _ _ q)
          go false q = cc

  -- what the slot at a place leads to
  abbrev pub hit_at : List ℕ → ℕ → Option Body
  hit_at s k = hit_of region base name k (word 8 (drop (8 * k) s))

  -- a walk past slots that lead nowhere, and what it meets first
  passed_over : (count : ℕ) (s : List ℕ) (n k : ℕ) → k + n ≤ count → ((j : ℕ) → k ≤ j → j < k + n → hit_at s j ≡ None) → onward count s k ≡ onward count s (k + n)
  passed_over count s zero k h none = ap (onward count s) (omega arith)
  passed_over count s (suc n) k h none =
      turn count s k (omega arith) (none k (omega arith) (omega arith))
      ∙ passed_over count s n (k + 1) (omega arith) (λ j a b. none j (omega arith) (omega arith))
      ∙ ap (onward count s) (omega arith)

  pub first_met : (count : ℕ) (s : List ℕ) (k : ℕ) (r : Option Body) → FirstHit (hit_at s) k count r → r ≡ first_of (onward count s k)
  first_met count s k None h =
      elim (cases_lt k count) [
        | inl l ↦
            let all : k + (count - k) ≡ count = omega arith in
            let over = passed_over count s (count - k) k (omega arith) (λ j a b. h j a (omega arith)) in
            sym (ap first_of (over ∙ none_left count s (k + (count - k)) (omega arith)))
        | inr l ↦ sym (ap first_of (none_left count s k l))
      ]
  first_met count s k (Some b) h =
      let here : k + (h.0 - k) ≡ h.0 = omega (arith, h.1) in
      let over = passed_over count s (h.0 - k) k (omega (arith, h.1, h.2)) (λ j a c. h.4 j a (omega (arith, h.1))) in
      sym (ap first_of (over ∙ ap (onward count s) here ∙ met count s h.0 h.2 b h.3))

  -- what is known where the first of them is b: its slot, and that those from the next slot on are the others
  pub record First (count : ℕ) (s : List ℕ) (k : ℕ) (b : Body) : Type 0 where
    pub below : b.slot < count
    pub others : onward count s k ≡ b ∷ onward count s (b.slot + 1)

  pub first : (count : ℕ) (s : List ℕ) (fuel k : ℕ) (b : Body) → count ≤ k + fuel → first_of (onward count s k) ≡ Some b → First count s k b
  first count s zero k b enough e = let z = sym (ap first_of (none_left count s k (omega arith))) ∙ e in cc
  first count s (suc fuel) k b enough e = by_end (ltb k count) refl (first count s fuel (k + 1) b (omega arith))
    where
      by_slot : k < count → (t : Bool) → leads region base name (word 8 (drop (8 * k) s)) ≡ t
          → (first_of (onward count s (k + 1)) ≡ Some b → First count s (k + 1) b)
          → First count s k b
      by_slot h true q later =
          let here = met count s k h (body_at region base k (word 8 (drop (8 * k) s))) (rw q) in
          let is = same_Some _ _ (sym (ap first_of here) ∙ e) in
          let slot : k ≡ b.slot = ap (λ (x : Body). x.slot) is in
          record {
            below = rw (← slot) h;
            others = here ∙ ap₂ (λ (x : Body) (i : ℕ). x ∷ onward count s (i + 1)) is slot;
          }
      by_slot h false q later =
          let over = turn count s k h (rw q) in
          let l = later (sym (ap first_of over) ∙ e) in
          record { below = l.below; others = over ∙ l.others }

      by_end : (t : Bool) → ltb k count ≡ t → (first_of (onward count s (k + 1)) ≡ Some b → First count s (k + 1) b) → First count s k b
      by_end true q later = by_slot (ltb-true k count q) (leads region base name (word 8 (drop (8 * k) s))) refl later
      by_end false q later = let z = sym (ap first_of (none_left count s k (ltb-false k count q))) ∙ e in cc

  -- the answer, by the first two hits
  module _ (count : ℕ) (s : List ℕ) where
    all : looked_up region base name (addresses count s) ≡ answer_of (onward count s 0)
    all = let whole : count - 0 ≡ count = omega arith in rw whole

    -- the first hit is b
    module _ (b : Body) (one : first_of (onward count s 0) ≡ Some b) where
      known : First count s 0 b
      known = first count s count 0 b (omega arith) one

      pub below_count : b.slot < count
      below_count = known.below

      pub one_met : first_of (onward count s (b.slot + 1)) ≡ None → looked_up region base name (addresses count s) ≡ Ok b
      one_met e = all ∙ ap answer_of known.others ∙ go (onward count s (b.slot + 1)) e
        where
          go : (l : List Body) → first_of l ≡ None → answer_of (b ∷ l) ≡ Ok b
          go [] q = refl
          go (c ∷ l) q = cc

      pub two_met : (c : Body) → first_of (onward count s (b.slot + 1)) ≡ Some c → looked_up region base name (addresses count s) ≡ answer_of (b ∷ c ∷ [])
      two_met c e = all ∙ ap answer_of known.others ∙ go (onward count s (b.slot + 1)) e
        where
          go : (l : List Body) → first_of l ≡ Some c → answer_of (b ∷ l) ≡ answer_of (b ∷ c ∷ [])
          go [] q = cc
          go (d ∷ l) q = refl

-- 39, the root's refusals, and what is left to the slots
module _ (region : List ℕ) (base root : ℕ) (name : List ℕ) where
  pub bad_name_lem : bad_name name ≡ true → found region base root name ≡ Err BadName
  unfolding found
  bad_name_lem e = cond-true (bad_name name) _ _ e

  module _ (good : bad_name name ≡ false) where
    pub no_root : (reason : Reason) → root_checked region base root ≡ Err reason → found region base root name ≡ Err reason
    unfolding found
    no_root reason e = rw (good, e)

    pub in_root_lem : (r : Root) → root_checked region base root ≡ Ok r
        → found region base root name ≡ looked_up region base name (slots_of (table_at region base root))
    unfolding found
    in_root_lem r e = rw (good, e)

-- where the slots of a passing root stand
module _ (region : List ℕ) (base address : ℕ) (r : Root) (e : root_checked region base address ≡ Ok r) where
  pub slots_fit : r.table.at + root_header + 8 * r.count ≤ length region
  slots_fit =
      let p = root_passes_only region base address r e in
      let at = ap (λ (t : Table). t.at) p.table.is in
      let used = ap (λ (t : Table). t.used) p.table.is in
      let room = length-drop (address - base) region in
      omega (arith, p.room, p.table.sized.inside, at, used, room)

  -- and that they are read there
  abbrev slots_part : List ℕ
  slots_part = take (8 * r.count) (drop (r.table.at + root_header) region)

  pub slots_read : addresses (length slots_part / 8) slots_part ≡ slots_of (table_at region base address)
  slots_read =
      let p = root_passes_only region base address r e in
      let all = drop (r.table.at + root_header) region in
      let room : 8 * r.count ≤ length all = omega (arith, slots_fit, length-drop (r.table.at + root_header) region) in
      let count : length slots_part / 8 ≡ r.count = rw length-take (omega arith) in
      let place : all ≡ drop root_header (table_at region base address) =
      ap (λ (t : Table). drop (t.at + root_header) region) p.table.is ∙ sym (drop-drop root_header (address - base) region) in
      ap (λ (n : ℕ). addresses n slots_part) count ∙ cut r.count all room ∙ ap₂ addresses p.count place

-- what a slot leads to, by the tests on the way
pub ruleset slot_tests = (header_fits, header_used, at_gap, below_region, other_name, fails)

-- the answer, by the first hit and the second
pub ruleset hit_tests = (below_count, one_met, two_met)
