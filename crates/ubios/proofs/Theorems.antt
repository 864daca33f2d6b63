-- The theorems of `specs/Statements.antt` on the look-up: which slot is found, when none is and when two are, what a gap changes, and where the body lies.
-- Assumes nothing.
use Rattle.std.specs.Prelude.{Result, Ok, Err}
use Prim.Native.Nat.{ℕ, zero, suc, ◌+◌, ◌-◌, ◌≤◌, ◌<◌}
use mathlib.Core.Bool.{Bool, true, false, cond}
use mathlib.Core.Path.{◌≡◌, refl, sym, ap, ap₂, subst, ◌∙◌}
use mathlib.Core.List.{List, [], ◌∷◌, ◌++◌, append_assoc, map}
use borrow.Author.Tests.{lt-ltb, le-ltb}
use native.Mathlib.Omega.{arith}
use lib.Dec.{ltb}
use lib.ListN.{length, take, drop, length-drop, length-append}
use lib.Seq.{take-nil, drop-drop}
use Rattle.ubios.specs.Layout.{table_header, used_of, slots_of}
use Rattle.ubios.specs.Checks.{number_of, table_at, root_checked}
use Rattle.ubios.specs.Lookup.{bad_name, leads, body_of, body_at, hits, answer_of, looked_up, found}
use Rattle.ubios.specs.Statements.{NoneLeads, Walked, FoundOnly, OnlyFound, FoundNone, NoneFound, FoundTwo, TwoFound, BehindGap, SameTables, moved_on, GapAdded, BodyInside, BodyBytes}
use Rattle.ubios.specs.declared.Reason.TheVariants.{NoTable, TwoTables}
use Rattle.ubios.specs.declared.Root.{Root}
use Rattle.ubios.specs.declared.Reason.{Reason}
use Rattle.ubios.specs.declared.lookup.Body.{Body}
use Rattle.ubios.proofs.Answers.{passes_only, root_refusals}
use Rattle.ubios.proofs.Walking.{at_gap, led, no_slots, passes_over, meets, bad_name_lem, no_root, in_root_lem}

-- what is equal in equal lists and equal answers
cons_head : {b c : Body} {l m : List Body} → b ∷ l ≡ c ∷ m → b ≡ c
cons_head e = cc

cons_tail : {b c : Body} {l m : List Body} → b ∷ l ≡ c ∷ m → l ≡ m
cons_tail e = cc

only_inj : {b c : Body} → ◌≡◌ {A = Result Body Reason} (Ok b) (Ok c) → b ≡ c
only_inj e = cc

-- the hits among slots of which none leads there, among joined slots, and where one leads there
module _ (region : List ℕ) (base : ℕ) (name : List ℕ) where
  none_hit : (k : ℕ) (slots : List ℕ) → NoneLeads region base name slots → hits region base name k slots ≡ []
  none_hit k [] h = no_slots region base name k
  none_hit k (a ∷ slots) h = passes_over region base name k a slots h.0 ∙ none_hit (suc k) slots h.1

  joined : (k : ℕ) (before after : List ℕ)
      → hits region base name k (before ++ after) ≡ hits region base name k before ++ hits region base name (k + length before) after
  joined k [] after = let here : k + 0 ≡ k = omega arith in rw (no_slots region base name k, here)
  joined k (x ∷ before) after =
      let on : suc k + length before ≡ k + suc (length before) = omega arith in
      go (leads region base name x) refl (rw on at (joined (suc k) before after))
    where
      go : (t : Bool) → leads region base name x ≡ t
          → hits region base name (suc k) (before ++ after) ≡ hits region base name (suc k) before ++ hits region base name (k + suc (length before)) after
          → hits region base name k (x ∷ (before ++ after)) ≡ hits region base name k (x ∷ before) ++ hits region base name (k + suc (length before)) after
      go true q later = rw (meets region base name k x (before ++ after) q, meets region base name k x before q, later)
      go false q later = rw (passes_over region base name k x (before ++ after) q, passes_over region base name k x before q) later

  behind : (k : ℕ) (before : List ℕ) (a : ℕ) (after : List ℕ) → leads region base name a ≡ true
      → hits region base name k (before ++ (a ∷ after))
      ≡ hits region base name k before ++ (body_at region base (k + length before) a ∷ hits region base name (suc (k + length before)) after)
  behind k before a after h = joined k before (a ∷ after) ∙ rw (meets region base name (k + length before) a after h)

  one_of_all : (before : List ℕ) (a : ℕ) (after : List ℕ) → NoneLeads region base name before → leads region base name a ≡ true → NoneLeads region base name after
      → looked_up region base name (before ++ (a ∷ after)) ≡ Ok (body_at region base (length before) a)
  one_of_all before a after hb h ha =
      let start : 0 + length before ≡ length before = omega arith in
      rw (behind 0 before a after h, none_hit 0 before hb, none_hit (suc (0 + length before)) after ha, start)

  -- and back: what the hits say of the slots
  none_lead : (k : ℕ) (slots : List ℕ) → hits region base name k slots ≡ [] → NoneLeads region base name slots
  none_lead k [] e = tt
  none_lead k (a ∷ slots) e = go (leads region base name a) refl (none_lead (suc k) slots)
    where
      go : (t : Bool) → leads region base name a ≡ t → (hits region base name (suc k) slots ≡ [] → NoneLeads region base name slots) → NoneLeads region base name (a ∷ slots)
      go true q later = let z = sym (meets region base name k a slots q) ∙ e in cc
      go false q later = (q, later (sym (passes_over region base name k a slots q) ∙ e))

  -- where among the slots the first hit is
  record Place (k : ℕ) (slots : List ℕ) (b : Body) (more : List Body) : Type 0 where
    before : List ℕ
    address : ℕ
    after : List ℕ
    all : slots ≡ before ++ (address ∷ after)
    leads_there : leads region base name address ≡ true
    none_before : NoneLeads region base name before
    others : hits region base name (suc (k + length before)) after ≡ more
    is : b ≡ body_at region base (k + length before) address

  place : (k : ℕ) (slots : List ℕ) (b : Body) (more : List Body) → hits region base name k slots ≡ b ∷ more → Place k slots b more
  place k [] b more e = let z = sym (no_slots region base name k) ∙ e in cc
  place k (a ∷ slots) b more e = go (leads region base name a) refl (place (suc k) slots b more)
    where
      go : (t : Bool) → leads region base name a ≡ t → (hits region base name (suc k) slots ≡ b ∷ more → Place (suc k) slots b more) → Place k (a ∷ slots) b more
      go true q later =
          let here = sym (meets region base name k a slots q) ∙ e in
          let start : k ≡ k + 0 = omega arith in
          record {
            before = [];
            address = a;
            after = slots;
            all = refl;
            leads_there = q;
            none_before = tt;
            others = ap (λ (i : ℕ). hits region base name (suc i) slots) (sym start) ∙ cons_tail here;
            is = sym (cons_head here) ∙ ap (λ (i : ℕ). body_at region base i a) start;
          }
      go false q later =
          let p = later (sym (passes_over region base name k a slots q) ∙ e) in
          let on : suc k + length p.before ≡ k + suc (length p.before) = omega arith in
          record {
            before = a ∷ p.before;
            address = p.address;
            after = p.after;
            all = ap (λ (l : List ℕ). a ∷ l) p.all;
            leads_there = p.leads_there;
            none_before = (q, p.none_before);
            others = ap (λ (i : ℕ). hits region base name (suc i) p.after) (sym on) ∙ p.others;
            is = p.is ∙ ap (λ (i : ℕ). body_at region base i p.address) on;
          }

-- the slots, and the hits among them
abbrev slots : List ℕ → ℕ → ℕ → List ℕ
slots region base root = slots_of (table_at region base root)

abbrev met : List ℕ → ℕ → ℕ → List ℕ → List Body
met region base root name = hits region base name 0 (slots region base root)

-- no refusal, or 37 or 38
abbrev OfSlots : Result Body Reason → Type 0
OfSlots (Ok b) = Unit {0}
OfSlots (Err reason) = (37 ≤ number_of reason) × (number_of reason ≤ 38)

-- such an answer comes of the slots
module _ (region : List ℕ) (base root : ℕ) (name : List ℕ) where
  by_slots : Walked region base root name → found region base root name ≡ answer_of (met region base root name)
  by_slots w = in_root_lem region base root name w.sought w.root_table w.root_passes

  walked : (f : Result Body Reason) → OfSlots f → found region base root name ≡ f → Walked region base root name × (answer_of (met region base root name) ≡ f)
  walked f of e = by_name (bad_name name) refl
    where
      by_root : bad_name name ≡ false → (c : Result Root Reason) → root_checked region base root ≡ c → Walked region base root name × (answer_of (met region base root name) ≡ f)
      by_root good (Err reason) q =
          let above = subst OfSlots (sym e ∙ no_root region base root name good reason q) of in
          absurd (omega (arith, (root_refusals region base root reason q).1, above.0))
      by_root good (Ok r) q =
          let w : Walked region base root name = record { sought = good; root_table = r; root_passes = q } in
          (w, sym (by_slots w) ∙ e)

      by_name : (t : Bool) → bad_name name ≡ t → Walked region base root name × (answer_of (met region base root name) ≡ f)
      by_name true q = let above = subst OfSlots (sym e ∙ bad_name_lem region base root name q) of in absurd (omega (arith, above.1))
      by_name false q = by_root q (root_checked region base root) refl

pub only_found : OnlyFound
only_found region base root name b w one =
    by_slots region base root name w
    ∙ ap (looked_up region base name) one.slots
    ∙ one_of_all region base name one.before one.address one.after one.none_before one.leads_there one.none_after
    ∙ ap Ok (sym one.is)

-- an answer that is a body comes of one hit
one_answer : (l : List Body) (b : Body) → answer_of l ≡ Ok b → l ≡ b ∷ []
one_answer [] b e = cc
one_answer (c ∷ []) b e = ap (λ (x : Body). x ∷ []) (only_inj e)
one_answer (c ∷ d ∷ l) b e = cc

pub found_only : FoundOnly
found_only region base root name b e =
    let w = walked region base root name (Ok b) tt e in
    let p = place region base name 0 (slots region base root) b [] (one_answer (met region base root name) b w.1) in
    let start : 0 + length p.before ≡ length p.before = omega arith in (
      w.0,
      record {
        before = p.before;
        address = p.address;
        after = p.after;
        slots = p.all;
        leads_there = p.leads_there;
        none_before = p.none_before;
        none_after = none_lead region base name _ p.after p.others;
        is = p.is ∙ ap (λ (i : ℕ). body_at region base i p.address) start;
      },
    )

-- 37 comes of no hit
no_answer : (l : List Body) → answer_of l ≡ Err NoTable → l ≡ []
no_answer [] e = refl
no_answer (b ∷ []) e = cc
no_answer (b ∷ c ∷ l) e = cc

pub found_none : FoundNone
found_none region base root name e =
    let w = walked region base root name (Err NoTable) (omega arith, omega arith) e in
    (w.0, none_lead region base name 0 (slots region base root) (no_answer (met region base root name) w.1))

pub none_found : NoneFound
none_found region base root name w none =
    by_slots region base root name w ∙ ap answer_of (none_hit region base name 0 (slots region base root) none)

-- 38 comes of two hits, or more
record Two (l : List Body) : Type 0 where
  first : Body
  second : Body
  more : List Body
  all : l ≡ first ∷ second ∷ more

two_answer : (l : List Body) → answer_of l ≡ Err TwoTables → Two l
two_answer [] e = cc
two_answer (b ∷ []) e = cc
two_answer (b ∷ c ∷ l) e = record { first = b; second = c; more = l; all = refl }

answer_two : (before : List Body) (b : Body) (between : List Body) (c : Body) (after : List Body) → answer_of (before ++ (b ∷ (between ++ (c ∷ after)))) ≡ Err TwoTables
answer_two [] b [] c after = refl
answer_two [] b (d ∷ between) c after = refl
answer_two (d ∷ []) b between c after = refl
answer_two (d ∷ e ∷ before) b between c after = refl

pub found_two : FoundTwo
found_two region base root name e =
    let w = walked region base root name (Err TwoTables) (omega arith, omega arith) e in
    let two = two_answer (met region base root name) w.1 in
    let p = place region base name 0 (slots region base root) two.first (two.second ∷ two.more) two.all in
    let q = place region base name _ p.after two.second two.more p.others in (
      w.0,
      record {
        before = p.before;
        first = p.address;
        between = q.before;
        second = q.address;
        after = q.after;
        slots = p.all ∙ ap (λ (l : List ℕ). p.before ++ (p.address ∷ l)) q.all;
        first_leads = p.leads_there;
        second_leads = q.leads_there;
      },
    )

pub two_found : TwoFound
two_found region base root name w two =
    let next = suc (0 + length two.before) in
    by_slots region base root name w
    ∙ rw (
      two.slots,
      behind region base name 0 two.before two.first (two.between ++ (two.second ∷ two.after)) two.first_leads,
      behind region base name next two.between two.second two.after two.second_leads,
    )
    (answer_two (hits region base name 0 two.before) _ (hits region base name next two.between) _ _)

-- slots of which none leads there, joined
none_joined : (region : List ℕ) (base : ℕ) (name before after : List ℕ) → NoneLeads region base name before → NoneLeads region base name after → NoneLeads region base name (before ++ after)
none_joined region base name [] after hb ha = ha
none_joined region base name (x ∷ before) after hb ha = (hb.0, none_joined region base name before after hb.1 ha)

pub behind_gap : BehindGap
behind_gap region base root name r before between address after good passed slots h hb hm ha =
    let front = before ++ (0 ∷ between) in
    let none : NoneLeads region base name front =
    none_joined region base name before (0 ∷ between) hb (at_gap region base name 0 refl, hm) in
    in_root_lem region base root name good r passed
    ∙ ap (looked_up region base name) (slots ∙ sym (append_assoc before (0 ∷ between) (address ∷ after)))
    ∙ one_of_all region base name front address after none h ha
    ∙ ap (λ (i : ℕ). Ok (body_at region base i address)) (length-append before (0 ∷ between))

-- the same tables give the same hits
same_hits : (region region' : List ℕ) (base : ℕ) (name : List ℕ) (k : ℕ) (slots : List ℕ) → SameTables region region' base name slots
    → hits region' base name k slots ≡ hits region base name k slots
same_hits region region' base name k [] h = no_slots region' base name k ∙ sym (no_slots region base name k)
same_hits region region' base name k (a ∷ slots) h = go (leads region base name a) refl (same_hits region region' base name (suc k) slots h.2)
  where
    go : (t : Bool) → leads region base name a ≡ t → hits region' base name (suc k) slots ≡ hits region base name (suc k) slots
        → hits region' base name k (a ∷ slots) ≡ hits region base name k (a ∷ slots)
    go true q rest =
        let body : body_at region' base k a ≡ body_at region base k a = ap (λ (n : ℕ). body_of k (record { at = a - base; used = n })) (h.1 q) in
        meets region' base name k a slots (h.0 ∙ q)
        ∙ ap₂ (λ (b : Body) (l : List Body). b ∷ l) body rest
        ∙ sym (meets region base name k a slots q)
    go false q rest = passes_over region' base name k a slots (h.0 ∙ q) ∙ rest ∙ sym (passes_over region base name k a slots q)

-- a hit with the number of each slot from n on one higher
abbrev later : ℕ → Body → Body
later n b = record { slot = cond (ltb b.slot n) b.slot (suc b.slot); at = b.at; length = b.length }

answer_later : (n : ℕ) (l : List Body) → answer_of (map (later n) l) ≡ moved_on n (answer_of l)
answer_later n [] = refl
answer_later n (b ∷ []) = refl
answer_later n (b ∷ c ∷ l) = refl

module _ (region : List ℕ) (base : ℕ) (name : List ℕ) (n : ℕ) where
  -- slots from n on have the next number
  move : (k : ℕ) (slots : List ℕ) → n ≤ k → map (later n) (hits region base name k slots) ≡ hits region base name (suc k) slots
  move k [] h = rw (no_slots region base name k, no_slots region base name (suc k))
  move k (a ∷ slots) h = go (leads region base name a) refl (move (suc k) slots (omega arith))
    where
      go : (t : Bool) → leads region base name a ≡ t → map (later n) (hits region base name (suc k) slots) ≡ hits region base name (suc (suc k)) slots
          → map (later n) (hits region base name k (a ∷ slots)) ≡ hits region base name (suc k) (a ∷ slots)
      go true q rest = rw (meets region base name k a slots q, meets region base name (suc k) a slots q, le-ltb k n h, rest)
      go false q rest = rw (passes_over region base name k a slots q, passes_over region base name (suc k) a slots q) rest

  -- a gap at n
  gap_hits : (k : ℕ) (before after : List ℕ) → k + length before ≡ n
      → hits region base name k (before ++ (0 ∷ after)) ≡ map (later n) (hits region base name k (before ++ after))
  gap_hits k [] after h =
      passes_over region base name k 0 after (at_gap region base name 0 refl) ∙ sym (move k after (omega arith))
  gap_hits k (a ∷ before) after h = go (leads region base name a) refl (gap_hits (suc k) before after (omega arith))
    where
      go : (t : Bool) → leads region base name a ≡ t
          → hits region base name (suc k) (before ++ (0 ∷ after)) ≡ map (later n) (hits region base name (suc k) (before ++ after))
          → hits region base name k (a ∷ (before ++ (0 ∷ after))) ≡ map (later n) (hits region base name k (a ∷ (before ++ after)))
      go true q rest =
          let low : k < n = omega arith in
          rw (meets region base name k a (before ++ (0 ∷ after)) q, meets region base name k a (before ++ after) q, lt-ltb k n low, rest)
      go false q rest =
          rw (passes_over region base name k a (before ++ (0 ∷ after)) q, passes_over region base name k a (before ++ after) q) rest

pub gap_added : GapAdded
gap_added region region' base root root' name r r' before after passed passed' slots slots' same_tables = go (bad_name name) refl
  where
    go : (t : Bool) → bad_name name ≡ t → found region' base root' name ≡ moved_on (length before) (found region base root name)
    go true q = bad_name_lem region' base root' name q ∙ ap (moved_on (length before)) (sym (bad_name_lem region base root name q))
    go false q =
        let start : 0 + length before ≡ length before = omega arith in
        in_root_lem region' base root' name q r' passed'
        ∙ ap (looked_up region' base name) slots'
        ∙ ap answer_of (gap_hits region' base name (length before) 0 before after start ∙ ap (map (later (length before))) (same_hits region region' base name 0 (before ++ after) same_tables))
        ∙ answer_later (length before) (hits region base name 0 (before ++ after))
        ∙ ap (moved_on (length before)) (sym (in_root_lem region base root name q r passed ∙ ap (looked_up region base name) slots))

-- where a table that a slot leads to stands
module _ (region : List ℕ) (base : ℕ) (name : List ℕ) (a : ℕ) (q : leads region base name a ≡ true) where
  body_end : (k : ℕ) → (body_at region base k a).at + (body_at region base k a).length ≤ length region
  body_end k =
      let l = led region base name a q in
      let p = passes_only table_header region base a l.table l.passes in
      let room = length-drop (a - base) region in
      omega (arith, p.sized.holds, p.sized.left, p.sized.inside, room)

pub body_inside : BodyInside
body_inside region base root name b e =
    let one = (found_only region base root name b e).1 in
    rw one.is (body_end region base name one.address one.leads_there (length one.before))

drop-take : (m n : ℕ) (s : List ℕ) → drop m (take n s) ≡ take (n - m) (drop m s)
drop-take zero n s = let all : n - 0 ≡ n = omega arith in rw all
drop-take (suc m) zero s = let none : 0 - suc m ≡ 0 = omega arith in rw none
drop-take (suc m) (suc n) [] = sym (take-nil (suc n - suc m))
drop-take (suc m) (suc n) (x ∷ s) = let less : suc n - suc m ≡ n - m = omega arith in rw less (drop-take m n s)

pub body_bytes : BodyBytes
body_bytes region base slot address =
    let t = table_at region base address in
    rw (← drop-drop table_header (address - base) region) (sym (drop-take table_header (used_of t) t))
