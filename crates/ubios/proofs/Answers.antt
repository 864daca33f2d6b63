-- The laws of the checks: what the tests of each chain say together, and what is known of what passes.
-- Assumes nothing.
use Rattle.std.specs.Prelude.{Result, Ok, Err}
use Rattle.std.proofs.lemmas.Bool.{or_parts}
use Prim.Native.Nat.{ℕ, ◌+◌, ◌-◌, ◌≤◌, ◌<◌}
use mathlib.Core.Bool.{Bool, true, false, cond, ◌||◌}
use mathlib.Core.Path.{◌≡◌, refl, sym, ap₂, subst, ◌∙◌}
use mathlib.Core.List.{List}
use borrow.Author.Tests.{le-ltb, ltb-false, eqb-true, not-false}
use native.Mathlib.Omega.{arith}
use lib.ListN.{length}
use Rattle.le.proofs.Tests.{past, either}
use Rattle.le.proofs.Comparing.{same_true}
use Rattle.region.specs.Region.{outside}
use Rattle.region.proofs.Answers.{not_outside}
use Rattle.ubios.specs.Layout.{root_header, total_max, count_max, name_of, total_of, remaining_of, used_of, summed_part, root_name, count_of}
use Rattle.ubios.specs.Checks.{number_of, table_at, misaligned, under_header, over_most, past_region, over_rest, bad_size, wrong_version, wrong_sum, judged, checked, not_root, many_slots, past_used, bad_count, root_judged, root_after, root_checked}
use Rattle.ubios.specs.Statements.{Sized, PassesOnly, Rooted, RootPassesOnly, RootRefusals}
use Rattle.ubios.specs.declared.Table.{Table}
use Rattle.ubios.specs.declared.Root.{Root}
use Rattle.ubios.specs.declared.Reason.{Reason}
use Rattle.ubios.specs.declared.Reason.TheVariants.{Outside, Misaligned, BadSize, WrongVersion, WrongSum, NotRoot, BadCount}

-- 32 by its tests, and what is known of sizes that are good
module _ (header size total remaining : ℕ) where
  pub sizes_tested : {a b c d : Bool} → under_header header total ≡ a → over_most total ≡ b → past_region size total ≡ c → over_rest header total remaining ≡ d
      → bad_size header size total remaining ≡ a || (b || (c || d))
  unfolding bad_size
  sizes_tested p q r s = ap₂ ◌||◌ p (ap₂ ◌||◌ q (ap₂ ◌||◌ r s))

  pub good_size : Sized header size total remaining → bad_size header size total remaining ≡ false
  good_size s = sizes_tested (le-ltb _ _ s.holds) (le-ltb _ _ s.most) (le-ltb _ _ s.inside) (le-ltb _ _ s.left)

  pub sized : bad_size header size total remaining ≡ false → Sized header size total remaining
  unfolding bad_size
  sized e =
      let p = or_parts (under_header header total) _ e in
      let q = or_parts (over_most total) _ p.1 in
      let r = or_parts (past_region size total) _ q.1 in
      record { holds = ltb-false _ _ p.0; most = omega (arith, ltb-false total_max total q.0); inside = ltb-false _ _ r.0; left = ltb-false _ _ r.1 }

  -- no size is good where there is less than a header
  pub short_size : size < header → bad_size header size total remaining ≡ true
  short_size short = go (bad_size header size total remaining) refl
    where
      go : (bad : Bool) → bad_size header size total remaining ≡ bad → bad ≡ true
      go true e = refl
      go false e = let s = sized e in absurd (omega (arith, s.holds, s.inside))

-- 32, 33, 34
pub judged_tested : (header at : ℕ) (t : List ℕ) {a b c : Bool} → bad_size header (length t) (total_of t) (remaining_of t) ≡ a → wrong_version t ≡ b → wrong_sum (summed_part t) ≡ c
    → judged header at t ≡ cond a (Err BadSize) (cond b (Err WrongVersion) (cond c (Err WrongSum) (Ok (record { at = at; used = used_of t }))))
unfolding judged
judged_tested header at t p q r = rw (p, q, r)

-- 31, 30, and what is left to them
pub checked_tested : (header : ℕ) (region : List ℕ) (base address : ℕ) {a b : Bool} → misaligned address ≡ a → outside header (length region) base address ≡ b
    → checked header region base address
    ≡ cond a (Err Misaligned) (cond b (Err Outside) (judged header (address - base) (table_at region base address)))
unfolding checked
checked_tested header region base address p q = rw (p, q)

pub passes_only : PassesOnly
unfolding checked judged
passes_only header region base address table e =
    let t = table_at region base address in
    let a = past (misaligned address) (λ q. cc) e in
    let o = past (outside header (length region) base address) (λ q. cc) a.1 in
    let s = past (bad_size header (length t) (total_of t) (remaining_of t)) (λ q. cc) o.1 in
    let v = past (wrong_version t) (λ q. cc) s.1 in
    let z = past (wrong_sum (summed_part t)) (λ q. cc) v.1 in
    record {
      aligned = eqb-true _ _ (not-false _ a.0);
      inside = not_outside header (length region) base address o.0;
      sized = sized header (length t) (total_of t) (remaining_of t) s.0;
      one = eqb-true _ _ (not-false _ v.0);
      zero = eqb-true _ _ (not-false _ z.0);
      is = let all = z.1 in cc;
    }

-- a passing table's header lies in the region and in its used part
pub header_fits : (header : ℕ) (region : List ℕ) (base address : ℕ) (table : Table) → checked header region base address ≡ Ok table → table.at + header ≤ length region
header_fits header region base address table e =
    let p = passes_only header region base address table e in
    rw p.is (omega (arith, p.inside.start, p.inside.end))

pub header_used : (header : ℕ) (region : List ℕ) (base address : ℕ) (table : Table) → checked header region base address ≡ Ok table → header ≤ table.used
header_used header region base address table e =
    let p = passes_only header region base address table e in
    rw p.is (omega (arith, p.sized.holds, p.sized.left))

-- 36 by its tests
pub count_tested : (used count : ℕ) {a b : Bool} → many_slots count ≡ a → past_used used count ≡ b → bad_count used count ≡ a || b
unfolding bad_count
count_tested used count p q = ap₂ ◌||◌ p q

-- 35 and 36, with Count as it was read
pub root_tested : (table : Table) (t : List ℕ) {n : ℕ} {a b : Bool} → n ≡ count_of t → not_root t ≡ a → bad_count table.used n ≡ b
    → root_judged table t ≡ cond a (Err NotRoot) (cond b (Err BadCount) (Ok (record { table = table; count = n })))
unfolding root_judged
root_tested table t read p q = rw (p, ← read, q)

-- what the checks of a table leave to those of the root
pub root_after_lem : (region : List ℕ) (base address : ℕ) {c : Result Table Reason} → checked root_header region base address ≡ c
    → root_checked region base address ≡ root_after c (table_at region base address)
unfolding root_checked
root_after_lem region base address e = rw e

pub root_passes_only : RootPassesOnly
unfolding bad_count root_judged
root_passes_only region base address root e = go (checked root_header region base address) refl
  where
    t : List ℕ
    t = table_at region base address

    go : (c : Result Table Reason) → checked root_header region base address ≡ c → Rooted region base address root
    go (Err reason) p = let z = sym (root_after_lem region base address p) ∙ e in cc
    go (Ok table) p =
        let n = past (not_root t) (λ z. cc) (sym (root_after_lem region base address p) ∙ e) in
        let c = past (bad_count table.used (count_of t)) (λ z. cc) n.1 in
        let is : record { table = table; count = count_of t } ≡ root = let all = c.1 in cc in
        let slots = or_parts (many_slots (count_of t)) _ c.0 in
        subst (Rooted region base address) is
        (record {
          table = passes_only root_header region base address table p;
          named = same_true (name_of t) root_name (not-false _ n.0);
          few = omega (arith, ltb-false count_max (count_of t) slots.0);
          room = ltb-false _ _ slots.1;
          count = refl;
        })

-- the numbers of the root's refusals
abbrev Numbered : Result Root Reason → Type 0
Numbered (Ok root) = Unit {0}
Numbered (Err reason) = (30 ≤ number_of reason) × (number_of reason ≤ 36)

pub root_refusals : RootRefusals
unfolding checked judged root_checked root_judged
root_refusals region base address reason e = subst Numbered e numbered
  where
    t : List ℕ
    t = table_at region base address

    After : Result Table Reason → Type 0
    After c = Numbered (root_after c t)

    numbered : Numbered (root_checked region base address)
    numbered =
        either After (misaligned address) (omega arith, omega arith)
        (either After (outside root_header (length region) base address) (omega arith, omega arith)
        (either After (bad_size root_header (length t) (total_of t) (remaining_of t)) (omega arith, omega arith)
        (either After (wrong_version t) (omega arith, omega arith)
        (either After (wrong_sum (summed_part t)) (omega arith, omega arith)
        (either Numbered (not_root t) (omega arith, omega arith)
        (either Numbered (bad_count (used_of t) (count_of t)) (omega arith, omega arith) tt))))))
