-- The laws of the checks: one for each answer, with what leads there.
-- Assumes nothing.
use Rattle.std.proofs.lemmas.Bool.{or_parts}
use Prim.Native.Nat.{ℕ, ◌+◌, ◌*◌, ◌/◌, ◌≤◌, ◌<◌}
use mathlib.Core.Bool.{Bool, true, false, cond, ◌&&◌, ◌||◌}
use mathlib.Core.Path.{◌≡◌, refl, sym, ap, ap₂, subst, ◌∙◌}
use mathlib.Core.List.{List}
use borrow.Author.Tests.{lt-ltb, le-ltb, eq-eqb, ltb-true, ltb-false, eqb-true, not-false}
use native.Mathlib.Nat.{suc-mul, le-div_iff_mul-le}
use native.Mathlib.Omega.{arith}
use lib.Dec.{eqb}
use lib.ListN.{length}
use Rattle.std.specs.Prelude.{Option, None, Some, Result, Ok, Err}
use Rattle.le.specs.Sum.{sum}
use Rattle.le.proofs.Tests.{apart, past}
use Rattle.sfi.specs.Kinds.{kind_of}
use Rattle.sfi.specs.Checks.{length_max, signature_of, length_of_def, revision_of, short_slice, under_header, over_most, past_slice, bad_length, older_revision, uneven, is_wake, not_one_entry, bad_entries, judged, judged_as, header_checked, summed_part, wrong_sum, summed, checked, entries_of, entry_at, entry_of, passes_as_def}
use Rattle.sfi.specs.Statements.{Sized, Passing, PassesOnly, Older, OlderRefused, RefusedOlder}
use Rattle.sfi.specs.declared.kind.Kind.{Kind}
use Rattle.sfi.specs.declared.Table.{Table}
use Rattle.sfi.specs.declared.Reason.{Reason}
use Rattle.sfi.specs.declared.Reason.TheVariants.{BadLength, WrongSum, BadEntries, WrongRevision, NoEntry}
use Rattle.sfi.proofs.Listing.{listed}

-- 40 by its tests, and what is known of a length that is good
module _ (size total : ℕ) where
  pub length_tested : {a b c d : Bool} → short_slice size ≡ a → under_header total ≡ b → over_most total ≡ c → past_slice size total ≡ d
      → bad_length size total ≡ a || (b || (c || d))
  unfolding bad_length
  length_tested p q r s = ap₂ ◌||◌ p (ap₂ ◌||◌ q (ap₂ ◌||◌ r s))

  pub good_length : Sized size total → bad_length size total ≡ false
  good_length s = length_tested (le-ltb _ _ s.slice) (le-ltb _ _ s.least) (le-ltb _ _ s.most) (le-ltb _ _ s.inside)

  pub sized : bad_length size total ≡ false → Sized size total
  unfolding bad_length
  sized e =
      let p = or_parts (short_slice size) _ e in
      let q = or_parts (under_header total) _ p.1 in
      let r = or_parts (over_most total) _ q.1 in
      record { slice = ltb-false _ _ p.0; least = ltb-false _ _ q.0; most = omega (arith, ltb-false length_max total r.0); inside = ltb-false _ _ r.1 }

-- 43 by its tests
pub entries_tested : (kind : Kind) (total : ℕ) {a b c : Bool} → uneven kind total ≡ a → is_wake kind ≡ b → not_one_entry total ≡ c → bad_entries kind total ≡ a || (b && c)
unfolding bad_entries
entries_tested kind total p q r = ap₂ ◌||◌ p (ap₂ ◌&&◌ q r)

-- 44 and 43, with Length as it was read
pub judged_tested : (kind : Kind) (header : List ℕ) {n : ℕ} {a b : Bool} → n ≡ length_of_def header → older_revision kind (revision_of header) ≡ a → bad_entries kind n ≡ b
    → judged kind header ≡ cond a (Err WrongRevision) (cond b (Err BadEntries) (Ok (record { kind = kind; length = n })))
unfolding judged
judged_tested kind header read p q = rw (p, ← read, q)

-- 40, 42, and what is left to them
pub header_tested : (size : ℕ) (header : List ℕ) {a : Bool} {m : Option Kind} → bad_length size (length_of_def header) ≡ a → kind_of (signature_of header) ≡ m
    → header_checked size header ≡ cond a (Err BadLength) (judged_as m header)
unfolding header_checked
header_tested size header p q = ap₂ (λ (a : Bool) (m : Option Kind). cond a (Err BadLength) (judged_as m header)) p q

-- what the header leaves to the sum, and 41
pub header_then : (t : List ℕ) {c : Result Table Reason} → header_checked (length t) t ≡ c → checked t ≡ summed c t
unfolding checked
header_then t e = rw e

pub sum_tested : (t : List ℕ) (table : Table) {a : Bool} → header_checked (length t) t ≡ Ok table → wrong_sum (summed_part table t) ≡ a
    → checked t ≡ cond a (Err WrongSum) (Ok table)
sum_tested t table p q = header_then t p ∙ rw q

-- 44 comes from the header, and there from the test of Revision
refused_by_header : (t : List ℕ) (c : Result Table Reason) → header_checked (length t) t ≡ c → checked t ≡ Err WrongRevision → c ≡ Err WrongRevision
refused_by_header t (Err reason) q e = sym (header_then t q) ∙ e
refused_by_header t (Ok table) q e = let z = (past (wrong_sum (summed_part table t)) (λ x. apart (cc)) (sym (header_then t q) ∙ e)).1 in apart (cc)

refused_by_revision : (kind : Kind) (t : List ℕ) (b : Bool) → older_revision kind (revision_of t) ≡ b → judged kind t ≡ Err WrongRevision → b ≡ true
refused_by_revision kind t true q e = refl
refused_by_revision kind t false q e =
    let z = (past (bad_entries kind (length_of_def t)) (λ x. apart (cc)) (sym (judged_tested kind t refl q refl) ∙ e)).1 in apart (cc)

pub refused_older : RefusedOlder
unfolding header_checked
refused_older t e =
    let s = past (bad_length (length t) (length_of_def t)) (λ q. apart (cc)) (refused_by_header t _ refl e) in
    go (sized (length t) (length_of_def t) s.0) (kind_of (signature_of t)) refl s.1
  where
    go : Sized (length t) (length_of_def t) → (m : Option Kind) → kind_of (signature_of t) ≡ m → judged_as m t ≡ Err WrongRevision → Older t
    go s None q e = apart (cc)
    go s (Some k) q e = record { kind = k; sized = s; known = q; below = ltb-true _ _ (refused_by_revision k t _ refl e) }

pub older_refused : OlderRefused
older_refused t h =
    header_then t
    (header_tested (length t) t (good_length _ _ h.sized) h.known
    ∙ judged_tested h.kind t refl (lt-ltb _ _ h.below) refl)

-- what passes has a header that does, and its sum
pub past_sum : (t : List ℕ) (table : Table) → checked t ≡ Ok table → (header_checked (length t) t ≡ Ok table) × (sum 1 (summed_part table t) ≡ 0)
past_sum t table e = go (header_checked (length t) t) refl
  where
    go : (c : Result Table Reason) → header_checked (length t) t ≡ c → (header_checked (length t) t ≡ Ok table) × (sum 1 (summed_part table t) ≡ 0)
    go (Err reason) q = let z = sym (header_then t q) ∙ e in apart (cc)
    go (Ok found) q =
        let z = past (wrong_sum (summed_part found t)) (λ x. apart (cc)) (sym (header_then t q) ∙ e) in
        let is : found ≡ table = let all = z.1 in cc in
        (q ∙ ap Ok is, ap (λ (x : Table). sum 1 (summed_part x t)) (sym is) ∙ eqb-true _ _ (not-false _ z.0))

pub passes_only : PassesOnly
unfolding header_checked judged bad_entries
passes_only t table e =
    let z = past_sum t table e in
    let s = past (bad_length (length t) (length_of_def t)) (λ q. apart (cc)) z.0 in
    go (sized (length t) (length_of_def t) s.0) z.1 (kind_of (signature_of t)) refl s.1
  where
    go : Sized (length t) (length_of_def t) → sum 1 (summed_part table t) ≡ 0 → (m : Option Kind) → kind_of (signature_of t) ≡ m → judged_as m t ≡ Ok table → Passing t table
    go s z None q e = apart (cc)
    go s z (Some k) q e =
        let r = past (older_revision k (revision_of t)) (λ x. apart (cc)) e in
        let n = past (bad_entries k (length_of_def t)) (λ x. apart (cc)) r.1 in
        let even = (or_parts (uneven k (length_of_def t)) _ n.0).0 in
        let is : record { kind = k; length = length_of_def t } ≡ table = let all = n.1 in cc in
        subst (Passing t) is
        (record {
          sized = s;
          kind = q;
          signed = (listed (signature_of t) k q).signed;
          revision = ltb-false _ _ r.0;
          entries = eqb-true _ _ (not-false _ even);
          one_entry = λ w. eqb-true _ _ (not-false _ (sym (entries_tested k (length_of_def t) even (eq-eqb _ _ (ap (λ (x : Kind). x.signature) w)) refl) ∙ n.0));
          zero = ap (λ (x : Table). sum 1 (summed_part x t)) is ∙ z;
          length_is = refl;
        })

-- a table that passes has the signature of its kind
pub passes_as : (t : List ℕ) (table : Table) (signature : ℕ) → checked t ≡ Ok table → passes_as_def signature (checked t) ≡ eqb (signature_of t) signature
passes_as t table signature e = rw (e, (passes_only t table e).signed)

pub fails_as : (t : List ℕ) (reason : Reason) (signature : ℕ) → checked t ≡ Err reason → passes_as_def signature (checked t) ≡ false
fails_as t reason signature e = rw e

-- an entry that a table has ends where the table does, or before
pub entry_end : (total size k : ℕ) → 0 < size → k < total / size → k * size + size ≤ total
entry_end total size k some h = omega (arith, suc-mul k size, (le-div_iff_mul-le some).0 h)

-- the entries
module _ (t : List ℕ) (k : ℕ) where
  module _ (table : Table) (passes : checked t ≡ Ok table) where
    pub has_entry : k < entries_of table → entry_of t k ≡ Ok (entry_at table k)
    has_entry h = rw (passes, lt-ltb k (entries_of table) h)

    pub no_entry : entries_of table ≤ k → entry_of t k ≡ Err NoEntry
    no_entry h = rw (passes, le-ltb k (entries_of table) h)
