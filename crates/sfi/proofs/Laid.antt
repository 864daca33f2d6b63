-- `laid_passes`: a table of a listed kind that is laid out by the rules passes its checks.
-- Assumes nothing.
use Prim.Native.Nat.{ℕ, ◌+◌, ◌*◌, ◌-◌, ◌%◌, ◌≤◌, ◌<◌}
use mathlib.Core.Bool.{Bool, true, false, not}
use mathlib.Core.Path.{◌≡◌, refl, sym, ap, ap₂, ◌∙◌}
use mathlib.Core.List.{List, ◌++◌, append_assoc}
use borrow.Author.Tests.{le-ltb, eq-eqb, eqb-true}
use native.Mathlib.Nat.{mul-mod_left}
use native.Mathlib.Omega.{arith}
use lib.Dec.{eqb}
use lib.ListN.{length, take, drop, length-append}
use lib.Seq.{take_at, drop_at, drop-drop}
use Rattle.std.specs.Prelude.{Some, Ok}
use Rattle.le.specs.Word.{word, bytes}
use Rattle.le.specs.Sum.{sum, checksum_of}
use Rattle.le.proofs.Words.{word_bytes, length-bytes}
use Rattle.le.proofs.Sums.{checksum}
use Rattle.sfi.specs.Kinds.{wake, kind_of}
use Rattle.sfi.specs.Checks.{header_size, length_max, signature_of, length_of_def, revision_of, bad_length, uneven, is_wake, bad_entries, checked}
use Rattle.sfi.specs.Statements.{head_of, table_of, LaidPasses}
use Rattle.sfi.specs.declared.kind.Kind.{Kind}
use Rattle.sfi.proofs.Listing.{listed}
use Rattle.sfi.proofs.Answers.{good_length, entries_tested, judged_tested, header_tested, sum_tested}
use Rattle.sfi.proofs.Theorems.{kinds_known, same_kind}

module _ (kind : Kind) (revision : ℕ) (oem entries rest : List ℕ)
    (is : kind_of kind.signature ≡ Some kind)
    (from : kind.revision ≤ revision)
    (byte : revision < 256)
    (strings : length oem ≡ 14)
    (most : header_size + length entries ≤ length_max) where
  abbrev total : ℕ
  total = header_size + length entries

  abbrev head : List ℕ
  head = head_of kind revision total

  abbrev table : List ℕ
  table = table_of kind revision oem entries ++ rest

  -- what follows Revision
  abbrev behind : List ℕ
  behind = bytes 1 (checksum_of 1 head (oem ++ entries)) ++ (oem ++ entries) ++ rest

  here : table ≡ bytes 4 kind.signature ++ (bytes 4 total ++ (bytes 1 revision ++ behind))
  here = simp append_assoc

  signature_is : signature_of table ≡ kind.signature
  signature_is = ap (word 4) here ∙ word_bytes 4 kind.signature _ (listed kind.signature kind is).word

  behind_signature : drop 4 table ≡ bytes 4 total ++ (bytes 1 revision ++ behind)
  behind_signature = ap (drop 4) here ∙ drop_at (bytes 4 kind.signature) _ 4 (length-bytes 4 kind.signature)

  length_is : length_of_def table ≡ total
  length_is = ap (word 4) behind_signature ∙ word_bytes 4 total (bytes 1 revision ++ behind) (omega arith)

  revision_is : revision_of table ≡ revision
  revision_is =
      ap (word 1) (sym (drop-drop 4 4 table) ∙ ap (drop 4) behind_signature ∙ drop_at (bytes 4 total) (bytes 1 revision ++ behind) 4 (length-bytes 4 total))
      ∙ word_bytes 1 revision behind byte

  table_length : length (table_of kind revision oem entries) ≡ total
  table_length = simp (length-append, length-bytes) (omega arith)

  head_length : length head ≡ 9
  head_length = simp (length-append, length-bytes)

  sums : sum 1 (take total table) ≡ 0
  sums =
      ap (sum 1) (take_at (table_of kind revision oem entries) rest total table_length)
      ∙ checksum 1 9 head (oem ++ entries) (omega arith) (head_length ∙ omega arith)

  good : bad_length (length table) (length_of_def table) ≡ false
  good =
      let size : length table ≡ total + length rest = length-append (table_of kind revision oem entries) rest ∙ ap (λ (n : ℕ). n + length rest) table_length in
      rw (length_is, size) (good_length (total + length rest) total (record { slice = omega arith; least = omega arith; most = most; inside = omega arith }))

  laid : bad_entries kind total ≡ false → checked table ≡ Ok (record { kind = kind; length = total })
  laid even =
      sum_tested table (record { kind = kind; length = total })
      (header_tested (length table) table good (ap (λ (n : ℕ). kind_of n) signature_is ∙ is)
      ∙ judged_tested kind table (sym length_is) (le-ltb (revision_of table) kind.revision (omega (arith, revision_is))) even)
      (ap (λ (n : ℕ). not (eqb n 0)) sums)

-- whole entries, and one for WAKE, make a good Length
whole_entries : (kind : Kind) (n total : ℕ) → kind_of kind.signature ≡ Some kind → total ≡ header_size + n * kind.entry → (kind.signature ≡ wake.signature → n ≡ 1)
    → bad_entries kind total ≡ false
whole_entries kind n total is long one = go (is_wake kind) refl
  where
    even : uneven kind total ≡ false
    even =
        let entries : total - header_size ≡ n * kind.entry = omega arith in
        ap not (eq-eqb _ _ (ap (λ (k : ℕ). k % kind.entry) entries ∙ mul-mod_left n kind.entry))

    go : (t : Bool) → is_wake kind ≡ t → bad_entries kind total ≡ false
    go true q =
        let signed = eqb-true kind.signature wake.signature q in
        let same : kind ≡ wake = same_kind wake.signature kind wake (ap (λ (k : ℕ). kind_of k) (sym signed) ∙ is) kinds_known.9 in
        let single : total ≡ 32 = long ∙ ap₂ (λ (k : ℕ) (x : Kind). header_size + k * x.entry) (one signed) same in
        entries_tested kind total even q (ap not (eq-eqb _ _ single))
    go false q = entries_tested kind total even q refl

pub laid_passes : LaidPasses
laid_passes kind revision n oem entries rest is from byte strings whole one most =
    laid kind revision oem entries rest is from byte strings most (whole_entries kind n (header_size + length entries) is (ap (λ (k : ℕ). header_size + k) whole) one)
