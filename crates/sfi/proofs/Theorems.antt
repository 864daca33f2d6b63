-- The theorems of `specs/Statements.antt` on signatures, the search, entries and the choice.
-- Assumes nothing.
use Rattle.std.proofs.lemmas.Bool.{and_parts}
use Prim.Native.Nat.{ℕ, zero, suc, ◌+◌, ◌*◌, ◌-◌, ◌/◌, ◌%◌, ◌≤◌, ◌<◌}
use mathlib.Core.Bool.{Bool, true, false, cond, not}
use mathlib.Core.Path.{◌≡◌, refl, sym, ap, subst, ◌∙◌}
use mathlib.Core.List.{List, []}
use borrow.Author.Count.{below_more}
use borrow.Author.Tests.{lt-ltb, ltb-true, ltb-false, leb-true, eqb-true, eqb-false}
use native.Mathlib.Nat.{suc-mul, le-div_iff_mul-le, div-lt_iff_lt-mul}
use native.Mathlib.Omega.{arith}
use lib.Dec.{ltb, eqb}
use lib.ListN.{length, take, drop, drop_of_length-le}
use lib.Seq.{length-take-le, take_all, take-take}
use Rattle.std.specs.Prelude.{Option, None, Some, Result, Ok, Err}
use Rattle.le.specs.Word.{word}
use Rattle.le.proofs.Words.{word_within}
use Rattle.le.proofs.Tests.{apart, never}
use Rattle.sfi.specs.Kinds.{syst, among, kind_of}
use Rattle.sfi.specs.Checks.{header_size, signature_of, length_of_def, bad_length, judged, judged_as, header_checked, summed_part, wrong_sum, checked, entries_of, entry_at, passes_as_def}
use Rattle.sfi.specs.Search.{memory_size, step, tries, in_page, is_hit_def, located}
use Rattle.sfi.specs.Statements.{SignaturesSpell, KindsKnown, RevisionsFit, HeaderAlone, Hit, HitIs, IsHit, FoundLowest, LowestFound, NoHit, NoneFound, Inside, EntryInside, EntryExactly, Chooses, Whole, PartPasses}
use Rattle.sfi.specs.Choice.{asked, chosen, part_of}
use Rattle.sfi.specs.declared.kind.Kind.{Kind}
use Rattle.sfi.specs.declared.Table.{Table}
use Rattle.sfi.specs.declared.Reason.{Reason}
use Rattle.sfi.specs.declared.Reason.TheVariants.{BadLength, UnknownSignature, BadMemory, NoSyst, Neither}
use Rattle.sfi.specs.declared.choice.Source.{Source}
use Rattle.sfi.specs.declared.choice.Source.TheVariants.{Board, BuiltIn}
use Rattle.sfi.proofs.Listing.{listed}
use Rattle.sfi.proofs.Answers.{length_tested, good_length, header_tested, header_then, sum_tested, past_sum, passes_only, passes_as, entry_end, has_entry, no_entry, fails_as}
use Rattle.sfi.proofs.Searching.{fails, hit, from, over, at, end, none_to, bad_memory, searched, between_tested}

pub signatures_spell : SignaturesSpell
unfolding word
signatures_spell = (refl, refl, refl, refl, refl, refl, refl, refl, refl, refl)

pub kinds_known : KindsKnown
unfolding among
kinds_known = (refl, refl, refl, refl, refl, refl, refl, refl, refl, refl)

pub revisions_fit : RevisionsFit
revisions_fit signature kind e = let h = listed signature kind e in (h.not_zero, omega (arith, h.byte))

-- one kind has one signature
pub same_kind : (signature : ℕ) (j k : Kind) → kind_of signature ≡ Some j → kind_of signature ≡ Some k → j ≡ k
same_kind signature j k ej ek = cc

-- a hit taken apart
pub hit_is : HitIs
unfolding is_hit_def
hit_is memory offset e = go (checked (drop offset memory)) refl
  where
    t : List ℕ
    t = drop offset memory

    p : (passes_as_def syst.signature (checked t) ≡ true) × (in_page offset (length_of_def t) ≡ true)
    p = and_parts (passes_as_def syst.signature (checked t)) (in_page offset (length_of_def t)) e

    go : (c : Result Table Reason) → checked t ≡ c → Hit memory offset
    go (Err reason) q = never (sym p.0 ∙ fails_as t reason syst.signature q)
    go (Ok table) q =
        let known = passes_only t table q in
        let signed : signature_of t ≡ syst.signature = eqb-true (signature_of t) syst.signature (sym (passes_as t table syst.signature q) ∙ p.0) in
        let page = leb-true (offset % 4096 + length_of_def t) 4096 p.1 in
        record {
          table = table;
          passes = q;
          kind = same_kind syst.signature table.kind syst (ap (λ (n : ℕ). kind_of n) (sym signed) ∙ known.kind) kinds_known.0;
          page = omega (arith, known.length_is, known.sized.least, page);
        }

pub is_hit : IsHit
is_hit memory offset h =
    let t = drop offset memory in
    let known = passes_only t h.table h.passes in
    let signed : signature_of t ≡ syst.signature =
    (listed (signature_of t) h.table.kind known.kind).signed ∙ ap (λ (k : Kind). k.signature) h.kind in
    hit memory offset h.table h.passes signed (omega (arith, known.length_is, known.sized.least, h.page))

-- no hit lies behind the memory
beyond : (memory : List ℕ) (o : ℕ) → length memory ≤ o → is_hit_def memory o ≡ false
beyond memory o h =
    let none : drop o memory ≡ [] = drop_of_length-le memory {i = o} h in
    let short : length (drop o memory) ≡ 0 = ap length none in
    fails memory o BadLength (header_then _ (header_tested _ _ (length_tested _ _ (lt-ltb (length (drop o memory)) header_size (omega arith)) refl refl refl) refl))

-- no hit among the first n places
abbrev NoneTo : List ℕ → ℕ → Type 0
NoneTo memory n = (j : ℕ) → j < n → is_hit_def memory (step * j) ≡ false

-- what the search from the i-th place on says
record FoundAt (memory : List ℕ) (offset : ℕ) : Type 0 where
  i : ℕ
  place : offset ≡ step * i
  hit_there : is_hit_def memory (step * i) ≡ true
  none_before : NoneTo memory i

abbrev Ends : List ℕ → Result ℕ Reason → Type 0
Ends memory (Ok offset) = FoundAt memory offset
Ends memory (Err reason) = NoneTo memory tries

ends : (memory : List ℕ) (fuel i : ℕ) → tries ≤ i + fuel → NoneTo memory i → Ends memory (from memory i)
ends memory zero i enough none = rw (end memory i (omega arith)) (λ j h. none j (omega arith))
ends memory (suc fuel) i enough none = by_end (ltb i tries) refl (ends memory fuel (i + 1) (omega arith))
  where
    by_hit : i < tries → (t : Bool) → is_hit_def memory (step * i) ≡ t → (NoneTo memory (i + 1) → Ends memory (from memory (i + 1))) → Ends memory (from memory i)
    by_hit h true q later = rw (at memory i h q) (record { i = i; place = refl; hit_there = q; none_before = none })
    by_hit h false q later = rw (over memory i h q) (later (below_more (λ (j : ℕ). is_hit_def memory (step * j) ≡ false) i none q))

    by_end : (t : Bool) → ltb i tries ≡ t → (NoneTo memory (i + 1) → Ends memory (from memory (i + 1))) → Ends memory (from memory i)
    by_end true q later = by_hit (ltb-true i tries q) (is_hit_def memory (step * i)) refl later
    by_end false q later = rw (end memory i (ltb-false i tries q)) (λ j h. none j (omega (arith, ltb-false i tries q)))

-- memory that is searched has that size
module _ (memory : List ℕ) where
  of_size : (f : Result ℕ Reason) → located memory ≡ f → (f ≡ Err BadMemory → ⊥) → length memory ≡ memory_size
  of_size f e other = go (eqb (length memory) memory_size) refl
    where
      go : (t : Bool) → eqb (length memory) memory_size ≡ t → length memory ≡ memory_size
      go true q = eqb-true (length memory) memory_size q
      go false q = absurd (other (sym e ∙ bad_memory memory (eqb-false (length memory) memory_size q)))

  from_start : (f : Result ℕ Reason) → located memory ≡ f → (f ≡ Err BadMemory → ⊥) → Ends memory f
  from_start f e other =
      subst (Ends memory) (sym (searched memory (of_size f e other)) ∙ e) (ends memory tries 0 (omega arith) (λ j h. absurd (omega arith)))

  -- places that are told by their offset, and by their number
  by_number : (n : ℕ) → ((o : ℕ) → o < step * n → o % 16 ≡ 0 → is_hit_def memory o ≡ false) → NoneTo memory n
  by_number n none j h = none (step * j) (omega arith) (omega arith)

  by_offset : (n : ℕ) → NoneTo memory n → (o : ℕ) → o < step * n → o % 16 ≡ 0 → is_hit_def memory o ≡ false
  by_offset n none o h sixteenth =
      let is : step * (o / 16) ≡ o = omega arith in
      rw (← is) (none (o / 16) (omega arith))

pub found_lowest : FoundLowest
found_lowest memory offset e =
    let f = from_start memory (Ok offset) e (λ z. apart (cc)) in
    record {
      sixteenth = omega (arith, f.place);
      hit = rw f.place f.hit_there;
      none_below = λ o h sixteenth. by_offset memory f.i f.none_before o (omega (arith, f.place)) sixteenth;
    }

pub lowest_found : LowestFound
lowest_found memory offset size low = go (ltb offset 131072) refl
  where
    i : ℕ
    i = offset / 16

    place : step * i ≡ offset
    place = omega (arith, low.sixteenth)

    go : (t : Bool) → ltb offset 131072 ≡ t → located memory ≡ Ok offset
    go true q =
        let inside = ltb-true offset 131072 q in
        searched memory size
        ∙ none_to memory i (omega arith) (by_number memory i (λ o h s. low.none_below o (omega arith) s))
        ∙ at memory i (omega arith) (rw place low.hit)
        ∙ ap Ok place
    go false q = never (sym low.hit ∙ beyond memory offset (omega (arith, ltb-false offset 131072 q)))

pub no_hit : NoHit
no_hit memory e o sixteenth = go (ltb o 131072) refl
  where
    size : length memory ≡ memory_size
    size = of_size memory (Err NoSyst) e (λ z. apart (cc))

    none : NoneTo memory tries
    none = from_start memory (Err NoSyst) e (λ z. apart (cc))

    go : (t : Bool) → ltb o 131072 ≡ t → is_hit_def memory o ≡ false
    go true q = by_offset memory tries none o (omega (arith, ltb-true o 131072 q)) sixteenth
    go false q = beyond memory o (omega (arith, size, ltb-false o 131072 q))

pub none_found : NoneFound
none_found memory size none =
    searched memory size
    ∙ none_to memory tries (omega arith) (by_number memory tries (λ o h s. none o s))
    ∙ end memory tries (omega arith)

pub entry_inside : EntryInside
entry_inside t table k offset passes e = go (ltb k (entries_of table)) refl
  where
    go : (b : Bool) → ltb k (entries_of table) ≡ b → Inside t table k offset
    go true q =
        let h = ltb-true k (entries_of table) q in
        let p = passes_only t table passes in
        let z = sym (has_entry t k table passes h) ∙ e in
        let place : offset ≡ entry_at table k = cc in
        let fits = entry_end (table.length - header_size) table.kind.entry k (listed (signature_of t) table.kind p.kind).entries h in
        record {
          place = place;
          end = omega (arith, p.sized.least, p.length_is);
          in_slice = omega (arith, p.length_is, p.sized.inside);
        }
    go false q = let z = sym (no_entry t k table passes (ltb-false k (entries_of table) q)) ∙ e in apart (cc)

pub entry_exactly : EntryExactly
entry_exactly t table k passes =
    let p = passes_only t table passes in
    let some = (listed (signature_of t) table.kind p.kind).entries in (
      λ h. has_entry t k table passes ((le-div_iff_mul-le some).1 (rw suc-mul (omega (arith, p.length_is, p.sized.least)))),
      λ h. no_entry t k table passes (omega (arith, (div-lt_iff_lt-mul {x = table.length - header_size} {y = suc k} some).1 (rw suc-mul (omega (arith, p.length_is, p.sized.least))))),
    )

-- a word of the header stands in the first n bytes, if these are 24 or more
same_word : (k i n : ℕ) (t : List ℕ) → i + k ≤ header_size → header_size ≤ n → word k (drop i (take n t)) ≡ word k (drop i t)
same_word k i n t fits h = go (ltb (length t) n) refl
  where
    go : (b : Bool) → ltb (length t) n ≡ b → word k (drop i (take n t)) ≡ word k (drop i t)
    go true q = ap (λ (s : List ℕ). word k (drop i s)) (take_all n t (omega (arith, ltb-true (length t) n q)))
    go false q = word_within k i n t (omega arith) (ltb-false (length t) n q)

pub header_alone : HeaderAlone
unfolding header_checked judged
header_alone size n t h = rw (read_length, same_word 4 0 n t (omega arith) h, same_judged (kind_of (signature_of t)))
  where
    read_length : length_of_def (take n t) ≡ length_of_def t
    read_length = same_word 4 4 n t (omega arith) h

    same_judged : (m : Option Kind) → judged_as m (take n t) ≡ judged_as m t
    same_judged None = refl
    same_judged (Some k) = rw (same_word 1 8 n t (omega arith) h, read_length)

-- The first Length bytes of a table that passes are a table with the same answer.
module _ (t : List ℕ) (table : Table) (passed : checked t ≡ Ok table) where
  abbrev part : List ℕ
  part = take (length_of_def t) t

  part_length : length part ≡ length_of_def t
  part_length = length-take-le (length_of_def t) t (passes_only t table passed).sized.inside

  same_length : length_of_def part ≡ length_of_def t
  same_length = same_word 4 4 (length_of_def t) t (omega arith) (passes_only t table passed).sized.least

  part_checked : checked part ≡ Ok table
  part_checked =
      let p = passes_only t table passed in
      let good : bad_length (length part) (length_of_def t) ≡ false =
      rw part_length (good_length (length_of_def t) (length_of_def t) (record { slice = p.sized.least; least = p.sized.least; most = p.sized.most; inside = omega arith })) in
      let same-part : summed_part table part ≡ summed_part table t = take-take table.length (length_of_def t) t (omega (arith, p.length_is)) in
      sum_tested part table
      (header_alone (length part) (length_of_def t) t p.sized.least
      ∙ header_tested (length part) t good refl
      ∙ sym (header_tested (length t) t (good_length (length t) (length_of_def t) p.sized) refl)
      ∙ (past_sum t table passed).0)
      (ap (λ (s : List ℕ). wrong_sum s) same-part ∙ ap (λ (n : ℕ). not (eqb n 0)) (past_sum t table passed).1)

-- what is chosen passes
whole : (signature : ℕ) (t : List ℕ) → passes_as_def signature (checked t) ≡ true → Whole signature t (take (length_of_def t) t)
whole signature t h = go (checked t) refl
  where
    go : (c : Result Table Reason) → checked t ≡ c → Whole signature t (take (length_of_def t) t)
    go (Ok table) q =
        let same = part_checked t table q ∙ sym q in
        record {
          passes = ap (passes_as_def signature) same ∙ h;
          same_answer = same;
          all = same_length t table q ∙ sym (part_length t table q);
        }
    go (Err reason) q = never (sym h ∙ fails_as t reason signature q)

module _ (signature : ℕ) (board built_in : List ℕ) where
  abbrev on_board : Bool
  on_board = passes_as_def signature (checked board)

  abbrev in_built : Bool
  in_built = passes_as_def signature (checked built_in)

  -- one of the two is chosen only by these tests
  of_the_two : (m : Option Kind) (c : Result Source Reason) → ((reason : Reason) → c ≡ Err reason → ⊥) → asked m signature board built_in ≡ c
      → cond on_board (Ok Board) (cond in_built (Ok BuiltIn) (Err Neither)) ≡ c
  of_the_two (Some k) c some e = sym (between_tested signature board built_in refl refl) ∙ e
  of_the_two None c some e = absurd (some UnknownSignature (sym e))

  board_passes : chosen signature board built_in ≡ Ok Board → on_board ≡ true
  board_passes e = go on_board in_built (of_the_two (kind_of signature) (Ok Board) (λ r z. apart (cc)) e)
    where
      go : (a b : Bool) → cond a (Ok Board) (cond b (Ok BuiltIn) (Err Neither)) ≡ Ok Board → a ≡ true
      go true b z = refl
      go false true z = apart (cc)
      go false false z = apart (cc)

  built_in_passes : chosen signature board built_in ≡ Ok BuiltIn → in_built ≡ true
  built_in_passes e = go on_board in_built (of_the_two (kind_of signature) (Ok BuiltIn) (λ r z. apart (cc)) e)
    where
      go : (a b : Bool) → cond a (Ok Board) (cond b (Ok BuiltIn) (Err Neither)) ≡ Ok BuiltIn → b ≡ true
      go true b z = apart (cc)
      go false true z = refl
      go false false z = apart (cc)

pub chooses : Chooses
chooses signature board built_in = (
  λ unknown. ask unknown,
  λ kind known. (
    λ b. ask known ∙ between_tested signature board built_in b refl,
    λ b i. ask known ∙ between_tested signature board built_in b i,
    λ b i. ask known ∙ between_tested signature board built_in b i,
  ),
)
  where
    ask : {m : Option Kind} → kind_of signature ≡ m → chosen signature board built_in ≡ asked m signature board built_in
    ask e = ap (λ (m : Option Kind). asked m signature board built_in) e

pub part_passes : PartPasses
part_passes signature board built_in = (
  λ e. subst (λ (p : List ℕ). Whole signature board p) (sym (part_is e)) (whole signature board (board_passes signature board built_in e)),
  λ e. subst (λ (p : List ℕ). Whole signature built_in p) (sym (part_is e)) (whole signature built_in (built_in_passes signature board built_in e)),
  λ reason e. part_is e,
)
  where
    part_is : {c : Result Source Reason} → chosen signature board built_in ≡ c → part_of (chosen signature board built_in) board built_in ≡ part_of c board built_in
    part_is e = ap (λ (c : Result Source Reason). part_of c board built_in) e
