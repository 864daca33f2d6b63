-- The laws of places kept as numbers: which state eight numbers are, what stands at a place, and what a state kept at a place makes of all numbers.
-- Assumes nothing.
use Rattle.std.proofs.lemmas.Bool.{and_parts}
use Prim.Native.Nat.{ℕ, zero, suc, ◌+◌, ◌*◌, ◌≤◌, ◌<◌}
use mathlib.Core.Bool.{Bool, true, false, cond, not, ◌&&◌}
use mathlib.Core.Path.{◌≡◌, refl, sym, ap, ap₂, ◌∙◌}
use mathlib.Core.List.{List, [], ◌∷◌, ◌++◌, map, append_assoc}
use borrow.Author.Tests.{eq-eqb, ne_eqb, eqb-true, eqb-false, lt-ltb, le-ltb, ltb-true, ltb-false}
use native.Mathlib.Omega.{arith}
use lib.Bits.{bit_or, or_add_and, and_le_l, and_le_r}
use lib.Dec.{eqb, ltb}
use lib.ListN.{length, get_or, take, drop, set, replicate, length-append, length-take, length-drop, replicate-append-replicate, take-append-drop, drop_of_length-le}
use lib.Seq.{take_at, drop_at, take-add, drop-drop, drop-cons}
use Rattle.std.specs.Simd.{first_chunks}
use Rattle.std.specs.List.{list_all, position, position_or_len}
use Rattle.std.specs.Prelude.{Option, Some, None}
use Rattle.std.proofs.lemmas.List.{length-map}
use Rattle.le.specs.Compare.{same}
use Rattle.le.proofs.Tests.{never}
use Rattle.le.proofs.Comparing.{same_true, equal_same, other_list}
use Rattle.frame.specs.Layout.{words_at}
use Rattle.reassembly.specs.Step.{consistent}
use Rattle.reassembly.specs.declared.Progress.{Progress}
use Rattle.reassembly.specs.declared.State.{State}
use Rattle.reassembly.specs.declared.State.TheVariants.{Fresh, Open}
use Rattle.reassembly.proofs.Answers.{no_next}
use Rattle.heads.specs.Places.{place_count, place_size, is_free_def, is_of_def, lowest, none, all_consistent, is_alone_def}
use Rattle.heads.specs.Numbers.{row_size, number_count, byte_max, row_of, no_state_def, open_in_def, state_in_def, rows, places_in, numbers_of}
use Rattle.heads.specs.Step.{Stepped}
use Rattle.heads.specs.Helpers.{relaid}
use Rattle.heads.specs.declared.Verdict.{Verdict}
use Rattle.heads.proofs.Seats.{position_some, position_none}

-- ---- the numbers of one place

-- eight numbers, spelt out
pub eight : (row : List ℕ) → length row ≡ row_size
    → row ≡ get_or row 0 0 ∷ get_or row 1 0 ∷ get_or row 2 0 ∷ get_or row 3 0 ∷ get_or row 4 0 ∷ get_or row 5 0 ∷ get_or row 6 0 ∷ get_or row 7 0 ∷ []
eight row len =
    drop-cons row 0 0 (omega arith)
    ∙ ap (λ (l : List ℕ). get_or row 0 0 ∷ l) (drop-cons row 1 0 (omega arith)
    ∙ ap (λ (l : List ℕ). get_or row 1 0 ∷ l) (drop-cons row 2 0 (omega arith)
    ∙ ap (λ (l : List ℕ). get_or row 2 0 ∷ l) (drop-cons row 3 0 (omega arith)
    ∙ ap (λ (l : List ℕ). get_or row 3 0 ∷ l) (drop-cons row 4 0 (omega arith)
    ∙ ap (λ (l : List ℕ). get_or row 4 0 ∷ l) (drop-cons row 5 0 (omega arith)
    ∙ ap (λ (l : List ℕ). get_or row 5 0 ∷ l) (drop-cons row 6 0 (omega arith)
    ∙ ap (λ (l : List ℕ). get_or row 6 0 ∷ l) (drop-cons row 7 0 (omega arith)
    ∙ ap (λ (l : List ℕ). get_or row 7 0 ∷ l) (drop_of_length-le row {i = 8} (omega arith)))))))))

-- which state they are
module _ (row : List ℕ) where
  pub row_zero : get_or row 0 0 ≡ 0 → state_in_def row ≡ cond (same row (row_of Fresh)) Fresh no_state_def
  unfolding state_in_def
  row_zero e = rw (eq-eqb (get_or row 0 0) 0 e)

  pub row_no_kind : (get_or row 0 0 ≡ 0 → ⊥) → (get_or row 0 0 ≡ 1 → ⊥) → state_in_def row ≡ no_state_def
  unfolding state_in_def
  row_no_kind a b = rw (ne_eqb (get_or row 0 0) 0 a, ne_eqb (get_or row 0 0) 1 b)

  pub row_open : (get_or row 0 0 ≡ 0 → ⊥) → get_or row 0 0 ≡ 1 → state_in_def row ≡ open_in_def row
  unfolding state_in_def
  row_open a b = rw (ne_eqb (get_or row 0 0) 0 a, eq-eqb (get_or row 0 0) 1 b)

  pub wide_sequence : byte_max < get_or row 1 0 → open_in_def row ≡ no_state_def
  wide_sequence h = rw (lt-ltb byte_max (get_or row 1 0) h)

  abbrev pub progress_in : Progress
  progress_in = record { words = words_at 1 row; next = get_or row 6 0; filled = get_or row 7 0 }

  pub byte_sequence : get_or row 1 0 ≤ byte_max → open_in_def row ≡ Open progress_in
  byte_sequence h = rw (le-ltb byte_max (get_or row 1 0) h)

no_state : (room : ℕ) → consistent no_state_def room ≡ true → ⊥
no_state room e = never (sym e ∙ no_next no_state_def (record { words = words_at 0 []; next = 0; filled = 0 }) room refl (omega arith))

-- where they are a consistent state: all zeros, or 1, a byte, and the words, the next Index and how many bytes are filled
module _ (row : List ℕ) (ok : consistent (state_in_def row) place_size ≡ true) where
  not_none : state_in_def row ≡ no_state_def → ⊥
  not_none e = no_state place_size (sym (ap (λ (s : State). consistent s place_size) e) ∙ ok)

  pub row_fresh : get_or row 0 0 ≡ 0 → (row ≡ row_of Fresh) × (state_in_def row ≡ Fresh)
  row_fresh e = go (same row (row_of Fresh)) refl
    where
      go : (all : Bool) → same row (row_of Fresh) ≡ all → (row ≡ row_of Fresh) × (state_in_def row ≡ Fresh)
      go true z = (same_true row (row_of Fresh) z, row_zero row e ∙ rw z)
      go false z = absurd (not_none (row_zero row e ∙ rw z))

  pub row_spelt : (get_or row 0 0 ≡ 0 → ⊥) → (state_in_def row ≡ Open (progress_in row)) × (get_or row 0 0 ≡ 1)
  row_spelt taken = by_kind (eqb (get_or row 0 0) 1) refl
    where
      by_byte : get_or row 0 0 ≡ 1 → (wide : Bool) → ltb byte_max (get_or row 1 0) ≡ wide → (state_in_def row ≡ Open (progress_in row)) × (get_or row 0 0 ≡ 1)
      by_byte kind true w = absurd (not_none (row_open row taken kind ∙ wide_sequence row (ltb-true byte_max (get_or row 1 0) w)))
      by_byte kind false w = (row_open row taken kind ∙ byte_sequence row (ltb-false byte_max (get_or row 1 0) w), kind)

      by_kind : (one : Bool) → eqb (get_or row 0 0) 1 ≡ one → (state_in_def row ≡ Open (progress_in row)) × (get_or row 0 0 ≡ 1)
      by_kind true k = by_byte (eqb-true (get_or row 0 0) 1 k) (ltb byte_max (get_or row 1 0)) refl
      by_kind false k = absurd (not_none (row_no_kind row taken (eqb-false (get_or row 0 0) 1 k)))

  -- a place is free exactly where the first of them is 0
  pub row_free : is_free_def (state_in_def row) ≡ eqb (get_or row 0 0) 0
  row_free = go (eqb (get_or row 0 0) 0) refl
    where
      go : (zero : Bool) → eqb (get_or row 0 0) 0 ≡ zero → is_free_def (state_in_def row) ≡ zero
      go true z = ap is_free_def (row_fresh (eqb-true (get_or row 0 0) 0 z)).1
      go false z = ap is_free_def (row_spelt (eqb-false (get_or row 0 0) 0 z)).0

  -- a row that holds a consistent state is as that state is kept
  pub row_kept : length row ≡ row_size → row_of (state_in_def row) ≡ row
  row_kept len = go (eqb (get_or row 0 0) 0) refl
    where
      go : (zero : Bool) → eqb (get_or row 0 0) 0 ≡ zero → row_of (state_in_def row) ≡ row
      go true z = let known = row_fresh (eqb-true (get_or row 0 0) 0 z) in ap row_of known.1 ∙ sym known.0
      go false z =
          let known = row_spelt (eqb-false (get_or row 0 0) 0 z) in
          ap row_of known.0
          ∙ ap (λ (n : ℕ). n ∷ get_or row 1 0 ∷ get_or row 2 0 ∷ get_or row 3 0 ∷ get_or row 4 0 ∷ get_or row 5 0 ∷ get_or row 6 0 ∷ get_or row 7 0 ∷ []) (sym known.1)
          ∙ sym (eight row len)

-- ---- rows, the numbers of places one behind another

pub rows_chunks : (n : ℕ) (b : List ℕ) → rows n b ≡ first_chunks row_size n b
unfolding rows
rows_chunks zero b = refl
rows_chunks (suc n) b = ap (λ (l : List (List ℕ)). take row_size b ∷ l) (rows_chunks n (drop row_size b))

pub length_rows : (n : ℕ) (b : List ℕ) → length (rows n b) ≡ n
unfolding rows
length_rows zero b = refl
length_rows (suc n) b = ap suc (length_rows n (drop row_size b))

pub state_of_row : (rs : List (List ℕ)) (k : ℕ) → k < length rs → get_or (map state_in_def rs) k Fresh ≡ state_in_def (get_or rs k [])
state_of_row [] k h = absurd (omega arith)
state_of_row (r ∷ rs) zero h = refl
state_of_row (r ∷ rs) (suc k) h = state_of_row rs k (omega arith)

pub all_rows : (rs : List (List ℕ)) → list_all (λ (r : List ℕ). consistent (state_in_def r) place_size) rs ≡ all_consistent (map state_in_def rs)
unfolding all_consistent
all_rows [] = refl
all_rows (r ∷ rs) = ap (λ (t : Bool). consistent (state_in_def r) place_size && t) (all_rows rs)

-- the sender's place is told by the first and the fourth number
pub row_sender : (row : List ℕ) (sender : ℕ) → consistent (state_in_def row) place_size ≡ true
    → not (eqb (get_or row 0 0) 0) && eqb (get_or row 3 0) sender ≡ is_of_def sender (state_in_def row)
row_sender row sender ok = go (eqb (get_or row 0 0) 0) refl
  where
    go : (zero : Bool) → eqb (get_or row 0 0) 0 ≡ zero → not zero && eqb (get_or row 3 0) sender ≡ is_of_def sender (state_in_def row)
    go true z = sym (ap (is_of_def sender) (row_fresh row ok (eqb-true (get_or row 0 0) 0 z)).1)
    go false z = sym (ap (is_of_def sender) (row_spelt row ok (eqb-false (get_or row 0 0) 0 z)).0)

-- so is whether it has another: a free place is alone, and an open one where no sender behind it is its own
module _ (row : List ℕ) (ok : consistent (state_in_def row) place_size ≡ true) (ps : List State) where
  pub alone_free : get_or row 0 0 ≡ 0 → is_alone_def (state_in_def row) ps ≡ true
  alone_free free = ap (λ (s : State). is_alone_def s ps) (row_fresh row ok free).1

  pub alone_open : (get_or row 0 0 ≡ 0 → ⊥) → is_alone_def (state_in_def row) ps ≡ none (is_of_def (get_or row 3 0)) ps
  alone_open taken = ap (λ (s : State). is_alone_def s ps) (row_spelt row ok taken).0

-- where a test of the numbers tells a kind, the first row that passes is the first place of the kind
module _ (P : State → Bool) (test : List ℕ → Bool) (tells : (row : List ℕ) → consistent (state_in_def row) place_size ≡ true → test row ≡ P (state_in_def row)) where
  walk_told : (rs : List (List ℕ)) → all_consistent (map state_in_def rs) ≡ true → position_or_len test rs ≡ position_or_len P (map state_in_def rs)
  unfolding all_consistent
  walk_told [] e = refl
  walk_told (r ∷ rs) e =
      let oks = and_parts (consistent (state_in_def r) place_size) _ e in
      ap₂ (λ (t : Bool) (n : ℕ). cond (not t) (1 + n) 0) (tells r oks.0) (walk_told rs oks.1)

  pub position_told : (rs : List (List ℕ)) → all_consistent (map state_in_def rs) ≡ true → position test rs ≡ position P (map state_in_def rs)
  position_told rs e = ap₂ (λ (n m : ℕ). cond (ltb n m) (Some n) None) (walk_told rs e) (sym (length-map rs state_in_def))

-- a state that is kept is read again, its sequence number being a byte
abbrev pub Narrow : State → Type 0
Narrow Fresh = Unit {0}
Narrow (Open p) = p.words.sequence ≤ byte_max

pub row_back : (s : State) → Narrow s → state_in_def (row_of s) ≡ s
unfolding state_in_def same
row_back Fresh h = refl
row_back (Open p) h = rw (le-ltb byte_max p.words.sequence h)

pub length_row : (s : State) → length (row_of s) ≡ row_size
length_row Fresh = refl
length_row (Open p) = refl

-- ---- the numbers of all places

pub length_places : (n : ℕ) (b : List ℕ) → length (map state_in_def (rows n b)) ≡ n
unfolding rows
length_places zero b = refl
length_places (suc n) b = ap suc (length_places n (drop row_size b))

-- eight numbers in place of those of place k
abbrev pub laid : ℕ → List ℕ → List ℕ → List ℕ
laid k row b = take (row_size * k) b ++ (row ++ drop (row_size * k + row_size) b)

-- behind the first eight numbers of b
laid_behind : (k : ℕ) (row b : List ℕ) → row_size * suc k + row_size ≤ length b
    → (take row_size (laid (suc k) row b) ≡ take row_size b) × (drop row_size (laid (suc k) row b) ≡ laid k row (drop row_size b))
laid_behind k row b h =
    let on : row_size * suc k ≡ row_size + row_size * k = omega arith in
    let start : take (row_size * suc k) b ≡ take row_size b ++ take (row_size * k) (drop row_size b) = rw on (take-add row_size (row_size * k) b) in
    let end : drop (row_size * suc k + row_size) b ≡ drop (row_size * k + row_size) (drop row_size b) =
    ap (λ (m : ℕ). drop m b) (let m : row_size * suc k + row_size ≡ row_size + (row_size * k + row_size) = omega arith in m) ∙ sym (drop-drop (row_size * k + row_size) row_size b) in
    let whole : laid (suc k) row b ≡ take row_size b ++ laid k row (drop row_size b) =
    ap₂ (λ (x y : List ℕ). x ++ (row ++ y)) start end ∙ append_assoc (take row_size b) (take (row_size * k) (drop row_size b)) (row ++ drop (row_size * k + row_size) (drop row_size b)) in
    let len : length (take row_size b) ≡ row_size = simp length-take (omega arith) in
    (ap (take row_size) whole ∙ take_at (take row_size b) (laid k row (drop row_size b)) row_size len, ap (drop row_size) whole ∙ drop_at (take row_size b) (laid k row (drop row_size b)) row_size len)

pub places_laid : (n k : ℕ) (row b : List ℕ) → k < n → row_size * n ≤ length b → length row ≡ row_size
    → map state_in_def (rows n (laid k row b)) ≡ set (map state_in_def (rows n b)) k (state_in_def row)
unfolding rows
places_laid zero k row b h long len = absurd (omega arith)
places_laid (suc n) zero row b h long len =
    ap₂ (λ (p q : List ℕ). state_in_def p ∷ map state_in_def (rows n q)) (take_at row (drop row_size b) row_size len) (drop_at row (drop row_size b) row_size len)
places_laid (suc n) (suc k) row b h long len =
    let behind = laid_behind k row b (omega arith) in
    ap₂ (λ (p q : List ℕ). state_in_def p ∷ map state_in_def (rows n q)) behind.0 behind.1
    ∙ ap (λ (l : List State). state_in_def (take row_size b) ∷ l) (places_laid n k row (drop row_size b) (omega arith) (simp length-drop (omega arith)) len)

-- what a walk over all eight rows finds
module _ (P : State → Bool) (b : List ℕ) (rs : List (List ℕ)) (all : rs ≡ rows place_count b) (found : Option ℕ) (is : found ≡ position P (map state_in_def rs)) where
  walk_of_all : position P (places_in b) ≡ found
  walk_of_all = sym (is ∙ ap (λ (l : List (List ℕ)). position P (map state_in_def l)) all)

  pub found_place : (k : ℕ) → found ≡ Some k → (k ≡ lowest P (places_in b)) × (k < place_count)
  found_place k some =
      let known = position_some P (places_in b) k (walk_of_all ∙ some) in
      (known.0, omega (arith, length_places place_count b, known.1))

  pub found_none : found ≡ None → length (places_in b) ≤ lowest P (places_in b)
  found_none none = position_none P (places_in b) (walk_of_all ∙ none)

-- ---- the numbers that places are kept as

-- the first eight of them, and those behind
pub numbers_first : (p : State) (ps : List State) → (take row_size (numbers_of (p ∷ ps)) ≡ row_of p) × (drop row_size (numbers_of (p ∷ ps)) ≡ numbers_of ps)
unfolding numbers_of
numbers_first p ps = (take_at (row_of p) (numbers_of ps) row_size (length_row p), drop_at (row_of p) (numbers_of ps) row_size (length_row p))

pub length_numbers : (ps : List State) → length (numbers_of ps) ≡ row_size * length ps
unfolding numbers_of
length_numbers [] = refl
length_numbers (p ∷ ps) = simp length-append (omega (arith, length_row p, length_numbers ps))

-- numbers that hold consistent states are as these are kept
pub all_kept : (n : ℕ) (b : List ℕ) → row_size * n ≡ length b → all_consistent (map state_in_def (rows n b)) ≡ true → numbers_of (map state_in_def (rows n b)) ≡ b
unfolding rows numbers_of all_consistent
all_kept zero b h e = sym (no_length b (omega arith))
  where
    no_length : (l : List ℕ) → length l ≡ 0 → l ≡ []
    no_length [] e = refl
    no_length (x ∷ l) e = absurd (omega arith)
all_kept (suc n) b h e =
    let oks = and_parts (consistent (state_in_def (take row_size b)) place_size) _ e in
    ap₂ (λ (x y : List ℕ). x ++ y) (row_kept (take row_size b) oks.0 (simp length-take (omega arith))) (all_kept n (drop row_size b) (simp length-drop (omega arith)) oks.1)
    ∙ take-append-drop row_size b

-- a state kept at place k
pub laid_numbers : (ps : List State) (k : ℕ) (st : State) → k < length ps → relaid k st (numbers_of ps) ≡ numbers_of (set ps k st)
unfolding numbers_of
laid_numbers [] k st h = absurd (omega arith)
laid_numbers (p ∷ ps) zero st h = ap (λ (l : List ℕ). row_of st ++ l) (numbers_first p ps).1
laid_numbers (p ∷ ps) (suc k) st h =
    let all = numbers_of (p ∷ ps) in
    let behind = laid_behind k (row_of st) all (omega (arith, length_numbers (p ∷ ps))) in
    let known = numbers_first p ps in
    sym (take-append-drop row_size (laid (suc k) (row_of st) all))
    ∙ ap₂ (λ (x y : List ℕ). x ++ y) (behind.0 ∙ known.0) (behind.1 ∙ ap (laid k (row_of st)) known.1)
    ∙ ap (λ (l : List ℕ). row_of p ++ l) (laid_numbers ps k st (omega arith))

-- places that are all fresh are zeros
pub fresh_numbers : (n : ℕ) → numbers_of (replicate n Fresh) ≡ replicate (row_size * n) 0
unfolding numbers_of
fresh_numbers zero = refl
fresh_numbers (suc n) =
    ap (λ (l : List ℕ). replicate row_size 0 ++ l) (fresh_numbers n)
    ∙ replicate-append-replicate row_size (row_size * n) 0
    ∙ ap (λ (m : ℕ). replicate m 0) (let m : row_size + row_size * n ≡ row_size * suc n = omega arith in m)

pub fresh_places : (n : ℕ) → map state_in_def (rows n (numbers_of (replicate n Fresh))) ≡ replicate n Fresh
unfolding rows
fresh_places zero = refl
fresh_places (suc n) =
    let known = numbers_first Fresh (replicate n Fresh) in
    ap₂ (λ (x y : List ℕ). state_in_def x ∷ map state_in_def (rows n y)) known.0 known.1 ∙ ap₂ (λ (x : State) (y : List State). x ∷ y) (row_back Fresh tt) (fresh_places n)

-- a state kept at place k of numbers that hold consistent states
pub kept_at : (b : List ℕ) (k : ℕ) (st : State) → length b ≡ number_count → all_consistent (places_in b) ≡ true → k < place_count → relaid k st b ≡ numbers_of (set (places_in b) k st)
kept_at b k st len ok h =
    ap (relaid k st) (sym (all_kept place_count b (sym len) ok)) ∙ laid_numbers (places_in b) k st (omega (arith, length_places place_count b))

-- ---- what the code needs

-- numbers that are joined are 0 exactly where each is
pub or_none : (a b : ℕ) → bit_or a b ≡ 0 → (a ≡ 0) × (b ≡ 0)
or_none a b e = (omega (arith, or_add_and a b, and_le_r a b), omega (arith, or_add_and a b, and_le_l a b))

abbrev pub joined : List ℕ → ℕ
joined l = bit_or (bit_or (bit_or (bit_or (bit_or (bit_or (get_or l 1 0) (get_or l 2 0)) (get_or l 3 0)) (get_or l 4 0)) (get_or l 5 0)) (get_or l 6 0)) (get_or l 7 0)

module _ (row : List ℕ) where
  pub all_zero : length row ≡ row_size → get_or row 0 0 ≡ 0 → joined row ≡ 0 → same row (row_of Fresh) ≡ true
  all_zero len first e =
      let g = or_none _ (get_or row 7 0) e in
      let f = or_none _ (get_or row 6 0) g.0 in
      let d = or_none _ (get_or row 5 0) f.0 in
      let c = or_none _ (get_or row 4 0) d.0 in
      let b = or_none _ (get_or row 3 0) c.0 in
      let a = or_none (get_or row 1 0) (get_or row 2 0) b.0 in
      equal_same row (row_of Fresh) (eight row len ∙ rw (first, a.0, a.1, b.1, c.1, d.1, f.1, g.1))

  pub one_not_zero : (joined row ≡ 0 → ⊥) → same row (row_of Fresh) ≡ false
  one_not_zero differ = other_list row (row_of Fresh) (λ e. differ (ap joined e))

-- a verdict, numbers and a buffer that are those of a call's law are those of the call
pub as_in : (st law : Stepped) (verdict : Verdict) (numbers buffer : List ℕ)
    → st ≡ law
    → verdict ≡ law.verdict
    → numbers ≡ numbers_of law.places
    → places_in numbers ≡ law.places
    → buffer ≡ law.buffer
    → record { value : verdict ≡ st.verdict; places_after : numbers ≡ numbers_of st.places; read_back : places_in numbers ≡ st.places; buf_after : buffer ≡ st.buffer }
as_in st law verdict numbers buffer e v n p b = rw e (record { value = v; places_after = n; read_back = p; buf_after = b })
