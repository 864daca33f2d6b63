use Rattle.std.proofs.lemmas.Bool.{and_parts}
use Rattle.std.proofs.Common.{◌≡◌, ◌≤◌, ◌&&◌, Bool, true, not, ℕ, List, [], ◌∷◌, Option, map, length, get_or, refl, sym, ap, ◌∙◌, arith}
use Rattle.std.specs.List.{position}
use Rattle.std.specs.Option.{is_some}
use Rattle.reassembly.specs.Step.{consistent}
use Rattle.heads.specs.Places.{place_count, place_size, is_of_def, all_consistent, is_alone_def, distinct}
use Rattle.heads.specs.Numbers.{state_in_def}
use Rattle.heads.proofs.Seats.{none_walk}
use Rattle.heads.proofs.Rows.{alone_free, alone_open}
use Rattle.heads.proofs.numbers.Places.are_distinct.Goals as goal
use Rattle.heads.proofs.numbers.Places.are_distinct.Goals.{else-row-ne0-via-then-row-ne0+else-is_some, else-row-ne0-via-else-row-ne0}

-- the first of the places, and those behind it
record Cut (rest : List (List ℕ)) (row : List ℕ) (behind : List (List ℕ)) : Type 0 where
  first_fits : consistent (state_in_def row) place_size ≡ true
  others_fit : all_consistent (map state_in_def behind) ≡ true
  fewer : length behind ≤ place_count
  by_first : distinct (map state_in_def rest) ≡ is_alone_def (state_in_def row) (map state_in_def behind) && distinct (map state_in_def behind)

cut : (rest : List (List ℕ)) (row : List ℕ) (behind : List (List ℕ)) → rest ≡ row ∷ behind → all_consistent (map state_in_def rest) ≡ true → length rest ≤ place_count → Cut rest row behind
unfolding all_consistent distinct
cut rest row behind e ok few =
    let oks = and_parts (consistent (state_in_def row) place_size) (all_consistent (map state_in_def behind)) (sym (ap (λ (l : List (List ℕ)). all_consistent (map state_in_def l)) e) ∙ ok) in
    record {
      first_fits = oks.0;
      others_fit = oks.1;
      fewer = omega (arith, ap length e);
      by_first = ap (λ (l : List (List ℕ)). distinct (map state_in_def l)) e;
    }

-- the first has its sender's only place exactly where its sender has none of the others
alone_where : (row : List ℕ) (behind : List (List ℕ)) (found : Option ℕ) → consistent (state_in_def row) place_size ≡ true → (get_or row 0 0 ≡ 0 → ⊥)
    → found ≡ position (is_of_def (get_or row 3 0)) (map state_in_def behind) → is_alone_def (state_in_def row) (map state_in_def behind) ≡ not (is_some found)
alone_where row behind found ok taken is = alone_open row ok _ taken ∙ none_walk (is_of_def (get_or row 3 0)) (map state_in_def behind) found is

-- none are left
none_left : (rest : List (List ℕ)) → length rest ≡ 0 → distinct (map state_in_def rest) ≡ true
unfolding distinct
none_left [] e = refl
none_left (r ∷ rs) e = absurd (omega arith)

pub invariant_of-others : goal.invariant_of-others
invariant_of-others c =
    let known = cut _ _ _ c.in-Some.ensures.cases.0 c.loop-row.invariant.1 c.loop-row.invariant.2 in
    record { few = known.fewer; all_fit = known.others_fit }

pub returns-then-is_some : goal.returns-then-is_some
returns-then-is_some c =
    let known = cut _ _ _ c.in-Some.ensures.cases.0 c.loop-row.invariant.1 c.loop-row.invariant.2 in
    let some : is_some c.place_of.result ≡ true = sym c.is_some.ensures ∙ c.if-is_some.true in
    let shared = alone_where _ _ c.place_of.result known.first_fits c.if-row-ne0.true c.place_of.ensures ∙ ap not some in
    sym (c.loop-row.invariant.0 ∙ known.by_first ∙ ap (λ (t : Bool). t && distinct (map state_in_def c.in-Some.behind.now)) shared)

pub loop-row-preserved : goal.loop-row-preserved
loop-row-preserved c =
    let known = cut _ _ _ c.in-Some.ensures.cases.0 c.loop-row.invariant.1 c.loop-row.invariant.2 in
    let alone : is_alone_def (state_in_def c.in-Some.row.now) (map state_in_def c.in-Some.behind.now) ≡ true =
    elim c.else-row-ne0.branch [
      | else-row-ne0-via-then-row-ne0+else-is_some w ↦
          alone_where _ _ w.place_of.result known.first_fits w.if-row-ne0.true w.place_of.ensures ∙ ap not (sym w.is_some.ensures ∙ w.if-is_some.false)
      | else-row-ne0-via-else-row-ne0 w ↦ alone_free _ known.first_fits _ w.if-row-ne0.false
    ] in (
      c.loop-row.invariant.0 ∙ known.by_first ∙ ap (λ (t : Bool). t && distinct (map state_in_def c.in-Some.behind.now)) alone,
      known.others_fit,
      known.fewer,
    )

pub returns : goal.returns
returns c = sym (c.loop-row.invariant.0 ∙ none_left _ c.in_default.ensures.cases)
