-- By the Index, and where it is 0 the sender's own message is dropped first.
use Rattle.std.proofs.Common.{◌≡◌, ◌≤◌, ℕ, List, map, get_or, sym, ap, ◌∙◌, arith, eq-eqb, ne_eqb}
use Rattle.reassembly.specs.declared.State.{State}
use Rattle.reassembly.specs.declared.State.TheVariants.{Fresh}
use Rattle.heads.specs.Places.{place_count, is_free_def, is_of_def, lowest, all_consistent}
use Rattle.heads.specs.Numbers.{state_in_def, rows, places_in, numbers_of}
use Rattle.heads.specs.Helpers.{seat_of, left_for}
use Rattle.heads.proofs.Seats.{consistent_without}
use Rattle.heads.proofs.Answers.{seat_first, seat_later}
use Rattle.heads.proofs.Rows.{length_places, found_place, found_none, all_kept}
use Rattle.heads.proofs.find_place.Goals as goal

-- what a seat at place k of these rows has
there : (b : List ℕ) (rs : List (List ℕ)) (ps : List State) (at k : ℕ) (state : State) → rs ≡ rows place_count b → places_in b ≡ ps → at ≡ k
    → state ≡ get_or (map state_in_def rs) k Fresh → state ≡ get_or ps at Fresh
there b rs ps at k state all are place is =
    is
    ∙ ap (λ (l : List (List ℕ)). get_or (map state_in_def l) k Fresh) all
    ∙ ap (λ (qs : List State). get_or qs k Fresh) are
    ∙ ap (λ (n : ℕ). get_or ps n Fresh) (sym place)

pub of-left-requires : goal.of-left-requires
of-left-requires c =
    ap all_consistent c.drop_own.ensures.read_back ∙ consistent_without c.args.h.words.sender (places_in c.args.places.now) c.requires

pub returns-in_err-lowest_free : goal.returns-in_err-lowest_free
returns-in_err-lowest_free c =
    let ps = places_in c.args.places.now in
    let left = c.drop_own.new.numbers in
    let is = seat_first c.args.h ps (eq-eqb _ _ c.if-h-eq0.true) in
    let dropped = c.drop_own.ensures in
    let missed = found_none is_free_def left _ c.of-left.ensures _ c.lowest_free.ensures c.in_err-lowest_free.was in
    let same = is.0 ∙ sym (ap (lowest is_free_def) dropped.read_back) in
    let none : place_count ≤ seat_of c.args.h ps = omega (arith, length_places place_count left, missed, same) in
    record {
      value = rw c.from_residual.ensures none;
      places_after = dropped.places_after ∙ ap numbers_of (sym is.1);
      read_back = dropped.read_back ∙ sym is.1;
    }

pub returns-then-h-eq0 : goal.returns-then-h-eq0
returns-then-h-eq0 c =
    let ps = places_in c.args.places.now in
    let is = seat_first c.args.h ps (eq-eqb _ _ c.if-h-eq0.true) in
    let dropped = c.drop_own.ensures in
    let known = found_place is_free_def c.drop_own.new.numbers _ c.of-left.ensures _ c.lowest_free.ensures c.in_ok-lowest_free.field-0 c.in_ok-lowest_free.was in
    let left = dropped.read_back ∙ sym is.1 in
    record {
      value = (
        c.seat.ensures.place ∙ known.0 ∙ ap (lowest is_free_def) dropped.read_back ∙ sym is.0,
        there c.drop_own.new.numbers _ (left_for c.args.h ps) _ _ _ c.of-left.ensures left c.seat.ensures.place c.seat.ensures.state,
      );
      places_after = dropped.places_after ∙ ap numbers_of (sym is.1);
      read_back = left;
    }

pub returns-in_err-place_of : goal.returns-in_err-place_of
returns-in_err-place_of c =
    let numbers = c.args.places.now in
    let is = seat_later c.args.h (places_in numbers) (ne_eqb _ _ c.if-h-eq0.false) in
    let missed = found_none (is_of_def c.args.h.words.sender) numbers _ c.of-all.ensures _ c.place_of.ensures c.in_err-place_of.was in
    let none : place_count ≤ seat_of c.args.h (places_in numbers) = omega (arith, length_places place_count numbers, missed, is.0) in
    record {
      value = rw c.from_residual-in_err-place_of.ensures none;
      places_after = sym (ap numbers_of is.1 ∙ all_kept place_count numbers (sym c.told-places) c.requires);
      read_back = sym is.1;
    }

pub returns : goal.returns
returns c =
    let numbers = c.args.places.now in
    let is = seat_later c.args.h (places_in numbers) (ne_eqb _ _ c.if-h-eq0.false) in
    let known = found_place (is_of_def c.args.h.words.sender) numbers _ c.of-all.ensures _ c.place_of.ensures c.in_ok-place_of.field-0 c.in_ok-place_of.was in
    record {
      value = (
        c.seat-2.ensures.place ∙ known.0 ∙ sym is.0,
        there numbers _ (left_for c.args.h (places_in numbers)) _ _ _ c.of-all.ensures (sym is.1) c.seat-2.ensures.place c.seat-2.ensures.state,
      );
      places_after = sym (ap numbers_of is.1 ∙ all_kept place_count numbers (sym c.told-places) c.requires);
      read_back = sym is.1;
    }
