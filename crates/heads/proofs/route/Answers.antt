-- The frame's place decides, as the definition has it for Index 0 and for any other.
use Rattle.std.proofs.Common.{◌≡◌, ◌≤◌, ◌<◌, ℕ, List, true, length, get_or, refl, sym, ap, ◌∙◌, arith}
use Rattle.frame.specs.declared.Header.{Header}
use Rattle.reassembly.specs.declared.State.{State}
use Rattle.reassembly.specs.declared.State.TheVariants.{Fresh}
use Rattle.heads.specs.Places.{place_count, all_consistent, legal}
use Rattle.heads.specs.Step.{Stepped, seated}
use Rattle.heads.specs.Numbers.{places_in, numbers_of}
use Rattle.heads.specs.Helpers.{seat_of, left_for}
use Rattle.heads.specs.declared.Verdict.TheVariants.{Refused}
use Rattle.heads.proofs.Seats.{legal_known}
use Rattle.heads.proofs.Answers.{has_place, has_none, left_consistent}
use Rattle.heads.proofs.Rows.{length_places, kept_at, as_in}
use Rattle.heads.proofs.route.Goals as goal

eight : (numbers : List ℕ) → length (places_in numbers) ≡ place_count
eight numbers = length_places place_count numbers

-- the places once the frame's is found
all_ok : (h : Header) (numbers now : List ℕ) (room : ℕ) → legal (places_in numbers) room ≡ true → places_in now ≡ left_for h (places_in numbers)
    → all_consistent (places_in now) ≡ true
all_ok h numbers now room ok e = ap all_consistent e ∙ left_consistent h (places_in numbers) (legal_known (places_in numbers) room ok).places_consistent

pub find_place-requires : goal.find_place-requires
find_place-requires c = (legal_known _ _ c.requires.allowed).places_consistent

pub returns-in_default : goal.returns-in_default
returns-in_default c =
    let h = c.args.h in
    let ps = places_in c.args.places.now in
    let found = c.find_place.ensures in
    let none : length ps ≤ seat_of h ps = omega (arith, eight c.args.places.now, c.in_default.ensures.value) in
    let law = has_none h c.args.piece.now ps c.args.buf.now none in
    as_in _ _ _ _ _ law.0 (ap Refused c.turn_away.ensures) (found.places_after ∙ ap numbers_of law.1) (found.read_back ∙ law.1) refl

pub take_in-requires-clause-room_enough : goal.take_in-requires-clause-room_enough
take_in-requires-clause-room_enough c = (legal_known _ _ c.requires.allowed).room_enough

pub returns : goal.returns
returns c =
    let h = c.args.h in
    let ps = places_in c.args.places.now in
    let found = c.find_place.ensures in
    let numbers = c.find_place.new.places in
    let k = c.in-Some.seat.k in
    let at = c.in-Some.ensures.value in
    let made = c.take_in.ensures in
    let seat : State → List State → Stepped = λ (st : State) (qs : List State). seated k st h c.args.piece.now qs c.args.buf.now in
    let same : seat c.in-Some.seat.state (places_in numbers) ≡ seat (get_or (left_for h ps) k Fresh) (left_for h ps) =
    ap (λ (st : State). seat st (places_in numbers)) at.1 ∙ ap (seat (get_or (left_for h ps) k Fresh)) found.read_back in
    let inside : k < length ps = omega (arith, eight c.args.places.now, c.in-Some.seat.in_range) in
    as_in _ (seat c.in-Some.seat.state (places_in numbers)) _ _ _
    (has_place h c.args.piece.now ps c.args.buf.now k (sym at.0) inside ∙ sym same)
    made.value
    (made.places_after
    ∙ kept_at numbers k _ c.find_place.array_long (all_ok h c.args.places.now numbers _ c.requires.allowed found.read_back) c.in-Some.seat.in_range)
    made.read_back made.buf_after
