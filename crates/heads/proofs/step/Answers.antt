-- 11, 1 to 4, and what is read.
use Rattle.std.proofs.Common.{◌≡◌, ℕ, List, replicate, refl, sym, ap, ◌∙◌}
use Rattle.frame.specs.Reading.{parsed, data_of}
use Rattle.frame.specs.declared.Header.{Header}
use Rattle.frame.specs.declared.read.Parsed.{Parsed}
use Rattle.reassembly.specs.Step.{consistent, received}
use Rattle.reassembly.specs.declared.Reason.TheVariants.{BadState}
use Rattle.reassembly.specs.declared.State.TheVariants.{Fresh}
use Rattle.reassembly.proofs.Outcome.{stays_consistent}
use Rattle.heads.specs.Places.{place_count, place_size}
use Rattle.heads.specs.Step.{refused, routed}
use Rattle.heads.specs.Numbers.{places_in}
use Rattle.heads.specs.Helpers.{Keeps}
use Rattle.heads.specs.declared.Reason.TheVariants.{Step}
use Rattle.heads.proofs.Seats.{legal_known}
use Rattle.heads.proofs.Answers.{bad_places, good_places, unread_frame}
use Rattle.heads.proofs.Rows.{length_places, all_kept, as_in}
use Rattle.heads.proofs.step.Goals as goal

-- a frame that is read leaves a consistent state consistent
keeps : (us : ℕ) (f : List ℕ) (h : Header) (piece : List ℕ) → parsed us f ≡ Parsed.Header h → piece ≡ data_of f → Keeps h piece
keeps us f h piece read is state buffer len ok =
    ap (λ (p : List ℕ). consistent (received (Parsed.Header h) p state buffer).answer.state place_size) is
    ∙ ap (λ (r : Parsed). consistent (received r (data_of f) state buffer).answer.state place_size) (sym read)
    ∙ ap (λ (n : ℕ). consistent (received (parsed us f) (data_of f) state buffer).answer.state n) (sym len)
    ∙ (stays_consistent us state buffer f (ap (consistent state) len ∙ ok)).1

pub returns-then-not-are_legal : goal.returns-then-not-are_legal
returns-then-not-are_legal c =
    let ps = places_in c.args.places.now in
    let b = c.args.buf.now in
    let illegal = sym c.are_legal.ensures ∙ c.if-not-are_legal.true in
    as_in _ _ _ _ _
    (bad_places c.args.us ps b c.args.frame.now illegal ∙ ap (λ (n : ℕ). refused (Step BadState) (replicate n Fresh) b) (length_places place_count c.args.places.now))
    refl c.clear.ensures.places_after c.clear.ensures.read_back refl

pub returns-in-Refused : goal.returns-in-Refused
returns-in-Refused c =
    let ps = places_in c.args.places.now in
    let b = c.args.buf.now in
    let f = c.args.frame.now in
    let allowed = sym c.are_legal.ensures ∙ c.if-not-are_legal.false in
    as_in _ _ _ _ _
    (good_places c.args.us ps b f allowed ∙ unread_frame _ (data_of f) ps b _ (sym c.parse.ensures ∙ c.in-Refused.is))
    refl
    (sym (all_kept place_count c.args.places.now (sym c.told-places) (legal_known ps _ allowed).places_consistent)) refl refl

pub route-requires-clause-keeps : goal.route-requires-clause-keeps
route-requires-clause-keeps c =
    keeps c.args.us c.args.frame.now _ _ (sym c.parse.ensures ∙ c.in-Header.is) c.data.ensures

pub returns-in-Header : goal.returns-in-Header
returns-in-Header c =
    let ps = places_in c.args.places.now in
    let b = c.args.buf.now in
    let f = c.args.frame.now in
    let made = c.route.ensures in
    as_in _ _ _ _ _
    (good_places c.args.us ps b f (sym c.are_legal.ensures ∙ c.if-not-are_legal.false)
    ∙ ap (λ (r : Parsed). routed r (data_of f) ps b) (sym c.parse.ensures ∙ c.in-Header.is)
    ∙ ap (λ (p : List ℕ). routed (Parsed.Header c.in-Header.h) p ps b) (sym c.data.ensures))
    made.value made.places_after made.read_back made.buf_after
