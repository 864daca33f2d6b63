-- What one call can come to: 11, a frame that is not read, one that has no place, or a step of the crate `reassembly` in a place; and what such a step keeps.
-- Assumes nothing.
use Prim.Native.Nat.{ℕ, ◌+◌, ◌-◌, ◌*◌, ◌≤◌, ◌<◌}
use mathlib.Core.Bool.{Bool, true, false, cond, not}
use mathlib.Core.Path.{◌≡◌, refl, sym, ap, ◌∙◌}
use mathlib.Core.List.{List}
use native.Mathlib.Omega.{arith}
use borrow.Author.Tests.{ltb-true, ltb-false}
use lib.Dec.{eqb, ltb}
use lib.ListN.{length, get_or, set}
use lib.Seq.{set-get_or}
use Rattle.le.proofs.Tests.{apart, never, either}
use Rattle.frame.specs.Reading.{parsed, data_of}
use Rattle.frame.specs.declared.Header.{Header}
use Rattle.frame.specs.declared.Words.{Words}
use Rattle.frame.specs.declared.read.Parsed.{Parsed}
use Rattle.frame.specs.declared.read.Reason.{Reason as ReadReason}
use Rattle.reassembly.specs.Step as One
use Rattle.reassembly.specs.Step.{consistent, same_words_def, lacks_data_def, exceeds, too_long, is_next, is_first, accept, begin, proceed}
use Rattle.reassembly.specs.Statements.{NotBad}
use Rattle.reassembly.specs.declared.State.{State}
use Rattle.reassembly.specs.declared.State.TheVariants.{Fresh, Open}
use Rattle.reassembly.specs.declared.Reason as R
use Rattle.reassembly.specs.declared.Reason.TheVariants.{Unread, NothingOpen, OutOfOrder, OtherWords, NoData, TooMuchData, MessageLong, BadState}
use Rattle.reassembly.specs.declared.Verdict.{Verdict}
use Rattle.reassembly.specs.declared.Verdict.TheVariants as One'
use Rattle.reassembly.proofs.Answers.{fresh}
use Rattle.reassembly.proofs.Outcome.{Source, begun, continued, Outcome, refuses, delivers, wants, outcome, kept, stays_consistent}
use Rattle.heads.specs.Places.{place_count, place_size, part, is_free_def, is_of_def, lowest, place_of, open_of_def, without, all_consistent, distinct, legal}
use Rattle.heads.specs.Step.{refused, cleared, placed, settled, crowded, step_of}
use Rattle.heads.specs.declared.Reason.{Reason}
use Rattle.heads.specs.declared.Reason.TheVariants.{Step}
use Rattle.heads.specs.declared.Verdict.TheVariants.{Refused}
use Rattle.heads.proofs.Seats.{lowest_at, free_fresh, Of, OnlyAt, open_is_of, others_place, others_open, length_without, each_consistent, only_place, dropped, consistent_without, distinct_without, legal_known}
use Rattle.heads.proofs.Answers as Law

-- where the frame of a sender s sits: in place k of the places qs, with that state handed in
pub record Seat (s : ℕ) (first : Bool) (ps : List State) (k : ℕ) (state : State) (qs : List State) : Type 0 where
  -- a message begins, or the sender's own goes on
  pub begins : first ≡ true → (k ≡ lowest is_free_def (without s ps)) × (state ≡ Fresh)
  pub goes_on : first ≡ false → (k ≡ place_of s ps) × (state ≡ open_of_def s ps)
  pub inside : k < length ps
  pub as_many : length qs ≡ length ps
  pub state_of : Of s state
  pub state_ok : consistent state place_size ≡ true
  -- what stands in that place is the sender's or nothing, and the sender has no other
  pub of_sender : Of s (get_or qs k Fresh)
  pub only : OnlyAt s k qs
  -- these are the places but for what the sender has open; without what stands there they have nothing of it
  pub others_as : (t : ℕ) → (s ≡ t → ⊥) → (place_of t qs ≡ place_of t ps) × (open_of_def t qs ≡ open_of_def t ps)
  pub cleared_is : set qs k Fresh ≡ without s ps
  pub places_ok : all_consistent qs ≡ true
  pub places_apart : distinct qs ≡ true

module _ (s : ℕ) (ps : List State) (ok : all_consistent ps ≡ true) (differ : distinct ps ≡ true) where
  -- the lowest free place without the sender's own message
  begins_at : lowest is_free_def (without s ps) < length ps → Seat s true ps (lowest is_free_def (without s ps)) Fresh (without s ps)
  begins_at l =
      let qs = without s ps in
      let k = lowest is_free_def qs in
      let free : get_or qs k Fresh ≡ Fresh = free_fresh (get_or qs k Fresh) (lowest_at is_free_def qs (rw (length_without s ps) l)) in
      record {
        begins = λ e. (refl, refl);
        goes_on = λ e. never e;
        inside = l;
        as_many = length_without s ps;
        state_of = tt;
        state_ok = fresh place_size;
        of_sender = rw free tt;
        only = λ j own. absurd (dropped ps differ s j own);
        others_as = λ t other. (others_place s ps (place_of s ps) Fresh (open_is_of s ps) tt t other, others_open s ps (place_of s ps) Fresh (open_is_of s ps) tt t other);
        cleared_is = ap (λ (x : State). set qs k x) (sym free) ∙ set-get_or qs k Fresh;
        places_ok = consistent_without s ps ok;
        places_apart = distinct_without s ps differ;
      }

  -- the sender's own place
  goes_on_at : place_of s ps < length ps → Seat s false ps (place_of s ps) (open_of_def s ps) ps
  goes_on_at l =
      record {
        begins = λ e. never (sym e);
        goes_on = λ e. (refl, refl);
        inside = l;
        as_many = refl;
        state_of = open_is_of s ps;
        state_ok = each_consistent ps ok (place_of s ps);
        of_sender = open_is_of s ps;
        only = only_place ps differ s;
        others_as = λ t other. (refl, refl);
        cleared_is = refl;
        places_ok = ok;
        places_apart = differ;
      }

pub data Call (us : ℕ) (ps : List State) (b f : List ℕ) : Type 0 where
  bad : legal ps (length b) ≡ false → step_of us ps b f ≡ cleared ps b → Call us ps b f
  unread : legal ps (length b) ≡ true → (reason : ReadReason) → parsed us f ≡ Parsed.Refused reason → step_of us ps b f ≡ refused (Step (Unread reason)) ps b → Call us ps b f
  -- Index 0, and no place is free; any other, and nothing is open
  crowds : legal ps (length b) ≡ true → (h : Header) → parsed us f ≡ Parsed.Header h → is_first h ≡ true → length ps ≤ lowest is_free_def (without h.words.sender ps)
      → step_of us ps b f ≡ refused (crowded (length (data_of f)) h.words.total) ps b → Call us ps b f
  misses : legal ps (length b) ≡ true → (h : Header) → parsed us f ≡ Parsed.Header h → is_first h ≡ false → length ps ≤ place_of h.words.sender ps
      → step_of us ps b f ≡ refused (Step NothingOpen) ps b → Call us ps b f
  sits : legal ps (length b) ≡ true → (h : Header) → parsed us f ≡ Parsed.Header h → (k : ℕ) (state : State) (qs : List State) → Seat h.words.sender (is_first h) ps k state qs
      → step_of us ps b f ≡ settled k (One.step_of us state (part k b) f) qs b → Call us ps b f

pub call : (us : ℕ) (ps : List State) (b f : List ℕ) → Call us ps b f
call us ps b f = by_places (legal ps (length b)) refl
  where
    by_free : legal ps (length b) ≡ true → (h : Header) → parsed us f ≡ Parsed.Header h → is_first h ≡ true
        → (free : Bool) → ltb (lowest is_free_def (without h.words.sender ps)) (length ps) ≡ free → Call us ps b f
    by_free ok h read first true e =
        let known = legal_known ps (length b) ok in
        let s = h.words.sender in
        let k = lowest is_free_def (without s ps) in
        let l = ltb-true k (length ps) e in
        sits ok h read k Fresh (without s ps) (rw first (begins_at s ps known.places_consistent known.all_distinct l))
        (Law.good_places us ps b f ok ∙ Law.index_zero (parsed us f) (data_of f) ps b h read first ∙ Law.takes_place h (data_of f) ps b k refl l
        ∙ Law.in_place us k Fresh h f (without s ps) b read)
    by_free ok h read first false e =
        let l = ltb-false (lowest is_free_def (without h.words.sender ps)) (length ps) e in
        crowds ok h read first l
        (Law.good_places us ps b f ok ∙ Law.index_zero (parsed us f) (data_of f) ps b h read first ∙ Law.none_free h (data_of f) ps b l)

    by_own : legal ps (length b) ≡ true → (h : Header) → parsed us f ≡ Parsed.Header h → is_first h ≡ false
        → (own : Bool) → ltb (place_of h.words.sender ps) (length ps) ≡ own → Call us ps b f
    by_own ok h read later true e =
        let known = legal_known ps (length b) ok in
        let s = h.words.sender in
        let k = place_of s ps in
        let l = ltb-true k (length ps) e in
        sits ok h read k (open_of_def s ps) ps (rw later (goes_on_at s ps known.places_consistent known.all_distinct l))
        (Law.good_places us ps b f ok ∙ Law.index_more (parsed us f) (data_of f) ps b h read later ∙ Law.own_place h (data_of f) ps b k refl l
        ∙ Law.in_place us k (open_of_def s ps) h f ps b read)
    by_own ok h read later false e =
        let l = ltb-false (place_of h.words.sender ps) (length ps) e in
        misses ok h read later l (Law.good_places us ps b f ok ∙ Law.index_more (parsed us f) (data_of f) ps b h read later ∙ Law.no_place h (data_of f) ps b l)

    by_index : legal ps (length b) ≡ true → (h : Header) → parsed us f ≡ Parsed.Header h → (first : Bool) → is_first h ≡ first → Call us ps b f
    by_index ok h read true e = by_free ok h read e _ refl
    by_index ok h read false e = by_own ok h read e _ refl

    by_header : legal ps (length b) ≡ true → (r : Parsed) → parsed us f ≡ r → Call us ps b f
    by_header ok (Parsed.Refused reason) e = unread ok reason e (Law.good_places us ps b f ok ∙ Law.unread_frame (parsed us f) (data_of f) ps b reason e)
    by_header ok (Parsed.Header h) e = by_index ok h e _ refl

    by_places : (ok : Bool) → legal ps (length b) ≡ ok → Call us ps b f
    by_places true e = by_header e _ refl
    by_places false e = bad e (Law.bad_places us ps b f e)

-- ---- a step in a place

-- its bytes are all in the buffer
pub place_fits : (ps : List State) (k room : ℕ) → length ps ≡ place_count → legal ps room ≡ true → k < length ps → place_size * k + place_size ≤ room
place_fits ps k room len ok less = omega (arith, (legal_known ps room ok).room_enough)

-- over 4,096 bytes it is not refused under 11, its state is consistent again, and they stay as many
pub step_keeps : (us : ℕ) (state : State) (b f : List ℕ) → length b ≡ place_size → consistent state place_size ≡ true
    → NotBad (One.step_of us state b f).answer.verdict
    × (consistent (One.step_of us state b f).answer.state place_size ≡ true)
    × (length (One.step_of us state b f).buffer ≡ place_size)
step_keeps us state b f long ok =
    let after = stays_consistent us state b f (rw long ok) in
    (after.0, (rw long at after.1), after.2 ∙ long)

-- where it is refused, the step in the place was
pub placed_refused : (k : ℕ) (v : Verdict) (reason : Reason) → placed k v ≡ Refused reason → (r : R.Reason) × (reason ≡ Step r) × (v ≡ One'.Refused r)
placed_refused k One'.More reason e = apart (cc)
placed_refused k (One'.Delivered words n) reason e = apart (cc)
placed_refused k (One'.Refused r) reason e = (r, (cc), refl)

-- what a frame's data belongs to is its sender's; the state after it is fresh or of the frame's sender
pub from_source : (us : ℕ) (f : List ℕ) (h : Header) (s : ℕ) → parsed us f ≡ Parsed.Header h → h.words.sender ≡ s
    → (state : State) (w : Words) (i filled : ℕ) → Source us f state w i filled → Of s state → w.sender ≡ s
from_source us f h s read own state w i filled (begun st h' read') of =
    let same : h' ≡ h = cc in
    ap (λ (x : Header). x.words.sender) same ∙ own
from_source us f h s read own state w i filled (continued q) of = of

pub stays_of : (us : ℕ) (b f : List ℕ) (h : Header) (s : ℕ) → parsed us f ≡ Parsed.Header h → h.words.sender ≡ s
    → (state : State) → Of s state → Of s (One.step_of us state b f).answer.state
stays_of us b f h s read own state of = by (outcome us state (length b) f)
  where
    by : Outcome us state (length b) f → Of s (One.step_of us state b f).answer.state
    by (refuses reason cause steps) = rw (steps b refl) (kept (Of s) tt reason state of)
    by (delivers w i filled source all held steps) = rw (steps b refl) tt
    by (wants w i filled source room again steps) = rw (steps b refl) (from_source us f h s read own state w i filled source of)

-- it is not refused under 1 to 5, where it begins a message or one is open
abbrev NotEarly : One.Stepped → Type 0
NotEarly st = (reason : R.Reason) → One.number_of reason ≤ 5 → st.answer.verdict ≡ One'.Refused reason → ⊥

late : (r reason : R.Reason) → 6 ≤ One.number_of r → One.number_of reason ≤ 5 → ◌≡◌ {A = Verdict} (One'.Refused r) (One'.Refused reason) → ⊥
late r reason later early e =
    let same : r ≡ reason = cc in
    let number : One.number_of r ≡ One.number_of reason = ap One.number_of same in
    omega arith

accept_late : (w : Words) (i filled : ℕ) (p b : List ℕ) → NotEarly (accept w i filled p b)
unfolding accept
accept_late w i filled p b =
    either NotEarly (lacks_data_def (length p) w.total) (λ r n e. late NoData r (omega arith) n e)
    (either NotEarly (exceeds (length p) (w.total - filled)) (λ r n e. late TooMuchData r (omega arith) n e)
    (either NotEarly (eqb (filled + length p) w.total) (λ r n e. apart (cc)) (λ r n e. apart (cc))))

begin_late : (w : Words) (p b : List ℕ) → NotEarly (begin w p b)
unfolding begin
begin_late w p b = either NotEarly (too_long w.total (length b)) (λ r n e. late MessageLong r (omega arith) n e) (accept_late w 0 0 p b)

proceed_late : (h : Header) (p : List ℕ) (s : ℕ) (state : State) (b : List ℕ) → is_of_def s state ≡ true → NotEarly (proceed h p state b)
unfolding proceed
proceed_late h p s Fresh b own = never (sym own)
proceed_late h p s (Open q) b own =
    either NotEarly (not (is_next h q)) (λ r n e. late OutOfOrder r (omega arith) n e)
    (either NotEarly (not (same_words_def h.words q.words)) (λ r n e. late OtherWords r (omega arith) n e) (accept_late q.words q.next q.filled p b))

pub not_early : (us s : ℕ) (state : State) (b f : List ℕ) (h : Header) → parsed us f ≡ Parsed.Header h → (is_first h ≡ false → is_of_def s state ≡ true) → NotEarly (One.step_of us state b f)
unfolding One.received One.routed
not_early us s state b f h read own =
    rw read (either NotEarly (not (consistent state (length b))) (λ r n e. late BadState r (omega arith) n e) (by_index (is_first h) refl))
  where
    by_index : (first : Bool) → is_first h ≡ first → NotEarly (cond first (begin h.words (data_of f) b) (proceed h (data_of f) state b))
    by_index true e = begin_late h.words (data_of f) b
    by_index false e = proceed_late h (data_of f) s state b (own e)
