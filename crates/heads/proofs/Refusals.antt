-- What a call leaves as it was, and 15: `refusal_leaves`, `fifteen_exactly`, `others_untouched`, `own_bytes`, `behind_the_places`.
-- Assumes nothing.
use Prim.Native.Nat.{ℕ, suc, ◌+◌, ◌-◌, ◌*◌, ◌≤◌, ◌<◌}
use mathlib.Core.Bool.{Bool, true, false}
use mathlib.Core.Path.{◌≡◌, refl, sym, ap, subst, ◌∙◌}
use mathlib.Core.List.{List}
use native.Mathlib.Omega.{arith}
use borrow.Author.Tests.{eq-eqb, eqb-true, eqb-false, ltb-true, ltb-false, not-false}
use lib.Dec.{eqb, ltb}
use lib.ListN.{length, get_or, drop, set}
use Rattle.le.proofs.Tests.{apart, never, past}
use Rattle.frame.specs.Layout.{message_max}
use Rattle.frame.specs.Reading.{parsed, data_of}
use Rattle.frame.specs.declared.Header.{Header}
use Rattle.frame.specs.declared.Words.{Words}
use Rattle.frame.specs.declared.read.Parsed.TheVariants as Parsed
use Rattle.reassembly.specs.Step as One
use Rattle.reassembly.specs.Step.{consistent, same_words_def, waiting, landed, delivered, wanting, lacks_data_def, exceeds, is_next, is_first, accept, begin, proceed}
use Rattle.reassembly.specs.Statements.{filled_of}
use Rattle.reassembly.specs.declared.Progress.{Progress}
use Rattle.reassembly.specs.declared.State.{State}
use Rattle.reassembly.specs.declared.State.TheVariants.{Fresh, Open}
use Rattle.reassembly.specs.declared.Reason as R
use Rattle.reassembly.specs.declared.Reason.TheVariants.{Unread, NothingOpen, OutOfOrder, OtherWords, NoData, TooMuchData, MessageLong, BadState}
use Rattle.reassembly.specs.declared.Verdict.TheVariants as One'
use Rattle.reassembly.proofs.Answers as OneLaw
use Rattle.reassembly.proofs.Outcome as Base
use Rattle.heads.specs.Places.{place_size, buffer_min, part, with_part, is_free_def, is_of_def, lowest, place_of, open_of_def, without}
use Rattle.heads.specs.Step.{number_of, Stepped, refused, placed, settled, crowded, step_of}
use Rattle.heads.specs.Statements.{RefusalLeaves, NoneFree, FifteenExactly, OthersUntouched, Landing, Lands, OwnBytes, BehindThePlaces}
use Rattle.heads.specs.declared.Reason.{Reason}
use Rattle.heads.specs.declared.Reason.TheVariants.{Step, NoPlace}
use Rattle.heads.specs.declared.Verdict.{Verdict}
use Rattle.heads.specs.declared.Verdict.TheVariants.{Refused}
use Rattle.heads.proofs.Seats.{lowest_none, lowest_before, Of, of_same, place_set, open_set, place_open, no_place_fresh, no_place_dropped, fresh_no_place, none_free_no_place, others_place, others_open, part_back, length_part, part_other, behind_part, landed_part}
use Rattle.heads.proofs.Answers as Law
use Rattle.heads.proofs.Calls.{Seat, Call, bad, unread, crowds, misses, sits, call, place_fits, step_keeps, placed_refused, stays_of, not_early}

-- ---- a refusal

-- of the numbers of the crate `reassembly` 11 is the last
at_most_eleven : (r : R.Reason) → One.number_of r ≤ 11
at_most_eleven (Unread reason) = omega (arith, (Base.small reason).1)
at_most_eleven NothingOpen = omega arith
at_most_eleven OutOfOrder = omega arith
at_most_eleven OtherWords = omega arith
at_most_eleven NoData = omega arith
at_most_eleven TooMuchData = omega arith
at_most_eleven MessageLong = omega arith
at_most_eleven BadState = omega arith

-- who sent a frame is told by its one header
same_sender : (us : ℕ) (f : List ℕ) (h h' : Header) → parsed us f ≡ Parsed.Header h → parsed us f ≡ Parsed.Header h' → (ps : List State)
    → without h.words.sender ps ≡ without h'.words.sender ps
same_sender us f h h' read read' ps =
    let same : h ≡ h' = cc in
    ap (λ (x : Header). without x.words.sender ps) same

pub refusal_leaves : RefusalLeaves
refusal_leaves us ps b f reason q = by (call us ps b f)
  where
    by : Call us ps b f
        → ((step_of us ps b f).buffer ≡ b)
        × (number_of reason ≤ 5 → (step_of us ps b f).places ≡ ps)
        × (number_of reason ≡ 15 → (step_of us ps b f).places ≡ ps)
        × ((h : Header) → parsed us f ≡ Parsed.Header h → 5 ≤ number_of reason → number_of reason ≤ 10 → (step_of us ps b f).places ≡ without h.words.sender ps)
    by (bad illegal is) =
        let said : ◌≡◌ {A = Verdict} (Refused (Step BadState)) (Refused reason) = rw is at q in
        let same : Step BadState ≡ reason = cc in
        let eleven : number_of (Step BadState) ≡ number_of reason = ap number_of same in
        rw is (refl, (λ n. absurd (omega arith)), (λ n. absurd (omega arith)), (λ h read least most. absurd (omega arith)))
    by (unread ok r read is) = rw is (refl, (λ n. refl), (λ n. refl), (λ h read' least most. apart (cc)))
    by (crowds ok h read first none is) =
        let nothing = no_place_dropped h.words.sender ps (none_free_no_place h.words.sender ps none) in
        rw is (refl, (λ n. refl), (λ n. refl), (λ h' read' least most. sym nothing ∙ same_sender us f h h' read read' ps))
    by (misses ok h read later none is) =
        rw is (refl, (λ n. refl), (λ n. refl), (λ h' read' least most. sym (no_place_dropped h.words.sender ps none) ∙ same_sender us f h h' read read' ps))
    by (sits ok h read k state qs seat is) =
        let st = One.step_of us state (part k b) f in
        let said = placed_refused k st.answer.verdict reason (rw is at q) in
        let r = said.0 in
        let number : number_of reason ≡ One.number_of r = ap number_of said.1 in
        let leaves = Base.refusal_leaves us state (part k b) f r said.2 in
        let s = h.words.sender in
        let own : is_first h ≡ false → is_of_def s state ≡ true =
        λ e. rw (seat.goes_on e).1 (place_open s ps (rw (← (seat.goes_on e).0) seat.inside)) in
        rw is (
          ap (λ (l : List ℕ). with_part k l b) leaves.2 ∙ part_back k b,
          (λ n. absurd (not_early us s state (part k b) f h read own r (omega arith) said.2)),
          (λ n. absurd (omega (arith, at_most_eleven r))),
          (λ h' read' least most. ap (λ (x : State). set qs k x) (leaves.1 (omega arith)) ∙ seat.cleared_is ∙ same_sender us f h h' read read' ps),
        )

-- ---- 15

-- what 15 says of a frame's data, and what says that it is not 10, 8 or 9
out_means : (size total : ℕ) → crowded size total ≡ NoPlace → (total ≤ message_max) × (size ≡ 0 → total ≡ 0) × (size ≤ total)
unfolding crowded
out_means size total e =
    let a = past (ltb message_max total) (λ z. apart (cc)) e in
    let c = past (lacks_data_def size total) (λ z. apart (cc)) a.1 in
    let d = past (exceeds size total) (λ z. apart (cc)) c.1 in
    (ltb-false message_max total a.0, (λ z. eqb-true total 0 (not-false (eqb total 0) (rw (eq-eqb size 0 z) at c.0))), ltb-false total size d.0)

some_data : (size total : ℕ) → (size ≡ 0 → total ≡ 0) → lacks_data_def size total ≡ false
some_data size total some = go (eqb size 0) refl
  where
    go : (none : Bool) → eqb size 0 ≡ none → lacks_data_def size total ≡ false
    go true e = rw (e, eq-eqb total 0 (some (eqb-true size 0 e)))
    go false e = rw e

pub fifteen_exactly : FifteenExactly
fifteen_exactly us ps b f = (given, (λ q. by q (call us ps b f)))
  where
    given : NoneFree us ps (length b) f → step_of us ps b f ≡ refused NoPlace ps b
    given n =
        let h = n.header in
        let s = h.words.sender in
        let whole = no_place_dropped s ps (omega (arith, fresh_no_place s ps n.nothing_open)) in
        let none : length ps ≤ lowest is_free_def (without s ps) = rw whole (omega (arith, lowest_none is_free_def ps n.all_taken)) in
        Law.good_places us ps b f n.is_legal
        ∙ Law.index_zero (parsed us f) (data_of f) ps b h n.reads (eq-eqb h.index 0 n.first)
        ∙ Law.none_free h (data_of f) ps b none
        ∙ ap (λ (r : Reason). refused r ps b)
        (Law.crowded_out (length (data_of f)) h.words.total n.bounded (some_data (length (data_of f)) h.words.total n.some_data) n.fits)

    by : (step_of us ps b f).verdict ≡ Refused NoPlace → Call us ps b f → NoneFree us ps (length b) f
    by q (bad illegal is) = apart (let said = rw is at q in cc)
    by q (unread ok reason read is) = apart (let said = rw is at q in cc)
    by q (misses ok h read later none is) = apart (let said = rw is at q in cc)
    by q (sits ok h read k state qs seat is) =
        let said = placed_refused k (One.step_of us state (part k b) f).answer.verdict NoPlace (rw is at q) in
        let not_so = said.1 in
        apart (cc)
    by q (crowds ok h read first none is) =
        let said = rw is at q in
        let s = h.words.sender in
        let nowhere = none_free_no_place s ps none in
        let means = out_means (length (data_of f)) h.words.total (cc) in
        let taken : length ps ≤ lowest is_free_def ps = rw (no_place_dropped s ps nowhere) at none in
        record {
          header = h;
          is_legal = ok;
          reads = read;
          first = eqb-true h.index 0 first;
          bounded = means.0;
          some_data = means.1;
          fits = means.2;
          nothing_open = no_place_fresh s ps nowhere;
          all_taken = λ k inside. lowest_before is_free_def ps k (omega arith);
        }

-- ---- the other senders, and the bytes

-- whoever has its message where a frame sits sent that frame
whose_place : {t : ℕ} {first : Bool} {ps : List State} {k : ℕ} {state : State} {qs : List State} → Seat t first ps k state qs → (s : ℕ) → place_of s qs ≡ k → t ≡ s
whose_place {t} {k = k} {qs = qs} seat s here =
    of_same t s (get_or qs k Fresh) seat.of_sender (rw (← here) (place_open s qs (rw (here, seat.as_many) seat.inside)))

pub others_untouched : OthersUntouched
others_untouched us ps b f len legal-now s not_own = by (call us ps b f)
  where
    by : Call us ps b f
        → (place_of s (step_of us ps b f).places ≡ place_of s ps)
        × (open_of_def s (step_of us ps b f).places ≡ open_of_def s ps)
        × (part (place_of s ps) (step_of us ps b f).buffer ≡ part (place_of s ps) b)
    by (bad illegal is) = never (sym legal-now ∙ illegal)
    by (unread ok reason read is) = rw is (refl, refl, refl)
    by (crowds ok h read first none is) = rw is (refl, refl, refl)
    by (misses ok h read later none is) = rw is (refl, refl, refl)
    by (sits ok h read k state qs seat is) =
        let t = h.words.sender in
        let other : t ≡ s → ⊥ = eqb-false t s (rw read at not_own) in
        let st = One.step_of us state (part k b) f in
        let after = st.answer.state in
        let fits = place_fits ps k (length b) len ok seat.inside in
        let keeps = step_keeps us state (part k b) f (length_part k b fits) seat.state_ok in
        let of = stays_of us (part k b) f h t read refl state seat.state_of in
        let as-were = seat.others_as s other in
        let elsewhere : place_of s ps ≡ k → ⊥ = λ e. other (whose_place seat s (as-were.0 ∙ e)) in
        rw is (
          others_place t qs k after seat.of_sender of s other ∙ as-were.0,
          others_open t qs k after seat.of_sender of s other ∙ as-were.1,
          part_other k b fits st.buffer keeps.2 (place_of s ps) elsewhere,
        )

-- ---- where data lands

-- data that is taken where so many bytes are filled: the message ends, or more is wanted
data Takes (w : Words) (i filled : ℕ) (p b : List ℕ) (st : One.Stepped) : Type 0 where
  ends : st ≡ delivered w (landed filled p b) → Takes w i filled p b st
  goes : st ≡ wanting w i (filled + length p) (landed filled p b) → Takes w i filled p b st

-- what a step in a place makes of it
record Taken (h : Header) (state : State) (p b : List ℕ) (st : One.Stepped) : Type 0 where
  words : Words
  index : ℕ
  filled : ℕ
  begins : is_first h ≡ true → filled ≡ 0
  goes_on : is_first h ≡ false → filled ≡ filled_of state
  own : Of h.words.sender state → words.sender ≡ h.words.sender
  fits : filled + length p ≤ length b
  takes : Takes words index filled p b st

abbrev Accepted : One.Stepped → Type 0
Accepted st = (r : R.Reason) → st.answer.verdict ≡ One'.Refused r → ⊥

not_refused : (st : One.Stepped) → Accepted st → (r : R.Reason) (z : State) (b : List ℕ) → st ≡ One.refused r z b → ⊥
not_refused st accepted r z b e = accepted r (ap (λ (x : One.Stepped). x.answer.verdict) e)

accept_takes : (w : Words) (i filled : ℕ) (p b : List ℕ) (st : One.Stepped) → st ≡ accept w i filled p b → Accepted st → filled ≤ w.total
    → (filled + length p ≤ w.total) × Takes w i filled p b st
accept_takes w i filled p b st is accepted most = by_data (lacks_data_def (length p) w.total) refl
  where
    by_end : lacks_data_def (length p) w.total ≡ false → length p ≤ w.total - filled → (all : Bool) → eqb (filled + length p) w.total ≡ all
        → (filled + length p ≤ w.total) × Takes w i filled p b st
    by_end present fits true e =
        (omega arith, ends (is ∙ OneLaw.data_taken w i filled p b present fits ∙ OneLaw.whole w i (filled + length p) (landed filled p b) (eqb-true (filled + length p) w.total e)))
    by_end present fits false e =
        (omega arith, goes (is ∙ OneLaw.data_taken w i filled p b present fits ∙ OneLaw.not_whole w i (filled + length p) (landed filled p b) (eqb-false (filled + length p) w.total e)))

    by_size : lacks_data_def (length p) w.total ≡ false → (much : Bool) → ltb (w.total - filled) (length p) ≡ much → (filled + length p ≤ w.total) × Takes w i filled p b st
    by_size present true e = absurd (not_refused st accepted TooMuchData Fresh b (is ∙ OneLaw.excess w i filled p b present (ltb-true (w.total - filled) (length p) e)))
    by_size present false e = by_end present (ltb-false (w.total - filled) (length p) e) _ refl

    by_data : (lacks : Bool) → lacks_data_def (length p) w.total ≡ lacks → (filled + length p ≤ w.total) × Takes w i filled p b st
    by_data true e = absurd (not_refused st accepted NoData Fresh b (is ∙ OneLaw.lacking w i filled p b e))
    by_data false e = by_size e _ refl

module _ (us : ℕ) (state : State) (b f : List ℕ) (h : Header) (read : parsed us f ≡ Parsed.Header h) (ok : consistent state (length b) ≡ true) (accepted : Accepted (One.step_of us state b f)) where
  abbrev piece : List ℕ
  piece = data_of f

  abbrev step : One.Stepped
  step = One.step_of us state b f

  -- a message begins
  begin_takes : is_first h ≡ true → Taken h state piece b step
  begin_takes first = by_limit (ltb message_max total) refl
    where
      total : ℕ
      total = h.words.total

      is : step ≡ begin h.words piece b
      is = OneLaw.good_state (parsed us f) piece state b ok ∙ OneLaw.index_zero (parsed us f) piece state b h read first

      by_buffer : total ≤ message_max → (long : Bool) → ltb (length b) total ≡ long → Taken h state piece b step
      by_buffer bounded true e = absurd (not_refused step accepted MessageLong Fresh b (is ∙ OneLaw.over_buffer h.words piece b bounded (ltb-true (length b) total e)))
      by_buffer bounded false e =
          let held = ltb-false (length b) total e in
          let got = accept_takes h.words 0 0 piece b step (is ∙ OneLaw.begins h.words piece b bounded held) accepted (omega arith) in
          record {
            words = h.words;
            index = 0;
            filled = 0;
            begins = λ e. refl;
            goes_on = λ later. never (sym first ∙ later);
            own = λ of. refl;
            fits = omega (arith, got.0, held);
            takes = got.1;
          }

      by_limit : (long : Bool) → ltb message_max total ≡ long → Taken h state piece b step
      by_limit true e = absurd (not_refused step accepted MessageLong Fresh b (is ∙ OneLaw.over_limit h.words piece b (ltb-true message_max total e)))
      by_limit false e = by_buffer (ltb-false message_max total e) _ refl

  -- the sender's own goes on
  proceed_takes : is_first h ≡ false → Taken h state piece b step
  proceed_takes later = by_state state refl
    where
      is : step ≡ proceed h piece state b
      is = OneLaw.good_state (parsed us f) piece state b ok ∙ OneLaw.index_more (parsed us f) piece state b h read later

      by_words : (q : Progress) → state ≡ Open q → is_next h q ≡ true → (alike : Bool) → same_words_def h.words q.words ≡ alike → Taken h state piece b step
      by_words q e next true g =
          let known = OneLaw.consistent_open q (length b) (rw (← e) ok) in
          let got = accept_takes q.words q.next q.filled piece b step (is ∙ OneLaw.goes_on h piece state b q e next g) accepted (omega (arith, known.less)) in
          record {
            words = q.words;
            index = q.next;
            filled = q.filled;
            begins = λ first. never (sym first ∙ later);
            goes_on = λ l. sym (ap filled_of e);
            own = λ of. subst (Of h.words.sender) e of;
            fits = omega (arith, got.0, known.held);
            takes = got.1;
          }
      by_words q e next false g = absurd (not_refused step accepted OtherWords (Open q) b (is ∙ OneLaw.other_words h piece state b q e next g))

      by_next : (q : Progress) → state ≡ Open q → (next : Bool) → is_next h q ≡ next → Taken h state piece b step
      by_next q e true g = by_words q e g _ refl
      by_next q e false g = absurd (not_refused step accepted OutOfOrder (Open q) b (is ∙ OneLaw.other_index h piece state b q e g))

      by_state : (z : State) → state ≡ z → Taken h state piece b step
      by_state Fresh e = absurd (not_refused step accepted NothingOpen Fresh b (is ∙ OneLaw.none_open h piece state b e))
      by_state (Open q) e = by_next q e _ refl

  step_takes : (first : Bool) → is_first h ≡ first → Taken h state piece b step
  step_takes true e = begin_takes e
  step_takes false e = proceed_takes e

pub own_bytes : OwnBytes
own_bytes us ps b f len accepted = by (call us ps b f)
  where
    by : Call us ps b f → Lands us ps b f (step_of us ps b f)
    by (bad illegal is) = absurd (accepted (Step BadState) (rw is))
    by (unread ok reason read is) = absurd (accepted (Step (Unread reason)) (rw is))
    by (crowds ok h read first none is) = absurd (accepted (crowded (length (data_of f)) h.words.total) (rw is))
    by (misses ok h read later none is) = absurd (accepted (Step NothingOpen) (rw is))
    by (sits ok h read k state qs seat is) = in_place t.takes
      where
        s : ℕ
        s = h.words.sender

        fits : place_size * k + place_size ≤ length b
        fits = place_fits ps k (length b) len ok seat.inside

        inside : k < length qs
        inside = rw seat.as_many seat.inside

        st : One.Stepped
        st = One.step_of us state (part k b) f

        taken : Accepted st
        taken r e = accepted (Step r) (ap (λ (x : Stepped). x.verdict) is ∙ ap (placed k) e)

        t : Taken h state (data_of f) (part k b) st
        t = step_takes us state (part k b) f h read (rw (length_part k b fits) seat.state_ok) taken (is_first h) refl

        room : t.filled + length (data_of f) ≤ place_size
        room = rw (length_part k b fits) at t.fits

        landing : (after : Stepped) → after.buffer ≡ with_part k (landed t.filled (data_of f) (part k b)) b → Landing us ps b f after
        landing after e =
            record {
              header = h;
              reads = read;
              place = k;
              filled = t.filled;
              begins = λ first. ((seat.begins first).0, t.begins first);
              goes_on = λ later. ((seat.goes_on later).0, t.goes_on later ∙ ap filled_of (seat.goes_on later).1);
              inside = seat.inside;
              fits = room;
              buffer_is = e ∙ landed_part k b fits t.filled (data_of f) room;
            }

        in_place : Takes t.words t.index t.filled (data_of f) (part k b) st → Lands us ps b f (step_of us ps b f)
        in_place (ends e) = subst (Lands us ps b f) (sym (is ∙ ap (λ (x : One.Stepped). settled k x qs b) e)) (landing _ refl, (refl, seat.cleared_is))
        in_place (goes e) =
            let x = waiting t.words (suc t.index) (t.filled + length (data_of f)) in
            let own = t.own seat.state_of in
            subst (Lands us ps b f) (sym (is ∙ ap (λ (x : One.Stepped). settled k x qs b) e))
            (landing _ refl, (place_set s qs k x inside seat.only (eq-eqb t.words.sender s own), ap filled_of (open_set s qs k x inside seat.only own)))

pub behind_the_places : BehindThePlaces
behind_the_places us ps b f len = by (call us ps b f)
  where
    by : Call us ps b f → drop buffer_min (step_of us ps b f).buffer ≡ drop buffer_min b
    by (bad illegal is) = rw is
    by (unread ok reason read is) = rw is
    by (crowds ok h read first none is) = rw is
    by (misses ok h read later none is) = rw is
    by (sits ok h read k state qs seat is) =
        let fits = place_fits ps k (length b) len ok seat.inside in
        let keeps = step_keeps us state (part k b) f (length_part k b fits) seat.state_ok in
        rw is (behind_part k b fits (One.step_of us state (part k b) f).buffer keeps.2 buffer_min (omega (arith, seat.inside)))
