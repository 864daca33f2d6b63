-- What stands in the buffer beside what is filled plays no part: `step_agrees`, `any_buffer`; and what is delivered is bounded, and the frame's sender's: `delivery_bounded`, `delivery_is_own`.
-- Assumes nothing.
use Prim.Native.Nat.{ℕ, zero, suc, ◌+◌, ◌*◌, ◌≤◌, ◌<◌}
use mathlib.Core.Bool.{Bool, true, false, cond}
use mathlib.Core.Path.{◌≡◌, refl, sym, ap, ap₂, ◌∙◌}
use mathlib.Core.List.{List, [], ◌∷◌}
use native.Mathlib.Omega.{arith}
use borrow.Author.Tests.{ltb-true, eqb-true, eqb-false}
use lib.Dec.{eqb, ltb}
use lib.ListN.{length, get_or, take, set, replicate, length-take}
use lib.Seq.{get_or-set_same, get_or-set_other}
use Rattle.le.proofs.Tests.{apart}
use Rattle.frame.specs.Layout.{message_max}
use Rattle.frame.specs.Reading.{parsed, data_of}
use Rattle.frame.specs.declared.Header.{Header}
use Rattle.frame.specs.declared.Words.{Words}
use Rattle.frame.specs.declared.read.Parsed.{Parsed}
use Rattle.reassembly.specs.Run as OneRun
use Rattle.reassembly.specs.Statements.{filled_of, Agree as OneAgree}
use Rattle.reassembly.specs.Step as One
use Rattle.reassembly.specs.Step.{consistent, is_first}
use Rattle.reassembly.specs.declared.Answer.{Answer}
use Rattle.reassembly.specs.declared.Reason.TheVariants.{Unread, NothingOpen}
use Rattle.reassembly.specs.declared.State.{State}
use Rattle.reassembly.specs.declared.State.TheVariants.{Fresh}
use Rattle.reassembly.proofs.Answers.{fresh}
use Rattle.reassembly.proofs.Outcome.{Outcome, refuses, delivers, wants, outcome, step_agrees as one-agrees}
use Rattle.heads.specs.Places.{place_count, place_size, all_fresh, part, with_part, is_free_def, lowest, place_of, open_of_def, without, legal}
use Rattle.heads.specs.Step.{Stepped, refused, placed, seated, crowded, begun, continued, routed, step_of}
use Rattle.heads.specs.Run.{answers, Reply, up_by, run}
use Rattle.heads.specs.Statements.{Agree, StepAgrees, DeliveryBounded, Ends, DeliveryIsOwn, verdicts, AnyBuffer}
use Rattle.heads.specs.declared.Reason.{Reason}
use Rattle.heads.specs.declared.Reason.TheVariants.{Step}
use Rattle.heads.specs.declared.Verdict.{Verdict}
use Rattle.heads.specs.declared.Verdict.TheVariants.{Delivered}
use Rattle.heads.proofs.Seats.{Stored, stored, kept, at_set, length_without, each_consistent, legal_known, length_part, length_with_part, part_same, part_other}
use Rattle.heads.proofs.Answers as Law
use Rattle.heads.proofs.Calls.{Call, bad, unread, crowds, misses, sits, call, place_fits, step_keeps, from_source}
use Rattle.heads.proofs.Legal.{stays_legal}
use Rattle.heads.proofs.Alone.{settled_reply}

-- ---- one call

-- two calls that come to the same, and whose buffers agree
abbrev Alike : Stepped → Stepped → Type 0
Alike x y = (x.verdict ≡ y.verdict) × (x.places ≡ y.places) × (up_by x ≡ up_by y) × Agree x.places x.buffer y.buffer

alike_as : (x y v w : Stepped) → x ≡ v → y ≡ w → Alike v w → Alike x y
alike_as x y v w e g a = rw (e, g) a

-- nothing is filled of a place that is dropped, or of places that are all fresh
dropped_agree : (ps : List State) (k : ℕ) (b c : List ℕ) → Agree ps b c → Agree (set ps k Fresh) b c
dropped_agree ps k b c agree = record { long = agree.long; filled = λ j. by j (at_set ps k Fresh j) }
  where
    by : (j : ℕ) → Stored ps k Fresh j → take (filled_of (get_or (set ps k Fresh) j Fresh)) (part j b) ≡ take (filled_of (get_or (set ps k Fresh) j Fresh)) (part j c)
    by j (stored same is) = rw is
    by j (kept is) = rw is (agree.filled j)

at_fresh : (n k : ℕ) → get_or (replicate n Fresh) k Fresh ≡ Fresh
at_fresh zero k = refl
at_fresh (suc n) zero = refl
at_fresh (suc n) (suc k) = at_fresh n k

none_filled : (n : ℕ) (b c : List ℕ) → length b ≡ length c → Agree (replicate n Fresh) b c
none_filled n b c long = record { long = long; filled = λ k. rw (at_fresh n k) }

module _ (us : ℕ) (ps : List State) (b c f : List ℕ) (len : length ps ≡ place_count) (agree : Agree ps b c) where
  -- a step in place k, of whose state both have the same
  seated_alike : legal ps (length b) ≡ true → (h : Header) → parsed us f ≡ Parsed.Header h → (k : ℕ) → k < length ps → (state : State) → consistent state place_size ≡ true
      → take (filled_of state) (part k b) ≡ take (filled_of state) (part k c) → (qs : List State) → length qs ≡ length ps → Agree qs b c
      → Alike (seated k state h (data_of f) qs b) (seated k state h (data_of f) qs c)
  seated_alike ok h read k less state state_ok same-filled qs as_many others =
      alike_as _ _ _ _ (Law.in_place us k state h f qs b read) (Law.in_place us k state h f qs c read) (
        ap (λ (a : Answer). placed k a.verdict) alike.0,
        ap (λ (a : Answer). set qs k a.state) alike.0,
        ap (λ (r : Reply). r.up) (settled_reply us k state qs b f fits_b state_ok) ∙ alike.1 ∙ sym (ap (λ (r : Reply). r.up) (settled_reply us k state qs c f fits_c state_ok)),
        record {
          long = length_with_part k b fits_b x.buffer long_x ∙ agree.long ∙ sym (length_with_part k c fits_c y.buffer long_y);
          filled = λ j. by j (eqb j k) refl;
        },
      )
    where
      x : One.Stepped
      x = One.step_of us state (part k b) f

      y : One.Stepped
      y = One.step_of us state (part k c) f

      fits_b : place_size * k + place_size ≤ length b
      fits_b = place_fits ps k (length b) len ok less

      fits_c : place_size * k + place_size ≤ length c
      fits_c = rw (← agree.long) fits_b

      alike : (x.answer ≡ y.answer) × (OneRun.up_by x ≡ OneRun.up_by y) × OneAgree x.answer.state x.buffer y.buffer
      alike = one-agrees us state (part k b) (part k c) f (length_part k b fits_b ∙ sym (length_part k c fits_c), same-filled)

      long_x : length x.buffer ≡ place_size
      long_x = (step_keeps us state (part k b) f (length_part k b fits_b) state_ok).2

      long_y : length y.buffer ≡ place_size
      long_y = (step_keeps us state (part k c) f (length_part k c fits_c) state_ok).2

      after : State
      after = x.answer.state

      by : (j : ℕ) (t : Bool) → eqb j k ≡ t
          → take (filled_of (get_or (set qs k after) j Fresh)) (part j (with_part k x.buffer b)) ≡ take (filled_of (get_or (set qs k after) j Fresh)) (part j (with_part k y.buffer c))
      by j true e =
          rw (eqb-true j k e, get_or-set_same qs k after Fresh (rw as_many less), part_same k b fits_b x.buffer long_x, part_same k c fits_c y.buffer long_y) alike.2.1
      by j false e =
          let other = eqb-false j k e in
          rw (get_or-set_other qs k j after Fresh other, part_other k b fits_b x.buffer long_x j other, part_other k c fits_c y.buffer long_y j other) (others.filled j)

  refused_alike : (reason : Reason) → Alike (refused reason ps b) (refused reason ps c)
  refused_alike reason = (refl, refl, refl, agree)

  -- a message begins, or the sender's own goes on
  begun_alike : legal ps (length b) ≡ true → (h : Header) → parsed us f ≡ Parsed.Header h → Alike (begun h (data_of f) ps b) (begun h (data_of f) ps c)
  unfolding begun
  begun_alike ok h read = go (ltb k (length ps)) refl
    where
      qs : List State
      qs = without h.words.sender ps

      k : ℕ
      k = lowest is_free_def qs

      go : (t : Bool) → ltb k (length ps) ≡ t
          → Alike (cond t (seated k Fresh h (data_of f) qs b) (refused (crowded (length (data_of f)) h.words.total) ps b))
          (cond t (seated k Fresh h (data_of f) qs c) (refused (crowded (length (data_of f)) h.words.total) ps c))
      go true e =
          seated_alike ok h read k (ltb-true k (length ps) e) Fresh (fresh place_size) refl qs (length_without h.words.sender ps) (dropped_agree ps (place_of h.words.sender ps) b c agree)
      go false e = refused_alike _

  continued_alike : legal ps (length b) ≡ true → (h : Header) → parsed us f ≡ Parsed.Header h → Alike (continued h (data_of f) ps b) (continued h (data_of f) ps c)
  unfolding continued
  continued_alike ok h read = go (ltb k (length ps)) refl
    where
      s : ℕ
      s = h.words.sender

      k : ℕ
      k = place_of s ps

      go : (t : Bool) → ltb k (length ps) ≡ t
          → Alike (cond t (seated k (open_of_def s ps) h (data_of f) ps b) (refused (Step NothingOpen) ps b)) (cond t (seated k (open_of_def s ps) h (data_of f) ps c) (refused (Step NothingOpen) ps c))
      go true e =
          seated_alike ok h read k (ltb-true k (length ps) e) (open_of_def s ps) (each_consistent ps (legal_known ps (length b) ok).places_consistent k) (agree.filled k) ps refl agree
      go false e = refused_alike (Step NothingOpen)

  routed_alike : legal ps (length b) ≡ true → (r : Parsed) → parsed us f ≡ r → Alike (routed r (data_of f) ps b) (routed r (data_of f) ps c)
  unfolding routed
  routed_alike ok (Parsed.Refused reason) read = refused_alike (Step (Unread reason))
  routed_alike ok (Parsed.Header h) read = go (is_first h)
    where
      go : (t : Bool) → Alike (cond t (begun h (data_of f) ps b) (continued h (data_of f) ps b)) (cond t (begun h (data_of f) ps c) (continued h (data_of f) ps c))
      go true = begun_alike ok h read
      go false = continued_alike ok h read

pub step_agrees : StepAgrees
step_agrees us ps b c f len agree = go (legal ps (length b)) refl
  where
    go : (t : Bool) → legal ps (length b) ≡ t → Alike (step_of us ps b f) (step_of us ps c f)
    go true e =
        rw (Law.good_places us ps b f e, Law.good_places us ps c f (rw (← agree.long) e)) (routed_alike us ps b c f len agree e (parsed us f) refl)
    go false e =
        rw (Law.bad_places us ps b f e, Law.bad_places us ps c f (rw (← agree.long) e)) (refl, refl, refl, none_filled (length ps) b c agree.long)

-- ---- whole runs

same_answers : (us : ℕ) (ps : List State) (b c : List ℕ) (frames : List (List ℕ)) → length ps ≡ place_count → Agree ps b c
    → (verdicts us ps b frames ≡ verdicts us ps c frames) × (run us ps b frames ≡ run us ps c frames)
unfolding answers
same_answers us ps b c [] len agree = (refl, refl)
same_answers us ps b c (f ∷ fs) len agree =
    let alike = step_agrees us ps b c f len agree in
    let st = step_of us ps b f in
    let other = step_of us ps c f in
    let rest = same_answers us st.places st.buffer other.buffer fs (stays_legal us ps b f len).1 alike.3 in (
      ap₂ ◌∷◌ alike.0 (rest.0 ∙ ap (λ (qs : List State). verdicts us qs other.buffer fs) alike.1),
      ap₂ ◌∷◌ alike.2 (rest.1 ∙ ap (λ (qs : List State). run us qs other.buffer fs) alike.1),
    )

-- eight fresh places
pub fresh_agree : (b c : List ℕ) → length b ≡ length c → Agree all_fresh b c
fresh_agree b c long = none_filled place_count b c long

pub any_buffer : AnyBuffer
any_buffer us b c frames long = same_answers us all_fresh b c frames refl (fresh_agree b c long)

-- ---- what is delivered

-- in a place, which has 4,096 bytes at most
placed_bounded : (us k : ℕ) (state : State) (b f : List ℕ) (words : Words) (n j : ℕ) → length b ≤ place_size → placed k (One.step_of us state b f).answer.verdict ≡ Delivered words n j
    → n ≤ message_max
placed_bounded us k state b f words n j most e = by (outcome us state (length b) f)
  where
    by : Outcome us state (length b) f → n ≤ message_max
    by (refuses reason cause steps) = apart (let said = rw (steps b refl) at e in cc)
    by (delivers w i filled source all held steps) =
        let said : ◌≡◌ {A = Verdict} (Delivered w w.total k) (Delivered words n j) = rw (steps b refl) at e in
        let same : w.total ≡ n = cc in
        omega (arith, held, same)
    by (wants w i filled source room again steps) = apart (let said = rw (steps b refl) at e in cc)

pub delivery_bounded : DeliveryBounded
delivery_bounded us ps b f words n j e = by (call us ps b f)
  where
    by : Call us ps b f → n ≤ message_max
    by (bad illegal is) = apart (let said = rw is at e in cc)
    by (unread ok reason read is) = apart (let said = rw is at e in cc)
    by (crowds ok h read first none is) = apart (let said = rw is at e in cc)
    by (misses ok h read later none is) = apart (let said = rw is at e in cc)
    by (sits ok h read k state qs seat is) = placed_bounded us k state (part k b) f words n j (simp length-take (omega arith)) (rw is at e)

-- it is the frame's sender's, in the place where the frame sits
pub delivery_is_own : DeliveryIsOwn
delivery_is_own us ps b f words n j e = by (call us ps b f)
  where
    by : Call us ps b f → Ends us ps f words n j
    by (bad illegal is) = apart (let said = rw is at e in cc)
    by (unread ok reason read is) = apart (let said = rw is at e in cc)
    by (crowds ok h read first none is) = apart (let said = rw is at e in cc)
    by (misses ok h read later none is) = apart (let said = rw is at e in cc)
    by (sits ok h read k state qs seat is) = in_place (rw is at e) (outcome us state (length (part k b)) f)
      where
        in_place : placed k (One.step_of us state (part k b) f).answer.verdict ≡ Delivered words n j → Outcome us state (length (part k b)) f → Ends us ps f words n j
        in_place q (refuses reason cause steps) = apart (let said = rw (steps (part k b) refl) at q in cc)
        in_place q (delivers w i filled source all held steps) =
            let said : ◌≡◌ {A = Verdict} (Delivered w w.total k) (Delivered words n j) = rw (steps (part k b) refl) at q in
            let same : w ≡ words = cc in
            let long : w.total ≡ n = cc in
            let there : k ≡ j = cc in
            record {
              header = h;
              reads = read;
              sender_is = ap (λ (x : Words). x.sender) (sym same) ∙ from_source us f h h.words.sender read refl state w i filled source seat.state_of;
              length_is = sym long ∙ ap (λ (x : Words). x.total) same;
              inside = rw (← there) seat.inside;
            }
        in_place q (wants w i filled source room again steps) = apart (let said = rw (steps (part k b) refl) at q in cc)
