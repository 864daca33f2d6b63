-- The theorems of `specs/Statements.antt` on the block that C keeps of several senders.
--     places_cross       the block that a call leaves is the places after it
--     told_is            what C sees of a call is what it answers and hands up
--     run_crosses        so a run over blocks is a run over places
--     demand_3_each_exported, exactly_these_each_exported   and demand 3 holds of it for each sender
--     refusal_leaves_lent    what a refusal leaves of what was lent
-- Assumes nothing.
use Prim.Native.Nat.{ℕ, ◌≤◌}
use mathlib.Core.Bool.{Bool, true, false, cond}
use mathlib.Core.Path.{◌≡◌, refl, sym, subst, ap, ap₂, ◌∙◌}
use mathlib.Core.List.{List, [], ◌∷◌, map}
use mathlib.Core.Option.{Option, none}
use native.Mathlib.Omega.{arith}
use borrow.Author.Tests.{ne_eqb}
use lib.ListN.{length, replicate}
use Rattle.le.specs.Word.{AreBytes}
use Rattle.le.proofs.Tests.{apart}
use Rattle.frame.specs.Framing.{All}
use Rattle.frame.specs.Reading.{parsed}
use Rattle.frame.specs.declared.Header.{Header}
use Rattle.frame.specs.declared.read.Parsed.TheVariants as Parsed
use Rattle.reassembly.specs.Run.{HandedUp, messages}
use Rattle.reassembly.specs.declared.State.{State}
use Rattle.reassembly.specs.declared.State.TheVariants.{Fresh}
use Rattle.reassembly.specs.declared.Reason.TheVariants.{Unread, NothingOpen, OutOfOrder, OtherWords, NoData, TooMuchData, MessageLong, BadState}
use Rattle.reassembly.proofs.Outcome.{Outcome, refuses, delivers, wants, outcome, small}
use Rattle.heads.specs.Places.{place_count, all_fresh, part, without, legal}
use Rattle.heads.specs.Step.{Stepped, number_of, step_of}
use Rattle.heads.specs.Numbers.{number_count, places_in, numbers_of}
use Rattle.heads.specs.Run.{answers, up_by, unplaced, Reply, reply_of, kept_answers}
use Rattle.heads.specs.Statements.{HasPlace, is_for}
use Rattle.heads.specs.declared.Reason.{Reason}
use Rattle.heads.specs.declared.Reason.TheVariants.{Step, NoPlace}
use Rattle.heads.specs.declared.Verdict.{Verdict}
use Rattle.heads.specs.declared.Verdict.TheVariants.{More, Delivered, Refused}
use Rattle.heads.proofs.Seats.{legal_known}
use Rattle.heads.proofs.Calls.{Call, bad, unread, crowds, misses, sits, call}
use Rattle.heads.proofs.Legal.{eleven_exactly, stays_legal}
use Rattle.heads.proofs.Refusals.{refusal_leaves}
use Rattle.heads.proofs.Demand.{demand_3_each, exactly_these_each}
use Rattle.heads.proofs.Rows.{length_places, all_kept, fresh_numbers, fresh_places}
use Rattle.heads.proofs.Carried.{step_narrow, places_narrow, places_back}
use Rattle.hoursquall_heads.specs.Heads.{verdict_number, words_after, place_after, Lent, lending, stepped, answered, left}
use Rattle.hoursquall_heads.specs.Statements as S
use Rattle.hoursquall_heads.specs.Statements.{ZerosFresh, PlacesCross, up_in_c, frames_of, lent_to, Told, told_by, run_in_c, tell_of, RunCrosses, told_for, Demand3EachExported, ExactlyTheseEachExported, RefusalLeavesLent}

pub zeros_fresh : ZerosFresh
zeros_fresh = ap places_in (sym (fresh_numbers place_count)) ∙ fresh_places place_count

-- ---- what C keeps and sees

pub places_cross : PlacesCross
places_cross us lent f are =
    let ps = places_in lent.places in
    places_back (step_of us ps lent.buffer f).places (stays_legal us ps lent.buffer f (length_places place_count lent.places)).1
    (step_narrow us ps lent.buffer f are (places_narrow lent.places))

-- no refusal has the number 100
at_most_15 : (reason : Reason) → number_of reason ≤ 15
at_most_15 (Step (Unread reason)) = omega (arith, (small reason).1)
at_most_15 (Step NothingOpen) = omega arith
at_most_15 (Step OutOfOrder) = omega arith
at_most_15 (Step OtherWords) = omega arith
at_most_15 (Step NoData) = omega arith
at_most_15 (Step TooMuchData) = omega arith
at_most_15 (Step MessageLong) = omega arith
at_most_15 (Step BadState) = omega arith
at_most_15 NoPlace = omega arith

-- what C sees of a verdict, with what was lent for the words and the place
abbrev seen : List ℕ → ℕ → Stepped → Told
seen words place st =
    record {
      number = verdict_number st.verdict;
      up = up_in_c (verdict_number st.verdict) (words_after st.verdict words) (place_after st.verdict place) st.buffer;
    }

refused_seen : (words : List ℕ) (place : ℕ) (st : Stepped) (reason : Reason) → st.verdict ≡ Refused reason → seen words place st ≡ tell_of st
refused_seen words place st reason e =
    let no = ne_eqb (number_of reason) 100 (λ z. omega (arith, at_most_15 reason)) in
    rw (e, no)

told_is : (us : ℕ) (lent : Lent) (f : List ℕ) → told_by us lent f ≡ tell_of (stepped us lent f)
told_is us lent f = by (call us ps b f)
  where
    ps : List State
    ps = places_in lent.places

    b : List ℕ
    b = lent.buffer

    by : Call us ps b f → told_by us lent f ≡ tell_of (stepped us lent f)
    by (bad ok is) = refused_seen lent.words lent.place (stepped us lent f) _ (ap (λ (st : Stepped). st.verdict) is)
    by (unread ok reason read is) = refused_seen lent.words lent.place (stepped us lent f) _ (ap (λ (st : Stepped). st.verdict) is)
    by (crowds ok h read first full is) = refused_seen lent.words lent.place (stepped us lent f) _ (ap (λ (st : Stepped). st.verdict) is)
    by (misses ok h read later gone is) = refused_seen lent.words lent.place (stepped us lent f) _ (ap (λ (st : Stepped). st.verdict) is)
    by (sits ok h read k state qs seat is) = in_place (outcome us state (length (part k b)) f)
      where
        in_place : Outcome us state (length (part k b)) f → told_by us lent f ≡ tell_of (stepped us lent f)
        in_place (refuses reason cause steps) = refused_seen lent.words lent.place (stepped us lent f) (Step reason) (ap (λ (st : Stepped). st.verdict) is ∙ rw (steps (part k b) refl))
        in_place (delivers w i filled source all held steps) = rw (is, steps (part k b) refl)
        in_place (wants w i filled source room again steps) = rw (is, steps (part k b) refl)

pub run_crosses : RunCrosses
unfolding run_in_c answers
run_crosses us places b [] are = refl
run_crosses us places b (c ∷ cs) are =
    let lent = lent_to c places b in
    ap₂ ◌∷◌ (told_is us lent c.frame)
    (run_crosses us (left us lent c.frame).places (left us lent c.frame).buffer cs are.1
    ∙ ap (λ (ps : List State). map tell_of (answers us ps (left us lent c.frame).buffer (frames_of cs))) (places_cross us lent c.frame are.0))

-- ---- demand 3 for each sender

kept_map : {A B : Type 0} (g : A → B) (keep : List ℕ → Bool) (fs : List (List ℕ)) (xs : List A) → kept_answers keep fs (map g xs) ≡ map g (kept_answers keep fs xs)
unfolding kept_answers
kept_map g keep [] xs = refl
kept_map g keep (f ∷ fs) [] = refl
kept_map g keep (f ∷ fs) (x ∷ xs) = go (keep f) (kept_map g keep fs xs)
  where
    go : (t : Bool) → kept_answers keep fs (map g xs) ≡ map g (kept_answers keep fs xs)
        → cond t (g x ∷ kept_answers keep fs (map g xs)) (kept_answers keep fs (map g xs)) ≡ map g (cond t (x ∷ kept_answers keep fs xs) (kept_answers keep fs xs))
    go true e = ap (λ l. g x ∷ l) e
    go false e = e

-- the calls of a sender, as C sees them and as they are answered
abbrev theirs : ℕ → ℕ → List ℕ → List S.Call → List Stepped
theirs us s b cs = kept_answers (is_for us s) (frames_of cs) (answers us all_fresh b (frames_of cs))

told_theirs : (us s : ℕ) (b : List ℕ) (cs : List S.Call) → All AreBytes (frames_of cs) → told_for us s (replicate number_count 0) b cs ≡ map tell_of (theirs us s b cs)
told_theirs us s b cs are =
    ap (kept_answers (is_for us s) (frames_of cs))
    (run_crosses us (replicate number_count 0) b cs are ∙ ap (λ (ps : List State). map tell_of (answers us ps b (frames_of cs))) zeros_fresh)
    ∙ kept_map tell_of (is_for us s) (frames_of cs) (answers us all_fresh b (frames_of cs))

ups : (sts : List Stepped) → map (λ (t : Told). t.up) (map tell_of sts) ≡ map (λ (r : Reply). r.up) (map reply_of sts)
ups [] = refl
ups (st ∷ sts) = ap (λ (l : List (Option HandedUp)). up_by st ∷ l) (ups sts)

-- a reply that is none is 15
is_15 : (v : Verdict) → unplaced v ≡ none → verdict_number v ≡ 15
is_15 More e = apart (cc)
is_15 (Delivered w n k) e = apart (cc)
is_15 (Refused (Step reason)) e = apart (cc)
is_15 (Refused NoPlace) e = refl

have_places : (sts : List Stepped) → All (λ t. t.number ≡ 15 → ⊥) (map tell_of sts) → All HasPlace (map reply_of sts)
have_places [] all = tt
have_places (st ∷ sts) all = ((λ e. all.0 (is_15 st.verdict e)), have_places sts all.1)

pub demand_3_each_exported : Demand3EachExported
demand_3_each_exported us s b traffic cs c no-15 =
    let is = told_theirs us s b cs c.bytes in
    let places = have_places (theirs us s b cs) (subst (All (λ t. t.number ≡ 15 → ⊥)) is no-15) in
    ap (map (λ (t : Told). t.up)) is
    ∙ ups (theirs us s b cs)
    ∙ demand_3_each us s b (frames_of cs) traffic c.room_enough c.legal c.frames_are places

pub exactly_these_each_exported : ExactlyTheseEachExported
exactly_these_each_exported us s b traffic cs c no-15 =
    let is = told_theirs us s b cs c.bytes in
    let places = have_places (theirs us s b cs) (subst (All (λ t. t.number ≡ 15 → ⊥)) is no-15) in
    ap messages (ap (map (λ (t : Told). t.up)) is ∙ ups (theirs us s b cs))
    ∙ exactly_these_each us s b (frames_of cs) traffic c.room_enough c.legal c.frames_are places

-- ---- refusals

-- places that are not refused under 11 are kept as they are lent
lent_kept : (us : ℕ) (lent : Lent) (f : List ℕ) → length lent.places ≡ number_count → (answered us lent f ≡ 11 → ⊥) → numbers_of (places_in lent.places) ≡ lent.places
lent_kept us lent f len not-11 = go (legal (places_in lent.places) (length lent.buffer)) refl
  where
    go : (ok : Bool) → legal (places_in lent.places) (length lent.buffer) ≡ ok → numbers_of (places_in lent.places) ≡ lent.places
    go true e = all_kept place_count lent.places (sym len) (legal_known (places_in lent.places) (length lent.buffer) e).places_consistent
    go false e =
        let is = (eleven_exactly us (places_in lent.places) lent.buffer f (length_places place_count lent.places)).0 e in
        absurd (not-11 (ap (λ (st : Stepped). verdict_number st.verdict) is))

-- only 11 has the number 11
is_11 : (reason : Reason) → number_of reason ≡ 11 → reason ≡ Step BadState
is_11 (Step (Unread reason)) e = absurd (omega (arith, (small reason).1))
is_11 (Step NothingOpen) e = absurd (omega arith)
is_11 (Step OutOfOrder) e = absurd (omega arith)
is_11 (Step OtherWords) e = absurd (omega arith)
is_11 (Step NoData) e = absurd (omega arith)
is_11 (Step TooMuchData) e = absurd (omega arith)
is_11 (Step MessageLong) e = absurd (omega arith)
is_11 (Step BadState) e = refl
is_11 NoPlace e = absurd (omega arith)

-- what is left of what was lent, by the places and the buffer after a refusal
left_is : (us : ℕ) (lent : Lent) (f : List ℕ) (reason : Reason) (ps : List State) → (stepped us lent f).verdict ≡ Refused reason
    → (stepped us lent f).places ≡ ps → left us lent f ≡ lending (numbers_of ps) lent.buffer lent.words lent.place
left_is us lent f reason ps q is =
    let same = (refusal_leaves us (places_in lent.places) lent.buffer f reason q).0 in
    rw (q, same, is)

module _ (us : ℕ) (lent : Lent) (f : List ℕ) (len : length lent.places ≡ number_count) where
  abbrev ps : List State
  ps = places_in lent.places

  -- by the verdict
  abbrev Leaves : ℕ → Type 0
  Leaves n =
      (1 ≤ n → n ≤ 5 → left us lent f ≡ lent)
      × (n ≡ 15 → left us lent f ≡ lent)
      × (n ≡ 11 → left us lent f ≡ lending (replicate number_count 0) lent.buffer lent.words lent.place)
      × ((h : Header) → parsed us f ≡ Parsed.Header h → 5 ≤ n → n ≤ 10 → left us lent f ≡ lending (numbers_of (without h.words.sender ps)) lent.buffer lent.words lent.place)

  -- a refusal that changes no place leaves all as it was lent
  unchanged : (reason : Reason) → (stepped us lent f).verdict ≡ Refused reason → (number_of reason ≡ 11 → ⊥) → (stepped us lent f).places ≡ ps → left us lent f ≡ lent
  unchanged reason q not-11 is =
      left_is us lent f reason ps q is
      ∙ ap (λ (n : List ℕ). lending n lent.buffer lent.words lent.place)
      (lent_kept us lent f len (λ e. not-11 (sym (ap verdict_number q) ∙ e)))

  leaves : (v : Verdict) → (stepped us lent f).verdict ≡ v → Leaves (verdict_number v)
  leaves More q = ((λ l m. absurd (omega arith)), (λ e. absurd (omega arith)), (λ e. absurd (omega arith)), (λ h read l m. absurd (omega arith)))
  leaves (Delivered w n k) q = ((λ l m. absurd (omega arith)), (λ e. absurd (omega arith)), (λ e. absurd (omega arith)), (λ h read l m. absurd (omega arith)))
  leaves (Refused reason) q =
      let after = refusal_leaves us ps lent.buffer f reason q in (
        (λ l m. unchanged reason q (λ e. omega arith) (after.1 m)),
        (λ e. unchanged reason q (λ z. omega arith) (after.2 e)),
        (λ e.
            let is = eleven_exactly us ps lent.buffer f (length_places place_count lent.places) in
            let bad_places = is.0 (is.1 (q ∙ ap Refused (is_11 reason e))) in
            left_is us lent f reason all_fresh q (ap (λ (st : Stepped). st.places) bad_places ∙ ap (λ (n : ℕ). replicate n Fresh) (length_places place_count lent.places))
            ∙ ap (λ (n : List ℕ). lending n lent.buffer lent.words lent.place) (fresh_numbers place_count)),
        (λ h read l m. left_is us lent f reason (without h.words.sender ps) q (after.3 h read l m)),
      )

pub refusal_leaves_lent : RefusalLeavesLent
refusal_leaves_lent us lent f len = leaves us lent f len (stepped us lent f).verdict refl
