-- One sender's frames among those of others: they are answered as one place of 4,096 bytes answers them. `as_in_one_place`, `projection`, `same_as_alone`, `same_as_alone_in_eight`, `own_frames_alone`, `one_sender`.
--     one_step     one frame that is not another sender's, or 15
--     beside       a whole run, whichever frames that are not the sender's are left out
--     alone        a run of one sender, which never gets 15
-- Assumes nothing.
use Prim.Native.Nat.{ℕ, ◌+◌, ◌*◌, ◌≤◌, ◌<◌}
use mathlib.Core.Bool.{Bool, true, false, cond, not}
use mathlib.Core.Path.{◌≡◌, refl, sym, ap, ap₂, ◌∙◌}
use mathlib.Core.List.{List, [], ◌∷◌, map}
use mathlib.Core.Option.{Option, some}
use native.Mathlib.Omega.{arith}
use borrow.Author.Tests.{ltb-true, ltb-false, eqb-true, eqb-false, eq-eqb, ne_eqb, not-true, not-false}
use lib.Dec.{ltb, eqb}
use lib.ListN.{length, take, set}
use Rattle.le.proofs.Tests.{never}
use Rattle.frame.specs.Layout.{message_max}
use Rattle.frame.specs.Framing.{All}
use Rattle.frame.specs.Reading.{parsed, data_of}
use Rattle.frame.specs.declared.Header.{Header}
use Rattle.frame.specs.declared.read.Parsed.{Parsed}
use Rattle.reassembly.specs.Run as One
use Rattle.reassembly.specs.Run.{HandedUp}
use Rattle.reassembly.specs.Step as OneStep
use Rattle.reassembly.specs.Step.{consistent, state_after_def, landed, lacks_data_def, is_first, begin}
use Rattle.reassembly.specs.Statements.{NotBad, filled_of, Agree}
use Rattle.reassembly.specs.declared.Answer.{Answer}
use Rattle.reassembly.specs.declared.State.{State}
use Rattle.reassembly.specs.declared.State.TheVariants.{Fresh, Open}
use Rattle.reassembly.specs.declared.Reason as OneReason
use Rattle.reassembly.specs.declared.Reason.TheVariants.{Unread, NothingOpen, NoData, TooMuchData, MessageLong}
use Rattle.reassembly.specs.declared.Verdict as Of'
use Rattle.reassembly.specs.declared.Verdict.TheVariants as One'
use Rattle.reassembly.proofs.Answers.{fresh, lacking, excess, over_limit, begins, none_open, unread_frame, index_zero, index_more, good_state}
use Rattle.reassembly.proofs.Outcome.{Outcome, refuses, delivers, wants, outcome, step_agrees}
use Rattle.heads.specs.Places.{place_count, place_size, buffer_min, all_fresh, part, with_part, lowest, place_of, open_of_def, legal}
use Rattle.heads.specs.Step.{Stepped, refused, settled, crowded, step_of}
use Rattle.heads.specs.Run.{answers, Reply, reply_of, reply_of_one, is_others_as, is_others, is_own_as, is_own, kept, kept_answers}
use Rattle.heads.specs.Statements.{NoneFree, AsInOnePlace, is_for, frames_for, HasPlace, Beside, Projection, SameAsAlone, SameAsAloneInEight, OwnFramesAlone, OneSender}
use Rattle.heads.specs.declared.Reason.{Reason}
use Rattle.heads.specs.declared.Reason.TheVariants.{Step}
use Rattle.heads.proofs.Seats.{Of, OnlyAt, no_place_fresh, none_free_no_place, all_free, place_set, open_set, each_consistent, legal_known, fresh_legal, length_part, part_same, part_start}
use Rattle.heads.proofs.Answers as Law
use Rattle.heads.proofs.Calls.{Seat, Call, bad, unread, crowds, misses, sits, call, place_fits, step_keeps, stays_of}
use Rattle.heads.proofs.Legal.{still_legal}
use Rattle.heads.proofs.Refusals.{fifteen_exactly, others_untouched}

-- ---- the sender's message among the places, beside one place of its own

-- the same is open in both, and they agree on what is filled
record Follows (s : ℕ) (ps : List State) (buffer : List ℕ) (st : State) (own : List ℕ) : Type 0 where
  eight : length ps ≡ place_count
  is_legal : legal ps (length buffer) ≡ true
  open_there : open_of_def s ps ≡ st
  own_long : length own ≡ place_size
  agrees : take (filled_of st) (part (place_of s ps) buffer) ≡ take (filled_of st) own

-- a fresh start
starts : (s : ℕ) (buffer own : List ℕ) → buffer_min ≤ length buffer → length own ≡ place_size → Follows s all_fresh buffer Fresh own
unfolding lowest
starts s buffer own long own_long =
    record { eight = refl; is_legal = fresh_legal place_count (length buffer) long; open_there = refl; own_long = own_long; agrees = refl }

-- what a frame that is not another sender's comes to: the same reply, and they go on together; or 15
data Next (us s : ℕ) (ps : List State) (buffer : List ℕ) (st : State) (own f : List ℕ) : Type 0 where
  together : reply_of (step_of us ps buffer f) ≡ reply_of_one (OneStep.step_of us st own f)
      → Follows s (step_of us ps buffer f).places (step_of us ps buffer f).buffer (OneStep.step_of us st own f).answer.state (OneStep.step_of us st own f).buffer
      → Next us s ps buffer st own f
  away : NoneFree us ps (length buffer) f → st ≡ Fresh → Next us s ps buffer st own f

-- ---- one frame

-- a step in place k replies as the step of that place
pub settled_reply : (us k : ℕ) (state : State) (qs : List State) (buffer f : List ℕ) → place_size * k + place_size ≤ length buffer → consistent state place_size ≡ true
    → reply_of (settled k (OneStep.step_of us state (part k buffer) f) qs buffer) ≡ reply_of_one (OneStep.step_of us state (part k buffer) f)
settled_reply us k state qs buffer f fits ok = by (outcome us state place_size f)
  where
    by : Outcome us state place_size f → reply_of (settled k (OneStep.step_of us state (part k buffer) f) qs buffer) ≡ reply_of_one (OneStep.step_of us state (part k buffer) f)
    by (refuses reason cause steps) = rw (steps (part k buffer) (length_part k buffer fits))
    by (delivers w i filled source all held steps) =
        let is = steps (part k buffer) (length_part k buffer fits) in
        let bytes = landed filled (data_of f) (part k buffer) in
        let long : length bytes ≡ place_size = rw is at (step_keeps us state (part k buffer) f (length_part k buffer fits) ok).2 in
        rw is
        (ap (λ (l : List ℕ). record { verdict = some (One'.Delivered w w.total); up = some (record { words = w; length = w.total; bytes = l }) })
        (part_start k buffer fits bytes long w.total held))
    by (wants w i filled source room again steps) = rw (steps (part k buffer) (length_part k buffer fits))

-- what is filled of what is put into place k
filled_there : (s k : ℕ) (qs : List State) (buffer : List ℕ) (x : State) (bytes : List ℕ) → k < length qs → OnlyAt s k qs
    → place_size * k + place_size ≤ length buffer → Of s x → length bytes ≡ place_size
    → take (filled_of x) (part (place_of s (set qs k x)) (with_part k bytes buffer)) ≡ take (filled_of x) bytes
filled_there s k qs buffer Fresh bytes inside only fits of long = refl
filled_there s k qs buffer (Open p) bytes inside only fits of long =
    rw (place_set s qs k (Open p) inside only (eq-eqb p.words.sender s of), part_same k buffer fits bytes long)

-- a frame, the places, and the one place that follows them
module _ (us s : ℕ) (ps : List State) (buffer : List ℕ) (st : State) (own f : List ℕ) (follows : Follows s ps buffer st own) where
  abbrev piece : List ℕ
  piece = data_of f

  -- what is open in the one place is consistent
  open_consistent : consistent st (length own) ≡ true
  open_consistent =
      rw (← follows.open_there, follows.own_long) (each_consistent ps (legal_known ps (length buffer) follows.is_legal).places_consistent (place_of s ps))

  -- the places stay as many, and legal
  stays : (length (step_of us ps buffer f).places ≡ place_count) × (legal (step_of us ps buffer f).places (length (step_of us ps buffer f).buffer) ≡ true)
  stays = still_legal us ps buffer f follows.eight follows.is_legal

  -- a refusal that changes nothing in either
  same_refusal : (reason : OneReason.Reason) (z : State) → state_after_def reason z ≡ st → step_of us ps buffer f ≡ refused (Step reason) ps buffer
      → OneStep.step_of us st own f ≡ OneStep.refused reason z own → Next us s ps buffer st own f
  same_refusal reason z same there here = together (rw (there, here)) (rw (there, here, same) follows)

  -- an Index 0 frame begins anew
  begins_anew : (h : Header) → parsed us f ≡ Parsed.Header h → is_first h ≡ true → (z : State) → consistent z (length own) ≡ true
      → OneStep.step_of us z own f ≡ begin h.words piece own
  begins_anew h read first z ok = good_state (parsed us f) piece z own ok ∙ index_zero (parsed us f) piece z own h read first

  -- no place is free, and nothing of the sender is open: 10, 8 and 9 are given as in one place, and else 15
  no_room : (h : Header) → parsed us f ≡ Parsed.Header h → is_first h ≡ true → st ≡ Fresh
      → step_of us ps buffer f ≡ refused (crowded (length piece) h.words.total) ps buffer → Next us s ps buffer st own f
  no_room h read first is-fresh is = by_limit (ltb message_max total) refl
    where
      total : ℕ
      total = h.words.total

      there : (reason : Reason) → crowded (length piece) total ≡ reason → step_of us ps buffer f ≡ refused reason ps buffer
      there reason e = is ∙ ap (λ (r : Reason). refused r ps buffer) e

      here : OneStep.step_of us st own f ≡ begin h.words piece own
      here = begins_anew h read first st open_consistent

      fits : total ≤ message_max → begin h.words piece own ≡ OneStep.accept h.words 0 0 piece own
      fits bounded = begins h.words piece own bounded (omega (arith, follows.own_long))

      by_size : total ≤ message_max → lacks_data_def (length piece) total ≡ false → (t : Bool) → ltb total (length piece) ≡ t → Next us s ps buffer st own f
      by_size bounded present true e =
          let more = ltb-true total (length piece) e in
          same_refusal TooMuchData Fresh (sym is-fresh) (there _ (Law.crowded_excess (length piece) total bounded present more))
          (here ∙ fits bounded ∙ excess h.words 0 0 piece own present (omega arith))
      by_size bounded present false e =
          let out = there _ (Law.crowded_out (length piece) total bounded present (ltb-false total (length piece) e)) in
          away ((fifteen_exactly us ps buffer f).1 (rw out)) is-fresh

      by_data : total ≤ message_max → (t : Bool) → lacks_data_def (length piece) total ≡ t → Next us s ps buffer st own f
      by_data bounded true e =
          same_refusal NoData Fresh (sym is-fresh) (there _ (Law.crowded_lacking (length piece) total bounded e))
          (here ∙ fits bounded ∙ lacking h.words 0 0 piece own e)
      by_data bounded false e = by_size bounded e _ refl

      by_limit : (t : Bool) → ltb message_max total ≡ t → Next us s ps buffer st own f
      by_limit true e =
          let long = ltb-true message_max total e in
          same_refusal MessageLong Fresh (sym is-fresh) (there _ (Law.crowded_long (length piece) total long)) (here ∙ over_limit h.words piece own long)
      by_limit false e = by_data (ltb-false message_max total e) _ refl

  -- a frame that has its place: both step from one state
  seated_alike : (h : Header) → parsed us f ≡ Parsed.Header h → h.words.sender ≡ s → (k : ℕ) (state : State) (qs : List State) → Seat s (is_first h) ps k state qs
      → step_of us ps buffer f ≡ settled k (OneStep.step_of us state (part k buffer) f) qs buffer → Next us s ps buffer st own f
  seated_alike h read sender k state qs seat there =
      together (rw (there, here) reply)
      (rw (here, ← same)
      (record {
        eight = stays.0;
        is_legal = stays.1;
        open_there = rw there (open_set s qs k x.answer.state inside seat.only of);
        own_long = sym agree.2.0 ∙ keeps.2;
        agrees = rw there (filled_there s k qs buffer x.answer.state x.buffer inside seat.only fits of keeps.2 ∙ agree.2.1);
      }))
    where
      -- the step in place k, and that in the one place
      x : OneStep.Stepped
      x = OneStep.step_of us state (part k buffer) f

      y : OneStep.Stepped
      y = OneStep.step_of us state own f

      inside : k < length qs
      inside = rw seat.as_many seat.inside

      fits : place_size * k + place_size ≤ length buffer
      fits = place_fits ps k (length buffer) follows.eight follows.is_legal seat.inside

      keeps : NotBad x.answer.verdict × (consistent x.answer.state place_size ≡ true) × (length x.buffer ≡ place_size)
      keeps = step_keeps us state (part k buffer) f (length_part k buffer fits) seat.state_ok

      of : Of s x.answer.state
      of = stays_of us (part k buffer) f h s read sender state seat.state_of

      -- the state is the one place's own, or the frame begins anew
      turn : (first : Bool) → is_first h ≡ first → (OneStep.step_of us st own f ≡ y) × (take (filled_of state) (part k buffer) ≡ take (filled_of state) own)
      turn true e = rw (seat.begins e).1 (begins_anew h read e st open_consistent ∙ sym (begins_anew h read e Fresh (fresh (length own))), refl)
      turn false e = rw ((seat.goes_on e).0, (seat.goes_on e).1, follows.open_there) (refl, follows.agrees)

      here : OneStep.step_of us st own f ≡ y
      here = (turn _ refl).0

      -- they agree, and reply alike
      agree : (x.answer ≡ y.answer) × (One.up_by x ≡ One.up_by y) × Agree x.answer.state x.buffer y.buffer
      agree = step_agrees us state (part k buffer) own f (length_part k buffer fits ∙ sym follows.own_long, (turn _ refl).1)

      same : x.answer.state ≡ y.answer.state
      same = ap (λ (a : Answer). a.state) agree.0

      reply : reply_of (settled k x qs buffer) ≡ reply_of_one y
      reply =
          settled_reply us k state qs buffer f fits seat.state_ok
          ∙ ap₂ (λ (v : Of'.Verdict) (u : Option HandedUp). record { verdict = some v; up = u }) (ap (λ (a : Answer). a.verdict) agree.0) agree.1

  -- a frame that is not another sender's: of s, or refused under 1 to 4
  one_step : is_others us s f ≡ false → Next us s ps buffer st own f
  one_step not-others = by (call us ps buffer f)
    where
      -- if it is read, it is of s; if it has no place, s has nothing open
      own_sender : (h : Header) → parsed us f ≡ Parsed.Header h → h.words.sender ≡ s
      own_sender h read = eqb-true h.words.sender s (not-false (eqb h.words.sender s) (rw read at not-others))

      nothing : (h : Header) → parsed us f ≡ Parsed.Header h → length ps ≤ place_of h.words.sender ps → st ≡ Fresh
      nothing h read none = sym follows.open_there ∙ (rw (own_sender h read) at (no_place_fresh h.words.sender ps none))

      by : Call us ps buffer f → Next us s ps buffer st own f
      by (bad illegal is) = never (sym follows.is_legal ∙ illegal)
      by (unread ok reason read is) =
          same_refusal (Unread reason) st refl is (good_state (parsed us f) piece st own open_consistent ∙ unread_frame (parsed us f) piece st own reason read)
      by (crowds ok h read first none is) = no_room h read first (nothing h read (none_free_no_place h.words.sender ps none)) is
      by (misses ok h read later none is) =
          let is-fresh = nothing h read none in
          same_refusal NothingOpen Fresh (sym is-fresh) is
          (good_state (parsed us f) piece st own open_consistent ∙ index_more (parsed us f) piece st own h read later ∙ none_open h piece st own is-fresh)
      by (sits ok h read k state qs seat is) = seated_alike h read (own_sender h read) k state qs (rw (own_sender h read) at seat) is

  -- a frame that is not the sender's leaves all as it is
  other_step : is_own us s f ≡ false → Follows s (step_of us ps buffer f).places (step_of us ps buffer f).buffer st own
  other_step not_own =
      let same = others_untouched us ps buffer f follows.eight follows.is_legal s not_own in
      record {
        eight = stays.0;
        is_legal = stays.1;
        open_there = same.1 ∙ follows.open_there;
        own_long = follows.own_long;
        agrees = ap (λ (j : ℕ). take (filled_of st) (part j (step_of us ps buffer f).buffer)) same.0 ∙ ap (take (filled_of st)) same.2 ∙ follows.agrees;
      }

-- so is every frame that is read and does not get 15
pub as_in_one_place : AsInOnePlace
as_in_one_place us ps buffer own f h eight is_legal read not-15 own_long agrees = by (one_step us s ps buffer (open_of_def s ps) own f follows own_frame)
  where
    s : ℕ
    s = h.words.sender

    follows : Follows s ps buffer (open_of_def s ps) own
    follows = record { eight = eight; is_legal = is_legal; open_there = refl; own_long = own_long; agrees = agrees }

    own_frame : is_others us s f ≡ false
    own_frame = rw (read, eq-eqb s s refl)

    by : Next us s ps buffer (open_of_def s ps) own f
        → (reply_of (step_of us ps buffer f) ≡ reply_of_one (OneStep.step_of us (open_of_def s ps) own f))
        × (open_of_def s (step_of us ps buffer f).places ≡ (OneStep.step_of us (open_of_def s ps) own f).answer.state)
    by (together reply goes_on) = (reply, goes_on.open_there)
    by (away none_free is-fresh) = absurd (not-15 (ap (λ (st : Stepped). st.verdict) ((fifteen_exactly us ps buffer f).0 none_free)))

-- ---- whole runs

-- what is answered to the frames that are kept is what one place answers to them, or 15
abbrev Kept : ℕ → (List ℕ → Bool) → List (List ℕ) → List State → List ℕ → State → List ℕ → Type 0
Kept us keep frames ps buffer st own = Beside us st own (kept keep frames) (map reply_of (kept_answers keep frames (answers us ps buffer frames)))

-- without 15 these are the answers of one place
plain : (us : ℕ) (st : State) (own : List ℕ) (frames : List (List ℕ)) (replies : List Reply) → Beside us st own frames replies → All HasPlace replies
    → replies ≡ map reply_of_one (One.answers us st own frames)
unfolding One.answers
plain us st own frames replies (Beside.ended _ _) has_place = refl
plain us st own frames replies (Beside.stepped _ _ f fs rs next) has_place = ap (λ (l : List Reply). reply_of_one (OneStep.step_of us st own f) ∷ l) (plain us _ _ fs rs next has_place.1)
plain us st own frames replies (Beside.got_fifteen _ f fs rs h q first next) has_place = absurd (has_place.0 refl)

-- frames that are kept are of the kind that is kept
kept_are : (keep : List ℕ → Bool) (P : List ℕ → Type 0) → ((f : List ℕ) → keep f ≡ true → P f) → (frames : List (List ℕ)) → All P (kept keep frames)
unfolding kept
kept_are keep P kind [] = tt
kept_are keep P kind (f ∷ fs) = go (keep f) refl (kept_are keep P kind fs)
  where
    go : (t : Bool) → keep f ≡ t → All P (kept keep fs) → All P (cond t (f ∷ kept keep fs) (kept keep fs))
    go true e others = (kind f e, others)
    go false e others = others

-- no frame is one sender's and another's
module _ (us s : ℕ) (f : List ℕ) where
  others_not_own : is_for us s f ≡ false → is_own us s f ≡ false
  others_not_own e = go (parsed us f) e
    where
      go : (r : Parsed) → not (is_others_as s r) ≡ false → is_own_as s r ≡ false
      go (Parsed.Refused reason) e = refl
      go (Parsed.Header h) e = not-true (eqb h.words.sender s) (not-false (not (eqb h.words.sender s)) e)

  own_not_others : is_own us s f ≡ true → is_others us s f ≡ false
  own_not_others e = go (parsed us f) e
    where
      go : (r : Parsed) → is_own_as s r ≡ true → is_others_as s r ≡ false
      go (Parsed.Refused reason) e = refl
      go (Parsed.Header h) e = rw e

  not_own_of : is_others us s f ≡ false → (t : ℕ) → (s ≡ t → ⊥) → is_own us t f ≡ false
  not_own_of e t other = go (parsed us f) e
    where
      go : (r : Parsed) → is_others_as s r ≡ false → is_own_as t r ≡ false
      go (Parsed.Refused reason) e = refl
      go (Parsed.Header h) e =
          let own = eqb-true h.words.sender s (not-false (eqb h.words.sender s) e) in
          ne_eqb h.words.sender t (λ z. other (sym own ∙ z))

module _ (us s : ℕ) where
  -- a run, of whose frames some are kept: none of another sender, and all of this one
  module _ (keep : List ℕ → Bool) (not-others : (f : List ℕ) → keep f ≡ true → is_others us s f ≡ false) (not_own : (f : List ℕ) → keep f ≡ false → is_own us s f ≡ false) where
    beside : (frames : List (List ℕ)) (ps : List State) (buffer : List ℕ) (st : State) (own : List ℕ) → Follows s ps buffer st own → Kept us keep frames ps buffer st own
    unfolding kept kept_answers answers
    beside [] ps buffer st own follows = Beside.ended st own
    beside (f ∷ fs) ps buffer st own follows = go (keep f) refl (beside fs)
      where
        after : List Stepped
        after = kept_answers keep fs (answers us (step_of us ps buffer f).places (step_of us ps buffer f).buffer fs)

        go : (t : Bool) → keep f ≡ t → ((ps : List State) (buffer : List ℕ) (st : State) (own : List ℕ) → Follows s ps buffer st own → Kept us keep fs ps buffer st own)
            → Beside us st own (cond t (f ∷ kept keep fs) (kept keep fs)) (map reply_of (cond t (step_of us ps buffer f ∷ after) after))
        go true e others = by (one_step us s ps buffer st own f follows (not-others f e))
          where
            by : Next us s ps buffer st own f → Beside us st own (f ∷ kept keep fs) (reply_of (step_of us ps buffer f) ∷ map reply_of after)
            by (together reply follows') = rw reply (Beside.stepped st own f _ _ (others _ _ _ _ follows'))
            by (away full is-fresh) =
                rw ((fifteen_exactly us ps buffer f).0 full, is-fresh)
                (Beside.got_fifteen own f _ _ full.header full.reads (eq-eqb full.header.index 0 full.first) (others ps buffer Fresh own (rw (← is-fresh) follows)))
        go false e others = others _ _ st own (other_step us s ps buffer st own f follows (not_own f e))

  -- a run of no other sender's frames, where no other has anything open: 15 is not given
  alone : (frames : List (List ℕ)) (ps : List State) (buffer : List ℕ) (st : State) (own : List ℕ) → Follows s ps buffer st own
      → ((t : ℕ) → (s ≡ t → ⊥) → open_of_def t ps ≡ Fresh)
      → All (λ f. is_others us s f ≡ false) frames → map reply_of (answers us ps buffer frames) ≡ map reply_of_one (One.answers us st own frames)
  unfolding answers One.answers
  alone [] ps buffer st own follows nobody not-others = refl
  alone (f ∷ fs) ps buffer st own follows nobody not-others =
      by (one_step us s ps buffer st own f follows not-others.0) (λ follows'. alone fs _ _ _ _ follows' still not-others.1)
    where
      there : Stepped
      there = step_of us ps buffer f

      here : OneStep.Stepped
      here = OneStep.step_of us st own f

      -- after it, too, no other has anything open
      still : (t : ℕ) → (s ≡ t → ⊥) → open_of_def t there.places ≡ Fresh
      still t other = (others_untouched us ps buffer f follows.eight follows.is_legal t (not_own_of us s f not-others.0 t other)).1 ∙ nobody t other

      -- where s has nothing open either, nobody has
      nothing : st ≡ Fresh → (t : ℕ) (same : Bool) → eqb s t ≡ same → open_of_def t ps ≡ Fresh
      nothing is-fresh t true e = rw (← eqb-true s t e) (follows.open_there ∙ is-fresh)
      nothing is-fresh t false e = nobody t (eqb-false s t e)

      by : Next us s ps buffer st own f
          → (Follows s there.places there.buffer here.answer.state here.buffer
          → map reply_of (answers us there.places there.buffer fs) ≡ map reply_of_one (One.answers us here.answer.state here.buffer fs))
          → reply_of there ∷ map reply_of (answers us there.places there.buffer fs) ≡ reply_of_one here ∷ map reply_of_one (One.answers us here.answer.state here.buffer fs)
      by (together reply follows') others = ap₂ ◌∷◌ reply (others follows')
      by (away full is-fresh) others =
          never (sym (all_free ps (λ t. nothing is-fresh t _ refl) 0) ∙ full.all_taken 0 (omega (arith, follows.eight)))

-- ---- the theorems

pub projection : Projection
projection us s buffer own frames long own_long =
    beside us s (is_for us s) (λ f. not-true (is_others us s f)) (others_not_own us s) frames all_fresh buffer Fresh own (starts s buffer own long own_long)

pub same_as_alone : SameAsAlone
same_as_alone us s buffer own frames long own_long has_place = plain us Fresh own _ _ (projection us s buffer own frames long own_long) has_place

pub one_sender : OneSender
one_sender us s buffer own frames long own_long not-others = alone us s frames all_fresh buffer Fresh own (starts s buffer own long own_long) (λ t other. (starts t buffer own long own_long).open_there) not-others

pub same_as_alone_in_eight : SameAsAloneInEight
same_as_alone_in_eight us s buffer other frames long other-long has_place =
    let own_long = length_part 0 buffer (omega arith) in
    same_as_alone us s buffer (part 0 buffer) frames long own_long has_place
    ∙ sym (one_sender us s other (part 0 buffer) (frames_for us s frames) other-long own_long (kept_are (is_for us s) (λ f. is_others us s f ≡ false) (λ f. not-true (is_others us s f)) frames))

pub own_frames_alone : OwnFramesAlone
own_frames_alone us s buffer other own frames long other-long own_long has_place =
    let in_one = plain us Fresh own _ _ (beside us s (is_own us s) (own_not_others us s) (λ f e. e) frames all_fresh buffer Fresh own (starts s buffer own long own_long)) has_place in
    (in_one, in_one ∙ sym (one_sender us s other own (kept (is_own us s) frames) other-long own_long (kept_are (is_own us s) (λ f. is_others us s f ≡ false) (own_not_others us s) frames)))
