-- Demand 3 for each sender among others, and what a 15 costs: `demand_3_each`, `exactly_these_each`, `fifteen_costs_one`.
--     through            frames that cannot get 15, and what follows them
--     message_but        a message, and what follows it: as demand 3 has it, or nothing where its first frame got 15
--     fifteen_costs_one  the whole traffic
-- What follows enters as a continuation: from any state that is fresh or consistent, and whatever is replied, it hands up E.
-- Assumes nothing.
use Prim.Native.Nat.{ℕ, suc, ◌+◌, ◌≤◌}
use mathlib.Core.Bool.{Bool, true, false, cond, ◌&&◌}
use mathlib.Core.Path.{◌≡◌, refl, sym, subst, ap, ◌∙◌}
use mathlib.Core.List.{List, [], ◌∷◌, ◌++◌, map, flatten, append_assoc, append-nil, map-map}
use mathlib.Core.Option.{Option, none, some}
use native.Mathlib.Omega.{arith}
use borrow.Author.Tests.{ne_eqb}
use lib.ListN.{length, drop, length-append}
use lib.Seq.{drop-drop}
use Rattle.le.proofs.Tests.{apart, never}
use Rattle.frame.specs.Layout.{message_max, header_for, frame_of}
use Rattle.frame.specs.Framing.{All, Piece, Cut}
use Rattle.frame.specs.Reading.{parsed}
use Rattle.frame.specs.Statements.{Fits}
use Rattle.frame.specs.declared.Envelope.{Envelope}
use Rattle.frame.specs.declared.Header.{Header}
use Rattle.frame.specs.declared.read.Parsed.TheVariants as Parsed
use Rattle.frame.proofs.Theorems.{frame_read}
use Rattle.reassembly.specs.Run as One
use Rattle.reassembly.specs.Run.{HandedUp, messages}
use Rattle.reassembly.specs.Step as OneStep
use Rattle.reassembly.specs.Step.{is_first}
use Rattle.reassembly.specs.Traffic.{Message, Sent, Transmission, Traffic, PutIn, Framed, Legal, LegalTraffic, envelope_for, calls_from, calls_of, calls, all_arrive, as_sent, nothing, if_last, expected_from, expected_of}
use Rattle.reassembly.specs.declared.State.{State}
use Rattle.reassembly.specs.declared.State.TheVariants.{Fresh, Open}
use Rattle.reassembly.proofs.Answers.{fresh}
use Rattle.reassembly.proofs.Corollaries.{exactly_these}
use Rattle.reassembly.proofs.Steps.{unread}
use Rattle.reassembly.proofs.Theorem.{never_last, Ready, Apart, all_messages, demand_3}
use Rattle.heads.specs.Places.{place_size, buffer_min, part}
use Rattle.heads.specs.Run.{Reply, reply_of_one}
use Rattle.heads.specs.Statements.{frames_for, replies_for, no_place, HasPlace, Beside, Demand3Each, ExactlyTheseEach, first_is_no_place, turned_away, expected_but, FifteenCostsOne}
use Rattle.heads.proofs.Seats.{length_part}
use Rattle.heads.proofs.Calls.{step_keeps}
use Rattle.heads.proofs.Alone.{projection, same_as_alone}

-- what replies hand up
abbrev ups : List Reply → List (Option HandedUp)
ups replies = map (λ r. r.up) replies

-- ---- frames that cannot get 15

-- the first reply is that of one place, or 15
data Begins (us : ℕ) (st : State) (b f : List ℕ) (fs : List (List ℕ)) (replies : List Reply) : Type 0 where
  steps : (rs : List Reply) → replies ≡ reply_of_one (OneStep.step_of us st b f) ∷ rs
      → Beside us (OneStep.step_of us st b f).answer.state (OneStep.step_of us st b f).buffer fs rs
      → Begins us st b f fs replies
  waits : (rs : List Reply) (h : Header) → parsed us f ≡ Parsed.Header h → is_first h ≡ true → st ≡ Fresh → replies ≡ no_place ∷ rs → Beside us st b fs rs → Begins us st b f fs replies

begins : (us : ℕ) (st : State) (b f : List ℕ) (fs : List (List ℕ)) (replies : List Reply) → Beside us st b (f ∷ fs) replies → Begins us st b f fs replies
begins us st b f fs replies (Beside.stepped _ _ _ _ rs next) = steps rs refl next
begins us st b f fs replies (Beside.got_fifteen _ _ _ rs h q first next) = waits rs h q first refl refl next

-- a frame that has no Index 0, or is not read
abbrev Steady : ℕ → List ℕ → Type 0
Steady us f = (h : Header) → parsed us f ≡ Parsed.Header h → is_first h ≡ false

-- what holds of two lists holds of both in one
all_append : {A : Type 0} (P : A → Type 0) (xs ys : List A) → All P xs → All P ys → All P (xs ++ ys)
all_append P [] ys h k = k
all_append P (x ∷ xs) ys h k = (h.0, all_append P xs ys h.1 k)

-- frames that were put in are such frames,
put_ins_steady : (us : ℕ) (js : List (List ℕ)) → All (PutIn us) js → All (Steady us) js
put_ins_steady us [] h = tt
put_ins_steady us (j ∷ js) h = let r = unread us j h.0 in ((λ g q. let same = r.1 in apart (cc)), put_ins_steady us js h.1)

-- the pieces of frames
abbrev pieces : List Sent → List (List ℕ)
pieces ss = map (λ s. s.piece) ss

-- what is cut goes on, behind its first piece, with pieces that are not empty
rest_cut : (bytes p : List ℕ) (ps : List (List ℕ)) → Cut bytes (p ∷ ps) → All Piece ps × (length (flatten ps) ≤ length bytes)
unfolding flatten
rest_cut [] p ps cut = let ps-is : ps ≡ [] = cc in rw ps-is (tt, omega arith)
rest_cut (x ∷ xs) p ps cut = (cut.0.1, omega (arith, simp length-append at (ap length cut.1)))

-- and so are those of a message behind its first one
later_steady : (us : ℕ) (m : Message) → Fits (envelope_for us m) → length m.bytes ≤ message_max → (ss : List Sent) (i : ℕ) → i + length (flatten (pieces ss)) ≤ message_max
    → All Piece (pieces ss) → All (λ s. All (PutIn us) s.before) ss → All (Steady us) (calls_from (envelope_for us m) (length m.bytes) (suc i) ss)
unfolding calls_from flatten
later_steady us m fits bounded [] i short ps js = tt
later_steady us m fits bounded (s ∷ ss) i short ps js =
    all_append (Steady us) s.before _ (put_ins_steady us s.before js.0)
    (all_append (Steady us) (cond s.arrives (frame_of (header_for e total (suc i)) s.piece ∷ []) []) _ (go s.arrives)
    (later_steady us m fits bounded ss (suc i) (omega (arith, ps.0.0, in_all)) ps.1 js.1))
  where
    e : Envelope
    e = envelope_for us m

    total : ℕ
    total = length m.bytes

    in_all : length (s.piece ++ flatten (pieces ss)) ≡ length s.piece + length (flatten (pieces ss))
    in_all = length-append s.piece (flatten (pieces ss))

    go : (a : Bool) → All (Steady us) (cond a (frame_of (header_for e total (suc i)) s.piece ∷ []) [])
    go true =
        let read = frame_read e fits total (suc i) (omega arith) (omega (arith, ps.0.0, in_all)) s.piece ps.0.1 in
        ((λ h q. let same : h ≡ header_for e total (suc i) = cc in rw same (ne_eqb (suc i) 0 (λ z. omega arith))), tt)
    go false = tt

-- a step leaves a state that is fresh or consistent, and the buffer as long
next_ready : (us : ℕ) (st : State) (b f : List ℕ) → Ready us place_size st b → Ready us place_size (OneStep.step_of us st b f).answer.state (OneStep.step_of us st b f).buffer
next_ready us st b f r = let after = step_keeps us st b f r.0 r.1 in (after.2, after.1)

-- what hands up E, whatever state it comes to
abbrev HandsUp : ℕ → List (List ℕ) → (List Reply → List (Option HandedUp)) → Type 0
HandsUp us rest E = (st : State) (b : List ℕ) (replies : List Reply) → Ready us place_size st b → Beside us st b rest replies → ups replies ≡ E replies

-- such frames hand up what one place does, then what follows them
through : (us : ℕ) (rest : List (List ℕ)) (E : List Reply → List (Option HandedUp)) → HandsUp us rest E → (fs : List (List ℕ)) → All (Steady us) fs
    → (st : State) (b : List ℕ) (replies : List Reply) → Ready us place_size st b → Beside us st b (fs ++ rest) replies → ups replies ≡ One.run us st b fs ++ E (drop (length fs) replies)
unfolding One.answers
through us rest E continues [] steady st b replies r among = continues st b replies r among
through us rest E continues (f ∷ fs) steady st b replies r among = by (begins us st b f (fs ++ rest) replies among) (through us rest E continues fs steady.1)
  where
    by : Begins us st b f (fs ++ rest) replies
        → ((st : State) (b : List ℕ) (replies : List Reply) → Ready us place_size st b → Beside us st b (fs ++ rest) replies → ups replies ≡ One.run us st b fs ++ E (drop (length fs) replies))
        → ups replies ≡ One.run us st b (f ∷ fs) ++ E (drop (suc (length fs)) replies)
    by (Begins.steps rs e next) others = rw e (ap (λ (l : List (Option HandedUp)). One.up_by (OneStep.step_of us st b f) ∷ l) (others _ _ rs (next_ready us st b f r) next))
    by (Begins.waits rs h q first is-fresh e next) others = never (sym first ∙ steady.0 h q)

-- ---- a message

-- what its frames and what follows them hand up, given what is replied to them
abbrev but : ℕ → Message → List Sent → (List Reply → List (Option HandedUp)) → List Reply → List (Option HandedUp)
but us m frames E replies =
    expected_from (cond (turned_away frames replies) none (cond (all_arrive frames) (some (as_sent m)) none)) frames
    ++ E (drop (length (calls_from (envelope_for us m) (length m.bytes) 0 frames)) replies)

-- frames that were put in, and what follows them
past_put_ins : (us : ℕ) (rest : List (List ℕ)) (E : List Reply → List (Option HandedUp)) → HandsUp us rest E → (js : List (List ℕ)) → All (PutIn us) js
    → HandsUp us (js ++ rest) (λ replies. nothing js ++ E (drop (length js) replies))
unfolding calls_of expected_of
past_put_ins us rest E continues js h st b replies r among =
    through us rest E continues js (put_ins_steady us js h) st b replies r among
    ∙ ap (λ (l : List (Option HandedUp)). l ++ E (drop (length js) replies)) (all_messages us place_size [] tt tt js h st b r (none_left st))
  where
    none_left : (z : State) → Apart [] z
    none_left Fresh = tt
    none_left (Open p) = tt

-- a message that is framed by the rules, with its first frame, and what follows it
module _ (us : ℕ) (m : Message) (s : Sent) (ss : List Sent) (framed : Framed us place_size (record { message = m; frames = s ∷ ss }))
    (rest : List (List ℕ)) (E : List Reply → List (Option HandedUp)) (continues : HandsUp us rest E) where
  abbrev e : Envelope
  e = envelope_for us m

  abbrev total : ℕ
  total = length m.bytes

  abbrev first_frame : List ℕ
  first_frame = frame_of (header_for e total 0) s.piece

  abbrev later : List (List ℕ)
  later = calls_from e total 1 ss

  -- what the message gives, if its first frame arrives
  abbrev up : Bool → Option HandedUp
  up a = cond (a && all_arrive ss) (some (as_sent m)) none

  -- with nothing put in before its first frame, which arrives or is lost
  abbrev only : Bool → Transmission
  only a = record { message = m; frames = record { before = []; piece = s.piece; arrives = a } ∷ ss }

  -- then one place hands up what demand 3 gives
  from_first : (a : Bool) (st : State) (b : List ℕ) → Ready us place_size st b → Apart (only a ∷ []) st
      → One.run us st b (cond a (first_frame ∷ []) [] ++ later) ≡ cond a (if_last ss (up a) ∷ []) [] ++ expected_from (up a) ss
  unfolding calls_of calls_from expected_of expected_from all_arrive
  from_first a st b r unlike =
      let framed' : Framed us place_size (only a) =
      record { words = framed.words; bounded = framed.bounded; fits = framed.fits; cut = framed.cut; put_in = (tt, framed.put_in.1) } in
      simp append-nil at (all_messages us place_size (only a ∷ []) (framed', tt) ((λ begun. tt), tt) [] tt st b r unlike)

  -- whatever is open, a message whose first frame arrives is not taken for it
  arrives_apart : (st : State) → Apart (only true ∷ []) st
  arrives_apart Fresh = tt
  arrives_apart (Open p) = λ lost. never lost

  -- what it gives where the first of these replies is that to its first frame
  abbrev gives_but : List Reply → Option HandedUp
  gives_but replies = cond (first_is_no_place replies) none (up true)

  -- its first frame got a place, or 15; the others follow
  first_on : HandsUp us (first_frame ∷ (later ++ rest)) (λ replies. if_last ss (gives_but replies) ∷ (expected_from (gives_but replies) ss ++ E (drop (suc (length later)) replies)))
  unfolding One.answers
  first_on st b replies r among = by (begins us st b first_frame (later ++ rest) replies among)
    where
      known : All Piece (pieces ss) × (length (flatten (pieces ss)) ≤ total)
      known = rest_cut m.bytes s.piece (pieces ss) framed.cut

      steady : All (Steady us) later
      steady = later_steady us m framed.words framed.bounded ss 0 (omega (arith, known.1, framed.bounded)) known.0 framed.put_in.1

      by : Begins us st b first_frame (later ++ rest) replies → ups replies ≡ if_last ss (gives_but replies) ∷ (expected_from (gives_but replies) ss ++ E (drop (suc (length later)) replies))
      by (Begins.steps rs e next) =
          rw e
          (ap (λ (l : List (Option HandedUp)). One.up_by (OneStep.step_of us st b first_frame) ∷ l) (through us rest E continues later steady _ _ rs (next_ready us st b first_frame r) next)
          ∙ ap (λ (l : List (Option HandedUp)). l ++ E (drop (length later) rs)) (from_first true st b r (arrives_apart st)))
      by (Begins.waits rs h q first is-fresh e next) =
          rw (e, never_last ss)
          (ap (λ (l : List (Option HandedUp)). none ∷ l)
          (through us rest E continues later steady st b rs r next ∙ ap (λ (l : List (Option HandedUp)). l ++ E (drop (length later) rs)) (from_first false st b r (rw is-fresh tt))))

  -- with what was put in before it
  message_but : s.arrives ≡ true → HandsUp us (calls_from e total 0 (s ∷ ss) ++ rest) (but us m (s ∷ ss) E)
  unfolding calls_from expected_from all_arrive
  message_but arrives st b replies r among =
      let among' : Beside us st b (s.before ++ (first_frame ∷ (later ++ rest))) replies = rw (arrives, append_assoc) at among in
      let given : cond (turned_away (s ∷ ss) replies) none (cond (all_arrive (s ∷ ss)) (some (as_sent m)) none) ≡ gives_but (drop (length s.before) replies) =
      ap (λ (a : Bool). cond (turned_away (s ∷ ss) replies) none (up a)) arrives in
      let whole : ups replies ≡ expected_from (gives_but (drop (length s.before) replies)) (s ∷ ss) ++ E (drop (length (calls_from e total 0 (s ∷ ss))) replies) =
      rw (arrives, append_assoc (nothing s.before), length-append s.before, ← drop-drop (suc (length later)) (length s.before) replies)
      (past_put_ins us (first_frame ∷ (later ++ rest)) _ first_on s.before framed.put_in.0 st b replies r among') in
      whole ∙ ap (λ (u : Option HandedUp). expected_from u (s ∷ ss) ++ E (drop (length (calls_from e total 0 (s ∷ ss))) replies)) (sym given)

-- the same, of all its frames
whole_message : (us : ℕ) (m : Message) (frames : List Sent) → Legal us place_size (record { message = m; frames = frames })
    → (rest : List (List ℕ)) (E : List Reply → List (Option HandedUp)) → HandsUp us rest E
    → HandsUp us (calls_from (envelope_for us m) (length m.bytes) 0 frames ++ rest) (but us m frames E)
whole_message us m [] legal rest E continues = absurd legal.first_arrives
whole_message us m (s ∷ ss) legal rest E continues = message_but us m s ss legal.framed rest E continues legal.first_arrives

-- ---- traffic

-- nothing follows
ended : (us : ℕ) → HandsUp us [] (λ replies. [])
ended us st b replies r (Beside.ended _ _) = refl

-- message after message
traffic_but : (us : ℕ) (after : List (List ℕ)) → All (PutIn us) after → (ts : List Transmission) → All (Legal us place_size) ts → HandsUp us (calls_of us ts after) (expected_but us ts after)
unfolding calls_of expected_but
traffic_but us after h [] legal = λ st b replies r among.
    simp append-nil at (past_put_ins us [] (λ rs. []) (ended us) after h st b replies r (rw (append-nil after) among))
traffic_but us after h (t ∷ ts) legal =
    whole_message us t.message t.frames legal.0 (calls_of us ts after) (expected_but us ts after) (traffic_but us after h ts legal.1)

-- ---- the theorems

-- legal traffic for a place is legal over its bytes
legal_there : (us : ℕ) (buffer : List ℕ) (traffic : Traffic) → buffer_min ≤ length buffer → LegalTraffic us place_size traffic → LegalTraffic us (length (part 0 buffer)) traffic
legal_there us buffer traffic long legal = subst (λ (n : ℕ). LegalTraffic us n traffic) (sym (length_part 0 buffer (omega arith))) legal

-- as one place, with the place's own bytes as they stand at first
as_one : (us s : ℕ) (buffer : List ℕ) (frames : List (List ℕ)) (traffic : Traffic) → buffer_min ≤ length buffer → frames_for us s frames ≡ calls us traffic
    → All HasPlace (replies_for us s buffer frames) → ups (replies_for us s buffer frames) ≡ One.run us Fresh (part 0 buffer) (calls us traffic)
as_one us s buffer frames traffic long are has_place =
    ap ups (same_as_alone us s buffer (part 0 buffer) frames long (length_part 0 buffer (omega arith)) has_place)
    ∙ map-map (λ r. r.up) reply_of_one (One.answers us Fresh (part 0 buffer) (frames_for us s frames))
    ∙ ap (One.run us Fresh (part 0 buffer)) are

pub demand_3_each : Demand3Each
demand_3_each us s buffer frames traffic long legal are has_place =
    as_one us s buffer frames traffic long are has_place ∙ demand_3 us (part 0 buffer) traffic (legal_there us buffer traffic long legal)

pub exactly_these_each : ExactlyTheseEach
exactly_these_each us s buffer frames traffic long legal are has_place =
    ap messages (as_one us s buffer frames traffic long are has_place) ∙ exactly_these us (part 0 buffer) traffic (legal_there us buffer traffic long legal)

pub fifteen_costs_one : FifteenCostsOne
fifteen_costs_one us s buffer frames traffic long legal are =
    let own_long = length_part 0 buffer (omega arith) in
    traffic_but us traffic.after legal.put_in traffic.sent legal.all Fresh (part 0 buffer) (replies_for us s buffer frames) (own_long, fresh place_size)
    (rw (← are) (projection us s buffer (part 0 buffer) frames long own_long))
