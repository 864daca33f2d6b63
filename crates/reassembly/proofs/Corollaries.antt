-- What follows for runs: `exactly_these`, `put_in_exactly`, `never_bad`, `never_in_vain`, `sent_is_framed`, `framed_is_sent`, `written_is_handed_up`.
-- Assumes nothing.
use Rattle.std.proofs.lemmas.Bool.{and_parts}
use Prim.Native.Nat.{ℕ, zero, suc, ◌-◌, ◌≤◌}
use mathlib.Core.Bool.{Bool, true, false, cond}
use mathlib.Core.Path.{◌≡◌, refl, sym, ap, ap₂, ◌∙◌}
use mathlib.Core.List.{List, [], ◌∷◌, ◌++◌, map, flatten, filter_map, filter_map-append}
use mathlib.Core.Option.{Option, none, some, Option-elim}
use native.Mathlib.Omega.{arith}
use lib.ListN.{length, replicate}
use Rattle.frame.specs.Layout.{header_for, frame_of}
use Rattle.frame.specs.Framing.{All, Cut, frames_from, Framing}
use Rattle.frame.specs.Statements.{Fits, count_up}
use Rattle.frame.specs.declared.Envelope.{Envelope}
use Rattle.frame.proofs.Theorems.{writes_a_framing}
use Rattle.reassembly.specs.Step.{step_of}
use Rattle.reassembly.specs.Run.{HandedUp, answers, up_by, run, messages}
use Rattle.reassembly.specs.Traffic.{Message, Sent, Transmission, Traffic, PutIn, Framed, Legal, envelope_for, calls_from, calls_of, calls, all_arrive, as_sent, nothing, if_last, expected_from, gives, arrived, expected_of, expected}
use Rattle.reassembly.specs.Statements.{ExactlyThese, PutInExactly, NeverBad, untouched, SentIsFramed, FramedIsSent, NeverInVain, Outgoing, LegalOutgoing, frames_of, hands_up, WrittenIsHandedUp}
use Rattle.reassembly.specs.declared.State.{State}
use Rattle.reassembly.specs.declared.State.TheVariants.{Fresh, Open}
use Rattle.reassembly.proofs.Answers.{fresh}
use Rattle.reassembly.proofs.Steps.{unread, unread_only}
use Rattle.reassembly.proofs.Outcome.{stays_consistent, small}
use Rattle.reassembly.proofs.Theorem.{starts_somewhere, never_last, Ready, Apart, all_messages, unlike_any, told_apart, all_framed, demand_3}

-- entry by entry: only the last frame of a message that lost none hands it up
none_up : (js : List (List ℕ)) → messages (nothing js) ≡ []
unfolding filter_map
none_up [] = refl
none_up (j ∷ js) = none_up js

frame_up : (s : Sent) (a : Bool) (o : Option HandedUp) (rest : List (Option HandedUp))
    → messages (nothing s.before ++ (cond a (o ∷ []) [] ++ rest)) ≡ messages (cond a (o ∷ []) []) ++ messages rest
frame_up s a o rest = rw (filter_map-append, filter_map-append, none_up)

lost_up : (ss : List Sent) → messages (expected_from none ss) ≡ []
unfolding expected_from filter_map
lost_up [] = refl
lost_up (s ∷ ss) = frame_up s s.arrives (if_last ss none) (expected_from none ss) ∙ go s.arrives ∙ lost_up ss
  where
    go : (a : Bool) → messages (cond a (if_last ss none ∷ []) []) ++ messages (expected_from none ss) ≡ messages (expected_from none ss)
    go true = rw (never_last ss)
    go false = refl

whole_up : (m : HandedUp) (s : Sent) (ss : List Sent) → all_arrive (s ∷ ss) ≡ true → messages (expected_from (some m) (s ∷ ss)) ≡ m ∷ []
unfolding expected_from filter_map all_arrive
whole_up m s [] all =
    frame_up s s.arrives (some m) [] ∙ rw (and_parts s.arrives true all).0
whole_up m s (r ∷ ss) all =
    let arrive = and_parts s.arrives (all_arrive (r ∷ ss)) all in
    frame_up s s.arrives none (expected_from (some m) (r ∷ ss)) ∙ rw arrive.0 (whole_up m r ss arrive.1)

message_up : (t : Transmission) → Cut t.message.bytes (map (λ s. s.piece) t.frames) → (rest : List HandedUp)
    → messages (expected_from (gives t) t.frames) ++ rest ≡ Option-elim (gives t) rest (λ m. m ∷ rest)
unfolding Option-elim
message_up t cut rest = go t.frames cut (all_arrive t.frames) refl
  where
    go : (ss : List Sent) → Cut t.message.bytes (map (λ s. s.piece) ss) → (all : Bool) → all_arrive ss ≡ all
        → messages (expected_from (cond all (some (as_sent t.message)) none) ss) ++ rest
        ≡ Option-elim (cond all (some (as_sent t.message)) none) rest (λ m. m ∷ rest)
    go [] cut all e = absurd (starts_somewhere t.message.bytes cut)
    go (s ∷ ss) cut true e = rw (whole_up (as_sent t.message) s ss e)
    go (s ∷ ss) cut false e = rw (lost_up (s ∷ ss))

-- whichever frames are lost
all_up : (us room : ℕ) (ts : List Transmission) (js : List (List ℕ)) → All (Framed us room) ts → messages (expected_of ts js) ≡ arrived ts
unfolding expected_of filter_map
all_up us room [] js framed = none_up js
all_up us room (t ∷ ts) js framed =
    filter_map-append (λ e. e) (expected_from (gives t) t.frames) (expected_of ts js)
    ∙ ap (λ (l : List HandedUp). messages (expected_from (gives t) t.frames) ++ l) (all_up us room ts js framed.1)
    ∙ message_up t framed.0.cut (arrived ts)

pub exactly_these : ExactlyThese
exactly_these us b t legal =
    ap messages (demand_3 us b t legal) ∙ all_up us (length b) t.sent t.after (all_framed us (length b) t.sent legal.all)

pub never_bad : NeverBad
unfolding answers
never_bad us s b [] ok = tt
never_bad us s b (f ∷ fs) ok =
    let after = stays_consistent us s b f ok in
    (after.0, never_bad us (step_of us s b f).answer.state (step_of us s b f).buffer fs (rw after.2 after.1))

pub put_in_exactly : PutInExactly
put_in_exactly us f = (
  (λ h. let r = unread us f h in record { reason = r.0; refused = r.1; least = (small r.0).0; most = (small r.0).1 }),
  (λ u. unread_only us f u.reason u.refused),
)

-- after any frames at all
after_any : (us room : ℕ) (rest : List (List ℕ)) (E : List (Option HandedUp)) → ((s : State) (b : List ℕ) → Ready us room s b → run us s b rest ≡ E)
    → (fs : List (List ℕ)) (s : State) (b : List ℕ) → Ready us room s b → run us s b (fs ++ rest) ≡ run us s b fs ++ E
unfolding answers
after_any us room rest E continues [] s b r = continues s b r
after_any us room rest E continues (f ∷ fs) s b r =
    let after = stays_consistent us s b f (rw r.0 r.1) in
    let r' : Ready us room (step_of us s b f).answer.state (step_of us s b f).buffer = (after.2 ∙ r.0, rw (← r.0) after.1) in
    ap (λ (l : List (Option HandedUp)). up_by (step_of us s b f) ∷ l)
    (after_any us room rest E continues fs (step_of us s b f).answer.state (step_of us s b f).buffer r')

-- whatever is open then, no first frame is lost, so it is unlike what comes
apart_from_all : (us room : ℕ) (ts : List Transmission) → All (Legal us room) ts → (s : State) → Apart ts s
apart_from_all us room ts legal Fresh = tt
apart_from_all us room ts legal (Open p) = unlike_any us room ts legal p.words

pub never_in_vain : NeverInVain
never_in_vain us b earlier t legal =
    let room = length b in
    let ts = t.sent in
    after_any us room (calls us t) (expected t)
    (λ s b' r. all_messages us room ts (all_framed us room ts legal.all) (told_apart us room ts legal.all) t.after legal.put_in s b' r
    (apart_from_all us room ts legal.all s))
    earlier Fresh b (refl, fresh room)

-- frames that all arrive, with nothing put in
abbrev sent_all : List (List ℕ) → List Sent
sent_all ps = map (λ p. record { before = []; piece = p; arrives = true }) ps

pieces_sent : (ps : List (List ℕ)) → map (λ s. s.piece) (sent_all ps) ≡ ps
pieces_sent [] = refl
pieces_sent (p ∷ ps) = ap (λ (l : List (List ℕ)). p ∷ l) (pieces_sent ps)

nothing_put_in : (us : ℕ) (ps : List (List ℕ)) → All (λ s. All (PutIn us) s.before) (sent_all ps)
nothing_put_in us [] = tt
nothing_put_in us (p ∷ ps) = (tt, nothing_put_in us ps)

all_sent : (ps : List (List ℕ)) → all_arrive (sent_all ps) ≡ true
unfolding all_arrive
all_sent [] = refl
all_sent (p ∷ ps) = all_sent ps

calls_sent : (e : Envelope) (total i : ℕ) (ps : List (List ℕ)) → calls_from e total i (sent_all ps) ≡ frames_from e total i ps
unfolding calls_from frames_from
calls_sent e total i [] = refl
calls_sent e total i (p ∷ ps) = ap (λ (l : List (List ℕ)). frame_of (header_for e total i) p ∷ l) (calls_sent e total (suc i) ps)

untouched_are : (ss : List Sent) → untouched ss ≡ sent_all (map (λ s. s.piece) ss)
untouched_are [] = refl
untouched_are (s ∷ ss) = ap (λ (l : List Sent). record { before = []; piece = s.piece; arrives = true } ∷ l) (untouched_are ss)

pub sent_is_framed : SentIsFramed
sent_is_framed us t bounded cut =
    let e = envelope_for us t.message in
    let total = length t.message.bytes in
    record {
      pieces = map (λ s. s.piece) t.frames;
      bounded = bounded;
      cut = cut;
      frames_are = ap (calls_from e total 0) (untouched_are t.frames) ∙ calls_sent e total 0 (map (λ s. s.piece) t.frames);
    }

-- what is cut has a first piece
first_piece : (bytes : List ℕ) (ps : List (List ℕ)) → Cut bytes ps → (p : List ℕ) × (rest : List (List ℕ)) × (ps ≡ p ∷ rest)
unfolding flatten
first_piece bytes [] cut = absurd (starts_somewhere bytes cut)
first_piece bytes (p ∷ ps) cut = (p, ps, refl)

-- the frames of a framing as a transmission in which nothing is lost
module _ (us room : ℕ) (m : Message) (frames : List (List ℕ)) (framed : Framing (envelope_for us m) m.bytes frames) where
  abbrev transmission : Transmission
  transmission = record { message = m; frames = sent_all framed.pieces }

  starts : (q : List ℕ) × (rest : List (List ℕ)) × (framed.pieces ≡ q ∷ rest)
  starts = first_piece m.bytes framed.pieces framed.cut

  transmitted : Fits (envelope_for us m) → length m.bytes ≤ room → Legal us room transmission
  transmitted words fits =
      record {
        framed =
            record {
              words = words;
              bounded = framed.bounded;
              fits = fits;
              cut = rw (pieces_sent framed.pieces) framed.cut;
              put_in = nothing_put_in us framed.pieces;
            };
        first_arrives = rw starts.2 refl;
      }

  called : calls_from (envelope_for us m) (length m.bytes) 0 transmission.frames ≡ frames
  called = calls_sent (envelope_for us m) (length m.bytes) 0 framed.pieces ∙ sym framed.frames_are

pub framed_is_sent : FramedIsSent
framed_is_sent us room m frames words fits framed =
    record {
      sent = sent_all framed.pieces;
      legal = transmitted us room m frames framed words fits;
      whole = untouched_are (sent_all framed.pieces) ∙ ap sent_all (pieces_sent framed.pieces);
      calls_are = called us room m frames framed;
    }

expected_sent : (up : Option HandedUp) (p : List ℕ) (ps : List (List ℕ)) → expected_from up (sent_all (p ∷ ps)) ≡ replicate (length ps) none ++ (up ∷ [])
unfolding expected_from
expected_sent up p [] = refl
expected_sent up p (q ∷ ps) = ap (λ (l : List (Option HandedUp)). none ∷ l) (expected_sent up q ps)

length_frames : (e : Envelope) (total i : ℕ) (ps : List (List ℕ)) → length (frames_from e total i ps) ≡ length ps
unfolding frames_from
length_frames e total i [] = refl
length_frames e total i (p ∷ ps) = ap suc (length_frames e total (suc i) ps)

length_up : (f : ℕ → List ℕ) (i n : ℕ) → length (map f (count_up i n)) ≡ n
length_up f i zero = refl
length_up f i (suc n) = ap suc (length_up f (suc i) n)

hands : (up : Option HandedUp) (ps : List (List ℕ)) (count : ℕ) → length ps ≡ count → (p : List ℕ) × (rest : List (List ℕ)) × (ps ≡ p ∷ rest)
    → expected_from up (sent_all ps) ≡ replicate (count - 1) none ++ (up ∷ [])
hands up ps count len q =
    let fewer : count - 1 ≡ length q.1 = omega (arith, ap length q.2) in
    rw (q.2, fewer) (expected_sent up q.0 q.1)

-- the writer's frames are one
module _ (us room : ℕ) (p : Outgoing) (l : LegalOutgoing us room p) where
  framed : Framing (envelope_for us p.message) p.message.bytes (frames_of us p)
  framed = writes_a_framing (envelope_for us p.message) p.message.bytes p.size p.count l.counts

  abbrev outgoing : Transmission
  outgoing = transmission us room p.message (frames_of us p) framed

  legal_outgoing : Legal us room outgoing
  legal_outgoing = transmitted us room p.message (frames_of us p) framed l.words l.fits

  called_outgoing : calls_from (envelope_for us p.message) (length p.message.bytes) 0 outgoing.frames ≡ frames_of us p
  called_outgoing = called us room p.message (frames_of us p) framed

  given_up : expected_from (gives outgoing) outgoing.frames ≡ hands_up p
  given_up =
      let e = envelope_for us p.message in
      let many : length framed.pieces ≡ p.count =
      sym (length_frames e (length p.message.bytes) 0 framed.pieces) ∙ ap length (sym framed.frames_are) ∙ length_up _ 0 p.count in
      rw (all_sent framed.pieces)
      (hands (some (as_sent p.message)) framed.pieces p.count many (starts us room p.message (frames_of us p) framed))

module _ (us room : ℕ) where
  transmissions : (ps : List Outgoing) → All (LegalOutgoing us room) ps → List Transmission
  transmissions [] ls = []
  transmissions (p ∷ ps) ls = outgoing us room p ls.0 ∷ transmissions ps ls.1

  all_transmitted : (ps : List Outgoing) (ls : All (LegalOutgoing us room) ps) → All (Legal us room) (transmissions ps ls)
  unfolding transmissions
  all_transmitted [] ls = tt
  all_transmitted (p ∷ ps) ls = (legal_outgoing us room p ls.0, all_transmitted ps ls.1)

  all_called : (ps : List Outgoing) (ls : All (LegalOutgoing us room) ps) → calls_of us (transmissions ps ls) [] ≡ flatten (map (frames_of us) ps)
  unfolding transmissions calls_of flatten
  all_called [] ls = refl
  all_called (p ∷ ps) ls = ap₂ ◌++◌ (called_outgoing us room p ls.0) (all_called ps ls.1)

  all_given_up : (ps : List Outgoing) (ls : All (LegalOutgoing us room) ps) → expected_of (transmissions ps ls) [] ≡ flatten (map hands_up ps)
  unfolding transmissions expected_of flatten
  all_given_up [] ls = refl
  all_given_up (p ∷ ps) ls = ap₂ ◌++◌ (given_up us room p ls.0) (all_given_up ps ls.1)

pub written_is_handed_up : WrittenIsHandedUp
written_is_handed_up us b ps ls =
    let room = length b in
    let traffic : Traffic = record { sent = transmissions us room ps ls; after = [] } in
    ap (run us Fresh b) (sym (all_called us room ps ls))
    ∙ demand_3 us b traffic (record { all = all_transmitted us room ps ls; put_in = tt })
    ∙ all_given_up us room ps ls
