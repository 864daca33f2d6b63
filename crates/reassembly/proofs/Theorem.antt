-- Demand 3, with any frame lost. Inside a message one is on track (what is open waits for this Index, and the buffer starts with the pieces so far) or off it
-- (nothing is open, or what is open has other words or waits for an earlier Index); an Index 0 frame puts one on track from any state that is fresh or
-- consistent. Between messages what is open is unlike those to come.
--     put_ins      frames that were put in hand up nothing and change nothing
--     lost         off track, the rest of a message hands up nothing
--     accepted     on track, the rest hands up the message if all of it arrives
--     one_message  a whole message
--     any_loss     the whole traffic, of messages that are told apart
--     demand_3     where no first frame is lost, there is nothing to tell apart
-- What follows a message enters as a continuation: from any state that is fresh or consistent and of the kind `Next`, and any buffer of that length, it hands up E.
-- Assumes nothing.
use Prim.Native.Nat.{ℕ, suc, ◌+◌, ◌≤◌, ◌<◌}
use mathlib.Core.Bool.{Bool, true, false, cond, ◌&&◌}
use mathlib.Core.Path.{◌≡◌, refl, sym, ap, ap₂, ◌∙◌}
use mathlib.Core.List.{List, [], ◌∷◌, ◌++◌, map, flatten, append_assoc, append-nil}
use mathlib.Core.Option.{Option, none, some}
use native.Mathlib.Nat.{pos_of_ne-zero}
use native.Mathlib.Omega.{arith}
use borrow.Author.Tests.{le-leb}
use lib.ListN.{length, take, length-append, length-take}
use Rattle.le.proofs.Tests.{apart, never}
use Rattle.frame.specs.Layout.{piece_max, message_max, header_for, frame_of}
use Rattle.frame.specs.Framing.{All, Piece, Cut}
use Rattle.frame.specs.Statements.{Fits}
use Rattle.frame.specs.declared.Envelope.{Envelope}
use Rattle.frame.specs.declared.Words.{Words}
use Rattle.reassembly.specs.Step.{Stepped, consistent, waiting, landed, delivered, accept, step_of}
use Rattle.reassembly.specs.Run.{HandedUp, handed_up, answers, up_by, run}
use Rattle.reassembly.specs.Traffic.{Message, Sent, Transmission, PutIn, Framed, FirstArrives, Legal, sent_words, FirstLost, Unlike, ToldApart, envelope_for, calls_from, calls_of, all_arrive, as_sent, nothing, if_last, expected_from, expected_of}
use Rattle.reassembly.specs.Statements.{AnyLoss, Demand3}
use Rattle.reassembly.specs.declared.State.{State}
use Rattle.reassembly.specs.declared.State.TheVariants.{Fresh, Open}
use Rattle.reassembly.proofs.Answers.{fresh, by_room, whole, not_whole}
use Rattle.reassembly.proofs.Steps.{put_in, first, later, in_order, Off, off_track, fitting, length_landed, start_landed}

-- the pieces of frames
abbrev pieces : List Sent → List (List ℕ)
pieces ss = map (λ s. s.piece) ss

-- what a run gives from a step on
abbrev after : ℕ → Stepped → List (List ℕ) → List (Option HandedUp)
after us st fs = up_by st ∷ run us st.answer.state st.buffer fs

run_step : (us : ℕ) (s : State) (b f : List ℕ) (fs : List (List ℕ)) (st : Stepped) → step_of us s b f ≡ st → run us s b (f ∷ fs) ≡ after us st fs
unfolding answers
run_step us s b f fs st e = rw e

-- before ++ (frame ++ calls), with what follows them, bracketed to the right
regroup : (before frame calls rest : List (List ℕ)) → before ++ (frame ++ calls) ++ rest ≡ before ++ (frame ++ (calls ++ rest))
regroup before frame calls rest = simp append_assoc

long : (s : Sent) (ss : List Sent) → length (flatten (pieces (s ∷ ss))) ≡ length s.piece + length (flatten (pieces ss))
unfolding flatten
long s ss = length-append s.piece (flatten (pieces ss))

pub never_last : (ss : List Sent) → if_last ss none ≡ none
never_last [] = refl
never_last (s ∷ ss) = refl

-- what is cut has a first piece
pub starts_somewhere : (bytes : List ℕ) → Cut bytes [] → ⊥
unfolding flatten
starts_somewhere [] cut = apart (cc)
starts_somewhere (x ∷ xs) cut = apart (let none_left = cut.1 in cc)

further : (w : Words) (i : ℕ) (st : State) → Off w i st → Off w (suc i) st
further w i Fresh off = tt
further w i (Open p) off = λ same. let behind = off same in omega arith

-- what is open is unlike the messages to come
abbrev pub Apart : List Transmission → State → Type 0
Apart ts Fresh = Unit {0}
Apart ts (Open p) = Unlike p.words ts

-- so it cannot be taken for the next one if that one's first frame is lost, and is unlike those after it
if_first_lost : (t : Transmission) (ts : List Transmission) (st : State) → Apart (t ∷ ts) st → FirstLost t.frames → Apart ts st × Off (sent_words t.message) 1 st
if_first_lost t ts Fresh unlike lost = (tt, tt)
if_first_lost t ts (Open p) unlike lost = let u = unlike lost in (u.1, λ same. absurd (u.0 same))

module _ (us room : ℕ) where
  -- a state that is fresh or consistent, over a buffer of that length
  abbrev pub Ready : State → List ℕ → Type 0
  Ready s b = (length b ≡ room) × (consistent s room ≡ true)

  abbrev pub Continues : (State → Type 0) → List (List ℕ) → List (Option HandedUp) → Type 0
  Continues Next rest E = (s : State) (b : List ℕ) → Ready s b → Next s → run us s b rest ≡ E

  ready : (s : State) (b : List ℕ) → Ready s b → consistent s (length b) ≡ true
  ready s b r = rw r.0 r.1

  put_ins : (js : List (List ℕ)) → All (PutIn us) js → (s : State) (b : List ℕ) → Ready s b → (rest : List (List ℕ)) → run us s b (js ++ rest) ≡ nothing js ++ run us s b rest
  put_ins [] h s b r rest = refl
  put_ins (j ∷ js) h s b r rest =
      let unread = put_in us s b (ready s b r) j h.0 in
      run_step us s b j (js ++ rest) _ unread.1 ∙ ap (λ (l : List (Option HandedUp)). none ∷ l) (put_ins js h.1 s b r rest)

  fresh_ready : (b : List ℕ) → length b ≡ room → Ready Fresh b
  fresh_ready b e = (e, fresh room)

  -- a message, and what follows it: of what this one can leave, if it was begun, `Next` holds
  module _ (m : Message) (fits : Fits (envelope_for us m)) (bounded : length m.bytes ≤ message_max) (held : length m.bytes ≤ room)
      (rest : List (List ℕ)) (E : List (Option HandedUp)) (Next : State → Type 0) (continues : Continues Next rest E)
      (next-fresh : Next Fresh) (Begun : Type 0) (next-open : Begun → (i filled : ℕ) → Next (waiting (sent_words m) i filled)) where
    abbrev total : ℕ
    total = length m.bytes

    abbrev e : Envelope
    e = envelope_for us m

    abbrev words : Words
    words = sent_words m

    -- the frames from Index i on, with what follows the message
    abbrev from : ℕ → List Sent → List (List ℕ)
    from i ss = calls_from e total i ss ++ rest

    -- what they give, if the message gives `up`
    abbrev give : Option HandedUp → List Sent → List (Option HandedUp)
    give up ss = expected_from up ss ++ E

    abbrev arrived : Bool → List ℕ → List (List ℕ)
    arrived a f = cond a (f ∷ []) []

    -- one frame: what was put in before it, then itself, if it arrives
    frame_then : (up : Option HandedUp) (i : ℕ) (s : Sent) (ss : List Sent) → All (PutIn us) s.before → (st : State) (b : List ℕ) → Ready st b
        → run us st b (arrived s.arrives (frame_of (header_for e total i) s.piece) ++ from (suc i) ss)
        ≡ cond s.arrives (if_last ss up ∷ []) [] ++ give up ss
        → run us st b (from i (s ∷ ss)) ≡ give up (s ∷ ss)
    unfolding calls_from expected_from
    frame_then up i s ss h st b r tail =
        ap (run us st b) (regroup s.before (arrived s.arrives (frame_of (header_for e total i) s.piece)) (calls_from e total (suc i) ss) rest)
        ∙ put_ins s.before h st b r _
        ∙ ap (λ (l : List (Option HandedUp)). nothing s.before ++ l) tail
        ∙ simp append_assoc

    -- off track
    lost : (ss : List Sent) (i : ℕ) → suc i + length (flatten (pieces ss)) ≤ suc message_max → All Piece (pieces ss) → All (λ s. All (PutIn us) s.before) ss
        → (st : State) (b : List ℕ) → Ready st b → Next st → Off words (suc i) st → run us st b (from (suc i) ss) ≡ give none ss
    unfolding calls_from expected_from flatten
    lost [] i short ps js st b r next off = continues st b r next
    lost (s ∷ ss) i short ps js st b r next off = frame_then none (suc i) s ss js.0 st b r (go (lost ss (suc i) (omega (arith, long s ss)) ps.1 js.1) s.arrives)
      where
        go : ((st : State) (b : List ℕ) → Ready st b → Next st → Off words (suc (suc i)) st → run us st b (from (suc (suc i)) ss) ≡ give none ss)
            → (a : Bool)
            → run us st b (arrived a (frame_of (header_for e total (suc i)) s.piece) ++ from (suc (suc i)) ss) ≡ cond a (if_last ss none ∷ []) [] ++ give none ss
        go others true =
            let h = header_for e total (suc i) in
            let stepped = later us st b (ready st b r) e fits refl total bounded s.piece ps.0.1 i (omega (arith, long s ss)) in
            let dropped = off_track h s.piece b st off in
            run_step us st b (frame_of h s.piece) _ _ (stepped ∙ dropped.1)
            ∙ rw (never_last ss) (ap (λ (l : List (Option HandedUp)). none ∷ l) (others Fresh b (fresh_ready b r.0) next-fresh tt))
        go others false = others st b r next (further words (suc i) st off)

    -- what the message gives, if all so far arrived
    abbrev up : List Sent → Option HandedUp
    up ss = cond (all_arrive ss) (some (as_sent m)) none

    waiting_ready : (i filled : ℕ) (b : List ℕ) → length b ≡ room → 1 ≤ i → i ≤ filled → filled < total → Ready (waiting words i filled) b
    waiting_ready i filled b len positive order less =
        (len, by_room _ (record { words = words; next = i; filled = filled }) room refl positive order less bounded ∙ le-leb total room held)

    -- the frame waited for comes, and what is left is as on track; or it is lost
    next_frame : Begun → (s : Sent) (ss : List Sent) (i filled : ℕ) (b : List ℕ) → Ready (waiting words (suc i) filled) b
        → suc i + length (flatten (pieces (s ∷ ss))) ≤ message_max
        → All Piece (pieces (s ∷ ss))
        → All (λ s. All (PutIn us) s.before) (s ∷ ss)
        → after us (accept words (suc i) filled s.piece b) (from (suc (suc i)) ss) ≡ if_last ss (up ss) ∷ give (up ss) ss
        → (a : Bool)
        → run us (waiting words (suc i) filled) b (arrived a (frame_of (header_for e total (suc i)) s.piece) ++ from (suc (suc i)) ss)
        ≡ cond a (if_last ss (cond (a && all_arrive ss) (some (as_sent m)) none) ∷ []) [] ++ give (cond (a && all_arrive ss) (some (as_sent m)) none) ss
    next_frame begun s ss i filled b r short ps js then true =
        let h = header_for e total (suc i) in
        let st = waiting words (suc i) filled in
        let stepped = later us st b (ready st b r) e fits refl total bounded s.piece ps.0.1 i (omega (arith, long s ss)) in
        run_step us st b (frame_of h s.piece) _ _ (stepped ∙ in_order h s.piece b filled) ∙ then
    next_frame begun s ss i filled b r short ps js then false =
        lost ss (suc i) (omega (arith, long s ss, ps.0.0)) ps.1 js.1 (waiting words (suc i) filled) b r (next-open begun (suc i) filled) (λ same. omega arith)

    -- on track: the data p of the frame with Index i is to be accepted
    accepted : Begun → (ss : List Sent) (i filled : ℕ) (p b : List ℕ)
        → length b ≡ room
        → i ≤ filled
        → filled ≤ room
        → (length p ≡ 0 → total ≡ 0)
        → take filled b ++ (p ++ flatten (pieces ss)) ≡ m.bytes
        → All Piece (pieces ss)
        → All (λ s. All (PutIn us) s.before) ss
        → after us (accept words i filled p b) (from (suc i) ss) ≡ if_last ss (up ss) ∷ give (up ss) ss
    unfolding calls_from expected_from flatten all_arrive
    accepted begun [] i filled p b len order inside some_data joins ps js =
        let so_far : filled + length p ≡ total = omega (arith, simp (length-append, length-take) at (ap length joins)) in
        let room_left : filled + length p ≤ length b = omega arith in
        let b' = landed filled p b in
        let bytes-are : take total b' ≡ m.bytes = rw (← so_far) (start_landed filled p b room_left ∙ rw append-nil at joins) in
        let handed : handed_up (delivered words b').answer.verdict b' ≡ some (as_sent m) =
        ap (λ (bytes : List ℕ). some (record { words = words; length = total; bytes = bytes })) bytes-are in
        rw (fitting words i filled p b (omega arith) some_data ∙ whole words i (filled + length p) b' so_far)
        (ap₂ ◌∷◌ handed (continues Fresh b' (fresh_ready b' (length_landed filled p b room_left ∙ len)) next-fresh))
    accepted begun (s ∷ ss) i filled p b len order inside some_data joins ps js =
        let in_all : filled + (length p + length (flatten (pieces (s ∷ ss)))) ≡ total =
        omega (arith, long s ss, simp (length-append, length-take) at (ap length joins)) in
        let last = long s ss in
        let some-p : 0 < length p = pos_of_ne-zero (λ z. let none_at_all = some_data z in omega arith) in
        let room_left : filled + length p ≤ length b = omega arith in
        let filled' = filled + length p in
        let b' = landed filled p b in
        let len' : length b' ≡ room = length_landed filled p b room_left ∙ len in
        let r' = waiting_ready (suc i) filled' b' len' (omega arith) (omega arith) (omega arith) in
        let joins' : take filled' b' ++ (s.piece ++ flatten (pieces ss)) ≡ m.bytes =
        rw (start_landed filled p b room_left, append_assoc (take filled b) p) joins in
        let then = accepted begun ss (suc i) filled' s.piece b' len' (omega arith) (omega arith) (λ z. absurd (omega arith)) joins' ps.1 js.1 in
        rw (fitting words i filled p b (omega arith) some_data ∙ not_whole words i filled' b' (λ z. omega arith))
        (ap (λ (l : List (Option HandedUp)). none ∷ l)
        (frame_then (up (s ∷ ss)) (suc i) s ss js.0 (waiting words (suc i) filled') b' r'
        (next_frame begun s ss i filled' b' r' (omega arith) ps js then s.arrives)))

    -- the facts of a message's cut that its first frame needs
    abbrev Starts : List ℕ → List ℕ → List (List ℕ) → Type 0
    Starts bytes p ps = (p ++ flatten ps ≡ bytes) × (length p ≤ piece_max) × (length p ≡ 0 → length bytes ≡ 0) × All Piece ps

    starts : (bytes p : List ℕ) (ps : List (List ℕ)) → Cut bytes (p ∷ ps) → Starts bytes p ps
    unfolding flatten
    starts [] p ps cut =
        let p-is : p ≡ [] = cc in
        let ps-is : ps ≡ [] = cc in
        rw (p-is, ps-is) (refl, omega arith, (λ z. refl), tt)
    starts (x ∷ xs) p ps cut = (cut.1, cut.0.0.1, (λ z. absurd (omega (arith, cut.0.0.0))), cut.0.1)

    -- where the first frame is lost, what is open can be taken neither for this message nor for one that follows
    one_message : (ss : List Sent) → (FirstArrives ss → Begun) → Cut m.bytes (pieces ss) → All (λ s. All (PutIn us) s.before) ss
        → (st : State) (b : List ℕ) → Ready st b → (FirstLost ss → Next st × Off words 1 st) → run us st b (from 0 ss) ≡ give (up ss) ss
    unfolding all_arrive
    one_message [] begins cut js st b r if-lost = absurd (starts_somewhere m.bytes cut)
    one_message (s ∷ ss) begins cut js st b r if-lost = frame_then (up (s ∷ ss)) 0 s ss js.0 st b r (go s.arrives refl)
      where
        go : (a : Bool) → s.arrives ≡ a → run us st b (arrived a (frame_of (header_for e total 0) s.piece) ++ from 1 ss)
            ≡ cond a (if_last ss (cond (a && all_arrive ss) (some (as_sent m)) none) ∷ []) [] ++ give (cond (a && all_arrive ss) (some (as_sent m)) none) ss
        go true q =
            let known = starts m.bytes s.piece (pieces ss) cut in
            let stepped = first us st b (ready st b r) e fits refl total bounded s.piece known.1 (rw r.0 held) in
            run_step us st b (frame_of (header_for e total 0) s.piece) _ _ stepped
            ∙ accepted (begins q) ss 0 0 s.piece b r.0 (omega arith) (omega arith) known.2 known.0 known.3 js.1
        go false q =
            let known = starts m.bytes s.piece (pieces ss) cut in
            let short : length (flatten (pieces ss)) ≤ total = omega (arith, simp length-append at (ap length known.0)) in
            lost ss 0 (omega arith) known.3 js.1 st b r (if-lost q).0 (if-lost q).1

  -- the whole traffic
  pub all_messages : (ts : List Transmission) → All (Framed us room) ts → ToldApart ts → (js : List (List ℕ)) → All (PutIn us) js
      → Continues (Apart ts) (calls_of us ts js) (expected_of ts js)
  unfolding calls_of expected_of answers
  all_messages [] framed told js h st b r next = simp append-nil at (put_ins js h st b r [])
  all_messages (t ∷ ts) framed told js h st b r next =
      let l = framed.0 in
      one_message t.message l.words l.bounded l.fits (calls_of us ts js) (expected_of ts js) (Apart ts) (all_messages ts framed.1 told.1 js h)
      tt (FirstArrives t.frames) (λ begun i filled. told.0 begun) t.frames (λ begun. begun) l.cut l.put_in st b r (if_first_lost t ts st next)

pub any_loss : AnyLoss
any_loss us buffer t legal =
    all_messages us (length buffer) t.sent legal.all legal.told_apart t.after legal.put_in Fresh buffer (refl, fresh (length buffer)) tt

-- where no first frame is lost, nothing can be taken for another message
first_not_lost : (ss : List Sent) → FirstArrives ss → FirstLost ss → ⊥
first_not_lost [] first lost = first
first_not_lost (s ∷ ss) first lost = never (sym first ∙ lost)

pub unlike_any : (us room : ℕ) (ts : List Transmission) → All (Legal us room) ts → (w : Words) → Unlike w ts
unlike_any us room [] legal w = tt
unlike_any us room (t ∷ ts) legal w = λ lost. absurd (first_not_lost t.frames legal.0.first_arrives lost)

pub told_apart : (us room : ℕ) (ts : List Transmission) → All (Legal us room) ts → ToldApart ts
told_apart us room [] legal = tt
told_apart us room (t ∷ ts) legal = ((λ begun. unlike_any us room ts legal.1 (sent_words t.message)), told_apart us room ts legal.1)

pub all_framed : (us room : ℕ) (ts : List Transmission) → All (Legal us room) ts → All (Framed us room) ts
all_framed us room [] legal = tt
all_framed us room (t ∷ ts) legal = (legal.0.framed, all_framed us room ts legal.1)

pub demand_3 : Demand3
demand_3 us buffer t legal =
    let room = length buffer in
    any_loss us buffer t
    (record { all = all_framed us room t.sent legal.all; told_apart = told_apart us room t.sent legal.all; put_in = legal.put_in })
