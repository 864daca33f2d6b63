-- What is proved of steps and of whole runs with several senders. The proofs are in `proofs/Legal.antt`, `proofs/Refusals.antt`, `proofs/Agreeing.antt`, `proofs/Alone.antt` and `proofs/Demand.antt`, under the names given here.
-- Assumes nothing.
use Rattle.std.specs.Prelude.{ℕ, ◌+◌, ◌*◌, ◌≤◌, ◌<◌, Bool, true, false, cond, not, ◌≡◌, List, [], ◌∷◌, ◌++◌, map, length, get_or, take, drop, replicate}
use Rattle.std.proofs.Math.Option.{Option, none, some}
use Rattle.frame.specs.Layout.{message_max}
use Rattle.frame.specs.Framing.{All}
use Rattle.frame.specs.Reading.{parsed, data_of}
use Rattle.frame.specs.declared.Header.{Header}
use Rattle.frame.specs.declared.Words.{Words}
use Rattle.frame.specs.declared.read.Parsed.TheVariants as Parsed
use Rattle.reassembly.specs.Run as One
use Rattle.reassembly.specs.Run.{HandedUp, messages}
use Rattle.reassembly.specs.Step as OneStep
use Rattle.reassembly.specs.Statements.{filled_of}
use Rattle.reassembly.specs.Step.{consistent, landed, is_first}
use Rattle.reassembly.specs.Traffic.{Sent, Transmission, Traffic, LegalTraffic, envelope_for, calls_from, calls, nothing, gives, arrived, expected_from, expected}
use Rattle.reassembly.specs.declared.State.{State}
use Rattle.reassembly.specs.declared.State.TheVariants.{Fresh}
use Rattle.reassembly.specs.declared.Reason.TheVariants.{BadState}
use Rattle.heads.specs.Places.{place_count, place_size, buffer_min, all_fresh, part, is_free_def, is_of_def, lowest, place_of, open_of_def, without, legal}
use Rattle.heads.specs.Step.{number_of, Stepped, refused, step_of}
use Rattle.heads.specs.Run.{answers, up_by, run, Reply, reply_of, reply_of_one, is_others, is_own, kept, kept_answers}
use Rattle.heads.specs.declared.Reason.{Reason}
use Rattle.heads.specs.declared.Reason.TheVariants.{Step, NoPlace}
use Rattle.heads.specs.declared.Verdict.{Verdict}
use Rattle.heads.specs.declared.Verdict.TheVariants.{More, Delivered, Refused}

-- ---- the rule

-- `legal_means`. What 11 asks for, read place by place: "a lent buffer of 32,768 or more", each place fresh or consistent, and no two places with one sender.
pub record Orderly (ps : List State) (room : ℕ) : Type 0 where
  pub room_enough : buffer_min ≤ room
  pub each : (k : ℕ) → consistent (get_or ps k Fresh) place_size ≡ true
  pub one_each : (s j k : ℕ) → is_of_def s (get_or ps j Fresh) ≡ true → is_of_def s (get_or ps k Fresh) ≡ true → j ≡ k

abbrev pub LegalMeans : Type 0
LegalMeans = (ps : List State) (room : ℕ) → (legal ps room ≡ true → Orderly ps room) × (Orderly ps room → legal ps room ≡ true)

-- `eleven_exactly`. 11 is given exactly where that does not hold; it "leaves all places fresh", and the buffer as it was.
abbrev pub ElevenExactly : Type 0
ElevenExactly =
    (us : ℕ) (ps : List State) (buffer frame : List ℕ)
    → length ps ≡ place_count
    → (legal ps (length buffer) ≡ false → step_of us ps buffer frame ≡ refused (Step BadState) (replicate (length ps) Fresh) buffer)
    × ((step_of us ps buffer frame).verdict ≡ Refused (Step BadState) → legal ps (length buffer) ≡ false)

-- `stays_legal`. In a buffer of 32,768 bytes or more the places are legal after every call, whatever was handed in; there are eight again, and the buffer is as long as it was.
abbrev pub StaysLegal : Type 0
StaysLegal =
    (us : ℕ) (ps : List State) (buffer frame : List ℕ)
    → length ps ≡ place_count
    → (buffer_min ≤ length buffer → legal (step_of us ps buffer frame).places (length buffer) ≡ true)
    × (length (step_of us ps buffer frame).places ≡ place_count)
    × (length (step_of us ps buffer frame).buffer ≡ length buffer)

-- `never_bad`. From a fresh start with 32,768 bytes or more no call answers 11, whatever the frames.
abbrev pub NotBad : Stepped → Type 0
NotBad st = st.verdict ≡ Refused (Step BadState) → ⊥

abbrev pub NeverBad : Type 0
NeverBad = (us : ℕ) (buffer : List ℕ) (frames : List (List ℕ)) → buffer_min ≤ length buffer → All NotBad (answers us all_fresh buffer frames)

-- `fifteen_exactly`. "given exactly when none before it applies, the frame has Index 0, this sender has nothing open, and all eight places are taken; nothing changes."
pub record NoneFree (us : ℕ) (ps : List State) (room : ℕ) (frame : List ℕ) : Type 0 where
  pub header : Header
  -- not 11, and not 1 to 4
  pub is_legal : legal ps room ≡ true
  pub reads : parsed us frame ≡ Parsed.Header header
  pub first : header.index ≡ 0
  -- not 10, 8 or 9
  pub bounded : header.words.total ≤ message_max
  pub some_data : length (data_of frame) ≡ 0 → header.words.total ≡ 0
  pub fits : length (data_of frame) ≤ header.words.total
  pub nothing_open : open_of_def header.words.sender ps ≡ Fresh
  pub all_taken : (k : ℕ) → k < length ps → is_free_def (get_or ps k Fresh) ≡ false

abbrev pub FifteenExactly : Type 0
FifteenExactly =
    (us : ℕ) (ps : List State) (buffer frame : List ℕ)
    → (NoneFree us ps (length buffer) frame → step_of us ps buffer frame ≡ refused NoPlace ps buffer)
    × ((step_of us ps buffer frame).verdict ≡ Refused NoPlace → NoneFree us ps (length buffer) frame)

-- `refusal_leaves`. No refusal changes the buffer; 1 to 5 and 15 change no place; 5 to 10 drop what the frame's sender has open, and nothing else.
abbrev pub RefusalLeaves : Type 0
RefusalLeaves =
    (us : ℕ) (ps : List State) (buffer frame : List ℕ) (reason : Reason)
    → (step_of us ps buffer frame).verdict ≡ Refused reason
    → ((step_of us ps buffer frame).buffer ≡ buffer)
    × (number_of reason ≤ 5 → (step_of us ps buffer frame).places ≡ ps)
    × (number_of reason ≡ 15 → (step_of us ps buffer frame).places ≡ ps)
    × ((h : Header) → parsed us frame ≡ Parsed.Header h → 5 ≤ number_of reason → number_of reason ≤ 10 → (step_of us ps buffer frame).places ≡ without h.words.sender ps)

-- `others_untouched`. A call that is not answered with 11 leaves every sender whose frame it does not get as it was: the place of its message, or that it has none, what is open there, and that place's bytes.
abbrev pub OthersUntouched : Type 0
OthersUntouched =
    (us : ℕ) (ps : List State) (buffer frame : List ℕ)
    → length ps ≡ place_count
    → legal ps (length buffer) ≡ true
    → (s : ℕ)
    → is_own us s frame ≡ false
    → (place_of s (step_of us ps buffer frame).places ≡ place_of s ps)
    × (open_of_def s (step_of us ps buffer frame).places ≡ open_of_def s ps)
    × (part (place_of s ps) (step_of us ps buffer frame).buffer ≡ part (place_of s ps) buffer)

-- `own_bytes`. Accepted data lands in its own bytes of its own place, and no other byte changes: behind what its sender has filled there, or at the start of the lowest free place with Index 0.
pub record Landing (us : ℕ) (ps : List State) (buffer frame : List ℕ) (after : Stepped) : Type 0 where
  pub header : Header
  pub reads : parsed us frame ≡ Parsed.Header header
  pub place : ℕ
  pub filled : ℕ
  -- "the sender's own open message is dropped first, then the lowest free place is taken"
  pub begins : is_first header ≡ true → (place ≡ lowest is_free_def (without header.words.sender ps)) × (filled ≡ 0)
  -- any other Index goes on in the sender's place, behind what is filled there
  pub goes_on : is_first header ≡ false → (place ≡ place_of header.words.sender ps) × (filled ≡ filled_of (open_of_def header.words.sender ps))
  pub inside : place < length ps
  pub fits : filled + length (data_of frame) ≤ place_size
  pub buffer_is : after.buffer ≡ landed (place_size * place + filled) (data_of frame) buffer

-- what a call that accepts data of the sender s in place k, with so many bytes filled then, answers and leaves: with more wanted the message is open there, with that filled; a delivery names the place, and
-- frees it
abbrev pub AcceptedAt : ℕ → ℕ → ℕ → List State → Verdict → List State → Type 0
AcceptedAt s k filled ps More after = (place_of s after ≡ k) × (filled_of (open_of_def s after) ≡ filled)
AcceptedAt s k filled ps (Delivered words n place) after = (place ≡ k) × (after ≡ without s ps)
AcceptedAt s k filled ps (Refused reason) after = ⊥

-- both, of a call that leaves this
abbrev pub Lands : ℕ → List State → List ℕ → List ℕ → Stepped → Type 0
Lands us ps buffer frame after =
    (l : Landing us ps buffer frame after)
    × AcceptedAt l.header.words.sender l.place (l.filled + length (data_of frame)) ps after.verdict after.places

abbrev pub OwnBytes : Type 0
OwnBytes =
    (us : ℕ) (ps : List State) (buffer frame : List ℕ)
    → length ps ≡ place_count
    → ((reason : Reason) → (step_of us ps buffer frame).verdict ≡ Refused reason → ⊥)
    → Lands us ps buffer frame (step_of us ps buffer frame)

-- `behind_the_places`. So bytes past 32,768 never change.
abbrev pub BehindThePlaces : Type 0
BehindThePlaces =
    (us : ℕ) (ps : List State) (buffer frame : List ℕ)
    → length ps ≡ place_count
    → drop buffer_min (step_of us ps buffer frame).buffer ≡ drop buffer_min buffer

-- two buffers of one length that hold the same of what is open at each place
pub record Agree (ps : List State) (b c : List ℕ) : Type 0 where
  pub long : length b ≡ length c
  pub filled : (k : ℕ) → take (filled_of (get_or ps k Fresh)) (part k b) ≡ take (filled_of (get_or ps k Fresh)) (part k c)

-- `step_agrees`. Only what is filled counts: over two buffers that agree on it a call answers alike, leaves the same places and hands up the same, and they agree again after it.
abbrev pub StepAgrees : Type 0
StepAgrees =
    (us : ℕ) (ps : List State) (b c frame : List ℕ)
    → length ps ≡ place_count
    → Agree ps b c
    → ((step_of us ps b frame).verdict ≡ (step_of us ps c frame).verdict)
    × ((step_of us ps b frame).places ≡ (step_of us ps c frame).places)
    × (up_by (step_of us ps b frame) ≡ up_by (step_of us ps c frame))
    × Agree (step_of us ps b frame).places (step_of us ps b frame).buffer (step_of us ps c frame).buffer

-- `delivery_bounded`. What is delivered is no longer than a message can be.
abbrev pub DeliveryBounded : Type 0
DeliveryBounded =
    (us : ℕ) (ps : List State) (buffer frame : List ℕ) (words : Words) (n k : ℕ)
    → (step_of us ps buffer frame).verdict ≡ Delivered words n k
    → n ≤ message_max

-- `delivery_is_own`. A delivery carries the Sender ID of the frame that ends it, its length is the message's total, and it names one of the places: so who selects deliveries by their Sender ID selects those of
-- that sender's frames.
pub record Ends (us : ℕ) (ps : List State) (frame : List ℕ) (words : Words) (n k : ℕ) : Type 0 where
  pub header : Header
  pub reads : parsed us frame ≡ Parsed.Header header
  pub sender_is : words.sender ≡ header.words.sender
  pub length_is : n ≡ words.total
  pub inside : k < length ps

abbrev pub DeliveryIsOwn : Type 0
DeliveryIsOwn =
    (us : ℕ) (ps : List State) (buffer frame : List ℕ) (words : Words) (n k : ℕ)
    → (step_of us ps buffer frame).verdict ≡ Delivered words n k
    → Ends us ps frame words n k

-- `as_in_one_place`. A frame that is read and does not get 15 is answered as one place of 4,096 bytes answers it that holds what its sender has open, and leaves that open which that place has open then: so every
-- number of document 01's table is given exactly when 01 gives it of the sender's own message.
abbrev pub AsInOnePlace : Type 0
AsInOnePlace =
    (us : ℕ) (ps : List State) (buffer own frame : List ℕ) (h : Header)
    → length ps ≡ place_count
    → legal ps (length buffer) ≡ true
    → parsed us frame ≡ Parsed.Header h
    → ((step_of us ps buffer frame).verdict ≡ Refused NoPlace → ⊥)
    → length own ≡ place_size
    → take (filled_of (open_of_def h.words.sender ps)) (part (place_of h.words.sender ps) buffer) ≡ take (filled_of (open_of_def h.words.sender ps)) own
    → (reply_of (step_of us ps buffer frame) ≡ reply_of_one (OneStep.step_of us (open_of_def h.words.sender ps) own frame))
    × (open_of_def h.words.sender (step_of us ps buffer frame).places ≡ (OneStep.step_of us (open_of_def h.words.sender ps) own frame).answer.state)

-- ---- whole runs, from a fresh start

-- what each call answers
abbrev pub verdicts : ℕ → List State → List ℕ → List (List ℕ) → List Verdict
verdicts us ps buffer frames = map (λ st. st.verdict) (answers us ps buffer frames)

-- `any_buffer`. What stands in the buffer at first plays no part, neither in the verdicts nor in what is handed up.
abbrev pub AnyBuffer : Type 0
AnyBuffer =
    (us : ℕ) (b c : List ℕ) (frames : List (List ℕ))
    → length b ≡ length c
    → (verdicts us all_fresh b frames ≡ verdicts us all_fresh c frames)
    × (run us all_fresh b frames ≡ run us all_fresh c frames)

-- the frames that are not another sender's: those of s, and those that belong to no sender; and what is answered to them in a run from a fresh start
abbrev pub is_for : ℕ → ℕ → List ℕ → Bool
is_for us s f = not (is_others us s f)

abbrev pub frames_for : ℕ → ℕ → List (List ℕ) → List (List ℕ)
frames_for us s frames = kept (is_for us s) frames

abbrev pub replies_for : ℕ → ℕ → List ℕ → List (List ℕ) → List Reply
replies_for us s buffer frames = map reply_of (kept_answers (is_for us s) frames (answers us all_fresh buffer frames))

-- what a call that gets 15 replies
abbrev pub no_place : Reply
no_place = record { verdict = none; up = none }

-- not 15
abbrev pub HasPlace : Reply → Type 0
HasPlace r = r.verdict ≡ none → ⊥

-- replies of one place of its own, of the crate `reassembly`, call by call; a call that gets 15 stands between: it has Index 0, nothing is open, and nothing changes
pub data Beside (us : ℕ) : State → List ℕ → List (List ℕ) → List Reply → Type 0 where
  ended : (state : State) (buffer : List ℕ) → Beside us state buffer [] []
  stepped : (state : State) (buffer frame : List ℕ) (frames : List (List ℕ)) (replies : List Reply)
      → Beside us (OneStep.step_of us state buffer frame).answer.state (OneStep.step_of us state buffer frame).buffer frames replies
      → Beside us state buffer (frame ∷ frames) (reply_of_one (OneStep.step_of us state buffer frame) ∷ replies)
  got_fifteen : (buffer frame : List ℕ) (frames : List (List ℕ)) (replies : List Reply) (h : Header)
      → parsed us frame ≡ Parsed.Header h
      → is_first h ≡ true
      → Beside us Fresh buffer frames replies
      → Beside us Fresh buffer (frame ∷ frames) (no_place ∷ replies)

-- `projection`. "Over any mixed sequence from a fresh start, state and buffer passed on as in demand 3": what is answered to the frames that are not another sender's is what one place of 4,096 bytes
-- answers to them, whatever stands in it at first, and whatever the others send; with no premise on 15.
abbrev pub Projection : Type 0
Projection =
    (us s : ℕ) (buffer own : List ℕ) (frames : List (List ℕ))
    → buffer_min ≤ length buffer
    → length own ≡ place_size
    → Beside us Fresh own (frames_for us s frames) (replies_for us s buffer frames)

-- `same_as_alone`. "without a 15 or an 11, one sender's other frames get the same verdicts and messages as if they had come alone": in one place of 4,096 bytes. (The 15 that others get are no matter, and
-- `never_bad` is that there is no 11.)
abbrev pub SameAsAlone : Type 0
SameAsAlone =
    (us s : ℕ) (buffer own : List ℕ) (frames : List (List ℕ))
    → buffer_min ≤ length buffer
    → length own ≡ place_size
    → All HasPlace (replies_for us s buffer frames)
    → replies_for us s buffer frames ≡ map reply_of_one (One.answers us Fresh own (frames_for us s frames))

-- `same_as_alone_in_eight`. and alone in the same eight places, over any buffer.
abbrev pub SameAsAloneInEight : Type 0
SameAsAloneInEight =
    (us s : ℕ) (buffer other : List ℕ) (frames : List (List ℕ))
    → buffer_min ≤ length buffer
    → buffer_min ≤ length other
    → All HasPlace (replies_for us s buffer frames)
    → replies_for us s buffer frames ≡ map reply_of (answers us all_fresh other (frames_for us s frames))

-- the frames of s alone, without those that belong to no sender, and what is answered to them
abbrev pub own_replies : ℕ → ℕ → List ℕ → List (List ℕ) → List Reply
own_replies us s buffer frames = map reply_of (kept_answers (is_own us s) frames (answers us all_fresh buffer frames))

-- `own_frames_alone`. The same of these: "one sender's other frames", other than those refused under 1 to 4, in one place and in the same eight.
abbrev pub OwnFramesAlone : Type 0
OwnFramesAlone =
    (us s : ℕ) (buffer other own : List ℕ) (frames : List (List ℕ))
    → buffer_min ≤ length buffer
    → buffer_min ≤ length other
    → length own ≡ place_size
    → All HasPlace (own_replies us s buffer frames)
    → (own_replies us s buffer frames ≡ map reply_of_one (One.answers us Fresh own (kept (is_own us s) frames)))
    × (own_replies us s buffer frames ≡ map reply_of (answers us all_fresh other (kept (is_own us s) frames)))

-- `demand_3_each`. "Demand 3 is read for each sender under that premise, with any frames of other senders put in too, and a message's bytes read from the start of the place that its delivery names": the frames
-- are any whose part that is not another sender's is what demand 3 describes. What is handed up for it, call by call, is what demand 3 gives.
abbrev pub Demand3Each : Type 0
Demand3Each =
    (us s : ℕ) (buffer : List ℕ) (frames : List (List ℕ)) (traffic : Traffic)
    → buffer_min ≤ length buffer
    → LegalTraffic us place_size traffic
    → frames_for us s frames ≡ calls us traffic
    → All HasPlace (replies_for us s buffer frames)
    → map (λ r. r.up) (replies_for us s buffer frames) ≡ expected traffic

-- `exactly_these_each`. So each sender's messages that are handed up are, in order, those all of whose frames arrive, as sent.
abbrev pub ExactlyTheseEach : Type 0
ExactlyTheseEach =
    (us s : ℕ) (buffer : List ℕ) (frames : List (List ℕ)) (traffic : Traffic)
    → buffer_min ≤ length buffer
    → LegalTraffic us place_size traffic
    → frames_for us s frames ≡ calls us traffic
    → All HasPlace (replies_for us s buffer frames)
    → messages (map (λ r. r.up) (replies_for us s buffer frames)) ≡ arrived traffic.sent

-- whether the call of a message's Index 0 frame got 15: it comes behind those of what was put in before that frame
abbrev pub is_none : {A : Type 0} → Option A → Bool
is_none none = true
is_none (some a) = false

abbrev pub first_is_no_place : List Reply → Bool
first_is_no_place [] = false
first_is_no_place (r ∷ rs) = is_none r.verdict

abbrev pub turned_away : List Sent → List Reply → Bool
turned_away [] replies = false
turned_away (s ∷ ss) replies = first_is_no_place (drop (length s.before) replies)

-- what demand 3 gives, but for messages whose Index 0 call got 15, which give nothing
unfoldable pub expected_but : ℕ → List Transmission → List (List ℕ) → List Reply → List (Option HandedUp)
expected_but us [] after replies = nothing after
expected_but us (t ∷ ts) after replies =
    expected_from (cond (turned_away t.frames replies) none (gives t)) t.frames
    ++ expected_but us ts after (drop (length (calls_from (envelope_for us t.message) (length t.message.bytes) 0 t.frames)) replies)

-- `fifteen_costs_one`. "a 15 costs the sender who got it that one message, and the other senders nothing": with no premise on 15, what is handed up for a sender is what demand 3 gives without the messages whose own
-- Index 0 call got 15.
abbrev pub FifteenCostsOne : Type 0
FifteenCostsOne =
    (us s : ℕ) (buffer : List ℕ) (frames : List (List ℕ)) (traffic : Traffic)
    → buffer_min ≤ length buffer
    → LegalTraffic us place_size traffic
    → frames_for us s frames ≡ calls us traffic
    → map (λ r. r.up) (replies_for us s buffer frames) ≡ expected_but us traffic.sent traffic.after (replies_for us s buffer frames)

-- `one_sender`. With one sender and no other, the eight places answer as one place of 4,096 bytes does: who has one head sees no change.
abbrev pub OneSender : Type 0
OneSender =
    (us s : ℕ) (buffer own : List ℕ) (frames : List (List ℕ))
    → buffer_min ≤ length buffer
    → length own ≡ place_size
    → All (λ f. is_others us s f ≡ false) frames
    → map reply_of (answers us all_fresh buffer frames) ≡ map reply_of_one (One.answers us Fresh own frames)
