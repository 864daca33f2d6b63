-- What is proved of steps and of whole runs. The proofs are in `proofs/Theorem.antt`, `proofs/Outcome.antt` and `proofs/Corollaries.antt`, under the names
-- given here.
-- Assumes nothing.
use Rattle.std.specs.Prelude.{ℕ, ◌-◌, ◌≤◌, true, ◌≡◌, Ok, length, take, replicate}
use mathlib.Core.List.{List, [], ◌∷◌, ◌++◌, map, flatten}
use Rattle.std.proofs.Math.Option.{Option, none, some}
use Rattle.frame.specs.Layout.{message_max}
use Rattle.frame.specs.Framing.{All, Cut, Framing}
use Rattle.frame.specs.Reading as Reading
use Rattle.frame.specs.Reading.{parsed}
use Rattle.frame.specs.Statements.{Fits, count_up}
use Rattle.frame.specs.Writing.{counted, frame_at}
use Rattle.frame.specs.declared.Header.{Header}
use Rattle.frame.specs.declared.read.Parsed.TheVariants as Parsed
use Rattle.frame.specs.declared.read.Reason.{Reason as ReadReason}
use Rattle.reassembly.specs.Step.{number_of, consistent, refused, step_of}
use Rattle.reassembly.specs.Run.{HandedUp, verdicts, up_by, run, messages}
use Rattle.reassembly.specs.Traffic.{Message, Sent, Transmission, Traffic, PutIn, Legal, LegalTraffic, ApartTraffic, envelope_for, calls_from, calls, as_sent, arrived, expected}
use Rattle.reassembly.specs.declared.Progress.{Progress}
use Rattle.reassembly.specs.declared.State.{State}
use Rattle.reassembly.specs.declared.State.TheVariants.{Fresh, Open}
use Rattle.reassembly.specs.declared.Reason.{Reason}
use Rattle.reassembly.specs.declared.Reason.TheVariants.{OtherWords, BadState}
use Rattle.reassembly.specs.declared.Verdict.{Verdict}
use Rattle.reassembly.specs.declared.Verdict.TheVariants.{Refused}

-- `demand_3`. What each part renders of demand 3:
--     Fresh                   "Start fresh,"
--     buffer                  "with one lent buffer", of any length and with any bytes in it; "that nobody else writes": `run` hands it on
--     us                      "messages for us": our Receiver ID, always the same
--     traffic.sent           "any list of messages .. sent one after another"
--     bounded, fits           "each of at most 4,096 bytes and no longer than that buffer"
--     cut                     "framed by the rules": any cut in pieces that document 01 allows
--     arrives, first_arrives  "Take out any frames except those with Index 0,"
--     before, after           "and put in, anywhere, frames refused under numbers 1 to 4."
--     run over calls          "Give the frames that now stand there to the reassembly, one call a frame, each call with the state and the buffer as the
--                             last one left them." `step_of` is what `reassembly::step` is proved to answer and to leave
--     ≡ expected              "Then, for every such list of calls, refused ones included, what is handed up is exactly the messages that lost no frame, each
--                             once, in order, with bytes and carried words as sent.": both lists have one entry a call
--     words                   that a message's sequence number is a byte, and its other words and `us` are of 32 bits, is what each `u8` and each `u32` is
abbrev pub Demand3 : Type 0
Demand3 =
    (us : ℕ) (buffer : List ℕ) (traffic : Traffic)
    → LegalTraffic us (length buffer) traffic
    → run us Fresh buffer (calls us traffic) ≡ expected traffic

-- `any_loss`. The same with any frame taken out, those with Index 0 too, of messages that are told apart. `demand_3` is the instance in which no Index 0 frame
-- is lost, so that there is nothing to tell apart.
abbrev pub AnyLoss : Type 0
AnyLoss =
    (us : ℕ) (buffer : List ℕ) (traffic : Traffic)
    → ApartTraffic us (length buffer) traffic
    → run us Fresh buffer (calls us traffic) ≡ expected traffic

-- `exactly_these`. Demand 3's last sentence by itself: "what is handed up is exactly the messages that lost no frame, each once, in order, with bytes and
-- carried words as sent". The entries of such a run that are handed up are, in order, the messages all of whose frames arrive, as sent.
abbrev pub ExactlyThese : Type 0
ExactlyThese =
    (us : ℕ) (buffer : List ℕ) (traffic : Traffic)
    → LegalTraffic us (length buffer) traffic
    → messages (run us Fresh buffer (calls us traffic)) ≡ arrived traffic.sent

-- `put_in_exactly`. "frames refused under numbers 1 to 4": a frame may be put in exactly where the reader refuses it, and its refusals are 1 to 4.
pub record Unreadable (us : ℕ) (frame : List ℕ) : Type 0 where
  pub reason : ReadReason
  pub refused : parsed us frame ≡ Parsed.Refused reason
  pub least : 1 ≤ Reading.number_of reason
  pub most : Reading.number_of reason ≤ 4

abbrev pub PutInExactly : Type 0
PutInExactly = (us : ℕ) (frame : List ℕ) → (PutIn us frame → Unreadable us frame) × (Unreadable us frame → PutIn us frame)

-- `sent_is_framed`. What is sent is a framing in the sense of `frame`: of a message that is bounded and cut, as `Framed` has it, the calls, had nothing been
-- taken out or put in, are one.
abbrev pub untouched : List Sent → List Sent
untouched ss = map (λ s. record { before = []; piece = s.piece; arrives = true }) ss

abbrev pub SentIsFramed : Type 0
SentIsFramed =
    (us : ℕ) (t : Transmission)
    → length t.message.bytes ≤ message_max
    → Cut t.message.bytes (map (λ s. s.piece) t.frames)
    → Framing (envelope_for us t.message) t.message.bytes
    (calls_from (envelope_for us t.message) (length t.message.bytes) 0 (untouched t.frames))

-- `framed_is_sent`. And each framing is sent: frames that are a framing of a message that fits are the calls of a legal transmission in which nothing is
-- taken out or put in. So demand 3 leaves out no framing that demand 2 allows.
pub record SentAs (us room : ℕ) (m : Message) (frames : List (List ℕ)) : Type 0 where
  pub sent : List Sent
  pub legal : Legal us room (record { message = m; frames = sent })
  pub whole : untouched sent ≡ sent
  pub calls_are : calls_from (envelope_for us m) (length m.bytes) 0 sent ≡ frames

abbrev pub FramedIsSent : Type 0
FramedIsSent =
    (us room : ℕ) (m : Message) (frames : List (List ℕ))
    → Fits (envelope_for us m)
    → length m.bytes ≤ room
    → Framing (envelope_for us m) m.bytes frames
    → SentAs us room m frames

-- `never_in_vain`. The same after any frames at all, be they whole messages, parts of some or garbage: what comes then is handed up as if it had come
-- first. So no message is waited for in vain, and none that comes whole is lost.
abbrev pub NeverInVain : Type 0
NeverInVain =
    (us : ℕ) (buffer : List ℕ) (earlier : List (List ℕ)) (traffic : Traffic)
    → LegalTraffic us (length buffer) traffic
    → run us Fresh buffer (earlier ++ calls us traffic) ≡ run us Fresh buffer earlier ++ expected traffic

-- a message that the writer is to write, in pieces of a size, and the count that is answered for it
pub record Outgoing : Type 0 where
  pub message : Message
  pub size : ℕ
  pub count : ℕ

pub record LegalOutgoing (us room : ℕ) (p : Outgoing) : Type 0 where
  pub words : Fits (envelope_for us p.message)
  pub fits : length p.message.bytes ≤ room
  pub counts : counted (length p.message.bytes) p.size ≡ Ok p.count

-- what the writer writes for it, and what is handed up for it: nothing before the last frame, then the message
abbrev pub frames_of : ℕ → Outgoing → List (List ℕ)
frames_of us p = map (frame_at (envelope_for us p.message) p.message.bytes p.size) (count_up 0 p.count)

abbrev pub hands_up : Outgoing → List (Option HandedUp)
hands_up p = replicate (p.count - 1) none ++ (some (as_sent p.message) ∷ [])

-- `written_is_handed_up`. What the writer writes for any list of messages, in pieces of any sizes, is handed up message by message. (That `frame_at` is what
-- the writer writes below the count is `writes_each` and `reads_back` of `frame`.)
abbrev pub WrittenIsHandedUp : Type 0
WrittenIsHandedUp =
    (us : ℕ) (buffer : List ℕ) (outgoing : List Outgoing)
    → All (LegalOutgoing us (length buffer)) outgoing
    → run us Fresh buffer (flatten (map (frames_of us) outgoing)) ≡ flatten (map hands_up outgoing)

-- not 11
abbrev pub NotBad : Verdict → Type 0
NotBad verdict = verdict ≡ Refused BadState → ⊥

-- `stays_consistent`. From a state that is fresh or consistent no call answers 11, the state after it is fresh or consistent for the same buffer, and the
-- buffer is as long as it was.
abbrev pub StaysConsistent : Type 0
StaysConsistent =
    (us : ℕ) (state : State) (buffer frame : List ℕ)
    → consistent state (length buffer) ≡ true
    → NotBad (step_of us state buffer frame).answer.verdict
    × (consistent (step_of us state buffer frame).answer.state (length buffer) ≡ true)
    × (length (step_of us state buffer frame).buffer ≡ length buffer)

-- `never_bad`. So a run from such a state, above all one that starts fresh, never sees 11, whatever the frames.
abbrev pub NeverBad : Type 0
NeverBad =
    (us : ℕ) (state : State) (buffer : List ℕ) (frames : List (List ℕ))
    → consistent state (length buffer) ≡ true
    → All NotBad (verdicts us state buffer frames)

-- `refusal_leaves`. The table's last column, and "No refusal changes the buffer.": after 1 to 4 the state is as before, after any other refusal it is fresh.
abbrev pub RefusalLeaves : Type 0
RefusalLeaves =
    (us : ℕ) (state : State) (buffer frame : List ℕ) (reason : Reason)
    → (step_of us state buffer frame).answer.verdict ≡ Refused reason
    → (number_of reason ≤ 4 → (step_of us state buffer frame).answer.state ≡ state)
    × (5 ≤ number_of reason → (step_of us state buffer frame).answer.state ≡ Fresh)
    × ((step_of us state buffer frame).buffer ≡ buffer)

-- All that 7 asks for, "Index is the next one, a carried word differs": the frame is read, the state is consistent and open, the Index is its next one, and the five carried
-- words are not all the same. (Then none of 11 and 1 to 6 is due, and 10, 8 and 9 come after 7.)
pub record WordsDiffer (us : ℕ) (state : State) (room : ℕ) (frame : List ℕ) : Type 0 where
  pub header : Header
  pub progress : Progress
  pub reads : parsed us frame ≡ Parsed.Header header
  pub state_is : state ≡ Open progress
  pub is_consistent : consistent state room ≡ true
  pub next : header.index ≡ progress.next
  pub differ : header.words ≡ progress.words → ⊥

-- `other_words_refused`. Where this holds, 7 is given,
abbrev pub OtherWordsRefused : Type 0
OtherWordsRefused =
    (us : ℕ) (state : State) (buffer frame : List ℕ)
    → WordsDiffer us state (length buffer) frame
    → step_of us state buffer frame ≡ refused OtherWords state buffer

-- `refused_other_words`. and nowhere else: where 7 is given, it holds.
abbrev pub RefusedOtherWords : Type 0
RefusedOtherWords =
    (us : ℕ) (state : State) (buffer frame : List ℕ)
    → (step_of us state buffer frame).answer.verdict ≡ Refused OtherWords
    → WordsDiffer us state (length buffer) frame

-- how many of the buffer's bytes belong to what is open
abbrev pub filled_of : State → ℕ
filled_of Fresh = 0
filled_of (Open p) = p.filled

-- two buffers of one length that hold the same of what is open
abbrev pub Agree : State → List ℕ → List ℕ → Type 0
Agree state b c = (length b ≡ length c) × (take (filled_of state) b ≡ take (filled_of state) c)

-- `step_agrees`. Only what is filled counts: over two buffers that agree on it a call answers alike and hands up the same, and they agree again after it.
abbrev pub StepAgrees : Type 0
StepAgrees =
    (us : ℕ) (state : State) (b c frame : List ℕ)
    → Agree state b c
    → ((step_of us state b frame).answer ≡ (step_of us state c frame).answer)
    × (up_by (step_of us state b frame) ≡ up_by (step_of us state c frame))
    × Agree (step_of us state b frame).answer.state (step_of us state b frame).buffer (step_of us state c frame).buffer
