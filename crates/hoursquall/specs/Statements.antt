-- What is proved of the numbers that C keeps between calls. The proofs are in `proofs/Theorems.antt`, under the names given here.
-- Assumes nothing.
use Rattle.std.specs.Prelude.{ℕ, ◌^◌, ◌≤◌, ◌<◌, cond, ◌≡◌, List, [], ◌∷◌, map, eqb, length, take, get_or, Ok}
use Rattle.std.proofs.Math.Option.{Option, none, some}
use Rattle.le.specs.Word.{AreBytes}
use Rattle.frame.specs.Framing.{All}
use Rattle.frame.specs.Layout.{words_at}
use Rattle.frame.specs.declared.Words.{Words}
use Rattle.reassembly.specs.Run.{HandedUp, run, messages}
use Rattle.reassembly.specs.Traffic.{Traffic, LegalTraffic, calls, arrived, expected}
use Rattle.reassembly.specs.declared.State.{State}
use Rattle.reassembly.specs.declared.State.TheVariants.{Fresh, Open}
use Rattle.notice.specs.declared.Positions.{Positions}
use Rattle.notice.specs.Ring as Ring
use Rattle.notice.specs.Queue as Queue
use Rattle.notice.specs.Queue.{Operation, Seen, accepted, rejected, given, nothing, queue_step}
use Rattle.notice.specs.Statements.{Capacity}
use Rattle.hoursquall.specs.Reassembly.{state_of_def, block_of, Lent, lending, answered, left}
use Rattle.hoursquall.specs.Notice.{positions_of_def, positions_after_post, positions_after_take, Kept, RingCall, Told, of_post, of_take, told_by, kept_after}

-- carried words that fit in a frame: the sequence number is a byte, and the others, the total too, are of 32 bits (`Fits` of `frame` says it of an envelope)
pub record WordsFit (w : Words) : Type 0 where
  pub sequence : w.sequence < 2 ^ 8
  pub id : w.id < 2 ^ 32
  pub sender : w.sender < 2 ^ 32
  pub status : w.status < 2 ^ 32
  pub total : w.total < 2 ^ 32

abbrev pub StateFits : State → Type 0
StateFits Fresh = Unit {0}
StateFits (Open p) = WordsFit p.words

-- `state_crosses`. A state that is written as a block and read again is that state: fresh or open, with the carried words, the next Index and how many
-- bytes are filled.
abbrev pub StateCrosses : Type 0
StateCrosses = (s : State) → StateFits s → state_of_def (block_of s) ≡ s

-- what C hands up after an answer: with 100 the carried words and the buffer's first bytes, as many as the total says, else nothing
abbrev pub up_in_c : ℕ → List ℕ → List ℕ → Option HandedUp
up_in_c number words buffer =
    cond (eqb number 100)
    (some (record { words = words_at 0 words; length = (words_at 0 words).total; bytes = take (words_at 0 words).total buffer }))
    none

-- one call: its frame, and what is lent to it for the words, which the caller may lend anew each time
pub record Call : Type 0 where
  pub frame : List ℕ
  pub words : List ℕ

abbrev pub frames_of : List Call → List (List ℕ)
frames_of cs = map (λ c. c.frame) cs

abbrev pub lent_to : Call → List ℕ → List ℕ → Lent
lent_to c block buffer = lending block buffer c.words

-- what each call of the list hands up in C, each call with the block and the buffer as the last one left them
unfoldable pub run_blocks : ℕ → List ℕ → List ℕ → List Call → List (Option HandedUp)
run_blocks us block buffer [] = []
run_blocks us block buffer (c ∷ cs) =
    up_in_c (answered us (lent_to c block buffer) c.frame) (left us (lent_to c block buffer) c.frame).words (left us (lent_to c block buffer) c.frame).buffer
    ∷ run_blocks us (left us (lent_to c block buffer) c.frame).block (left us (lent_to c block buffer) c.frame).buffer cs

-- `run_crosses`. From any block, and for any frames, such a run hands up what the run from the state that the block is hands up. That each frame is a list
-- of bytes is what each `&[u8]` is.
abbrev pub RunCrosses : Type 0
RunCrosses =
    (us : ℕ) (block buffer : List ℕ) (cs : List Call)
    → All AreBytes (frames_of cs)
    → run_blocks us block buffer cs ≡ run us (state_of_def block) buffer (frames_of cs)

-- the calls of C over the frames of legal traffic, "Start fresh,": with a block whose first number is 0, whatever follows it and whatever stands in the
-- buffer and, at each call, in the words. The rest is as in `Demand3` of the crate `reassembly`.
pub record Calling (us : ℕ) (block buffer : List ℕ) (traffic : Traffic) (cs : List Call) : Type 0 where
  pub fresh : get_or block 0 0 ≡ 0
  pub legal : LegalTraffic us (length buffer) traffic
  pub bytes : All AreBytes (calls us traffic)
  pub frames_are : frames_of cs ≡ calls us traffic

-- `demand_3_exported`. Demand 3 as C sees it: what is handed up by 100, the five words and the buffer "is exactly the messages that lost no frame, each once,
-- in order, with bytes and carried words as sent."
abbrev pub Demand3Exported : Type 0
Demand3Exported =
    (us : ℕ) (block buffer : List ℕ) (traffic : Traffic) (cs : List Call)
    → Calling us block buffer traffic cs
    → run_blocks us block buffer cs ≡ expected traffic

-- `exactly_these_exported`. So the messages that are handed up in C are, in order, those all of whose frames arrive, as sent.
abbrev pub ExactlyTheseExported : Type 0
ExactlyTheseExported =
    (us : ℕ) (block buffer : List ℕ) (traffic : Traffic) (cs : List Call)
    → Calling us block buffer traffic cs
    → messages (run_blocks us block buffer cs) ≡ arrived traffic.sent

-- `refusal_leaves_lent`. A refusal with 1 to 4 leaves all that was lent as it was, the block byte for byte; one with 5 to 11 leaves a fresh block, and the
-- buffer and the words as they were.
abbrev pub RefusalLeavesLent : Type 0
RefusalLeavesLent =
    (us : ℕ) (lent : Lent) (frame : List ℕ)
    → (1 ≤ answered us lent frame → answered us lent frame ≤ 4 → left us lent frame ≡ lent)
    × (5 ≤ answered us lent frame → answered us lent frame ≤ 11 → left us lent frame ≡ lending (block_of Fresh) lent.buffer lent.words)

-- `positions_cross`. The positions that a post or a take leaves in the block are those that the next call reads there.
abbrev pub PositionsCross : Type 0
PositionsCross =
    (id n : ℕ) (p : Positions) (before : List ℕ)
    → (positions_of_def (positions_after_post (Ok p) before) ≡ p)
    × (positions_of_def (positions_after_take (Ok (record { id = id; length = n; positions = p })) before) ≡ p)

-- what each call of the list tells, each call with the ring and the block as the last one left them
unfoldable pub run_ring : Kept → List RingCall → List Told
run_ring k [] = []
run_ring k (c ∷ cs) = told_by k c.operation c.id c.extent ∷ run_ring (kept_after k c.operation) cs

-- the same of the queue: what is seen of an operation, in numbers
abbrev pub in_numbers : RingCall → Seen → Told
in_numbers c accepted = of_post 0
in_numbers c (rejected reason) = of_post (Ring.number_of reason)
in_numbers c (given id n out) = of_take 0 out id n
in_numbers c (nothing reason out) = of_take (Ring.number_of reason) out c.id c.extent

unfoldable pub all_in_numbers : List RingCall → List Seen → List Told
all_in_numbers [] seen = []
all_in_numbers (c ∷ cs) [] = []
all_in_numbers (c ∷ cs) (s ∷ seen) = in_numbers c s ∷ all_in_numbers cs seen

abbrev pub operations_of : List RingCall → List Operation
operations_of cs = map (λ c. c.operation) cs

-- `ring_is_queue_exported`. The queue rule as C sees it: from a block of two equal positions below the ring's length, whatever stands in the ring, any list of
-- posts and takes tells what the queue would, number by number, with the output, the Notify ID and the length of each take as they stand then.
abbrev pub RingIsQueueExported : Type 0
RingIsQueueExported =
    (k : Kept) (cs : List RingCall)
    → Capacity (length k.ring)
    → get_or k.block 0 0 < length k.ring
    → get_or k.block 1 0 ≡ get_or k.block 0 0
    → Queue.Words (operations_of cs)
    → run_ring k cs ≡ all_in_numbers cs (Queue.run (queue_step (length k.ring)) [] (operations_of cs))
