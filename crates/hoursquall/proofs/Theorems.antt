-- The theorems of `specs/Statements.antt` on the numbers that C keeps between calls.
--     state_crosses      a state survives the way through the block
--     positions_cross    so do a ring's positions
--     state_fits         a block reads as a state whose words fit in a frame
--     read_fits          so do the words of a frame that is read
--     step_crosses       and those of the state after a step, and what C sees of the step is what it hands up
--     refusal_leaves_lent    what a refusal leaves of what was lent
--     block_crosses      the block that a call leaves is the state after it
--     run_crosses        so a run over blocks is a run over states
--     demand_3_exported, exactly_these_exported   and demand 3 holds of it
--     ring_is_queue_exported   and so is the ring over blocks of positions the queue
-- Assumes nothing.
use Rattle.std.proofs.lemmas.Bool.{and_parts}
use Rattle.std.specs.Prelude.{Result, Ok, Err}
use Prim.Native.Nat.{ℕ, suc, ◌+◌, ◌^◌, ◌≤◌, ◌<◌}
use mathlib.Core.Bool.{Bool, true, false, cond, not, ◌&&◌}
use mathlib.Core.Path.{◌≡◌, refl, sym, subst, ap, ap₂, ◌∙◌}
use mathlib.Core.List.{List, [], ◌∷◌}
use native.Mathlib.Omega.{arith}
use borrow.Author.Tests.{eq-eqb, le-ltb, ltb-false, le-leb, lt-leb, leb-true}
use lib.Dec.{eqb, ltb, leb}
use lib.ListN.{length, drop, get_or}
use lib.Seq.{get_or-drop}
use Rattle.le.specs.Word.{word, AreBytes}
use Rattle.le.proofs.Words.{word_below}
use Rattle.le.proofs.Tests.{either}
use Rattle.frame.specs.Layout.{header_size, frame_max, type_version, words_at, header_of}
use Rattle.frame.specs.Reading.{parsed}
use Rattle.frame.specs.declared.Words.{Words}
use Rattle.frame.specs.declared.read.Parsed.{Parsed}
use Rattle.frame.specs.declared.read.Reason.TheVariants.{FrameShort, FrameLong, WrongType, OtherReceiver}
use Rattle.reassembly.specs.Step.{Stepped, number_of, step_of}
use Rattle.reassembly.specs.Run.{answers, up_by, run, messages}
use Rattle.reassembly.proofs.Theorem.{demand_3}
use Rattle.reassembly.proofs.Outcome.{Source, begun, continued, Outcome, refuses, delivers, wants, outcome, kept, refusal_leaves}
use Rattle.reassembly.proofs.Corollaries.{exactly_these}
use Rattle.reassembly.specs.declared.State.{State}
use Rattle.reassembly.specs.declared.State.TheVariants.{Fresh, Open}
use Rattle.reassembly.specs.declared.Reason.{Reason}
use Rattle.reassembly.specs.declared.Reason.TheVariants.{Unread, NothingOpen, OutOfOrder, OtherWords, NoData, TooMuchData, MessageLong, BadState}
use Rattle.reassembly.specs.declared.Verdict.{Verdict}
use Rattle.reassembly.specs.declared.Verdict.TheVariants.{More, Delivered, Refused}
use Rattle.notice.specs.Ring as Notices
use Rattle.notice.specs.Ring.{ring_after, output_after}
use Rattle.notice.specs.Queue as Queue
use Rattle.notice.specs.Queue.{Operation, post_of, take_to, Ring, post_step, take_step, ring_step}
use Rattle.notice.specs.Statements.{empty}
use Rattle.notice.specs.declared.Positions.{Positions}
use Rattle.notice.specs.declared.Reason.{Reason as NoticeReason}
use Rattle.notice.specs.declared.Taken.{Taken}
use Rattle.notice.proofs.Theorem.{ring_is_queue}
use Rattle.hoursquall.specs.Answer.{told}
use Rattle.hoursquall.specs.Notice.{positions_of_def, positions_after_post, positions_after_take, id_after, data_length_after, Kept, RingCall, of_post, of_take, post_in, take_in, told_by, kept_after}
use Rattle.hoursquall.specs.Reassembly.{byte_max, word_max, state_of_def, block_of, verdict_number, words_after, is_unread_def, Lent, lending, stepped, answered, left}
use Rattle.hoursquall.specs.Statements.{WordsFit, StateFits, StateCrosses, up_in_c, frames_of, lent_to, run_blocks, RunCrosses, Demand3Exported, ExactlyTheseExported, RefusalLeavesLent, PositionsCross, run_ring, in_numbers, all_in_numbers, operations_of, RingIsQueueExported}

-- a word that fits passes the block's test, and only such a one does
within : (max n : ℕ) → n < suc max → ltb max n ≡ false
within max n h = le-ltb max n (omega arith)

below : (max n : ℕ) → ltb max n ≡ false → n < suc max
below max n e = omega (arith, ltb-false max n e)

pub state_crosses : StateCrosses
unfolding state_of_def
state_crosses Fresh fits = refl
state_crosses (Open p) fits =
    rw (within byte_max _ fits.sequence, within word_max _ fits.id, within word_max _ fits.sender, within word_max _ fits.status, within word_max _ fits.total)

pub positions_cross : PositionsCross
positions_cross id n p before = (refl, refl)

-- as `either`, and the second branch may count on the test
unless : {A : Type 0} (P : A → Type 0) (b : Bool) {x y : A} → P x → (b ≡ false → P y) → P (cond b x y)
unless P true p q = p
unless P false p q = q refl

-- the words of `no_state_def`
none_fit : WordsFit (words_at 0 [])
none_fit = record { sequence = omega arith; id = omega arith; sender = omega arith; status = omega arith; total = omega arith }

pub state_fits : (block : List ℕ) → StateFits (state_of_def block)
unfolding state_of_def
state_fits b =
    either StateFits (eqb (get_or b 0 0) 0) tt
    (either StateFits (not (eqb (get_or b 0 0) 1)) none_fit
    (unless StateFits (ltb byte_max (get_or b 1 0)) none_fit (λ sequence.
    unless StateFits (ltb word_max (get_or b 2 0)) none_fit (λ id.
    unless StateFits (ltb word_max (get_or b 3 0)) none_fit (λ sender.
    unless StateFits (ltb word_max (get_or b 4 0)) none_fit (λ status.
    unless StateFits (ltb word_max (get_or b 5 0)) none_fit (λ total.
    record {
      sequence = below byte_max _ sequence;
      id = below word_max _ id;
      sender = below word_max _ sender;
      status = below word_max _ status;
      total = below word_max _ total;
    })))))))

-- the words of a header, if one is read, fit
abbrev ReadFits : Parsed → Type 0
ReadFits (Parsed.Header h) = WordsFit h.words
ReadFits (Parsed.Refused reason) = Unit {0}

word_fits : (k : ℕ) (f : List ℕ) → AreBytes f → (at : ℕ) → word k (drop at f) < 256 ^ k
word_fits k f are at = word_below k (drop at f) (λ i. rw (get_or-drop at f i 0) (are (at + i)))

read_fits : (us : ℕ) (f : List ℕ) → AreBytes f → ReadFits (parsed us f)
unfolding parsed
read_fits us f are =
    either ReadFits (ltb (length f) header_size) tt
    (either ReadFits (ltb frame_max (length f)) tt
    (either ReadFits (not (eqb (word 1 f) type_version)) tt
    (either ReadFits (not (eqb (header_of f).receiver us)) tt
    (record {
      sequence = word_fits 1 f are 1;
      id = word_fits 4 f are 4;
      sender = word_fits 4 f are 8;
      status = word_fits 4 f are 16;
      total = word_fits 4 f are 20;
    }))))

-- no refusal has the number 100
not_100 : (reason : Reason) → eqb (number_of reason) 100 ≡ false
not_100 (Unread FrameShort) = refl
not_100 (Unread FrameLong) = refl
not_100 (Unread WrongType) = refl
not_100 (Unread OtherReceiver) = refl
not_100 NothingOpen = refl
not_100 OutOfOrder = refl
not_100 OtherWords = refl
not_100 NoData = refl
not_100 TooMuchData = refl
not_100 MessageLong = refl
not_100 BadState = refl

-- a message's words come from what is open or from the frame, so they fit
source_fits : (us : ℕ) (f : List ℕ) → AreBytes f → (s : State) (w : Words) (i filled : ℕ) → Source us f s w i filled → StateFits s → WordsFit w
source_fits us f are s w i filled (begun st h read) fits = subst ReadFits read (read_fits us f are)
source_fits us f are s w i filled (continued q) fits = fits

-- what is wanted of a step: the state after it carries words that fit, and what C sees of it is what it hands up
pub record Crosses (before : List ℕ) (st : Stepped) : Type 0 where
  pub fits : StateFits st.answer.state
  pub seen : up_in_c (verdict_number st.answer.verdict) (words_after st.answer.verdict before) st.buffer ≡ up_by st

pub step_crosses : (before : List ℕ) (us : ℕ) (s : State) → StateFits s → (b f : List ℕ) → AreBytes f → Crosses before (step_of us s b f)
step_crosses before us s fits b f are = by (outcome us s (length b) f)
  where
    by : Outcome us s (length b) f → Crosses before (step_of us s b f)
    by (refuses reason cause steps) = rw (steps b refl) (record { fits = kept StateFits tt reason s fits; seen = rw (not_100 reason) })
    by (delivers w i filled source all held steps) = rw (steps b refl) (record { fits = tt; seen = refl })
    by (wants w i filled source room again steps) = rw (steps b refl) (record { fits = source_fits us f are s w i filled source fits; seen = refl })

-- the numbers of a frame that is not read are 1 to 4
unread_numbers : (n : ℕ) → 1 ≤ n → n ≤ 4 → is_unread_def n ≡ true
unread_numbers n least most = ap₂ ◌&&◌ (le-leb 1 n least) (le-leb n 4 most)

other_numbers : (n : ℕ) → 5 ≤ n → is_unread_def n ≡ false
other_numbers n more = ap₂ ◌&&◌ (le-leb 1 n (omega arith)) (lt-leb n 4 more)

-- a refusal of a frame that is not read leaves the state, and each other one a fresh state
leaves_lent : (us : ℕ) (lent : Lent) (f : List ℕ) (v : Verdict) → (stepped us lent f).answer.verdict ≡ v
    → (1 ≤ verdict_number v → verdict_number v ≤ 4 → (stepped us lent f).answer.state ≡ state_of_def lent.block)
    × ((1 ≤ verdict_number v → verdict_number v ≤ 4 → left us lent f ≡ lent)
    × (5 ≤ verdict_number v → verdict_number v ≤ 11 → left us lent f ≡ lending (block_of Fresh) lent.buffer lent.words))
leaves_lent us lent f More q = ((λ l m. absurd (omega arith)), ((λ l m. absurd (omega arith)), (λ l m. absurd (omega arith))))
leaves_lent us lent f (Delivered w n) q = ((λ l m. absurd (omega arith)), ((λ l m. absurd (omega arith)), (λ l m. absurd (omega arith))))
leaves_lent us lent f (Refused reason) q =
    let leaves = refusal_leaves us (state_of_def lent.block) lent.buffer f reason q in
    let n = number_of reason in (
      (λ l m. leaves.0 m),
      (
        (λ l m. rw (q, leaves.2, unread_numbers n l m)),
        (λ l m. rw (q, leaves.2, leaves.1 l, other_numbers n l)),
      ),
    )

pub refusal_leaves_lent : RefusalLeavesLent
refusal_leaves_lent us lent f = (leaves_lent us lent f (stepped us lent f).answer.verdict refl).1

-- the block that a call leaves is the state after it
pub block_crosses : (us : ℕ) (lent : Lent) (f : List ℕ) → StateFits (stepped us lent f).answer.state → state_of_def (left us lent f).block ≡ (stepped us lent f).answer.state
block_crosses us lent f fits = go (is_unread_def (answered us lent f)) refl
  where
    go : (t : Bool) → is_unread_def (answered us lent f) ≡ t → state_of_def (cond t lent.block (block_of (stepped us lent f).answer.state)) ≡ (stepped us lent f).answer.state
    go true e =
        let n = answered us lent f in
        let range = and_parts (leb 1 n) (leb n 4) e in
        sym ((leaves_lent us lent f (stepped us lent f).answer.verdict refl).0 (leb-true 1 n range.0) (leb-true n 4 range.1))
    go false e = state_crosses (stepped us lent f).answer.state fits

pub run_crosses : RunCrosses
unfolding run_blocks answers
run_crosses us block b [] are = refl
run_crosses us block b (c ∷ cs) are =
    let lent = lent_to c block b in
    let crosses = step_crosses c.words us (state_of_def block) (state_fits block) b c.frame are.0 in
    let kept = block_crosses us lent c.frame crosses.fits in
    ap₂ ◌∷◌ crosses.seen
    (run_crosses us (left us lent c.frame).block (left us lent c.frame).buffer cs are.1
    ∙ ap (λ (s : State). run us s (left us lent c.frame).buffer (frames_of cs)) kept)

pub demand_3_exported : Demand3Exported
unfolding state_of_def
demand_3_exported us block b traffic cs calling =
    let starts : state_of_def block ≡ Fresh = rw (eq-eqb (get_or block 0 0) 0 calling.fresh) in
    run_crosses us block b cs (rw calling.frames_are calling.bytes)
    ∙ rw (starts, calling.frames_are) (demand_3 us b traffic calling.legal)

pub exactly_these_exported : ExactlyTheseExported
exactly_these_exported us block b traffic cs calling =
    ap messages (demand_3_exported us block b traffic cs calling ∙ sym (demand_3 us b traffic calling.legal))
    ∙ exactly_these us b traffic calling.legal

-- the ring that is kept
abbrev ring_of : Kept → Ring
ring_of k = record { bytes = k.ring; at = positions_of_def k.block }

-- one call tells what is seen of the operation, and leaves the ring that it leaves
seen_in_numbers : (k : Kept) (c : RingCall) → told_by k c.operation c.id c.extent ≡ in_numbers c (ring_step (ring_of k) c.operation).seen
seen_in_numbers k c = by c.operation
  where
    by : (op : Operation) → told_by k op c.id c.extent ≡ in_numbers c (ring_step (ring_of k) op).seen
    by (post_of n) = go (post_in k n)
      where
        go : (p : Result Positions NoticeReason) → of_post (told Notices.number_of p) ≡ in_numbers c (post_step p (ring_of k) n).seen
        go (Ok next) = refl
        go (Err reason) = refl
    by (take_to out) = go (take_in k out)
      where
        go : (t : Result Taken NoticeReason) → of_take (told Notices.number_of t) (output_after t k.ring (positions_of_def k.block) out) (id_after t c.id) (data_length_after t c.extent)
            ≡ in_numbers c (take_step t (ring_of k) out).seen
        go (Ok taken) = refl
        go (Err reason) = refl

keeps : (k : Kept) (op : Operation) → ring_of (kept_after k op) ≡ (ring_step (ring_of k) op).next
keeps k (post_of n) = go (post_in k n)
  where
    go : (p : Result Positions NoticeReason) → ring_of (record { ring = ring_after p k.ring (positions_of_def k.block) n.id n.body; block = positions_after_post p k.block })
        ≡ (post_step p (ring_of k) n).next
    go (Ok next) = refl
    go (Err reason) = refl
keeps k (take_to out) = go (take_in k out)
  where
    go : (t : Result Taken NoticeReason) → ring_of (record { ring = k.ring; block = positions_after_take t k.block }) ≡ (take_step t (ring_of k) out).next
    go (Ok taken) = refl
    go (Err reason) = refl

ring_crosses : (k : Kept) (cs : List RingCall) → run_ring k cs ≡ all_in_numbers cs (Queue.run ring_step (ring_of k) (operations_of cs))
unfolding run_ring all_in_numbers Queue.run
ring_crosses k [] = refl
ring_crosses k (c ∷ cs) =
    ap₂ ◌∷◌ (seen_in_numbers k c)
    (ring_crosses (kept_after k c.operation) cs
    ∙ ap (λ (r : Ring). all_in_numbers cs (Queue.run ring_step r (operations_of cs))) (keeps k c.operation))

pub ring_is_queue_exported : RingIsQueueExported
ring_is_queue_exported k cs legal below equal words =
    let empties : ring_of k ≡ empty (get_or k.block 0 0) k.ring =
    ap (λ (w : ℕ). record { bytes = k.ring; at = record { read = get_or k.block 0 0; write = w } }) equal in
    ring_crosses k cs
    ∙ ap (all_in_numbers cs)
    (ap (λ (r : Ring). Queue.run ring_step r (operations_of cs)) empties ∙ ring_is_queue k.ring (get_or k.block 0 0) (operations_of cs) legal below words)
