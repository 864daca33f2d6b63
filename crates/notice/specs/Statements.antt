-- What is proved of one post and one take, and of lists of them. The proofs are in `proofs/Theorem.antt`, under the names given here.
-- Assumes nothing.
use Rattle.std.specs.Prelude.{ℕ, ◌+◌, ◌%◌, ◌≤◌, ◌<◌, ◌≡◌, List, [], ◌++◌, length, take, drop, Ok, Err}
use Rattle.le.specs.Word.{word}
use Rattle.notice.specs.Ring.{header_size, waiting, moved, turned, notice_of, posted, ring_after, got, taken_of, output_after}
use Rattle.notice.specs.declared.Positions.{Positions}
use Rattle.notice.specs.declared.Reason.TheVariants.{Damaged}
use Rattle.notice.specs.Queue.{Notice, Operation, Words, run, end, Ring, ring_step, queue_step, flat, all_in, all_out}

-- "Equal positions mean empty"
abbrev pub empty : ℕ → List ℕ → Ring
empty p ring = record { bytes = ring; at = record { read = p; write = p } }

-- a legal capacity
pub record Capacity (c : ℕ) : Type 0 where
  pub least : 16 ≤ c
  pub most : c ≤ 65536
  pub aligned : c % 8 ≡ 0

-- `ring_is_queue`. From an empty ring, at any position below any legal capacity and with any bytes in it, any list of posts and takes is answered as by the
-- queue, operation by operation, with the whole output of each take.
abbrev pub RingIsQueue : Type 0
RingIsQueue =
    (ring : List ℕ) (p : ℕ) (ops : List Operation)
    → Capacity (length ring)
    → p < length ring
    → Words ops
    → run ring_step (empty p ring) ops ≡ run (queue_step (length ring)) [] ops

-- `posted_is_taken`. What is posted is taken, once, in order, as it was: what went in is what came out and then what is left, and what is left waits in the
-- ring, laid end to end from the read position on.
pub record Left (ring : List ℕ) (p : ℕ) (ops : List Operation) (left : List Notice) : Type 0 where
  pub in_order : all_in ops (run ring_step (empty p ring) ops) ≡ all_out (run ring_step (empty p ring) ops) ++ left
  pub waits : waiting (length ring) (end ring_step (empty p ring) ops).at ≡ length (flat left)
  pub stands : take (length (flat left)) (turned (end ring_step (empty p ring) ops).at.read (end ring_step (empty p ring) ops).bytes) ≡ flat left

abbrev pub PostedIsTaken : Type 0
PostedIsTaken =
    (ring : List ℕ) (p : ℕ) (ops : List Operation)
    → Capacity (length ring)
    → p < length ring
    → Words ops
    → Left ring p ops (end (queue_step (length ring)) [] ops)

-- `all_taken`. Where the positions are equal at the end, all that went in came out.
abbrev pub AllTaken : Type 0
AllTaken =
    (ring : List ℕ) (p : ℕ) (ops : List Operation)
    → Capacity (length ring)
    → p < length ring
    → Words ops
    → (end ring_step (empty p ring) ops).at.read ≡ (end ring_step (empty p ring) ops).at.write
    → all_in ops (run ring_step (empty p ring) ops) ≡ all_out (run ring_step (empty p ring) ops)

-- `post_changes`. An accepted post changes the notice's places and no other byte: the ring keeps its length, seen from the write position it starts with the
-- notice and is else as before, and what waited stands as it did. The read position stays, and the write position moves on by the notice's size.
pub record PostChanged (ring : List ℕ) (at : Positions) (id : ℕ) (body : List ℕ) (next : Positions) (after : List ℕ) : Type 0 where
  pub same_length : length after ≡ length ring
  pub places : turned at.write after ≡ notice_of id body ++ drop (header_size + length body) (turned at.write ring)
  pub waited : take (waiting (length ring) at) (turned at.read after) ≡ take (waiting (length ring) at) (turned at.read ring)
  pub read_is : next.read ≡ at.read
  pub write_is : next.write ≡ moved (length ring) at.write (header_size + length body)

abbrev pub PostChanges : Type 0
PostChanges =
    (ring : List ℕ) (at : Positions) (id : ℕ) (body : List ℕ) (next : Positions)
    → posted ring at id body ≡ Ok next
    → PostChanged ring at id body next (ring_after (posted ring at id body) ring at id body)

-- `take_changes`. A take answers the Notify ID and the Data Length n that stand at the read position, and changes the output's first n bytes, which are the
-- data, and no other: the output keeps its length and its bytes from n on. The read position moves on by the notice's size, and the write position stays.
pub record TakeChanged (ring : List ℕ) (at : Positions) (out : List ℕ) (id n : ℕ) (next : Positions) (after : List ℕ) : Type 0 where
  pub id_is : id ≡ word 4 (turned at.read ring)
  pub n_is : n ≡ word 4 (drop 4 (turned at.read ring))
  pub inside : n ≤ length out
  pub same_length : length after ≡ length out
  pub first : take n after ≡ take n (drop header_size (turned at.read ring))
  pub rest : drop n after ≡ drop n out
  pub read_is : next.read ≡ moved (length ring) at.read (header_size + n)
  pub write_is : next.write ≡ at.write

abbrev pub TakeChanges : Type 0
TakeChanges =
    (ring : List ℕ) (at : Positions) (out : List ℕ) (id n : ℕ) (next : Positions)
    → taken_of ring at out ≡ got id n next
    → TakeChanged ring at out id n next (output_after (taken_of ring at out) ring at out)

-- `damaged_stays`. A 22 changes nothing, so every take from that ring gets 22, whatever its output.
abbrev pub DamagedStays : Type 0
DamagedStays =
    (ring : List ℕ) (at : Positions) (out other : List ℕ)
    → taken_of ring at out ≡ Err Damaged
    → taken_of ring at other ≡ Err Damaged
