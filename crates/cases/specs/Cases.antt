-- Document 01, "Numbers to check by": the starred numbers, as one table and one statement over it. Each row is a question to the definitions
-- that the code is proved to meet, and the answer that the document gives. And an equation between two crates that do not know each other.
-- Assumes nothing.
use Rattle.std.specs.Prelude.{ℕ, ◌+◌, Bool, true, false, ◌&&◌, ◌≡◌, List, [], ◌∷◌, ◌++◌, map, eqb, length, take, replicate, Result, Ok, Err}
use Rattle.le.specs.Word.{bytes}
use Rattle.le.specs.Sum.{sum, checksum_of}
use Rattle.le.specs.Compare.{same}
use Rattle.frame.specs.Layout.{frame_max}
use Rattle.frame.specs.Writing.{counted, written, frame_at, output_after}
use Rattle.frame.specs.declared.Envelope.{Envelope}
use Rattle.reassembly.specs.Step.{number_of}
use Rattle.reassembly.specs.Run.{verdicts}
use Rattle.reassembly.specs.declared.State.TheVariants.{Fresh}
use Rattle.reassembly.specs.declared.Verdict.{Verdict}
use Rattle.reassembly.specs.declared.Verdict.TheVariants.{More, Delivered, Refused}
use Rattle.notice.specs.Ring as Ring
use Rattle.notice.specs.Queue.{Notice, Operation, post_of, take_to, Seen, accepted, rejected, given, nothing, run, end, ring_step}
use Rattle.notice.specs.Statements.{empty}
use Rattle.ubios.specs.Layout.{root_name}
use Rattle.ubios.specs.Checks as Checks
use Rattle.ubios.specs.Statements.{head_of}
use Rattle.sfi.specs.Kinds.{cpus}
use Rattle.sfi.specs.Checks as SfiChecks
use Rattle.sfi.specs.Statements as SfiTables
use Rattle.framelog.specs.Layout as Log

-- a question, with its answer last
pub data Case : Type 0 where
  -- the sum of these bytes, in words of that many bytes
  sums : ℕ → List ℕ → ℕ → Case
  -- how many frames a message of this length makes in pieces of this size
  counts : ℕ → ℕ → ℕ → Case
  -- how long the frame of this Index is, written to an output of 256 zero bytes
  frames : Envelope → List ℕ → ℕ → ℕ → ℕ → Case
  -- the refusals, call by call, of the frames with these Indices, from a fresh start with a buffer of 256 zero bytes; 0 where there is none
  refuses : Envelope → List ℕ → ℕ → List ℕ → List ℕ → Case
  -- the first bytes of that output
  writes : Envelope → List ℕ → ℕ → ℕ → List ℕ → Case
  -- the refusals of these operations on a ring of 16 zero bytes, empty at 0; 0 where there is none
  sees : List Operation → List ℕ → Case
  -- the read and the write position after them, and the ring's bytes
  leaves : List Operation → ℕ → ℕ → List ℕ → Case
  -- the Checksum, a word of that many bytes, between this head and these bytes
  checksums : ℕ → List ℕ → List ℕ → ℕ → Case
  -- the refusal of these bytes as a UBIOS root, which stands at address 4,096 where memory starts; 0 where it passes
  roots : List ℕ → ℕ → Case
  -- the refusal of these bytes as an SFI table; 0 where it passes
  sfi_tables : List ℕ → ℕ → Case

-- whether it is this number that is answered
unfoldable pub is_answer : {R : Type 0} → Result ℕ R → ℕ → Bool
is_answer (Ok n) expected = eqb n expected
is_answer (Err reason) expected = false

abbrev pub refusal_of : Verdict → ℕ
refusal_of More = 0
refusal_of (Delivered words n) = 0
refusal_of (Refused reason) = number_of reason

abbrev pub seen_refusal : Seen → ℕ
seen_refusal accepted = 0
seen_refusal (rejected reason) = Ring.number_of reason
seen_refusal (given id n out) = 0
seen_refusal (nothing reason out) = Ring.number_of reason

-- the refusal of an answer, by the numbers of its crate; 0 where there is none
abbrev pub refused : {T R : Type 0} → (R → ℕ) → Result T R → ℕ
refused number (Ok answered) = 0
refused number (Err reason) = number reason

-- 256 zero bytes
abbrev pub output : List ℕ
output = replicate 256 0

unfoldable pub holds : Case → Bool
unfolding is_answer
holds (sums k s expected) = eqb (sum k s) expected
holds (counts total size expected) = is_answer (counted total size) expected
holds (frames e message size index expected) = is_answer (written e message size index output) expected
holds (writes e message size index expected) =
    same (take (length expected) (output_after e message size index output)) expected
holds (refuses e message size indices expected) =
    same (map refusal_of (verdicts e.receiver Fresh output (map (frame_at e message size) indices))) expected
holds (sees ops expected) = same (map seen_refusal (run ring_step (empty 0 (replicate 16 0)) ops)) expected
holds (leaves ops read write expected) =
    eqb (end ring_step (empty 0 (replicate 16 0)) ops).at.read read
    && (eqb (end ring_step (empty 0 (replicate 16 0)) ops).at.write write
    && same (end ring_step (empty 0 (replicate 16 0)) ops).bytes expected)
holds (checksums k head behind expected) = eqb (checksum_of k head behind) expected
holds (roots s expected) = eqb (refused Checks.number_of (Checks.root_checked s 4096 4096)) expected
holds (sfi_tables s expected) = eqb (refused SfiChecks.number_of (SfiChecks.checked s)) expected

unfoldable pub all_hold : List Case → Bool
unfolding holds
all_hold [] = true
all_hold (c ∷ cs) = holds c && all_hold cs

-- Message ID 0x01020304, sender 10, receiver 11, word 0xFFFFFFFF; data 01 to 05. "In 01's cases byte 1 is 0."
pub envelope : Envelope
envelope = record { sequence = 0; id = 0x01020304; sender = 10; status = 0xFFFFFFFF; receiver = 11 }

pub message : List ℕ
message = 1 ∷ 2 ∷ 3 ∷ 4 ∷ 5 ∷ []

-- notices with this data
pub seven : Notice
seven = record { id = 0x01020304; body = 1 ∷ 2 ∷ 3 ∷ 4 ∷ 5 ∷ 6 ∷ 7 ∷ [] }

pub two : Notice
two = record { id = 0x0A0B0C0D; body = 0xEE ∷ 0xFF ∷ [] }

-- the head of a root with Total 40 and Version 1, all else 0
pub root_head : List ℕ
root_head = head_of (root_name ++ replicate 6 0) 40 (replicate 3 0) 0

-- the head of CPUS with Length 28 and Revision 1
pub cpus_head : List ℕ
cpus_head = SfiTables.head_of cpus 1 28

unfoldable pub starred : List Case
unfolding envelope message seven two root_head cpus_head
starred =
    -- piece 2: three frames of 26, 26, 25 bytes
    counts 5 2 3
    ∷ frames envelope message 2 0 26
    ∷ frames envelope message 2 1 26
    ∷ frames envelope message 2 2 25
    -- the first is 11 00 00 00 04 03 02 01 0A 00 00 00 0B 00 00 00 FF FF FF FF 05 00 00 00 01 02
    ∷ writes envelope message 2 0
    (0x11 ∷ 0 ∷ 0 ∷ 0 ∷ 4 ∷ 3 ∷ 2 ∷ 1 ∷ 10 ∷ 0 ∷ 0 ∷ 0 ∷ 11 ∷ 0 ∷ 0 ∷ 0 ∷ 0xFF ∷ 0xFF ∷ 0xFF ∷ 0xFF ∷ 5 ∷ 0 ∷ 0 ∷ 0 ∷ 1 ∷ 2 ∷ [])
    -- without the second, the third gets 6
    ∷ refuses envelope message 2 (0 ∷ 2 ∷ []) (0 ∷ 6 ∷ [])
    -- 4,096 bytes at 232: 18 frames, the last with 152
    ∷ counts 4096 232 18
    ∷ frames envelope (replicate 4096 7) 232 17 (24 + 152)
    -- a ring of 16, empty at 0: 8 bytes of data get 25
    ∷ sees (post_of (record { id = 0x01020304; body = replicate 8 1 }) ∷ []) (25 ∷ [])
    -- 7 fit, write position 15
    ∷ sees (post_of seven ∷ []) (0 ∷ [])
    ∷ leaves (post_of seven ∷ []) 0 15 (4 ∷ 3 ∷ 2 ∷ 1 ∷ 7 ∷ 0 ∷ 0 ∷ 0 ∷ 1 ∷ 2 ∷ 3 ∷ 4 ∷ 5 ∷ 6 ∷ 7 ∷ 0 ∷ [])
    -- after the take, 2 bytes of data fill places 15 and 0 to 8, write position 9
    ∷ sees (post_of seven ∷ take_to (replicate 7 0) ∷ post_of two ∷ []) (0 ∷ 0 ∷ 0 ∷ [])
    ∷ leaves (post_of seven ∷ take_to (replicate 7 0) ∷ post_of two ∷ []) 15 9
    (0x0C ∷ 0x0B ∷ 0x0A ∷ 2 ∷ 0 ∷ 0 ∷ 0 ∷ 0xEE ∷ 0xFF ∷ 2 ∷ 3 ∷ 4 ∷ 5 ∷ 6 ∷ 7 ∷ 0x0D ∷ [])
    -- a root with Total 40, Version 1, all else 0 has Checksum 0x292EB69A
    ∷ checksums 4 root_head (replicate 8 0) 0x292EB69A
    ∷ roots (root_head ++ (bytes 4 0x292EB69A ++ replicate 8 0)) 0
    -- used bytes 01 00 00 00 FF sum to 0x100
    ∷ sums 4 (1 ∷ 0 ∷ 0 ∷ 0 ∷ 0xFF ∷ []) 0x100
    -- CPUS with Length 28, Revision 1, the rest 0: Checksum 0xA8
    ∷ checksums 1 cpus_head (replicate 18 0) 0xA8
    ∷ sfi_tables (cpus_head ++ (0xA8 ∷ replicate 18 0)) 0
    ∷ []

-- the one statement: each of these numbers holds
abbrev pub StarredHold : Type 0
StarredHold = all_hold starred ≡ true

-- `log_holds_frames`. The longest frame that a record of the log holds is the longest frame there is.
abbrev pub LogHoldsFrames : Type 0
LogHoldsFrames = Log.frame_max Log.record_size ≡ frame_max
