-- The state and the answers of the crate `reassembly` as numbers.
-- Assumes nothing.
use Rattle.std.specs.Prelude.{ℕ, Bool, cond, not, ◌&&◌, List, [], ◌∷◌, ◌++◌, eqb, ltb, leb, get_or, replicate}
use Rattle.frame.specs.Layout.{words_of, words_at}
use Rattle.reassembly.specs.declared.State.{State}
use Rattle.reassembly.specs.declared.State.TheVariants.{Fresh, Open}
use Rattle.reassembly.specs.declared.Verdict.{Verdict}
use Rattle.reassembly.specs.declared.Verdict.TheVariants.{More, Delivered, Refused}
use Rattle.reassembly.specs.Step as Step

-- an open state that no buffer is consistent with
abbrev pub no_state_def : State
no_state_def = Open (record { words = words_at 0 []; next = 0; filled = 0 })

-- the largest byte, and the largest word of 32 bits
abbrev pub byte_max : ℕ
byte_max = 0xFF

abbrev pub word_max : ℕ
word_max = 0xFFFFFFFF

-- the open state that a block is: the carried words, the first a byte and the others of 32 bits, the next Index and how many bytes are filled
abbrev pub open_of_def : List ℕ → State
open_of_def b =
    cond (ltb byte_max (get_or b 1 0)) no_state_def
    (cond (ltb word_max (get_or b 2 0)) no_state_def
    (cond (ltb word_max (get_or b 3 0)) no_state_def
    (cond (ltb word_max (get_or b 4 0)) no_state_def
    (cond (ltb word_max (get_or b 5 0)) no_state_def
    (Open (record { words = words_at 1 b; next = get_or b 6 0; filled = get_or b 7 0 }))))))

-- The state that a block of eight numbers is: 0 is fresh, whatever follows it; 1 is open. A block that is no state reads as `no_state_def`, so that it gets 11.
unfoldable pub state_of_def : List ℕ → State
state_of_def b = cond (eqb (get_or b 0 0) 0) Fresh (cond (not (eqb (get_or b 0 0) 1)) no_state_def (open_of_def b))

-- the block that a state is written as
abbrev pub block_of : State → List ℕ
block_of Fresh = replicate 8 0
block_of (Open p) = 1 ∷ (words_of p.words ++ (p.next ∷ p.filled ∷ []))

-- 0: more is wanted; 100: a message is delivered; else the number of the refusal
abbrev pub verdict_number : Verdict → ℕ
verdict_number More = 0
verdict_number (Delivered w n) = 100
verdict_number (Refused reason) = Step.number_of reason

abbrev pub words_after : Verdict → List ℕ → List ℕ
words_after More before = before
words_after (Delivered w n) before = words_of w
words_after (Refused reason) before = before

-- the numbers of a frame that is not read
abbrev pub is_unread_def : ℕ → Bool
is_unread_def number = leb 1 number && leb number 4

-- the block after an answer: "as before" with 1 to 4, so the numbers that were lent, else those of the state after it
abbrev pub block_after : ℕ → State → List ℕ → List ℕ
block_after number state before = cond (is_unread_def number) before (block_of state)

-- what a caller of `hs_reassembly_step` lends to each call: the state's block, the buffer, and the place of the carried words
pub record Lent : Type 0 where
  pub block : List ℕ
  pub buffer : List ℕ
  pub words : List ℕ

abbrev pub lending : List ℕ → List ℕ → List ℕ → Lent
lending block buffer words = record { block = block; buffer = buffer; words = words }

-- the step that the call takes
abbrev pub stepped : ℕ → Lent → List ℕ → Step.Stepped
stepped us lent frame = Step.step_of us (state_of_def lent.block) lent.buffer frame

-- what the call answers, and what it leaves
abbrev pub answered : ℕ → Lent → List ℕ → ℕ
answered us lent frame = verdict_number (stepped us lent frame).answer.verdict

abbrev pub left : ℕ → Lent → List ℕ → Lent
left us lent frame =
    record {
      block = block_after (answered us lent frame) (stepped us lent frame).answer.state lent.block;
      buffer = (stepped us lent frame).buffer;
      words = words_after (stepped us lent frame).answer.verdict lent.words;
    }
