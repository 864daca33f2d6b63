-- The positions and the answers of the crate `notice` as numbers. A refusal leaves what the caller lent as it was.
-- Assumes nothing.
use Rattle.std.specs.Prelude.{ℕ, List, [], ◌∷◌, get_or, Result, Ok, Err}
use Rattle.notice.specs.declared.Positions.{Positions}
use Rattle.notice.specs.declared.Taken.{Taken}
use Rattle.notice.specs.declared.Reason.{Reason}
use Rattle.notice.specs.Ring as Ring
use Rattle.notice.specs.Queue.{Notice, Operation, post_of, take_to}
use Rattle.hoursquall.specs.Answer.{told, left_lent}

-- the positions that a block of two numbers is
abbrev pub positions_of_def : List ℕ → Positions
positions_of_def b = record { read = get_or b 0 0; write = get_or b 1 0 }

-- the block of positions
abbrev pub block_of_positions : Positions → List ℕ
block_of_positions p = p.read ∷ p.write ∷ []

abbrev pub positions_after_post : Result Positions Reason → List ℕ → List ℕ
positions_after_post answer before = left_lent block_of_positions answer before

abbrev pub positions_after_take : Result Taken Reason → List ℕ → List ℕ
positions_after_take (Ok taken) before = block_of_positions taken.positions
positions_after_take (Err reason) before = before

abbrev pub id_after : Result Taken Reason → ℕ → ℕ
id_after (Ok taken) before = taken.id
id_after (Err reason) before = before

abbrev pub data_length_after : Result Taken Reason → ℕ → ℕ
data_length_after (Ok taken) before = taken.length
data_length_after (Err reason) before = before

-- what a caller of `hs_notice_post` and `hs_notice_take` keeps between calls: the ring, and the block of its positions
pub record Kept : Type 0 where
  pub ring : List ℕ
  pub block : List ℕ

-- one call; a take is also lent the places of Notify ID and length, whatever stands there
pub record RingCall : Type 0 where
  pub operation : Operation
  pub id : ℕ
  pub extent : ℕ

-- what the caller sees of it: the number, and of a take the output, the Notify ID and the length, as they stand then
pub data Told : Type 0 where
  of_post : ℕ → Told
  of_take : ℕ → List ℕ → ℕ → ℕ → Told

abbrev pub post_in : Kept → Notice → Result Positions Reason
post_in k n = Ring.posted k.ring (positions_of_def k.block) n.id n.body

abbrev pub take_in : Kept → List ℕ → Result Taken Reason
take_in k out = Ring.taken_of k.ring (positions_of_def k.block) out

-- what the contracts of the two functions promise of the answer and of what is lent, by operation
abbrev pub told_by : Kept → Operation → ℕ → ℕ → Told
told_by k (post_of n) id extent = of_post (told Ring.number_of (post_in k n))
told_by k (take_to out) id extent =
    of_take (told Ring.number_of (take_in k out)) (Ring.output_after (take_in k out) k.ring (positions_of_def k.block) out) (id_after (take_in k out) id)
    (data_length_after (take_in k out) extent)

abbrev pub kept_after : Kept → Operation → Kept
kept_after k (post_of n) =
    record {
      ring = Ring.ring_after (post_in k n) k.ring (positions_of_def k.block) n.id n.body;
      block = positions_after_post (post_in k n) k.block;
    }
kept_after k (take_to out) = record { ring = k.ring; block = positions_after_take (take_in k out) k.block }
