-- The laws of one record, and of the records of a list.
-- Assumes nothing.
use Prim.Native.Nat.{ℕ}
use mathlib.Core.Path.{◌≡◌, refl}
use mathlib.Core.List.{List}
use native.Mathlib.Omega.{arith}
use lib.ListN.{length}
use Rattle.frame.specs.Layout.{message_max}
use Rattle.framelog.specs.Layout.{record_size, cut_of}
use Rattle.framelog.specs.Reading.{read_of}
use Rattle.framelog.specs.declared.Reason.{Reason}
use Rattle.reassembly.specs.Step.{step_of}
use Rattle.reassembly.specs.declared.State.{State}
use Rattle.reassembly.proofs.Outcome.{Outcome, refuses, delivers, wants, outcome}
use Rattle.std.specs.Prelude.{Ok, Err}
use Rattle.replay.specs.Day.{skipped, ran, play_of, Bounded}

-- a record that is refused, and one whose frame is run
module _ (us : ℕ) (state : State) (buffer slice : List ℕ) where
  pub is_skipped : (reason : Reason) → read_of record_size slice ≡ Err reason → play_of us state buffer slice ≡ skipped (Err reason) state buffer
  unfolding play_of
  is_skipped reason e = rw e

  pub is_run : (n : ℕ) → read_of record_size slice ≡ Ok n → play_of us state buffer slice ≡ ran (step_of us state buffer (cut_of n slice))
  unfolding play_of
  is_run n e = rw e

-- what is delivered fits the buffer
pub delivery_bounded : (us : ℕ) (state : State) (buffer frame : List ℕ) → length buffer ≡ message_max → Bounded (step_of us state buffer frame).answer.verdict
delivery_bounded us state buffer frame long = by (outcome us state (length buffer) frame)
  where
    by : Outcome us state (length buffer) frame → Bounded (step_of us state buffer frame).answer.verdict
    by (refuses reason cause steps) = rw (steps buffer refl) tt
    by (delivers w i filled source all held steps) = rw (steps buffer refl) (omega arith)
    by (wants w i filled source room again steps) = rw (steps buffer refl) tt
