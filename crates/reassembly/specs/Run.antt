-- A list of calls, one a frame, "each call with the state and the buffer as the last one left them", and what they hand up (document 01, "What the
-- proofs owe").
-- Assumes nothing.
use Rattle.std.specs.Prelude.{ℕ, take}
use mathlib.Core.List.{List, [], ◌∷◌, map, filter_map}
use Rattle.std.proofs.Math.Option.{Option, none, some}
use Rattle.frame.specs.declared.Words.{Words}
use Rattle.reassembly.specs.Step.{Stepped, step_of}
use Rattle.reassembly.specs.declared.State.{State}
use Rattle.reassembly.specs.declared.Verdict.{Verdict}
use Rattle.reassembly.specs.declared.Verdict.TheVariants.{More, Delivered, Refused}

-- a message as it is handed up: "with that answer's carried words and length, and the buffer's first bytes, as many as that length"
pub record HandedUp : Type 0 where
  pub words : Words
  pub length : ℕ
  pub bytes : List ℕ

-- what one call hands up: "handed up means answered as delivered"; the buffer is as it stands "directly after that call"
abbrev pub handed_up : Verdict → List ℕ → Option HandedUp
handed_up More buffer = none
handed_up (Delivered words n) buffer = some (record { words = words; length = n; bytes = take n buffer })
handed_up (Refused reason) buffer = none

-- the calls of a list, each with what it answers and leaves
unfoldable pub answers : ℕ → State → List ℕ → List (List ℕ) → List Stepped
answers us state buffer [] = []
answers us state buffer (frame ∷ frames) =
    step_of us state buffer frame ∷ answers us (step_of us state buffer frame).answer.state (step_of us state buffer frame).buffer frames

-- what each of them answers
abbrev pub verdicts : ℕ → State → List ℕ → List (List ℕ) → List Verdict
verdicts us state buffer frames = map (λ st. st.answer.verdict) (answers us state buffer frames)

-- what each of them hands up
abbrev pub up_by : Stepped → Option HandedUp
up_by st = handed_up st.answer.verdict st.buffer

abbrev pub run : ℕ → State → List ℕ → List (List ℕ) → List (Option HandedUp)
run us state buffer frames = map up_by (answers us state buffer frames)

-- the messages among these entries, in order
abbrev pub messages : List (Option HandedUp) → List HandedUp
messages entries = filter_map (λ e. e) entries
