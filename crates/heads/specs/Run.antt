-- A list of calls, one a frame, "state and buffer passed on as in demand 3" (document 02, Q-7); what they answer, with the place left out, and what they hand up.
-- Assumes nothing.
use Rattle.std.specs.Prelude.{ℕ, ◌*◌, Bool, false, cond, not, List, [], ◌∷◌, map, eqb, take, drop}
use Rattle.std.proofs.Math.Option.{Option, none, some}
use Rattle.frame.specs.Reading.{parsed}
use Rattle.frame.specs.declared.read.Parsed.{Parsed}
use Rattle.reassembly.specs.Run as One
use Rattle.reassembly.specs.Run.{HandedUp}
use Rattle.reassembly.specs.Step as OneStep
use Rattle.reassembly.specs.declared.State.{State}
use Rattle.reassembly.specs.declared.Verdict as Of
use Rattle.reassembly.specs.declared.Verdict.TheVariants as One'
use Rattle.heads.specs.Places.{place_size}
use Rattle.heads.specs.Step.{Stepped, step_of}
use Rattle.heads.specs.declared.Reason.TheVariants.{Step, NoPlace}
use Rattle.heads.specs.declared.Verdict.{Verdict}
use Rattle.heads.specs.declared.Verdict.TheVariants.{More, Delivered, Refused}

-- the calls of a list, each with what it answers and leaves
unfoldable pub answers : ℕ → List State → List ℕ → List (List ℕ) → List Stepped
answers us ps buffer [] = []
answers us ps buffer (frame ∷ frames) =
    step_of us ps buffer frame ∷ answers us (step_of us ps buffer frame).places (step_of us ps buffer frame).buffer frames

-- what one call hands up: "a message's bytes read from the start of the place that its delivery names", as the buffer stands directly after that call
abbrev pub handed_up : Verdict → List ℕ → Option HandedUp
handed_up More buffer = none
handed_up (Delivered words n k) buffer = some (record { words = words; length = n; bytes = take n (drop (place_size * k) buffer) })
handed_up (Refused reason) buffer = none

abbrev pub up_by : Stepped → Option HandedUp
up_by st = handed_up st.verdict st.buffer

abbrev pub run : ℕ → List State → List ℕ → List (List ℕ) → List (Option HandedUp)
run us ps buffer frames = map up_by (answers us ps buffer frames)

-- "A delivery also names its place, which the comparison below leaves out": the verdict of the crate `reassembly`; none is 15, which that one does not have
abbrev pub unplaced : Verdict → Option Of.Verdict
unplaced More = some One'.More
unplaced (Delivered words n k) = some (One'.Delivered words n)
unplaced (Refused (Step reason)) = some (One'.Refused reason)
unplaced (Refused NoPlace) = none

-- a verdict without its place, and what is handed up with it
pub record Reply : Type 0 where
  pub verdict : Option Of.Verdict
  pub up : Option HandedUp

abbrev pub reply_of : Stepped → Reply
reply_of st = record { verdict = unplaced st.verdict; up = up_by st }

-- the same of a call of the crate `reassembly`
abbrev pub reply_of_one : OneStep.Stepped → Reply
reply_of_one st = record { verdict = some st.answer.verdict; up = One.up_by st }

-- whether a frame belongs to another sender than s: it is read, and has another Sender ID. "Frames refused under 1 to 4 belong to no sender"
abbrev pub is_others_as : ℕ → Parsed → Bool
is_others_as s (Parsed.Refused reason) = false
is_others_as s (Parsed.Header h) = not (eqb h.words.sender s)

abbrev pub is_others : ℕ → ℕ → List ℕ → Bool
is_others us s frame = is_others_as s (parsed us frame)

-- whether it belongs to s
abbrev pub is_own_as : ℕ → Parsed → Bool
is_own_as s (Parsed.Refused reason) = false
is_own_as s (Parsed.Header h) = eqb h.words.sender s

abbrev pub is_own : ℕ → ℕ → List ℕ → Bool
is_own us s frame = is_own_as s (parsed us frame)

-- the frames of a list that are of a kind, and what is answered to them
unfoldable pub kept : (List ℕ → Bool) → List (List ℕ) → List (List ℕ)
kept keep [] = []
kept keep (f ∷ fs) = cond (keep f) (f ∷ kept keep fs) (kept keep fs)

unfoldable pub kept_answers : {A : Type 0} → (List ℕ → Bool) → List (List ℕ) → List A → List A
kept_answers keep [] sts = []
kept_answers keep (f ∷ fs) [] = []
kept_answers keep (f ∷ fs) (st ∷ sts) = cond (keep f) (st ∷ kept_answers keep fs sts) (kept_answers keep fs sts)
