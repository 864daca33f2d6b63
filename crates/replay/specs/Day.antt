-- "runs its frames in order, starting fresh with a buffer of 4,096 bytes, for the receiver we name" (document 02, Q-2).
-- Assumes nothing.
use Rattle.std.specs.Prelude.{ℕ, ◌≤◌, List, [], ◌∷◌, Result, Ok, Err, map, replicate}
use Rattle.frame.specs.Layout.{message_max}
use Rattle.framelog.specs.Layout.{record_size, cut_of}
use Rattle.framelog.specs.Reading.{read_of}
use Rattle.framelog.specs.declared.Reason.{Reason}
use Rattle.reassembly.specs.Step.{Stepped, step_of}
use Rattle.reassembly.specs.declared.State.{State}
use Rattle.reassembly.specs.declared.State.TheVariants.{Fresh}
use Rattle.reassembly.specs.declared.Verdict.{Verdict}
use Rattle.reassembly.specs.declared.Verdict.TheVariants.{More, Delivered, Refused as Stopped}
use Rattle.replay.specs.Log.{records}
use Rattle.replay.specs.declared.Played.{Played}

-- what a record comes to: its refusal, or what the reassembly answers to its frame
abbrev pub Entry : Type 0
Entry = Result Verdict Reason

-- one record: what it comes to with the state after it, and the buffer then
pub record Stage : Type 0 where
  pub answer : Played
  pub buffer : List ℕ

-- "A record refused with 50 to 53 gets its own number, and its frame isn't run": state and buffer stay
abbrev pub skipped : Entry → State → List ℕ → Stage
skipped entry state buffer = record { answer = record { entry = entry; state = state }; buffer = buffer }

-- a frame that is run: what the reassembly's step answers and leaves
abbrev pub ran : Stepped → Stage
ran st = record { answer = record { entry = Ok st.answer.verdict; state = st.answer.state }; buffer = st.buffer }

abbrev pub after_read : Result ℕ Reason → ℕ → State → List ℕ → List ℕ → Stage
after_read (Err reason) us state buffer slice = skipped (Err reason) state buffer
after_read (Ok n) us state buffer slice = ran (step_of us state buffer (cut_of n slice))

-- one record, for the receiver us, with the state and the buffer as they are handed in
unfoldable pub play_of : ℕ → State → List ℕ → List ℕ → Stage
play_of us state buffer slice = after_read (read_of record_size slice) us state buffer slice

-- a message that is delivered is no longer than a message can be
abbrev pub Bounded : Verdict → Type 0
Bounded More = Unit {0}
Bounded (Delivered words n) = n ≤ message_max
Bounded (Stopped reason) = Unit {0}

abbrev pub EntryBounded : Entry → Type 0
EntryBounded (Err reason) = Unit {0}
EntryBounded (Ok verdict) = Bounded verdict

-- the records of a list, each with the state and the buffer as the last one left them
unfoldable pub stages : ℕ → State → List ℕ → List (List ℕ) → List Stage
stages us state buffer [] = []
stages us state buffer (r ∷ rs) =
    play_of us state buffer r ∷ stages us (play_of us state buffer r).answer.state (play_of us state buffer r).buffer rs

-- what each of them comes to
abbrev pub entries : ℕ → State → List ℕ → List (List ℕ) → List Entry
entries us state buffer rs = map (λ s. s.answer.entry) (stages us state buffer rs)

-- the buffer as a day starts
abbrev pub cleared : List ℕ
cleared = replicate message_max 0

-- what each record of a log comes to
abbrev pub listed : ℕ → List ℕ → List Entry
listed us log = entries us Fresh cleared (records log)
