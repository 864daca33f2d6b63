-- One call with several senders (document 02, Q-7): what it answers, and the places and the buffer after it. Where a frame has its place, it is the step of the crate
-- `reassembly` in that place's bytes.
-- Assumes nothing.
use Rattle.std.specs.Prelude.{ℕ, cond, not, List, ltb, length, set, replicate}
use Rattle.frame.specs.Layout.{message_max}
use Rattle.frame.specs.Reading.{parsed, data_of}
use Rattle.frame.specs.declared.Header.{Header}
use Rattle.frame.specs.declared.read.Parsed.{Parsed}
use Rattle.reassembly.specs.Step as One
use Rattle.reassembly.specs.Step.{lacks_data_def, exceeds, is_first, received}
use Rattle.reassembly.specs.declared.State.{State}
use Rattle.reassembly.specs.declared.State.TheVariants.{Fresh}
use Rattle.reassembly.specs.declared.Reason.TheVariants.{Unread, NothingOpen, NoData, TooMuchData, MessageLong, BadState}
use Rattle.reassembly.specs.declared.Verdict as Of
use Rattle.reassembly.specs.declared.Verdict.TheVariants as One'
use Rattle.heads.specs.Places.{part, with_part, is_free_def, lowest, place_of, open_of_def, without, legal}
use Rattle.heads.specs.declared.Reason.{Reason}
use Rattle.heads.specs.declared.Reason.TheVariants.{Step, NoPlace}
use Rattle.heads.specs.declared.Verdict.{Verdict}
use Rattle.heads.specs.declared.Verdict.TheVariants.{More, Delivered, Refused}

-- 1 to 11 as in the crate `reassembly`; "New refusal 15"
abbrev pub number_of : Reason → ℕ
number_of (Step reason) = One.number_of reason
number_of NoPlace = 15

-- one call: its verdict, and the places and the buffer after it
pub record Stepped : Type 0 where
  pub verdict : Verdict
  pub places : List State
  pub buffer : List ℕ

-- a refusal that changes nothing
abbrev pub refused : Reason → List State → List ℕ → Stepped
refused reason ps buffer = record { verdict = Refused reason; places = ps; buffer = buffer }

-- 11 "leaves all places fresh"
abbrev pub cleared : List State → List ℕ → Stepped
cleared ps buffer = refused (Step BadState) (replicate (length ps) Fresh) buffer

-- "A delivery also names its place"
abbrev pub placed : ℕ → Of.Verdict → Verdict
placed k One'.More = More
placed k (One'.Delivered words n) = Delivered words n k
placed k (One'.Refused reason) = Refused (Step reason)

-- a step in place k, and what it makes of all places and of the whole buffer
abbrev pub settled : ℕ → One.Stepped → List State → List ℕ → Stepped
settled k st ps buffer =
    record { verdict = placed k st.answer.verdict; places = set ps k st.answer.state; buffer = with_part k st.buffer buffer }

-- the frame with this header and data, in place k, where that state is handed in
abbrev pub seated : ℕ → State → Header → List ℕ → List State → List ℕ → Stepped
seated k state h piece ps buffer = settled k (received (Parsed.Header h) piece state (part k buffer)) ps buffer

-- "New refusal 15, after 10, 8 and 9": why a frame with Index 0 is refused where no place is free
unfoldable pub crowded : ℕ → ℕ → Reason
crowded size total =
    cond (ltb message_max total) (Step MessageLong)
    (cond (lacks_data_def size total) (Step NoData)
    (cond (exceeds size total) (Step TooMuchData)
    NoPlace))

-- "A message takes a place with its Index 0 frame, even if it ends at once": "the sender's own open message is dropped first, then the lowest free place is taken".
-- Handed in are the places, and the places without that message
abbrev pub begun_at : ℕ → Header → List ℕ → List State → List State → List ℕ → Stepped
begun_at k h piece ps qs buffer =
    cond (ltb k (length ps)) (seated k Fresh h piece qs buffer) (refused (crowded (length piece) h.words.total) ps buffer)

unfoldable pub begun : Header → List ℕ → List State → List ℕ → Stepped
begun h piece ps buffer =
    begun_at (lowest is_free_def (without h.words.sender ps)) h piece ps (without h.words.sender ps) buffer

-- any other Index goes on with what its sender has open; 5 where that is nothing
abbrev pub continued_at : ℕ → Header → List ℕ → List State → List ℕ → Stepped
continued_at k h piece ps buffer =
    cond (ltb k (length ps)) (seated k (open_of_def h.words.sender ps) h piece ps buffer) (refused (Step NothingOpen) ps buffer)

unfoldable pub continued : Header → List ℕ → List State → List ℕ → Stepped
continued h piece ps buffer = continued_at (place_of h.words.sender ps) h piece ps buffer

-- "Frames refused under 1 to 4 belong to no sender and change nothing."
unfoldable pub routed : Parsed → List ℕ → List State → List ℕ → Stepped
routed (Parsed.Refused reason) piece ps buffer = refused (Step (Unread reason)) ps buffer
routed (Parsed.Header h) piece ps buffer = cond (is_first h) (begun h piece ps buffer) (continued h piece ps buffer)

-- one call, with our Receiver ID, the places and the buffer as they are handed in, and the frame: 11 first
unfoldable pub step_of : ℕ → List State → List ℕ → List ℕ → Stepped
step_of us ps buffer frame =
    cond (not (legal ps (length buffer))) (cleared ps buffer)
    (routed (parsed us frame) (data_of frame) ps buffer)
