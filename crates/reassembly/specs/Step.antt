-- Document 01, "Reassembly": the state, and what one call answers and leaves in the buffer.
-- Assumes nothing.
use Rattle.std.specs.Prelude.{ℕ, suc, ◌+◌, ◌-◌, Bool, true, cond, not, ◌&&◌, ◌||◌, List, ◌++◌, ltb, leb, eqb, length, take, drop}
use Rattle.le.specs.Compare.{same}
use Rattle.frame.specs.Layout.{message_max, words_of}
use Rattle.frame.specs.Reading as Reading
use Rattle.frame.specs.Reading.{parsed, data_of}
use Rattle.frame.specs.declared.Header.{Header}
use Rattle.frame.specs.declared.Words.{Words}
use Rattle.frame.specs.declared.read.Parsed.{Parsed}
use Rattle.reassembly.specs.declared.Progress.{Progress}
use Rattle.reassembly.specs.declared.State.{State}
use Rattle.reassembly.specs.declared.State.TheVariants.{Fresh, Open}
use Rattle.reassembly.specs.declared.Reason.{Reason}
use Rattle.reassembly.specs.declared.Reason.TheVariants.{Unread, NothingOpen, OutOfOrder, OtherWords, NoData, TooMuchData, MessageLong, BadState}
use Rattle.reassembly.specs.declared.Verdict.TheVariants.{More, Delivered, Refused}
use Rattle.reassembly.specs.declared.Answer.{Answer}

-- the table's numbers
abbrev pub number_of : Reason → ℕ
number_of (Unread reason) = Reading.number_of reason
number_of NothingOpen = 5
number_of OutOfOrder = 6
number_of OtherWords = 7
number_of NoData = 8
number_of TooMuchData = 9
number_of MessageLong = 10
number_of BadState = 11

-- "Open is consistent when 1 ≤ next ≤ filled < total, and total is at most 4,096 and at most the lent buffer's length."
-- The state handed in is to be fresh or consistent, over a buffer of that many bytes.
unfoldable pub consistent : State → ℕ → Bool
consistent Fresh room = true
consistent (Open p) room =
    leb 1 p.next
    && (leb p.next p.filled
    && (ltb p.filled p.words.total
    && (leb p.words.total message_max
    && leb p.words.total room)))

-- the carried words are the same
abbrev pub same_words_def : Words → Words → Bool
same_words_def v w = same (words_of v) (words_of w)

-- one call: its answer, and the buffer after it
pub record Stepped : Type 0 where
  pub answer : Answer
  pub buffer : List ℕ

-- the table's column "state after"
abbrev pub state_after_def : Reason → State → State
state_after_def (Unread reason) before = before
state_after_def NothingOpen before = Fresh
state_after_def OutOfOrder before = Fresh
state_after_def OtherWords before = Fresh
state_after_def NoData before = Fresh
state_after_def TooMuchData before = Fresh
state_after_def MessageLong before = Fresh
state_after_def BadState before = Fresh

abbrev pub refusal : Reason → State → Answer
refusal reason before = record { verdict = Refused reason; state = state_after_def reason before }

-- "No refusal changes the buffer."
abbrev pub refused : Reason → State → List ℕ → Stepped
refused reason before buffer = record { answer = refusal reason before; buffer = buffer }

-- "Accepted data lands in the lent buffer from the first unfilled byte on, and no other byte changes."
abbrev pub landed : ℕ → List ℕ → List ℕ → List ℕ
landed filled piece buffer = take filled buffer ++ (piece ++ drop (filled + length piece) buffer)

-- open, with these words, the Index that comes next and so many bytes filled
abbrev pub waiting : Words → ℕ → ℕ → State
waiting words next filled = Open (record { words = words; next = next; filled = filled })

-- "the message is the first total bytes, and the state is fresh"
abbrev pub delivered : Words → List ℕ → Stepped
delivered words buffer = record { answer = record { verdict = Delivered words words.total; state = Fresh }; buffer = buffer }

-- more is wanted: the Index after this one
abbrev pub wanting : Words → ℕ → ℕ → List ℕ → Stepped
wanting words index filled buffer = record { answer = record { verdict = More; state = waiting words (suc index) filled }; buffer = buffer }

-- "When filled reaches total"
abbrev pub taken : Words → ℕ → ℕ → List ℕ → Stepped
taken words index filled buffer = cond (eqb filled words.total) (delivered words buffer) (wanting words index filled buffer)

-- 8: "no data though total is not 0", 9: "more data than is still missing", of a piece of that size
abbrev pub lacks_data_def : ℕ → ℕ → Bool
lacks_data_def size total = eqb size 0 && not (eqb total 0)

abbrev pub exceeds : ℕ → ℕ → Bool
exceeds size missing = ltb missing size

-- the data of the frame with this Index, where so many bytes are filled: 8, 9. Where they are given, nothing is open any more
unfoldable pub accept : Words → ℕ → ℕ → List ℕ → List ℕ → Stepped
accept words index filled piece buffer =
    cond (lacks_data_def (length piece) words.total) (refused NoData Fresh buffer)
    (cond (exceeds (length piece) (words.total - filled)) (refused TooMuchData Fresh buffer)
    (taken words index (filled + length piece) (landed filled piece buffer)))

-- 10: "total over 4,096 or over the buffer"
abbrev pub too_long : ℕ → ℕ → Bool
too_long total room = ltb message_max total || ltb room total

-- "An Index 0 frame .. always begins anew, with nothing filled": 10, then as above
unfoldable pub begin : Words → List ℕ → List ℕ → Stepped
begin words piece buffer =
    cond (too_long words.total (length buffer)) (refused MessageLong Fresh buffer)
    (accept words 0 0 piece buffer)

-- the Index is the one that comes next
abbrev pub is_next : Header → Progress → Bool
is_next h p = eqb h.index p.next

-- any other Index: 5, 6, 7, then as above
unfoldable pub proceed : Header → List ℕ → State → List ℕ → Stepped
proceed h piece Fresh buffer = refused NothingOpen Fresh buffer
proceed h piece (Open p) buffer =
    cond (not (is_next h p)) (refused OutOfOrder (Open p) buffer)
    (cond (not (same_words_def h.words p.words)) (refused OtherWords (Open p) buffer)
    (accept p.words p.next p.filled piece buffer))

abbrev pub is_first : Header → Bool
is_first h = eqb h.index 0

-- 1 to 4, then by the Index
unfoldable pub routed : Parsed → List ℕ → State → List ℕ → Stepped
routed (Parsed.Refused reason) piece state buffer = refused (Unread reason) state buffer
routed (Parsed.Header h) piece state buffer = cond (is_first h) (begin h.words piece buffer) (proceed h piece state buffer)

-- what the reader answers of a frame, and the frame's data, with the state and the buffer as they are handed in: 11 first
unfoldable pub received : Parsed → List ℕ → State → List ℕ → Stepped
received read piece state buffer =
    cond (not (consistent state (length buffer))) (refused BadState state buffer)
    (routed read piece state buffer)

-- one call, with our Receiver ID, the state and the buffer as they are handed in, and the frame
abbrev pub step_of : ℕ → State → List ℕ → List ℕ → Stepped
step_of us state buffer frame = received (parsed us frame) (data_of frame) state buffer
