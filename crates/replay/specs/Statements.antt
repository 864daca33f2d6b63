-- What is proved of a day and of its parts. The proofs are in `proofs/Days.antt` and `proofs/Parts.antt`, under the names given here.
-- Assumes nothing.
use Rattle.std.specs.Prelude.{ℕ, ◌+◌, ◌*◌, ◌%◌, ◌^◌, ◌≤◌, ◌<◌, ◌≡◌, ◌⊎◌, Result, Some, None, Ok, Err, length, take, drop}
use mathlib.Core.List.{List, [], ◌∷◌, ◌++◌, map, flatten, filter_map}
use Rattle.std.proofs.Math.Option.{Option, none, some}
use Rattle.le.specs.Word.{AreBytes}
use Rattle.frame.specs.Framing.{All}
use Rattle.frame.specs.Layout.{message_max}
use Rattle.frame.specs.declared.Words.{Words}
use Rattle.framelog.specs.Layout.{record_size, frame_max, cut_of}
use Rattle.framelog.specs.Reading.{read_of}
use Rattle.framelog.specs.declared.Reason.{Reason}
use Rattle.framelog.specs.declared.Reason.TheVariants.{WrongSize}
use Rattle.reassembly.specs.Step.{Stepped}
use Rattle.reassembly.specs.Run.{HandedUp, handed_up, answers, verdicts, up_by, messages}
use Rattle.reassembly.specs.Statements.{NotBad}
use Rattle.reassembly.specs.Traffic.{Traffic, LegalTraffic, calls, arrived, expected}
use Rattle.reassembly.specs.declared.State.{State}
use Rattle.reassembly.specs.declared.State.TheVariants.{Fresh, Open}
use Rattle.reassembly.specs.declared.Verdict.TheVariants.{More, Delivered, Refused as Stopped}
use Rattle.replay.specs.Log.{records, log_of}
use Rattle.replay.specs.Day.{Entry, Stage, skipped, ran, play_of, stages, entries, cleared, listed}
use Rattle.replay.specs.Lines.{lines_from, lines, no_receiver_def, receiver_of, output_of}
use Rattle.replay.specs.Chunk.{starting, line_max, number_max, Span, played, output_after}
use Rattle.replay.specs.declared.Player.{Player}

-- `records_are`. A log's records joined are the log: none of its bytes is passed over or read twice.
abbrev pub RecordsAre : Type 0
RecordsAre = (log : List ℕ) → flatten (records log) ≡ log

-- `first_record`. The first of them is the log's first 260 bytes, or all of a shorter log; the others are those of what follows it. Of no bytes there is none (`no_records`).
abbrev pub FirstRecord : Type 0
FirstRecord = (log : List ℕ) → 1 ≤ length log → records log ≡ take record_size log ∷ records (drop record_size log)

abbrev pub NoRecords : Type 0
NoRecords = (log : List ℕ) → log ≡ [] → records log ≡ []

-- `short_refused`. "a short last record is a record refused with 50": so is whatever is not 260 bytes.
abbrev pub ShortRefused : Type 0
ShortRefused =
    (us : ℕ) (state : State) (buffer slice : List ℕ)
    → (length slice ≡ record_size → ⊥)
    → play_of us state buffer slice ≡ skipped (Err WrongSize) state buffer

-- a frame that a record can hold
abbrev pub Loggable : List ℕ → Type 0
Loggable frame = length frame ≤ frame_max record_size

-- `frames_run`. The log of a list of frames, played from any state, comes to what the reassembly answers to these frames, one after another, with the same buffer after each.
abbrev pub FramesRun : Type 0
FramesRun =
    (us : ℕ) (state : State) (buffer : List ℕ) (frames : List (List ℕ))
    → All Loggable frames
    → stages us state buffer (records (log_of frames)) ≡ map ran (answers us state buffer frames)

-- `frames_listed`. So each of its entries is that answer.
abbrev pub FramesListed : Type 0
FramesListed =
    (us : ℕ) (frames : List (List ℕ))
    → All Loggable frames
    → listed us (log_of frames) ≡ map Ok (verdicts us Fresh cleared frames)

-- what a record hands up: what its frame does
abbrev pub up_of : Entry → List ℕ → Option HandedUp
up_of (Err reason) buffer = none
up_of (Ok verdict) buffer = handed_up verdict buffer

abbrev pub up_of_stage : Stage → Option HandedUp
up_of_stage s = up_of s.answer.entry s.buffer

-- `day_hands_up`. Demand 3 ashore: where the calls of legal traffic were recorded, what the day hands up, record by record, is what demand 3 gives on the cable. (A frame of over
-- 256 bytes, which is refused with 2 on the cable, fits no record.)
abbrev pub DayHandsUp : Type 0
DayHandsUp =
    (us : ℕ) (buffer : List ℕ) (traffic : Traffic)
    → LegalTraffic us (length buffer) traffic
    → All Loggable (calls us traffic)
    → map up_of_stage (stages us Fresh buffer (records (log_of (calls us traffic)))) ≡ expected traffic

-- `day_exactly`. So the messages that the day hands up are, in order, those all of whose frames arrived, as sent.
abbrev pub DayExactly : Type 0
DayExactly =
    (us : ℕ) (buffer : List ℕ) (traffic : Traffic)
    → LegalTraffic us (length buffer) traffic
    → All Loggable (calls us traffic)
    → messages (map up_of_stage (stages us Fresh buffer (records (log_of (calls us traffic))))) ≡ arrived traffic.sent

-- the words and the length of a message
pub record Delivery : Type 0 where
  pub words : Words
  pub length : ℕ

-- what an entry says is delivered, and what is handed up without its bytes
abbrev pub delivery_in : Entry → Option Delivery
delivery_in (Err reason) = none
delivery_in (Ok More) = none
delivery_in (Ok (Delivered words n)) = some (record { words = words; length = n })
delivery_in (Ok (Stopped reason)) = none

abbrev pub delivery_of : Option HandedUp → Option Delivery
delivery_of none = none
delivery_of (some up) = some (record { words = up.words; length = up.length })

-- `day_lists`. So the deliveries among the entries of such a log, of which each line tells one, are those that demand 3 gives: one where it hands up a message, with that message's words and length, and none
-- anywhere else.
abbrev pub DayLists : Type 0
DayLists =
    (us : ℕ) (traffic : Traffic)
    → LegalTraffic us message_max traffic
    → All Loggable (calls us traffic)
    → map delivery_in (listed us (log_of (calls us traffic))) ≡ map delivery_of (expected traffic)

-- what the frames that are run come to, and the frames of the records that are read
abbrev pub step_in : Entry → State → List ℕ → Option Stepped
step_in (Err reason) state buffer = none
step_in (Ok verdict) state buffer = some (record { answer = record { verdict = verdict; state = state }; buffer = buffer })

abbrev pub step_of_stage : Stage → Option Stepped
step_of_stage s = step_in s.answer.entry s.answer.state s.buffer

abbrev pub frame_of : Result ℕ Reason → List ℕ → Option (List ℕ)
frame_of (Err reason) slice = none
frame_of (Ok n) slice = some (cut_of n slice)

abbrev pub frame_in : List ℕ → Option (List ℕ)
frame_in slice = frame_of (read_of record_size slice) slice

-- `refused_apart`. "its frame isn't run": what the other records come to, with the state and the buffer after each, is what the reassembly answers and leaves for their frames alone, wherever refused
-- records stand between them.
abbrev pub RefusedApart : Type 0
RefusedApart =
    (us : ℕ) (state : State) (buffer : List ℕ) (rs : List (List ℕ))
    → filter_map step_of_stage (stages us state buffer rs) ≡ answers us state buffer (filter_map frame_in rs)

-- why a record is refused, if it is
abbrev pub refusal_in : Entry → Option Reason
refusal_in (Err reason) = some reason
refusal_in (Ok verdict) = none

abbrev pub refusal_of : Result ℕ Reason → Option Reason
refusal_of (Err reason) = some reason
refusal_of (Ok n) = none

-- `own_numbers`. "A record refused with 50 to 53 gets its own number": record by record, the entry is the refusal that the log's reader gives, or none where it gives a frame.
abbrev pub OwnNumbers : Type 0
OwnNumbers =
    (us : ℕ) (state : State) (buffer : List ℕ) (rs : List (List ℕ))
    → map refusal_in (entries us state buffer rs) ≡ map (λ r. refusal_of (read_of record_size r)) rs

-- `damaged_day`. So a day in which records were damaged, or the last one is short, hands up what demand 3 gives for the frames that can still be read: one whose record is refused counts as taken out, and
-- so, as in demand 3, is none with Index 0.
abbrev pub DamagedDay : Type 0
DamagedDay =
    (us : ℕ) (buffer : List ℕ) (traffic : Traffic) (rs : List (List ℕ))
    → LegalTraffic us (length buffer) traffic
    → filter_map frame_in rs ≡ calls us traffic
    → map up_by (filter_map step_of_stage (stages us Fresh buffer rs)) ≡ expected traffic

-- `day_never_bad`. No log gives 11.
abbrev pub DayNeverBad : Type 0
DayNeverBad = (us : ℕ) (log : List ℕ) → All NotBad (map (λ st. st.answer.verdict) (filter_map step_of_stage (stages us Fresh cleared (records log))))

-- `any_buffer`. What stands in the buffer as a day starts plays no part.
abbrev pub AnyBuffer : Type 0
AnyBuffer =
    (us : ℕ) (b c : List ℕ) (rs : List (List ℕ))
    → length b ≡ length c
    → entries us Fresh b rs ≡ entries us Fresh c rs

-- `span_inside`. No more bytes are read than are handed in.
abbrev pub SpanInside : Type 0
SpanInside = (us : ℕ) (player : Player) (buffer log : List ℕ) (room : ℕ) → (played us player buffer log room).read ≤ length log

-- `span_moves`. Where bytes are handed in with room for the longest line, and a number is left, a record at least is played, so that less is left. (That all is, in the end, is `all_parts`.)
abbrev pub SpanMoves : Type 0
SpanMoves =
    (us : ℕ) (player : Player) (buffer log : List ℕ) (room : ℕ)
    → 1 ≤ length log
    → line_max ≤ room
    → player.number < number_max
    → 1 ≤ (played us player buffer log room).read

-- one call of a player: how many bytes of what is left of the log are handed in, and what is lent for the text
pub record Call : Type 0 where
  pub size : ℕ
  pub out : List ℕ

-- what the call plays of what is left, and the text that the caller finds at the output's start
abbrev pub span_by : ℕ → Player → List ℕ → List ℕ → Call → Span
span_by us player buffer log c = played us player buffer (take c.size log) (length c.out)

abbrev pub text_by : Span → Call → List ℕ
text_by s c = take (length s.text) (output_after s c.out)

-- what calls come to, each with the player and the buffer as the last one left them, and handed the log from where that one stopped: their texts joined, the player and the buffer then, and
-- what is left of the log
pub record Session : Type 0 where
  pub text : List ℕ
  pub player : Player
  pub buffer : List ℕ
  pub rest : List ℕ

abbrev pub no_calls : Player → List ℕ → List ℕ → Session
no_calls player buffer log = record { text = []; player = player; buffer = buffer; rest = log }

abbrev pub after : List ℕ → Session → Session
after text h = record { text = text ++ h.text; player = h.player; buffer = h.buffer; rest = h.rest }

unfoldable pub session : ℕ → Player → List ℕ → List ℕ → List Call → Session
session us player buffer log [] = no_calls player buffer log
session us player buffer log (c ∷ cs) =
    after (text_by (span_by us player buffer log c) c)
    (session us (span_by us player buffer log c).player (span_by us player buffer log c).buffer (drop (span_by us player buffer log c).read log) cs)

-- "chunks that end at a record's end, but for the last": each call hands in whole records, or all that is left
unfoldable pub Chunked : ℕ → Player → List ℕ → List ℕ → List Call → Type 0
Chunked us player buffer log [] = Unit {0}
Chunked us player buffer log (c ∷ cs) =
    ((c.size % record_size ≡ 0) ⊎ (length log ≤ c.size))
    × Chunked us (span_by us player buffer log c).player (span_by us player buffer log c).buffer (drop (span_by us player buffer log c).read log) cs

-- the lines that are still to come
abbrev pub lines_left : ℕ → Player → List ℕ → List ℕ → List ℕ
lines_left us player buffer log = lines_from player.number (entries us player.state buffer (records log))

-- `nothing_lost`. After any such calls, with outputs of any lengths, from any player: what was written, and the lines of what is left, are the lines of all. So no record is lost, and
-- none is played twice.
abbrev pub NothingLost : Type 0
NothingLost =
    (us : ℕ) (player : Player) (buffer log : List ℕ) (cs : List Call)
    → Chunked us player buffer log cs
    → (session us player buffer log cs).text ++ lines_left us (session us player buffer log cs).player (session us player buffer log cs).buffer (session us player buffer log cs).rest
    ≡ lines_left us player buffer log

-- `any_chunks`. A day from its start, played to its end in any such calls: the texts joined are the lines of the whole log. So the sizes of the parts and of the outputs play no part.
abbrev pub AnyChunks : Type 0
AnyChunks =
    (us : ℕ) (buffer log : List ℕ) (cs : List Call)
    → length buffer ≡ message_max
    → Chunked us starting buffer log cs
    → (session us starting buffer log cs).rest ≡ []
    → (session us starting buffer log cs).text ≡ lines us log

-- `output_is`. All that is to be written for a receiver file and a log (`output_of`): the texts of such calls for the receiver that the file names, or the line "no receiver".
abbrev pub OutputIs : Type 0
OutputIs =
    (file log : List ℕ)
    → (receiver_of file ≡ None → output_of file log ≡ no_receiver_def)
    × ((us : ℕ) (buffer : List ℕ) (cs : List Call)
    → receiver_of file ≡ Some us
    → length buffer ≡ message_max
    → Chunked us starting buffer log cs
    → (session us starting buffer log cs).rest ≡ []
    → (session us starting buffer log cs).text ≡ output_of file log)

-- `five_bytes`. Of a receiver file no more than five bytes count, so who reads that many need read no more.
abbrev pub FiveBytes : Type 0
FiveBytes = (file : List ℕ) → receiver_of (take 5 file) ≡ receiver_of file

-- a Message ID of 32 bits in what is open, as each `u32` is
abbrev pub IdFits : State → Type 0
IdFits Fresh = Unit {0}
IdFits (Open p) = p.words.id < 2 ^ 32

-- what a run of the library has: a buffer of 4,096 bytes, a log of bytes, and words of 32 bits
pub record Playable (player : Player) (buffer log : List ℕ) : Type 0 where
  pub long : length buffer ≡ message_max
  pub bytes : AreBytes log
  pub id : IdFits player.state

-- `span_fits`. No text is longer than the output.
abbrev pub SpanFits : Type 0
SpanFits =
    (us : ℕ) (player : Player) (buffer log : List ℕ) (room : ℕ)
    → Playable player buffer log
    → length (played us player buffer log room).text ≤ room

-- `room_suffices`. Where the output has room for the longest line of each record, and there is a number for each, all is played.
abbrev pub RoomSuffices : Type 0
RoomSuffices =
    (us : ℕ) (player : Player) (buffer log : List ℕ) (room : ℕ)
    → Playable player buffer log
    → line_max * length (records log) ≤ room
    → player.number + length (records log) ≤ number_max
    → (played us player buffer log room).read ≡ length log

-- calls that hand in a log part by part, each part of whole records or all that is left, with room for the longest line of each of its records
unfoldable pub InParts : List ℕ → List Call → Type 0
InParts log [] = log ≡ []
InParts log (c ∷ cs) =
    ((c.size % record_size ≡ 0) ⊎ (length log ≤ c.size))
    × (line_max * length (records (take c.size log)) ≤ length c.out)
    × InParts (drop c.size log) cs

-- `all_parts`. A day in such parts: the texts joined are the lines of the whole log.
abbrev pub AllParts : Type 0
AllParts =
    (us : ℕ) (buffer log : List ℕ) (cs : List Call)
    → length buffer ≡ message_max
    → AreBytes log
    → length (records log) ≤ number_max
    → InParts log cs
    → (session us starting buffer log cs).text ≡ lines us log
