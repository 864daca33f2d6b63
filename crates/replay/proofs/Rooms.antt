-- The theorems of `specs/Statements.antt` on room: `span_fits`, `room_suffices`, `all_parts`.
-- Assumes nothing.
use Prim.Native.Nat.{ℕ, suc, ◌+◌, ◌-◌, ◌*◌, ◌^◌, ◌≤◌, ◌<◌}
use mathlib.Core.Bool.{true, false, not}
use mathlib.Core.Path.{◌≡◌, refl, sym, ap, subst, ◌∙◌}
use mathlib.Core.List.{List, [], ◌∷◌, ◌++◌}
use borrow.Author.Tests.{le-ltb, lt-leb}
use native.Mathlib.Omega.{arith}
use lib.Dec.{ltb, eqb}
use lib.ListN.{length, take, drop, length-append, length-drop, take-append-drop}
use Rattle.std.specs.Prelude.{Result, Ok, Err}
use Rattle.le.specs.Word.{word, AreBytes}
use Rattle.le.proofs.Tests.{either, never}
use Rattle.le.proofs.Words.{word_below}
use Rattle.text.specs.Decimal.{decimal}
use Rattle.text.proofs.Digits.{digits_most}
use Rattle.frame.specs.Layout.{header_size, frame_max, message_max, type_version, header_of}
use Rattle.frame.specs.Reading.{parsed, data_of}
use Rattle.frame.specs.declared.Words.{Words}
use Rattle.frame.specs.declared.read.Parsed.{Parsed}
use Rattle.framelog.specs.Layout.{record_size, cut_of}
use Rattle.framelog.specs.Reading.{read_of}
use Rattle.framelog.specs.declared.Reason.{Reason}
use Rattle.framelog.specs.declared.Reason.TheVariants.{WrongSize, NotZero, FrameLong, BadEnd}
use Rattle.reassembly.specs.Step as Step
use Rattle.reassembly.specs.Step.{step_of}
use Rattle.reassembly.specs.declared.Reason.TheVariants.{Unread as Unparsed, NothingOpen, OutOfOrder, OtherWords, NoData, TooMuchData, MessageLong, BadState}
use Rattle.reassembly.specs.declared.State.{State}
use Rattle.reassembly.specs.declared.Verdict.TheVariants.{More, Delivered, Refused as Stopped}
use Rattle.reassembly.proofs.Outcome.{Source, begun, continued, Outcome, refuses, delivers, wants, outcome, kept, small}
use Rattle.reassembly.proofs.Steps.{length_landed}
use Rattle.replay.specs.Log.{records}
use Rattle.replay.specs.Day.{Entry, Stage, ran, play_of}
use Rattle.replay.specs.Lines.{space, told, line_of}
use Rattle.replay.specs.Chunk.{starting, line_max, number_max, Span, halts, line_for, next_player, played}
use Rattle.replay.specs.Helpers.{told_max}
use Rattle.replay.specs.Statements.{Call, span_by, session, Chunked, IdFits, Playable, SpanFits, RoomSuffices, InParts, AllParts}
use Rattle.replay.specs.declared.Player.{Player}
use Rattle.replay.proofs.Days.{any_chunks}
use Rattle.replay.proofs.Logs.{none_of, no_records, first_record, behind_record, length_part, are_drop, are_take}
use Rattle.replay.proofs.Parts.{join, whole_call}
use Rattle.replay.proofs.Playing.{is_skipped, is_run}
use Rattle.replay.proofs.Spans.{goes_room, at_end, halted, goes_on, by_records}
use Rattle.replay.proofs.Texts.{spaced_most, delivered_short}

-- an entry whose line is at most the longest: the words and the length of a delivery in their bounds
abbrev Small : Entry → Type 0
Small (Err reason) = Unit {0}
Small (Ok More) = Unit {0}
Small (Ok (Delivered w n)) = (w.id < 2 ^ 32) × (n ≤ message_max)
Small (Ok (Stopped reason)) = Unit {0}

record_number : (n : ℕ) → n < 100 → length (space ++ decimal n) ≤ told_max
record_number n h = omega (arith, spaced_most n 2 (omega arith) (omega arith))

told_most : (e : Entry) → Small e → length (space ++ told e) ≤ told_max
told_most (Err WrongSize) ok = record_number 50 (omega arith)
told_most (Err NotZero) ok = record_number 51 (omega arith)
told_most (Err FrameLong) ok = record_number 52 (omega arith)
told_most (Err BadEnd) ok = record_number 53 (omega arith)
told_most (Ok More) ok = omega arith
told_most (Ok (Delivered w n)) ok = delivered_short w.id n ok.0 ok.1
told_most (Ok (Stopped (Unparsed reason))) ok = record_number (Step.number_of (Unparsed reason)) (omega (arith, (small reason).1))
told_most (Ok (Stopped NothingOpen)) ok = record_number 5 (omega arith)
told_most (Ok (Stopped OutOfOrder)) ok = record_number 6 (omega arith)
told_most (Ok (Stopped OtherWords)) ok = record_number 7 (omega arith)
told_most (Ok (Stopped NoData)) ok = record_number 8 (omega arith)
told_most (Ok (Stopped TooMuchData)) ok = record_number 9 (omega arith)
told_most (Ok (Stopped MessageLong)) ok = record_number 10 (omega arith)
told_most (Ok (Stopped BadState)) ok = record_number 11 (omega arith)

line_most : (number : ℕ) (e : Entry) → number < 2 ^ 64 → Small e → length (line_of number e) ≤ line_max
unfolding line_of
line_most number e narrow ok =
    let digits = digits_most number 20 (omega arith) (omega arith) in
    let most = told_most e ok in
    let parts = length-append space (told e) in
    simp length-append (omega arith)

-- the Message ID of a frame that is read is of 32 bits
abbrev ReadId : Parsed → Type 0
ReadId (Parsed.Header h) = h.words.id < 2 ^ 32
ReadId (Parsed.Refused reason) = Unit {0}

read_id : (us : ℕ) (f : List ℕ) → AreBytes f → ReadId (parsed us f)
unfolding parsed
read_id us f are =
    either ReadId (ltb (length f) header_size) tt
    (either ReadId (ltb frame_max (length f)) tt
    (either ReadId (not (eqb (word 1 f) type_version)) tt
    (either ReadId (not (eqb (header_of f).receiver us)) tt (word_below 4 (drop 4 f) (are_drop 4 f are)))))

source_id : (us : ℕ) (f : List ℕ) → AreBytes f → (s : State) (w : Words) (i filled : ℕ) → Source us f s w i filled → IdFits s → w.id < 2 ^ 32
source_id us f are s w i filled (begun st h read) id = subst ReadId read (read_id us f are)
source_id us f are s w i filled (continued q) id = id

-- what a record of bytes comes to has a line that fits, and what it leaves is as before
record Fine (s : Stage) : Type 0 where
  small_entry : Small s.answer.entry
  id : IdFits s.answer.state
  long : length s.buffer ≡ message_max

run_fine : (us : ℕ) (state : State) (buffer f : List ℕ) → length buffer ≡ message_max → AreBytes f → IdFits state → Fine (ran (step_of us state buffer f))
run_fine us state buffer f long are id = by (outcome us state (length buffer) f)
  where
    by : Outcome us state (length buffer) f → Fine (ran (step_of us state buffer f))
    by (refuses reason cause steps) = rw (steps buffer refl) (record { small_entry = tt; id = kept IdFits tt reason state id; long = long })
    by (delivers w i filled source all held steps) =
        rw (steps buffer refl)
        (record {
          small_entry = (source_id us f are state w i filled source id, omega (arith, held, long));
          id = tt;
          long = length_landed filled (data_of f) buffer (omega arith) ∙ long;
        })
    by (wants w i filled source room again steps) =
        rw (steps buffer refl)
        (record { small_entry = tt; id = source_id us f are state w i filled source id; long = length_landed filled (data_of f) buffer room ∙ long })

play_fine : (us : ℕ) (state : State) (buffer slice : List ℕ) → length buffer ≡ message_max → AreBytes slice → IdFits state → Fine (play_of us state buffer slice)
play_fine us state buffer slice long are id = by (read_of record_size slice) refl
  where
    by : (x : Result ℕ Reason) → read_of record_size slice ≡ x → Fine (play_of us state buffer slice)
    by (Err reason) e = rw (is_skipped us state buffer slice reason e) (record { small_entry = tt; id = id; long = long })
    by (Ok n) e = rw (is_run us state buffer slice n e) (run_fine us state buffer (cut_of n slice) long (are_take n (drop 4 slice) (are_drop 4 slice are)) id)

-- what is played of a part: its text fits, and where there is room and a number for each record, all is played
record Room (player : Player) (log : List ℕ) (room : ℕ) (s : Span) : Type 0 where
  fits : length s.text ≤ room
  all : line_max * length (records log) ≤ room → player.number + length (records log) ≤ number_max
      → (s.read ≡ length log) × (s.player.number ≡ player.number + length (records log))
  id : IdFits s.player.state
  long : length s.buffer ≡ message_max

module _ (us : ℕ) (player : Player) (buffer log : List ℕ) (room : ℕ) (ok : Playable player buffer log) where
  room_none : length log ≤ 0 → Room player log room (played us player buffer log room)
  room_none h =
      let empty = none_of log h in
      let none-there : length (records log) ≡ 0 = ap length (no_records log empty) in
      rw (at_end us player buffer log room empty)
      (record { fits = omega arith; all = λ a b. (omega arith, omega (arith, none-there)); id = ok.id; long = ok.long })

  module _ (some : 1 ≤ length log) where
    abbrev rest : List ℕ
    rest = drop (length (take record_size log)) log

    count : length (records log) ≡ suc (length (records rest))
    count = ap length (first_record log some) ∙ ap (λ (l : List ℕ). suc (length (records l))) (behind_record record_size log)

    room_halts : halts room player ≡ true → Room player log room (played us player buffer log room)
    room_halts e =
        rw (halted us player buffer log room some e)
        (record {
          fits = omega arith;
          all = λ a b. never (sym e ∙ rw (le-ltb room line_max (omega (arith, count)), lt-leb number_max player.number (omega (arith, count))));
          id = ok.id;
          long = ok.long;
        })

    abbrev stage : Stage
    stage = play_of us player.state buffer (take record_size log)

    abbrev line : List ℕ
    line = line_for player stage

    stage_fine : Fine stage
    stage_fine = play_fine us player.state buffer (take record_size log) ok.long (are_take record_size log ok.bytes) ok.id

    next_playable : Playable (next_player player stage) stage.buffer rest
    next_playable = record { long = stage_fine.long; bytes = are_drop (length (take record_size log)) log ok.bytes; id = stage_fine.id }

    abbrev Next : Type 0
    Next = Room (next_player player stage) rest (room - length line) (played us (next_player player stage) stage.buffer rest (room - length line))

    room_next : halts room player ≡ false → Next → Room player log room (played us player buffer log room)
    room_next e next =
        let has = goes_room room player e in
        let most : length line ≤ line_max = line_most player.number stage.answer.entry (omega (arith, has.1)) stage_fine.small_entry in
        let within = length_part record_size log in
        let left = length-drop (length (take record_size log)) log in
        rw (goes_on us player buffer log room some e)
        (record {
          fits = rw (length-append line _) (omega (arith, next.fits, has.0));
          all = λ a b. let after = next.all (omega (arith, count)) (omega (arith, count)) in (omega (arith, after.0), omega (arith, after.1, count));
          id = next.id;
          long = next.long;
        })

room_for : (us : ℕ) (player : Player) (buffer log : List ℕ) (room : ℕ) → Playable player buffer log → Room player log room (played us player buffer log room)
room_for us =
    by_records us (λ player buffer log room. Playable player buffer log → Room player log room (played us player buffer log room))
    (λ player buffer log room h ok. room_none us player buffer log room ok h)
    (λ player buffer log room some e ok. room_halts us player buffer log room ok some e)
    (λ player buffer log room some e rest ok. room_next us player buffer log room ok some e (rest (next_playable us player buffer log room ok some)))

pub span_fits : SpanFits
span_fits us player buffer log room ok = (room_for us player buffer log room ok).fits

pub room_suffices : RoomSuffices
room_suffices us player buffer log room ok fits numbers = ((room_for us player buffer log room ok).all fits numbers).0

-- calls in parts are chunked, and leave nothing
record Done (us : ℕ) (player : Player) (buffer log : List ℕ) (cs : List Call) : Type 0 where
  chunked : Chunked us player buffer log cs
  none_left : (session us player buffer log cs).rest ≡ []

in_parts : (us : ℕ) (player : Player) (buffer log : List ℕ) (cs : List Call) → Playable player buffer log → player.number + length (records log) ≤ number_max → InParts log cs
    → Done us player buffer log cs
unfolding session Chunked InParts
in_parts us player buffer log [] ok numbers parts = record { chunked = tt; none_left = parts }
in_parts us player buffer log (c ∷ cs) ok numbers parts =
    let part = take c.size log in
    let tail = drop c.size log in
    let s = span_by us player buffer log c in
    let both : part ++ tail ≡ log = take-append-drop c.size log in
    let joined : records log ≡ records part ++ records tail = ap records (sym both) ∙ join (length part) part tail (omega arith) (whole_call c.size log parts.0) in
    let counted : length (records log) ≡ length (records part) + length (records tail) = ap length joined ∙ length-append (records part) (records tail) in
    let here = room_for us player buffer part (length c.out) (record { long = ok.long; bytes = are_take c.size log ok.bytes; id = ok.id }) in
    let all = here.all parts.1 (omega arith) in
    let tail-is : drop s.read log ≡ tail = ap (λ (n : ℕ). drop n log) all.0 ∙ sym (behind_record c.size log) in
    let next =
    in_parts us s.player s.buffer (drop s.read log) cs (record { long = here.long; bytes = are_drop s.read log ok.bytes; id = here.id })
    (rw tail-is (omega (arith, all.1))) (subst (λ (l : List ℕ). InParts l cs) (sym tail-is) parts.2) in
    record { chunked = (parts.0, next.chunked); none_left = next.none_left }

pub all_parts : AllParts
all_parts us buffer log cs long bytes numbers parts =
    let done = in_parts us starting buffer log cs (record { long = long; bytes = bytes; id = tt }) (omega arith) parts in
    any_chunks us buffer log cs long done.chunked done.none_left
