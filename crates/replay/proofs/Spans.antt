-- The laws of what is played of a part of a log.
-- Assumes nothing.
use Rattle.std.proofs.lemmas.Bool.{or_parts}
use Prim.Native.Nat.{ℕ, zero, suc, min, ◌+◌, ◌-◌, ◌≤◌, ◌<◌}
use mathlib.Core.Bool.{Bool, true, false}
use mathlib.Core.Path.{◌≡◌, refl, sym, ap, ap₂, ◌∙◌}
use mathlib.Core.List.{List, [], ◌++◌, append-nil, append_assoc}
use borrow.Author.Tests.{ltb-false, leb-true, leb-false}
use native.Mathlib.Omega.{arith}
use lib.Dec.{ltb, leb}
use lib.ListN.{length, take, drop, length-append, length-drop, take-append-drop}
use lib.Seq.{take_at, take_all, drop_at, drop-drop, length-take-le}
use Rattle.text.specs.Output.{Adds}
use Rattle.text.specs.declared.Writer.{Writer}
use Rattle.text.proofs.Output.{take_laid, drop_laid, lies_length}
use Rattle.framelog.specs.Layout.{record_size}
use Rattle.replay.specs.Day.{Stage, play_of}
use Rattle.replay.specs.Chunk.{line_max, number_max, Span, nothing, behind, halts, line_for, next_player, span_of, played, answer_of, output_after}
use Rattle.replay.specs.declared.Listed.{Listed}
use Rattle.replay.specs.declared.Player.{Player}
use Rattle.replay.proofs.Logs.{no_records, first_record, behind_record, some_part, none_of}

-- a span behind two others
pub behind_both : (a b : ℕ) (t u : List ℕ) (s : Span) → behind a t (behind b u s) ≡ behind (a + b) (t ++ u) s
behind_both a b t u s =
    let read_is : a + (b + s.read) ≡ a + b + s.read = omega arith in
    ap₂ (λ (n : ℕ) (l : List ℕ). record { read = n; text = l; player = s.player; buffer = s.buffer }) read_is (sym (append_assoc t u s.text))

-- a record is played where there is room for the longest line, and a number left
pub goes_room : (room : ℕ) (player : Player) → halts room player ≡ false → (line_max ≤ room) × (player.number < number_max)
goes_room room player e =
    let each = or_parts (ltb room line_max) (leb number_max player.number) e in
    (ltb-false room line_max each.0, leb-false number_max player.number each.1)

module _ (us : ℕ) (player : Player) (buffer log : List ℕ) (room : ℕ) where
  pub at_end : log ≡ [] → played us player buffer log room ≡ nothing player buffer
  unfolding span_of
  at_end e = ap (span_of us player buffer room) (no_records log e)

  module _ (some : 1 ≤ length log) where
    pub halted : halts room player ≡ true → played us player buffer log room ≡ nothing player buffer
    unfolding span_of
    halted e = rw (first_record log some, e)

    abbrev first : List ℕ
    first = take record_size log

    abbrev stage : Stage
    stage = play_of us player.state buffer first

    pub goes_on : halts room player ≡ false
        → played us player buffer log room
        ≡ behind (length first) (line_for player stage)
        (played us (next_player player stage) stage.buffer (drop (length first) log) (room - length (line_for player stage)))
    unfolding span_of
    goes_on e = rw (first_record log some, e, behind_record record_size log)

-- what holds of a part of no bytes, of one before whose first record playing stops, and of one whose first record is played, if it holds of the rest, holds of each part
pub by_records : (us : ℕ) (P : Player → List ℕ → List ℕ → ℕ → Type 0)
    → ((player : Player) (buffer log : List ℕ) (room : ℕ) → length log ≤ 0 → P player buffer log room)
    → ((player : Player) (buffer log : List ℕ) (room : ℕ) → 1 ≤ length log → halts room player ≡ true → P player buffer log room)
    → ((player : Player) (buffer log : List ℕ) (room : ℕ)
    → 1 ≤ length log
    → halts room player ≡ false
    → P (next_player player (play_of us player.state buffer (take record_size log))) (play_of us player.state buffer (take record_size log)).buffer
    (drop (length (take record_size log)) log) (room - length (line_for player (play_of us player.state buffer (take record_size log))))
    → P player buffer log room)
    → (player : Player) (buffer log : List ℕ) (room : ℕ) → P player buffer log room
by_records us P none stop next player buffer log room = within (length log) player buffer log room (omega arith)
  where
    by_halt : (player : Player) (buffer log : List ℕ) (room : ℕ) → 1 ≤ length log → (t : Bool) → halts room player ≡ t
        → P (next_player player (play_of us player.state buffer (take record_size log))) (play_of us player.state buffer (take record_size log)).buffer
        (drop (length (take record_size log)) log) (room - length (line_for player (play_of us player.state buffer (take record_size log))))
        → P player buffer log room
    by_halt player buffer log room some true e rest = stop player buffer log room some e
    by_halt player buffer log room some false e rest = next player buffer log room some e rest

    by_length : (player : Player) (buffer log : List ℕ) (room : ℕ) (t : Bool) → leb 1 (length log) ≡ t
        → (1 ≤ length log
        → P (next_player player (play_of us player.state buffer (take record_size log))) (play_of us player.state buffer (take record_size log)).buffer
        (drop (length (take record_size log)) log) (room - length (line_for player (play_of us player.state buffer (take record_size log)))))
        → P player buffer log room
    by_length player buffer log room true e rest = let some = leb-true 1 (length log) e in by_halt player buffer log room some (halts room player) refl (rest some)
    by_length player buffer log room false e rest = none player buffer log room (omega (arith, leb-false 1 (length log) e))

    within : (k : ℕ) (player : Player) (buffer log : List ℕ) (room : ℕ) → length log ≤ k → P player buffer log room
    within zero player buffer log room h = none player buffer log room h
    within (suc k) player buffer log room h =
        by_length player buffer log room (leb 1 (length log)) refl
        (λ some.
        within k (next_player player (play_of us player.state buffer (take record_size log))) (play_of us player.state buffer (take record_size log)).buffer
        (drop (length (take record_size log)) log) (room - length (line_for player (play_of us player.state buffer (take record_size log))))
        (rw (length-drop (length (take record_size log)) log) (omega (arith, some_part 259 log some))))

-- a part that comes off the front, and is short only where less is left, is the first record of what is left
cut_off : (log part rest : List ℕ) → log ≡ part ++ rest → length part ≡ min record_size (length log) → (part ≡ take record_size log) × (rest ≡ drop (length part) log)
cut_off log part rest joined size =
    let long : length log ≡ length part + length rest = ap length joined ∙ length-append part rest in
    (by (leb record_size (length log)) refl long, rw joined (sym (drop_at part rest (length part) refl)))
  where
    by : (t : Bool) → leb record_size (length log) ≡ t → length log ≡ length part + length rest → part ≡ take record_size log
    by true e long = rw joined (sym (take_at part rest record_size (omega (arith, size, leb-true record_size (length log) e))))
    by false e long =
        let none : rest ≡ [] = none_of rest (omega (arith, size, long, leb-false record_size (length log) e)) in
        let whole : log ≡ part = joined ∙ ap (λ (l : List ℕ). part ++ l) none ∙ append-nil part in
        sym whole ∙ sym (take_all record_size log (omega (arith, leb-false record_size (length log) e)))

-- what playing keeps, turn by turn: the text so far stands at the output's start, and all that is to be played is that and what is left
pub record Kept (us : ℕ) (player₀ : Player) (buffer₀ chunk out₀ : List ℕ) (player : Player) (buffer : List ℕ) (text : Writer) (left : List ℕ) (read : ℕ) : Type 0 where
  pub inside : read + length left ≡ length chunk
  pub room : text.at ≤ length text.out.now
  pub long : length text.out.now ≡ length out₀
  pub rest : drop text.at text.out.now ≡ drop text.at out₀
  pub all :
      played us player₀ buffer₀ chunk (length out₀)
      ≡ behind read (take text.at text.out.now) (played us player buffer left (length out₀ - text.at))

module _ (us : ℕ) (player₀ : Player) (buffer₀ chunk out₀ : List ℕ) (player : Player) (buffer : List ℕ) (text : Writer) (left : List ℕ) (read : ℕ)
    (kept : Kept us player₀ buffer₀ chunk out₀ player buffer text left read) where
  abbrev whole : Span
  whole = played us player₀ buffer₀ chunk (length out₀)

  abbrev room : ℕ
  room = length out₀ - text.at

  -- where nothing more is played, what was written is all
  abbrev pub Finished : Type 0
  Finished =
      (◌≡◌ {A = Listed} (record { read = read; written = text.at; player = player }) (answer_of whole))
      × ((buffer ≡ whole.buffer) × (text.out.now ≡ output_after whole out₀))

  done : played us player buffer left room ≡ nothing player buffer → Finished
  done e =
      let out = text.out.now in
      let so_far = take text.at out in
      let read_is : read + 0 ≡ read = omega arith in
      let is : whole ≡ span read so_far = kept.all ∙ ap (behind read so_far) e ∙ ap₂ span read_is (append-nil so_far) in
      let count : length so_far ≡ text.at = length-take-le text.at out kept.room in
      let out-is : output_after (span read so_far) out₀ ≡ out =
      ap (λ (n : ℕ). so_far ++ drop n out₀) count ∙ ap (λ (l : List ℕ). so_far ++ l) (sym kept.rest) ∙ take-append-drop text.at out in (
        sym (ap answer_of is ∙ ap listed count),
        (sym (ap (λ (s : Span). s.buffer) is), sym (ap (λ (s : Span). output_after s out₀) is ∙ out-is)),
      )
    where
      span : ℕ → List ℕ → Span
      span n t = record { read = n; text = t; player = player; buffer = buffer }

      listed : ℕ → Listed
      listed n = record { read = read; written = n; player = player }

  -- at the part's end, before a record that is not played, and after one that is
  pub done_all : length left ≡ 0 → Finished
  done_all h = done (at_end us player buffer left room (none_of left (omega (arith, h))))

  room_is : length text.out.now - text.at ≡ room
  room_is = ap (λ (n : ℕ). n - text.at) kept.long

  pub done_halted : 0 < length left → halts (length text.out.now - text.at) player ≡ true → Finished
  done_halted some e = done (halted us player buffer left room some (ap (λ (n : ℕ). halts n player) (sym room_is) ∙ e))

  pub turn : (part rest : List ℕ) (next : Player) (buffer_after : List ℕ) (after : Writer)
      → left ≡ part ++ rest
      → length part ≡ min record_size (length left)
      → 0 < length left
      → halts (length text.out.now - text.at) player ≡ false
      → next ≡ next_player player (play_of us player.state buffer part)
      → Adds (line_for player (play_of us player.state buffer part)) text after
      → buffer_after ≡ (play_of us player.state buffer part).buffer
      → Kept us player₀ buffer₀ chunk out₀ next buffer_after after rest (read + length part)
  turn part rest next buffer_after after joined size some e next_is adds buffer_is =
      let cut = cut_off left part rest joined size in
      let stage = play_of us player.state buffer part in
      let line = line_for player stage in
      let out = text.out.now in
      let l = adds.lies in
      let long : length left ≡ length part + length rest = ap length joined ∙ length-append part rest in
      let same-long = lies_length text.at line out after.at after.out.now adds.room l in
      let room-is : room - length line ≡ length out₀ - after.at = omega (arith, l.place_is) in
      let text-is : take after.at after.out.now ≡ take text.at out ++ line = ap₂ take l.place_is l.after_is ∙ take_laid text.at line out adds.room in
      let rest-is : drop after.at after.out.now ≡ drop after.at out =
      ap₂ drop l.place_is l.after_is ∙ drop_laid text.at line out adds.room ∙ ap (λ (n : ℕ). drop n out) (sym l.place_is) in
      let behind-is : drop after.at out ≡ drop after.at out₀ =
      ap (λ (n : ℕ). drop n out) l.place_is
      ∙ sym (drop-drop (length line) text.at out)
      ∙ ap (drop (length line)) kept.rest
      ∙ drop-drop (length line) text.at out₀
      ∙ ap (λ (n : ℕ). drop n out₀) (sym l.place_is) in
      let on : played us player buffer left room ≡ behind (length part) line (played us (next_player player stage) stage.buffer rest (room - length line)) =
      goes_on us player buffer left room some (ap (λ (n : ℕ). halts n player) (sym room_is) ∙ e) ∙ rw (cut.1, cut.0) refl in
      rw (next_is, buffer_is)
      (record {
        inside = omega (arith, kept.inside, long);
        room = omega (arith, l.place_is, same-long, adds.room);
        long = same-long ∙ kept.long;
        rest = rest-is ∙ behind-is;
        all =
            kept.all
            ∙ ap (behind read (take text.at out)) on
            ∙ behind_both read (length part) (take text.at out) line (played us (next_player player stage) stage.buffer rest (room - length line))
            ∙ ap₂ (λ (t : List ℕ) (n : ℕ). behind (read + length part) t (played us (next_player player stage) stage.buffer rest n)) (sym text-is) room-is;
      })
