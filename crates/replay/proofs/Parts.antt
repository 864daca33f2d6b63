-- The theorems of `specs/Statements.antt` on parts of a log: `span_inside`, `span_moves`, `nothing_lost`.
-- Assumes nothing.
use Prim.Native.Nat.{ℕ, zero, suc, ◌-◌, ◌%◌, ◌≤◌}
use mathlib.Core.Bool.{Bool, true, false, cond}
use mathlib.Core.Path.{◌≡◌, refl, sym, ap, ap₂, ◌∙◌}
use mathlib.Core.Logic.{◌⊎◌, inl, inr}
use mathlib.Core.List.{List, [], ◌∷◌, ◌++◌, append-nil, append_assoc}
use borrow.Author.Tests.{le-ltb, lt-leb, leb-true, leb-false}
use native.Mathlib.Omega.{arith}
use lib.Dec.{leb}
use lib.ListN.{length, take, drop, length-append, length-drop, drop_of_length-le, take-append-drop}
use lib.Seq.{take_at, drop-drop, drop-append-le, take-append-le, length-take-le}
use Rattle.framelog.specs.Layout.{record_size}
use Rattle.replay.specs.Log.{records}
use Rattle.replay.specs.Day.{Stage, play_of, stages, entries}
use Rattle.replay.specs.Lines.{lines_from}
use Rattle.replay.specs.Chunk.{line_max, number_max, Span, nothing, behind, halts, line_for, next_player, span_of, played, answer_of}
use Rattle.replay.specs.Statements.{SpanInside, SpanMoves, Call, span_by, text_by, session, Chunked, lines_left, NothingLost}
use Rattle.replay.specs.declared.Listed.{Listed}
use Rattle.replay.specs.declared.Player.{Player}
use Rattle.replay.proofs.Logs.{no_records, first_record, behind_record, length_part, some_part, none_of}
use Rattle.replay.proofs.Spans.{at_end, halted, goes_on, by_records}

-- the records that are not played
unfoldable left_of : ℕ → Player → List ℕ → ℕ → List (List ℕ) → List (List ℕ)
left_of us player buffer room [] = []
left_of us player buffer room (r ∷ rs) =
    cond (halts room player) (r ∷ rs)
    (left_of us (next_player player (play_of us player.state buffer r)) (play_of us player.state buffer r).buffer
    (room - length (line_for player (play_of us player.state buffer r))) rs)

-- the lines that follow a span
abbrev lines_behind : ℕ → Span → List (List ℕ) → List ℕ
lines_behind us s rs = s.text ++ lines_from s.player.number (entries us s.player.state s.buffer rs)

-- what was written, and the lines of the records that are left and of any behind them, are the lines of all
text_goes_on : (us : ℕ) (player : Player) (buffer : List ℕ) (room : ℕ) (rs qs : List (List ℕ))
    → lines_behind us (span_of us player buffer room rs) (left_of us player buffer room rs ++ qs) ≡ lines_from player.number (entries us player.state buffer (rs ++ qs))
unfolding span_of left_of stages lines_from
text_goes_on us player buffer room [] qs = refl
text_goes_on us player buffer room (r ∷ rs) qs =
    let s = play_of us player.state buffer r in
    let line = line_for player s in
    go (halts room player)
    (span_of us (next_player player s) s.buffer (room - length line) rs)
    (left_of us (next_player player s) s.buffer (room - length line) rs)
    (text_goes_on us (next_player player s) s.buffer (room - length line) rs qs)
  where
    go : (t : Bool) (next : Span) (left : List (List ℕ))
        → lines_behind us next (left ++ qs) ≡ lines_from (suc player.number) (entries us (play_of us player.state buffer r).answer.state (play_of us player.state buffer r).buffer (rs ++ qs))
        → lines_behind us (cond t (nothing player buffer) (behind (length r) (line_for player (play_of us player.state buffer r)) next)) (cond t (r ∷ rs) left ++ qs)
        ≡ lines_from player.number (entries us player.state buffer (r ∷ rs ++ qs))
    go true next left e = refl
    go false next left e =
        append_assoc (line_for player (play_of us player.state buffer r)) next.text _
        ∙ ap (λ (l : List ℕ). line_for player (play_of us player.state buffer r) ++ l) e

-- a part and what follows it: whole records, or nothing follows
abbrev pub Whole : List ℕ → List ℕ → Type 0
Whole part tail = (length part % record_size ≡ 0) ⊎ (tail ≡ [])

-- the same of the part behind its first record
module _ (part tail : List ℕ) (some : 1 ≤ length part) where
  abbrev first : List ℕ
  first = take record_size part

  first_some : 1 ≤ length first
  first_some = some_part 259 part some

  pub whole_behind : Whole part tail → Whole (drop (length first) part) tail
  whole_behind (inl even) =
      let long : record_size ≤ length part = omega arith in
      let full : length first ≡ record_size = length-take-le record_size part long in
      inl (rw (length-drop (length first) part) (omega arith))
  whole_behind (inr none) = inr none

pub join : (k : ℕ) (part tail : List ℕ) → length part ≤ k → Whole part tail → records (part ++ tail) ≡ records part ++ records tail
join k part tail h (inr none) =
    rw (none, append-nil part, no_records [] refl) (sym (append-nil (records part)))
join zero part tail h (inl even) = let empty : part ≡ [] = none_of part (omega arith) in rw (empty, no_records [] refl)
join (suc k) part tail h (inl even) =
    by (leb 1 (length part)) refl (λ some. join k (drop record_size part) tail (rw (length-drop record_size part) (omega arith)) (inl (rw (length-drop record_size part) (omega arith))))
  where
    by : (t : Bool) → leb 1 (length part) ≡ t → (1 ≤ length part → records (drop record_size part ++ tail) ≡ records (drop record_size part) ++ records tail)
        → records (part ++ tail) ≡ records part ++ records tail
    by false e rest = let empty : part ≡ [] = none_of part (omega (arith, leb-false 1 (length part) e)) in rw (empty, no_records [] refl)
    by true e rest =
        let some : 1 ≤ length part = leb-true 1 (length part) e in
        let long : record_size ≤ length part = omega arith in
        let more : 1 ≤ length (part ++ tail) = rw (length-append part tail) (omega arith) in
        first_record (part ++ tail) more
        ∙ ap₂ (λ (r l : List ℕ). r ∷ records l) (take-append-le record_size part tail long) (drop-append-le record_size part tail long)
        ∙ ap (λ (rs : List (List ℕ)). take record_size part ∷ rs) (rest some)
        ∙ ap (λ (rs : List (List ℕ)). rs ++ records tail) (sym (first_record part some))

-- what is left, as the laws of `Spans` have what is played
module _ (us : ℕ) (player : Player) (buffer part : List ℕ) (room : ℕ) (some : 1 ≤ length part) where
  left_halted : halts room player ≡ true → left_of us player buffer room (records part) ≡ records part
  unfolding left_of
  left_halted e = rw (first_record part some, e)

  abbrev stage : Stage
  stage = play_of us player.state buffer (take record_size part)

  left_goes_on : halts room player ≡ false
      → left_of us player buffer room (records part)
      ≡ left_of us (next_player player stage) stage.buffer (room - length (line_for player stage)) (records (drop (length (take record_size part)) part))
  unfolding left_of
  left_goes_on e = rw (first_record part some, e, behind_record record_size part)

-- of a part and what follows it, the records behind what was played are those that are left and those that follow
record Left (us : ℕ) (player : Player) (buffer part tail : List ℕ) (room : ℕ) (s : Span) : Type 0 where
  inside : s.read ≤ length part
  records_are : records (drop s.read (part ++ tail)) ≡ left_of us player buffer room (records part) ++ records tail

module _ (us : ℕ) (player : Player) (buffer part tail : List ℕ) (room : ℕ) where
  abbrev Here : Type 0
  Here = Left us player buffer part tail room (played us player buffer part room)

  left_none : length part ≤ 0 → Here
  unfolding left_of
  left_none h =
      let empty = none_of part h in
      rw (at_end us player buffer part room empty) (record { inside = omega arith; records_are = rw (empty, no_records [] refl) })

  left_all : (some : 1 ≤ length part) → Whole part tail → halts room player ≡ true → Here
  left_all some whole e =
      rw (halted us player buffer part room some e)
      (record { inside = omega arith; records_are = rw (left_halted us player buffer part room some e) (join (length part) part tail (omega arith) whole) })

  left_next : (some : 1 ≤ length part)
      → halts room player ≡ false
      → Left us (next_player player (stage us player buffer part room some)) (stage us player buffer part room some).buffer (drop (length (take record_size part)) part) tail
      (room - length (line_for player (stage us player buffer part room some)))
      (played us (next_player player (stage us player buffer part room some)) (stage us player buffer part room some).buffer (drop (length (take record_size part)) part)
      (room - length (line_for player (stage us player buffer part room some))))
      → Here
  left_next some e next =
      let n = length (take record_size part) in
      let within : n ≤ length part = length_part record_size part in
      let left = length-drop n part in
      let s = stage us player buffer part room some in
      let m = (played us (next_player player s) s.buffer (drop n part) (room - length (line_for player s))).read in
      rw (goes_on us player buffer part room some e)
      (record {
        inside = omega (arith, next.inside);
        records_are =
            ap records (sym (drop-drop m n (part ++ tail)) ∙ ap (drop m) (drop-append-le n part tail within))
            ∙ next.records_are
            ∙ ap (λ (rs : List (List ℕ)). rs ++ records tail) (sym (left_goes_on us player buffer part room some e));
      })

span_left : (us : ℕ) (player : Player) (buffer part : List ℕ) (room : ℕ) (tail : List ℕ) → Whole part tail → Here us player buffer part tail room
span_left us =
    by_records us (λ player buffer part room. (tail : List ℕ) → Whole part tail → Here us player buffer part tail room)
    (λ player buffer part room h tail whole. left_none us player buffer part tail room h)
    (λ player buffer part room some e tail whole. left_all us player buffer part tail room some whole e)
    (λ player buffer part room some e rest tail whole. left_next us player buffer part tail room some e (rest tail (whole_behind part tail some whole)))

pub span_inside : SpanInside
span_inside us player buffer log room = (span_left us player buffer log room [] (inr refl)).inside

-- as a caller has it
pub answer_inside : (us : ℕ) (player : Player) (buffer log : List ℕ) (room : ℕ) (answer : Listed) → answer ≡ answer_of (played us player buffer log room) → answer.read ≤ length log
answer_inside us player buffer log room answer e = rw e (span_inside us player buffer log room)

pub span_moves : SpanMoves
span_moves us player buffer log room some fits left =
    let goes : halts room player ≡ false = rw (le-ltb room line_max fits, lt-leb number_max player.number left) in
    rw (goes_on us player buffer log room some goes) (omega (arith, first_some log [] some))

-- one call: its text, and the lines of what is left, are the lines of all
pub whole_call : (size : ℕ) (log : List ℕ) → (size % record_size ≡ 0) ⊎ (length log ≤ size) → Whole (take size log) (drop size log)
whole_call size log (inr all) = inr (drop_of_length-le log {i = size} all)
whole_call size log (inl even) = by (leb size (length log)) refl
  where
    by : (t : Bool) → leb size (length log) ≡ t → Whole (take size log) (drop size log)
    by true e = inl (rw (length-take-le size log (leb-true size (length log) e)) even)
    by false e = let less = leb-false size (length log) e in inr (drop_of_length-le log {i = size} (omega arith))

call_goes_on : (us : ℕ) (player : Player) (buffer log : List ℕ) (c : Call) → (c.size % record_size ≡ 0) ⊎ (length log ≤ c.size)
    → (span_by us player buffer log c).text
    ++ lines_left us (span_by us player buffer log c).player (span_by us player buffer log c).buffer (drop (span_by us player buffer log c).read log)
    ≡ lines_left us player buffer log
call_goes_on us player buffer log c ends =
    let part = take c.size log in
    let tail = drop c.size log in
    let room = length c.out in
    let s = span_by us player buffer log c in
    let whole = whole_call c.size log ends in
    let both : part ++ tail ≡ log = take-append-drop c.size log in
    let left = span_left us player buffer part room tail whole in
    let left_is : records (drop s.read log) ≡ left_of us player buffer room (records part) ++ records tail =
    ap (λ (l : List ℕ). records (drop s.read l)) (sym both) ∙ left.records_are in
    let all-is : records part ++ records tail ≡ records log = sym (join (length part) part tail (omega arith) whole) ∙ ap records both in
    ap (λ (rs : List (List ℕ)). lines_behind us s rs) left_is
    ∙ text_goes_on us player buffer room (records part) (records tail)
    ∙ ap (λ (rs : List (List ℕ)). lines_from player.number (entries us player.state buffer rs)) all-is

-- the caller finds the text
text_found : (s : Span) (c : Call) → text_by s c ≡ s.text
text_found s c = take_at s.text (drop (length s.text) c.out) (length s.text) refl

pub nothing_lost : NothingLost
unfolding session Chunked
nothing_lost us player buffer log [] chunked = refl
nothing_lost us player buffer log (c ∷ cs) chunked =
    let s = span_by us player buffer log c in
    let next = session us s.player s.buffer (drop s.read log) cs in
    let to-come = lines_left us next.player next.buffer next.rest in
    append_assoc (text_by s c) next.text to-come
    ∙ ap₂ (λ (a b : List ℕ). a ++ b) (text_found s c) (nothing_lost us s.player s.buffer (drop s.read log) cs chunked.1)
    ∙ call_goes_on us player buffer log c chunked.0
