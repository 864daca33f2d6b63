-- A part of a log, played into an output of any length. Records are played from its start, each with a line behind the line before it, up to the end of the part or
-- to the first record before which the output has no room for the longest line, or at which no number is left. Nothing of that record is done: it is not read, not
-- run and not told, so that the caller can hand it in again.
-- Assumes nothing.
use Rattle.std.specs.Prelude.{ℕ, suc, ◌+◌, ◌-◌, Bool, cond, ◌||◌, List, [], ◌∷◌, ◌++◌, ltb, leb, length, drop}
use Rattle.reassembly.specs.declared.State.{State}
use Rattle.reassembly.specs.declared.State.TheVariants.{Fresh}
use Rattle.replay.specs.Log.{records}
use Rattle.replay.specs.Day.{Stage, play_of}
use Rattle.replay.specs.Lines.{line_of}
use Rattle.replay.specs.declared.Player.{Player}
use Rattle.replay.specs.declared.Listed.{Listed}

-- a player as a day starts: "record number from 0", "starting fresh"
abbrev pub starting : Player
starting = record { state = Fresh; number = 0 }

-- the longest line: 20 digits, " delivered ", 10 digits, a space, 4 digits and the newline
abbrev pub line_max : ℕ
line_max = 47

-- the largest number that a player can have: no record gets it, since no number would come after it
abbrev pub number_max : ℕ
number_max = 18446744073709551615

-- what was played: how many bytes of the log, the text of their records, and the player and the buffer after them
pub record Span : Type 0 where
  pub read : ℕ
  pub text : List ℕ
  pub player : Player
  pub buffer : List ℕ

abbrev pub nothing : Player → List ℕ → Span
nothing player buffer = record { read = 0; text = []; player = player; buffer = buffer }

-- a span behind so many bytes and their text
abbrev pub behind : ℕ → List ℕ → Span → Span
behind read text s = record { read = read + s.read; text = text ++ s.text; player = s.player; buffer = s.buffer }

-- whether a record is not played, where the output has so much room left
abbrev pub halts : ℕ → Player → Bool
halts room player = ltb room line_max || leb number_max player.number

abbrev pub player_after : ℕ → State → Player
player_after number state = record { state = state; number = suc number }

-- the line of a record that is played, and the player after it
abbrev pub line_for : Player → Stage → List ℕ
line_for player s = line_of player.number s.answer.entry

abbrev pub next_player : Player → Stage → Player
next_player player s = player_after player.number s.answer.state

-- the records of a part, one after another, with so much room left for their lines
unfoldable pub span_of : ℕ → Player → List ℕ → ℕ → List (List ℕ) → Span
span_of us player buffer room [] = nothing player buffer
span_of us player buffer room (r ∷ rs) =
    cond (halts room player) (nothing player buffer)
    (behind (length r) (line_for player (play_of us player.state buffer r))
    (span_of us (next_player player (play_of us player.state buffer r)) (play_of us player.state buffer r).buffer
    (room - length (line_for player (play_of us player.state buffer r))) rs))

-- what is played of a part of a log, with an output of so many bytes
abbrev pub played : ℕ → Player → List ℕ → List ℕ → ℕ → Span
played us player buffer log room = span_of us player buffer room (records log)

-- what is answered of a span
abbrev pub answer_of : Span → Listed
answer_of s = record { read = s.read; written = length s.text; player = s.player }

-- the output then: the text at its start, and no other byte changed
abbrev pub output_after : Span → List ℕ → List ℕ
output_after s out = s.text ++ drop (length s.text) out
