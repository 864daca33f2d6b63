-- The player and the answers of the crate `replay` as numbers.
-- Assumes nothing.
use Rattle.std.specs.Prelude.{ℕ, cond, List, [], ◌∷◌, ◌++◌, eqb, get_or, Result, Ok, Err}
use Rattle.framelog.specs.Layout as Layout
use Rattle.reassembly.specs.declared.State.{State}
use Rattle.replay.specs.Chunk.{Span, played, answer_of}
use Rattle.replay.specs.Day.{Stage, play_of}
use Rattle.reassembly.specs.declared.Verdict.{Verdict}
use Rattle.framelog.specs.declared.Reason.{Reason}
use Rattle.replay.specs.declared.Listed.{Listed}
use Rattle.replay.specs.declared.Player.{Player}
use Rattle.hoursquall.specs.Reassembly.{Lent, state_of_def, block_of, verdict_number, words_after, block_after}

-- the number of the record's refusal, else that of what the reassembly answers
abbrev pub played_number : Result Verdict Reason → ℕ
played_number (Err reason) = Layout.number_of reason
played_number (Ok verdict) = verdict_number verdict

-- a record that is refused leaves the state's block and the words as they were lent, else they are as the reassembly's step leaves them
abbrev pub played_block : Result Verdict Reason → State → List ℕ → List ℕ
played_block (Err reason) state before = before
played_block (Ok verdict) state before = block_after (verdict_number verdict) state before

abbrev pub played_words : Result Verdict Reason → List ℕ → List ℕ
played_words (Err reason) before = before
played_words (Ok verdict) before = words_after verdict before

-- the record that the call plays
abbrev pub staged_in : ℕ → Lent → List ℕ → Stage
staged_in us lent slice = play_of us (state_of_def lent.block) lent.buffer slice

-- what the call leaves
abbrev pub left_by : ℕ → Lent → List ℕ → Lent
left_by us lent slice =
    record {
      block = played_block (staged_in us lent slice).answer.entry (staged_in us lent slice).answer.state lent.block;
      buffer = (staged_in us lent slice).buffer;
      words = played_words (staged_in us lent slice).answer.entry lent.words;
    }

-- a player is a block of nine numbers: those of the state, and the number of the next record
abbrev pub player_of_def : List ℕ → Player
player_of_def b = record { state = state_of_def b; number = get_or b 8 0 }

abbrev pub numbers_of : Player → List ℕ
numbers_of p = block_of p.state ++ (p.number ∷ [])

-- the block after a part of a log: as it was lent where nothing was played
abbrev pub numbers_after : Listed → List ℕ → List ℕ
numbers_after listed before = cond (eqb listed.read 0) before (numbers_of listed.player)

abbrev pub player_after : Span → List ℕ → List ℕ
player_after s before = numbers_after (answer_of s) before

-- what the call plays, with an output of so many bytes
abbrev pub played_in : ℕ → List ℕ → List ℕ → List ℕ → ℕ → Span
played_in us block buffer chunk room = played us (player_of_def block) buffer chunk room
