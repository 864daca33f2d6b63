-- What is proved of the numbers that C keeps of a replay. The proofs are in `proofs/Chunks.antt`, under the names given here.
-- Assumes nothing.
use Rattle.std.specs.Prelude.{ℕ, ◌≡◌, List, [], ◌∷◌, ◌++◌, length, take, drop, get_or}
use Rattle.le.specs.Word.{AreBytes}
use Rattle.frame.specs.Layout.{message_max}
use Rattle.replay.specs.Chunk.{Span}
use Rattle.replay.specs.Lines.{lines}
use Rattle.replay.specs.Statements.{Call, text_by, Session, session, Chunked, lines_left}
use Rattle.replay.specs.declared.Player.{Player}
use Rattle.hoursquall.specs.Reassembly.{state_of_def, Lent}
use Rattle.hoursquall.specs.Statements.{StateFits}
use Rattle.hoursquall_replay.specs.Replay.{staged_in, left_by, player_of_def, numbers_of, player_after, played_in}

-- `player_crosses`. A player that is written as a block and read again is that player.
abbrev pub PlayerCrosses : Type 0
PlayerCrosses = (p : Player) → StateFits p.state → player_of_def (numbers_of p) ≡ p

-- `record_crosses`. The block that a call of `hs_replay_record` leaves is the state after it. (It is said of each call; of lists of calls nothing is stated here.)
abbrev pub RecordCrosses : Type 0
RecordCrosses =
    (us : ℕ) (lent : Lent) (slice : List ℕ)
    → AreBytes slice
    → state_of_def (left_by us lent slice).block ≡ (staged_in us lent slice).answer.state

-- the calls of `hs_replay_chunk` over a log, each with the block and the buffer as the last one left them, and handed the log from where that one stopped (see `session` of the crate `replay`):
-- the texts joined, the block and the buffer then, and what is left of the log
pub record SessionInC : Type 0 where
  pub text : List ℕ
  pub block : List ℕ
  pub buffer : List ℕ
  pub rest : List ℕ

abbrev pub joined_to : List ℕ → SessionInC → SessionInC
joined_to text h = record { text = text ++ h.text; block = h.block; buffer = h.buffer; rest = h.rest }

abbrev pub call_in : ℕ → List ℕ → List ℕ → List ℕ → Call → Span
call_in us block buffer log c = played_in us block buffer (take c.size log) (length c.out)

unfoldable pub session_in_c : ℕ → List ℕ → List ℕ → List ℕ → List Call → SessionInC
session_in_c us block buffer log [] = record { text = []; block = block; buffer = buffer; rest = log }
session_in_c us block buffer log (c ∷ cs) =
    joined_to (text_by (call_in us block buffer log c) c)
    (session_in_c us (player_after (call_in us block buffer log c) block) (call_in us block buffer log c).buffer (drop (call_in us block buffer log c).read log) cs)

-- the session that a player has, as C sees it
abbrev pub seen_in_c : SessionInC → Session
seen_in_c h = record { text = h.text; player = player_of_def h.block; buffer = h.buffer; rest = h.rest }

-- `session_crosses`. From any block, and for any log of bytes, that is what the player that the block is gives.
abbrev pub SessionCrosses : Type 0
SessionCrosses =
    (us : ℕ) (block buffer log : List ℕ) (cs : List Call)
    → AreBytes log
    → seen_in_c (session_in_c us block buffer log cs) ≡ session us (player_of_def block) buffer log cs

-- `nothing_lost_exported`. So in C, too, what was written, and the lines of what is left, are the lines of all, after any calls that hand in whole records, or all that is left.
abbrev pub NothingLostExported : Type 0
NothingLostExported =
    (us : ℕ) (block buffer log : List ℕ) (cs : List Call)
    → AreBytes log
    → Chunked us (player_of_def block) buffer log cs
    → (session_in_c us block buffer log cs).text
    ++ lines_left us (player_of_def (session_in_c us block buffer log cs).block) (session_in_c us block buffer log cs).buffer (session_in_c us block buffer log cs).rest
    ≡ lines_left us (player_of_def block) buffer log

-- `any_chunks_exported`. So a day is listed in C as `lines` has it, in whatever parts and with whatever outputs: from a block whose first and last numbers are 0, whatever stands between them and in
-- the buffer.
abbrev pub AnyChunksExported : Type 0
AnyChunksExported =
    (us : ℕ) (block buffer log : List ℕ) (cs : List Call)
    → get_or block 0 0 ≡ 0
    → get_or block 8 0 ≡ 0
    → length buffer ≡ message_max
    → AreBytes log
    → Chunked us (player_of_def block) buffer log cs
    → (session_in_c us block buffer log cs).rest ≡ []
    → (session_in_c us block buffer log cs).text ≡ lines us log
