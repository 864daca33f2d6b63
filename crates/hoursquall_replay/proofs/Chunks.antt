-- The theorems of `specs/Statements.antt` on the player's block.
--     player_crosses       a player survives the way through it
--     span_fits            the state after any records of bytes carries words that fit
--     block_kept           so the block that a call leaves is the player after it
--     session_crosses      and calls over blocks are calls over players
--     nothing_lost_exported, any_chunks_exported   of which no line is lost, and the texts joined are the log's lines
--     record_crosses       the same of the state's block, record by record
-- Assumes nothing.
use Rattle.std.specs.Prelude.{Result, Ok, Err}
use Prim.Native.Nat.{ℕ, ◌+◌, ◌-◌, ◌≤◌}
use mathlib.Core.Bool.{Bool, true, false, cond}
use mathlib.Core.Path.{◌≡◌, refl, sym, ap, ap₂, subst, ◌∙◌}
use mathlib.Core.List.{List, [], ◌∷◌, ◌++◌}
use borrow.Author.Tests.{eq-eqb, eqb-true}
use native.Mathlib.Omega.{arith}
use lib.Dec.{eqb}
use lib.ListN.{length, take, drop, get_or}
use Rattle.le.specs.Word.{AreBytes}
use Rattle.framelog.specs.Layout.{record_size, cut_of}
use Rattle.framelog.specs.Reading.{read_of}
use Rattle.framelog.specs.declared.Reason.{Reason}
use Rattle.reassembly.specs.declared.State.{State}
use Rattle.reassembly.specs.declared.State.TheVariants.{Fresh, Open}
use Rattle.replay.specs.Chunk.{Span, nothing, halts, starting, line_for, next_player, played}
use Rattle.replay.specs.Day.{play_of}
use Rattle.replay.specs.Statements as Replay
use Rattle.replay.specs.declared.Player.{Player}
use Rattle.replay.proofs.Days.{any_chunks}
use Rattle.replay.proofs.Logs.{none_of, some_part, are_drop, are_take}
use Rattle.replay.proofs.Parts.{nothing_lost}
use Rattle.replay.proofs.Playing.{is_skipped, is_run}
use Rattle.replay.proofs.Spans.{at_end, halted, goes_on, by_records}
use Rattle.hoursquall.specs.Reassembly.{state_of_def, block_of}
use Rattle.hoursquall_replay.specs.Replay.{staged_in, left_by, player_of_def, numbers_of, player_after}
use Rattle.hoursquall.specs.Statements.{StateFits}
use Rattle.hoursquall_replay.specs.Statements.{PlayerCrosses, call_in, session_in_c, SessionCrosses, NothingLostExported, AnyChunksExported, RecordCrosses}
use Rattle.hoursquall.proofs.Theorems.{state_crosses, state_fits, step_crosses, block_crosses}

-- what follows a state's block does not count
behind_block : (s : State) (n : ℕ) → state_of_def (block_of s ++ (n ∷ [])) ≡ state_of_def (block_of s)
unfolding state_of_def
behind_block Fresh n = refl
behind_block (Open p) n = refl

number_is : (s : State) (n : ℕ) → get_or (block_of s ++ (n ∷ [])) 8 0 ≡ n
number_is Fresh n = refl
number_is (Open p) n = refl

playing : State → ℕ → Player
playing s n = record { state = s; number = n }

pub player_crosses : PlayerCrosses
unfolding playing
player_crosses p fits = ap₂ playing (behind_block p.state p.number ∙ state_crosses p.state fits) (number_is p.state p.number)

-- zeroed memory is a player as a day starts
starts_at : (block : List ℕ) → get_or block 0 0 ≡ 0 → get_or block 8 0 ≡ 0 → player_of_def block ≡ starting
unfolding state_of_def playing
starts_at block first last = ap₂ playing (rw (eq-eqb (get_or block 0 0) 0 first)) last

-- a record of bytes leaves a state whose words fit
stage_fits : (us : ℕ) (state : State) (buffer r : List ℕ) → StateFits state → AreBytes r → StateFits (play_of us state buffer r).answer.state
stage_fits us state buffer r fits are = by (read_of record_size r) refl
  where
    by : (x : Result ℕ Reason) → read_of record_size r ≡ x → StateFits (play_of us state buffer r).answer.state
    by (Err reason) e = rw (is_skipped us state buffer r reason e) fits
    by (Ok n) e = rw (is_run us state buffer r n e) (step_crosses [] us state fits buffer (cut_of n r) (are_take n (drop 4 r) (are_drop 4 r are))).fits

-- what is played leaves such a state, and where nothing is read it leaves the player
record Kept (player : Player) (s : Span) : Type 0 where
  fits : StateFits s.player.state
  same : s.read ≡ 0 → s.player ≡ player

module _ (us : ℕ) (player : Player) (buffer log : List ℕ) (room : ℕ) (fits : StateFits player.state) where
  nothing_kept : Kept player (nothing player buffer)
  nothing_kept = record { fits = fits; same = λ none. refl }

  kept_end : length log ≤ 0 → Kept player (played us player buffer log room)
  kept_end h = rw (at_end us player buffer log room (none_of log h)) nothing_kept

  kept_halt : (some : 1 ≤ length log) → halts room player ≡ true → Kept player (played us player buffer log room)
  kept_halt some e = rw (halted us player buffer log room some e) nothing_kept

  abbrev first : List ℕ
  first = take record_size log

  abbrev next : Player
  next = next_player player (play_of us player.state buffer first)

  abbrev rest : Span
  rest = played us next (play_of us player.state buffer first).buffer (drop (length first) log) (room - length (line_for player (play_of us player.state buffer first)))

  kept_next : (some : 1 ≤ length log) → halts room player ≡ false → StateFits rest.player.state → Kept player (played us player buffer log room)
  kept_next some e after =
      rw (goes_on us player buffer log room some e) (record { fits = after; same = λ none. absurd (omega (arith, none, some_part 259 log some)) })

span_fits : (us : ℕ) (player : Player) (buffer log : List ℕ) (room : ℕ) → StateFits player.state → AreBytes log → Kept player (played us player buffer log room)
span_fits us =
    by_records us (λ player buffer log room. StateFits player.state → AreBytes log → Kept player (played us player buffer log room))
    (λ player buffer log room h fits are. kept_end us player buffer log room fits h)
    (λ player buffer log room some e fits are. kept_halt us player buffer log room fits some e)
    (λ player buffer log room some e after fits are.
    kept_next us player buffer log room fits some e
    (after (stage_fits us player.state buffer (take record_size log) fits (are_take record_size log are)) (are_drop (length (take record_size log)) log are)).fits)

-- the block that a call leaves is the player after it
block_kept : (block : List ℕ) (s : Span) → Kept (player_of_def block) s → player_of_def (player_after s block) ≡ s.player
block_kept block s kept = go (eqb s.read 0) refl
  where
    go : (t : Bool) → eqb s.read 0 ≡ t → player_of_def (cond t block (numbers_of s.player)) ≡ s.player
    go true e = sym (kept.same (eqb-true s.read 0 e))
    go false e = player_crosses s.player kept.fits

pub session_crosses : SessionCrosses
unfolding session_in_c Replay.session
session_crosses us block buffer log [] are = refl
session_crosses us block buffer log (c ∷ cs) are =
    let s = call_in us block buffer log c in
    let part = take c.size log in
    let kept = block_kept block s (span_fits us (player_of_def block) buffer part (length c.out) (state_fits block) (are_take c.size log are)) in
    ap (Replay.after (Replay.text_by s c))
    (session_crosses us (player_after s block) s.buffer (drop s.read log) cs (are_drop s.read log are)
    ∙ ap (λ (p : Player). Replay.session us p s.buffer (drop s.read log) cs) kept)

pub nothing_lost_exported : NothingLostExported
nothing_lost_exported us block buffer log cs are chunked =
    ap (λ (h : Replay.Session). h.text ++ Replay.lines_left us h.player h.buffer h.rest) (session_crosses us block buffer log cs are)
    ∙ nothing_lost us (player_of_def block) buffer log cs chunked

pub any_chunks_exported : AnyChunksExported
any_chunks_exported us block buffer log cs first last long are chunked all =
    let starts : player_of_def block ≡ starting = starts_at block first last in
    let crosses = session_crosses us block buffer log cs are in
    ap (λ (h : Replay.Session). h.text) crosses
    ∙ ap (λ (p : Player). (Replay.session us p buffer log cs).text) starts
    ∙ any_chunks us buffer log cs long (subst (λ (p : Player). Replay.Chunked us p buffer log cs) starts chunked)
    (ap (λ (p : Player). (Replay.session us p buffer log cs).rest) (sym starts) ∙ sym (ap (λ (h : Replay.Session). h.rest) crosses) ∙ all)

pub record_crosses : RecordCrosses
record_crosses us lent slice are = by (read_of record_size slice) refl
  where
    by : (x : Result ℕ Reason) → read_of record_size slice ≡ x → state_of_def (left_by us lent slice).block ≡ (staged_in us lent slice).answer.state
    by (Err reason) e = rw (is_skipped us (state_of_def lent.block) lent.buffer slice reason e)
    by (Ok n) e =
        let f = cut_of n slice in
        let fits = step_crosses lent.words us (state_of_def lent.block) (state_fits lent.block) lent.buffer f (are_take n (drop 4 slice) (are_drop 4 slice are)) in
        rw (is_run us (state_of_def lent.block) lent.buffer slice n e) (block_crosses us lent f fits.fits)
