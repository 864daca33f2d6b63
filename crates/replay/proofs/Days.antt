-- The theorems of `specs/Statements.antt` on whole days, and of days in parts `any_chunks` and `output_is`.
-- Assumes nothing.
use Prim.Native.Nat.{ℕ, zero, suc, ◌≤◌}
use mathlib.Core.Bool.{Bool, true, false}
use mathlib.Core.Path.{◌≡◌, refl, sym, ap, ap₂, subst, ◌∙◌}
use mathlib.Core.List.{List, [], ◌∷◌, ◌++◌, map, flatten, filter_map, append-nil}
use mathlib.Core.Option.{Option, none, some}
use borrow.Author.Tests.{ne_eqb, leb-true, leb-false}
use native.Mathlib.Omega.{arith}
use lib.Dec.{leb}
use lib.ListN.{length, take, drop, length-append, length-drop, length-replicate, take-append-drop}
use lib.Seq.{take_at, drop_at}
use Rattle.std.specs.Prelude.{Option as Maybe, Result, Ok, Err}
use Rattle.frame.specs.Framing.{All}
use Rattle.frame.specs.Layout.{message_max}
use Rattle.framelog.specs.Layout.{record_size, record_of, cut_of, zeros}
use Rattle.framelog.specs.Reading.{read_of, frame_after}
use Rattle.framelog.specs.Statements.{ReadsBackAs}
use Rattle.framelog.specs.Writing.{slice_after}
use Rattle.framelog.specs.declared.Reason.{Reason}
use Rattle.framelog.specs.declared.Reason.TheVariants.{WrongSize}
use Rattle.framelog.proofs.Answers.{wrong_size, record_length}
use Rattle.framelog.proofs.Theorems.{size_in_use, writes_each, reads_back}
use Rattle.reassembly.specs.Step.{Stepped, step_of}
use Rattle.reassembly.specs.Run.{HandedUp, answers, up_by, messages}
use Rattle.reassembly.specs.Statements.{Agree, NotBad}
use Rattle.reassembly.specs.Traffic.{calls}
use Rattle.reassembly.specs.declared.Answer.{Answer}
use Rattle.reassembly.specs.declared.State.{State}
use Rattle.reassembly.specs.declared.State.TheVariants.{Fresh}
use Rattle.reassembly.specs.declared.Verdict.TheVariants.{More, Delivered, Refused as Stopped}
use Rattle.reassembly.proofs.Outcome.{step_agrees}
use Rattle.reassembly.proofs.Answers.{fresh}
use Rattle.reassembly.proofs.Corollaries.{exactly_these, never_bad}
use Rattle.reassembly.proofs.Theorem.{demand_3}
use Rattle.replay.specs.Log.{records, log_of}
use Rattle.replay.specs.Day.{Entry, Stage, ran, play_of, stages, entries, cleared}
use Rattle.replay.specs.Lines.{lines_from, receiver_of, output_for}
use Rattle.replay.specs.Chunk.{starting}
use Rattle.replay.specs.Statements.{RecordsAre, Loggable, ShortRefused, FramesRun, FramesListed, up_of, up_of_stage, DayHandsUp, DayExactly, delivery_in, delivery_of, DayLists, step_of_stage, frame_in, RefusedApart, refusal_in, refusal_of, OwnNumbers, DamagedDay, DayNeverBad, AnyBuffer, session, lines_left, AnyChunks, OutputIs, FiveBytes}
use Rattle.replay.specs.declared.Player.{Player}
use Rattle.replay.proofs.Logs.{no_records, first_record, none_of}
use Rattle.replay.proofs.Playing.{is_skipped, is_run}
use Rattle.replay.proofs.Parts.{nothing_lost}

records_join : (k : ℕ) (log : List ℕ) → length log ≤ k → flatten (records log) ≡ log
unfolding flatten
records_join zero log h = let empty = none_of log h in rw (empty, no_records [] refl)
records_join (suc k) log h = by (leb 1 (length log)) refl (records_join k (drop record_size log))
  where
    by : (t : Bool) → leb 1 (length log) ≡ t → (length (drop record_size log) ≤ k → flatten (records (drop record_size log)) ≡ drop record_size log) → flatten (records log) ≡ log
    by false e rest = let empty = none_of log (omega (arith, leb-false 1 (length log) e)) in rw (empty, no_records [] refl)
    by true e rest =
        ap flatten (first_record log (leb-true 1 (length log) e))
        ∙ ap (λ (l : List ℕ). take record_size log ++ l) (rest (rw (length-drop record_size log) (omega (arith, leb-true 1 (length log) e))))
        ∙ take-append-drop record_size log

pub records_are : RecordsAre
records_are log = records_join (length log) log (omega arith)

-- the record of a frame reads back as the frame, so playing it is the reassembly's step
module _ (frame : List ℕ) (fits : Loggable frame) where
  reads : ReadsBackAs record_size frame (record_of record_size frame)
  reads =
      let blank = zeros record_size in
      let done = writes_each record_size frame blank (length-replicate {A = ℕ} record_size 0) fits in
      subst (ReadsBackAs record_size frame) (ap (λ (w : Result (Unit {0}) Reason). slice_after w record_size frame blank) done) (reads_back record_size frame blank size_in_use done)

  frame_run : (us : ℕ) (state : State) (buffer : List ℕ) → play_of us state buffer (record_of record_size frame) ≡ ran (step_of us state buffer frame)
  frame_run us state buffer =
      let slice = record_of record_size frame in
      let frame_is : cut_of (length frame) slice ≡ frame = ap (λ (x : Result ℕ Reason). frame_after x slice) (sym reads.read) ∙ reads.frame_is in
      is_run us state buffer slice (length frame) reads.read ∙ ap (λ (f : List ℕ). ran (step_of us state buffer f)) frame_is

-- the records of the log of frames are their records
log_records : (frames : List (List ℕ)) → All Loggable frames → records (log_of frames) ≡ map (record_of record_size) frames
unfolding flatten
log_records [] fit = no_records [] refl
log_records (f ∷ fs) fit =
    let r = record_of record_size f in
    let long : length r ≡ record_size = record_length record_size f size_in_use fit.0 in
    let both = length-append r (log_of fs) in
    first_record (r ++ log_of fs) (omega arith)
    ∙ ap₂ (λ (a b : List ℕ). a ∷ records b) (take_at r (log_of fs) record_size long) (drop_at r (log_of fs) record_size long)
    ∙ ap (λ (rs : List (List ℕ)). r ∷ rs) (log_records fs fit.1)

run_all : (us : ℕ) (state : State) (buffer : List ℕ) (frames : List (List ℕ)) → All Loggable frames
    → stages us state buffer (map (record_of record_size) frames) ≡ map ran (answers us state buffer frames)
unfolding stages answers
run_all us state buffer [] fit = refl
run_all us state buffer (f ∷ fs) fit =
    rw (frame_run f fit.0 us state buffer) (ap (λ (ss : List Stage). ran (step_of us state buffer f) ∷ ss) (run_all us (step_of us state buffer f).answer.state (step_of us state buffer f).buffer fs fit.1))

pub frames_run : FramesRun
frames_run us state buffer frames fit = ap (stages us state buffer) (log_records frames fit) ∙ run_all us state buffer frames fit

listed_all : (ss : List Stepped) → map (λ s. s.answer.entry) (map ran ss) ≡ map Ok (map (λ st. st.answer.verdict) ss)
listed_all [] = refl
listed_all (s ∷ ss) = ap (λ (es : List Entry). Ok s.answer.verdict ∷ es) (listed_all ss)

pub frames_listed : FramesListed
frames_listed us frames fit = ap (map (λ s. s.answer.entry)) (frames_run us Fresh cleared frames fit) ∙ listed_all (answers us Fresh cleared frames)

up_ran : (ss : List Stepped) → map up_of_stage (map ran ss) ≡ map up_by ss
up_ran [] = refl
up_ran (s ∷ ss) = ap (λ (l : List (Option HandedUp)). up_by s ∷ l) (up_ran ss)

pub day_hands_up : DayHandsUp
day_hands_up us buffer traffic legal fit =
    ap (map up_of_stage) (frames_run us Fresh buffer (calls us traffic) fit)
    ∙ up_ran (answers us Fresh buffer (calls us traffic))
    ∙ demand_3 us buffer traffic legal

pub day_exactly : DayExactly
day_exactly us buffer traffic legal fit =
    ap messages (day_hands_up us buffer traffic legal fit ∙ sym (demand_3 us buffer traffic legal)) ∙ exactly_these us buffer traffic legal

delivery_up : (e : Entry) (buffer : List ℕ) → delivery_in e ≡ delivery_of (up_of e buffer)
delivery_up (Err reason) buffer = refl
delivery_up (Ok More) buffer = refl
delivery_up (Ok (Delivered w n)) buffer = refl
delivery_up (Ok (Stopped reason)) buffer = refl

deliveries_up : (ss : List Stage) → map delivery_in (map (λ s. s.answer.entry) ss) ≡ map delivery_of (map up_of_stage ss)
deliveries_up [] = refl
deliveries_up (s ∷ ss) = ap₂ ◌∷◌ (delivery_up s.answer.entry s.buffer) (deliveries_up ss)

pub day_lists : DayLists
day_lists us traffic legal fit =
    let long : length cleared ≡ message_max = length-replicate {A = ℕ} message_max 0 in
    deliveries_up (stages us Fresh cleared (records (log_of (calls us traffic))))
    ∙ ap (map delivery_of) (day_hands_up us cleared traffic (rw long legal) fit)

pub refused_apart : RefusedApart
unfolding stages answers filter_map
refused_apart us state buffer [] = refl
refused_apart us state buffer (r ∷ rs) = by (read_of record_size r) refl (λ st b. refused_apart us st b rs)
  where
    by : (x : Result ℕ Reason) → read_of record_size r ≡ x
        → ((st : State) (b : List ℕ) → filter_map step_of_stage (stages us st b rs) ≡ answers us st b (filter_map frame_in rs))
        → filter_map step_of_stage (stages us state buffer (r ∷ rs)) ≡ answers us state buffer (filter_map frame_in (r ∷ rs))
    by (Err reason) e rest = rw (e, is_skipped us state buffer r reason e) (rest state buffer)
    by (Ok n) e rest =
        let st = step_of us state buffer (cut_of n r) in
        rw (e, is_run us state buffer r n e) (ap (λ (ss : List Stepped). st ∷ ss) (rest st.answer.state st.buffer))

pub own_numbers : OwnNumbers
unfolding stages
own_numbers us state buffer [] = refl
own_numbers us state buffer (r ∷ rs) = by (read_of record_size r) refl (λ st b. own_numbers us st b rs)
  where
    by : (x : Result ℕ Reason) → read_of record_size r ≡ x
        → ((st : State) (b : List ℕ) → map refusal_in (entries us st b rs) ≡ map (λ q. refusal_of (read_of record_size q)) rs)
        → map refusal_in (entries us state buffer (r ∷ rs)) ≡ map (λ q. refusal_of (read_of record_size q)) (r ∷ rs)
    by (Err reason) e rest =
        rw (e, is_skipped us state buffer r reason e) (ap (λ (l : List (Option Reason)). some reason ∷ l) (rest state buffer))
    by (Ok n) e rest =
        let st = step_of us state buffer (cut_of n r) in
        rw (e, is_run us state buffer r n e) (ap (λ (l : List (Option Reason)). none ∷ l) (rest st.answer.state st.buffer))

pub short_refused : ShortRefused
short_refused us state buffer slice other = is_skipped us state buffer slice WrongSize (wrong_size record_size slice other)

pub damaged_day : DamagedDay
damaged_day us buffer traffic rs legal readable =
    ap (map up_by) (refused_apart us Fresh buffer rs ∙ ap (answers us Fresh buffer) readable) ∙ demand_3 us buffer traffic legal

pub day_never_bad : DayNeverBad
day_never_bad us log =
    let frames = filter_map frame_in (records log) in
    subst (λ (ss : List Stepped). All NotBad (map (λ st. st.answer.verdict) ss)) (sym (refused_apart us Fresh cleared (records log)))
    (never_bad us Fresh cleared frames (fresh (length cleared)))

-- buffers that agree on what is open give the same entries
agree_on : (us : ℕ) (state : State) (b c : List ℕ) (rs : List (List ℕ)) → Agree state b c → entries us state b rs ≡ entries us state c rs
unfolding stages
agree_on us state b c [] agree = refl
agree_on us state b c (r ∷ rs) agree = by (read_of record_size r) refl (λ st d e. agree_on us st d e rs)
  where
    by : (x : Result ℕ Reason) → read_of record_size r ≡ x
        → ((st : State) (d e : List ℕ) → Agree st d e → entries us st d rs ≡ entries us st e rs)
        → entries us state b (r ∷ rs) ≡ entries us state c (r ∷ rs)
    by (Err reason) e rest =
        rw (is_skipped us state b r reason e, is_skipped us state c r reason e) (ap (λ (es : List Entry). Err reason ∷ es) (rest state b c agree))
    by (Ok n) e rest =
        let alike = step_agrees us state b c (cut_of n r) agree in
        let st = step_of us state b (cut_of n r) in
        let other = (step_of us state c (cut_of n r)).buffer in
        rw (is_run us state b r n e, is_run us state c r n e)
        (ap₂ (λ (e : Entry) (es : List Entry). e ∷ es)
        (ap (λ (a : Answer). Ok a.verdict) alike.0)
        (rest st.answer.state st.buffer other alike.2 ∙ ap (λ (a : Answer). entries us a.state other rs) alike.0))

pub any_buffer : AnyBuffer
any_buffer us b c rs long = agree_on us Fresh b c rs (long, refl)

no_lines : (us : ℕ) (player : Player) (buffer : List ℕ) → lines_left us player buffer [] ≡ []
unfolding stages lines_from
no_lines us player buffer = ap (λ (rs : List (List ℕ)). lines_from player.number (entries us player.state buffer rs)) (no_records [] refl)

pub any_chunks : AnyChunks
any_chunks us buffer log cs long chunked all =
    let h = session us starting buffer log cs in
    let none_left : lines_left us h.player h.buffer h.rest ≡ [] = ap (lines_left us h.player h.buffer) all ∙ no_lines us h.player h.buffer in
    sym (append-nil h.text)
    ∙ ap (λ (l : List ℕ). h.text ++ l) (sym none_left)
    ∙ nothing_lost us starting buffer log cs chunked
    ∙ ap (lines_from 0) (any_buffer us buffer cleared (records log) (long ∙ sym (length-replicate {A = ℕ} message_max 0)))

pub output_is : OutputIs
output_is file log = (
  (λ missing. ap (λ (r : Maybe ℕ). output_for r log) missing),
  (λ us buffer cs known long chunked all. any_chunks us buffer log cs long chunked all ∙ sym (ap (λ (r : Maybe ℕ). output_for r log) known)),
)

-- a list of five or more is no list of four, and any other is whole
pub five_bytes : FiveBytes
unfolding receiver_of
five_bytes [] = refl
five_bytes (a ∷ []) = refl
five_bytes (a ∷ b ∷ []) = refl
five_bytes (a ∷ b ∷ c ∷ []) = refl
five_bytes (a ∷ b ∷ c ∷ d ∷ []) = refl
five_bytes (a ∷ b ∷ c ∷ d ∷ e ∷ file) = sym (rw (ne_eqb (length (a ∷ b ∷ c ∷ d ∷ e ∷ file)) 4 (λ q. omega (arith, q))))
