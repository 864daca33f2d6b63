-- What one step can come to, from any state, on every buffer of a length: from this follow `stays_consistent`, `refusal_leaves`, `refused_other_words`,
-- `step_agrees`, and what the exported step leaves. And `other_words_refused`, by the laws of the step.
-- Assumes nothing.
use Prim.Native.Nat.{ℕ, suc, ◌+◌, ◌-◌, ◌≤◌, ◌<◌}
use mathlib.Core.Bool.{Bool, true, false}
use mathlib.Core.Path.{◌≡◌, refl, sym, subst, ap, ◌∙◌}
use mathlib.Core.List.{List, ◌++◌}
use native.Mathlib.Nat.{pos_of_ne-zero}
use native.Mathlib.Omega.{arith}
use borrow.Author.Tests.{ltb-true, ltb-false, eqb-true, eqb-false, eq-eqb, ne_eqb, le-leb, not-false}
use lib.Dec.{ltb, eqb}
use lib.ListN.{length, take}
use Rattle.le.proofs.Tests.{apart, never}
use Rattle.le.proofs.Comparing.{equal_same, other_list}
use Rattle.frame.specs.Layout.{message_max, words_of, words_at}
use Rattle.frame.specs.Reading as Reading
use Rattle.frame.specs.Reading.{parsed, data_of}
use Rattle.frame.specs.declared.Header.{Header}
use Rattle.frame.specs.declared.Words.{Words}
use Rattle.frame.specs.declared.read.Parsed.{Parsed}
use Rattle.frame.specs.declared.read.Reason.{Reason as ReadReason}
use Rattle.frame.specs.declared.read.Reason.TheVariants.{FrameShort, FrameLong, WrongType, OtherReceiver}
use Rattle.reassembly.specs.Step.{Stepped, number_of, consistent, same_words_def, state_after_def, refused, waiting, landed, delivered, wanting, lacks_data_def, is_next, is_first, accept, begin, proceed, routed, step_of}
use Rattle.reassembly.specs.Run.{up_by}
use Rattle.reassembly.specs.Statements.{NotBad, StaysConsistent, RefusalLeaves, WordsDiffer, OtherWordsRefused, RefusedOtherWords, Agree, StepAgrees}
use Rattle.reassembly.specs.declared.Progress.{Progress}
use Rattle.reassembly.specs.declared.State.{State}
use Rattle.reassembly.specs.declared.State.TheVariants.{Fresh, Open}
use Rattle.reassembly.specs.declared.Reason.{Reason}
use Rattle.reassembly.specs.declared.Reason.TheVariants.{Unread, NothingOpen, OutOfOrder, OtherWords, NoData, TooMuchData, MessageLong, BadState}
use Rattle.reassembly.specs.declared.Verdict.{Verdict}
use Rattle.reassembly.specs.declared.Verdict.TheVariants.{Refused}
use Rattle.reassembly.proofs.Answers.{fresh, by_room, consistent_open, lacking, excess, data_taken, whole, not_whole, over_limit, over_buffer, begins, none_open, other_index, other_words, goes_on, unread_frame, index_zero, index_more, bad_state, good_state}
use Rattle.reassembly.proofs.Steps.{length_landed, start_landed}

-- where the words, the Index and how many bytes are filled come from: a frame that begins a message, or what is open
pub data Source (us : ℕ) (f : List ℕ) : State → Words → ℕ → ℕ → Type 0 where
  begun : (s : State) (h : Header) → parsed us f ≡ Parsed.Header h → Source us f s h.words 0 0
  continued : (q : Progress) → Source us f (Open q) q.words q.next q.filled

-- the step on every buffer of that length
abbrev pub Steps : ℕ → State → ℕ → List ℕ → (List ℕ → Stepped) → Type 0
Steps us s room f g = (b : List ℕ) → length b ≡ room → step_of us s b f ≡ g b

-- what is told of a refusal's cause: with 7 that the carried words differ, with 11 that the state is neither fresh nor consistent
abbrev pub Cause : ℕ → State → ℕ → List ℕ → Reason → Type 0
Cause us s room f (Unread reason) = Unit {0}
Cause us s room f NothingOpen = Unit {0}
Cause us s room f OutOfOrder = Unit {0}
Cause us s room f OtherWords = WordsDiffer us s room f
Cause us s room f NoData = Unit {0}
Cause us s room f TooMuchData = Unit {0}
Cause us s room f MessageLong = Unit {0}
Cause us s room f BadState = consistent s room ≡ false

-- a refusal, with the cause of 7 and of 11; a message; or an open state that is consistent again
pub data Outcome (us : ℕ) (s : State) (room : ℕ) (f : List ℕ) : Type 0 where
  refuses : (reason : Reason) → Cause us s room f reason → Steps us s room f (refused reason s) → Outcome us s room f
  delivers : (w : Words) (i filled : ℕ) → Source us f s w i filled → filled + length (data_of f) ≡ w.total → w.total ≤ room
      → Steps us s room f (λ b. delivered w (landed filled (data_of f) b)) → Outcome us s room f
  wants : (w : Words) (i filled : ℕ) → Source us f s w i filled → filled + length (data_of f) ≤ room
      → consistent (waiting w (suc i) (filled + length (data_of f))) room ≡ true
      → Steps us s room f (λ b. wanting w i (filled + length (data_of f)) (landed filled (data_of f) b)) → Outcome us s room f

lacks_none : (n total : ℕ) → lacks_data_def n total ≡ false → n ≡ 0 → total ≡ 0
lacks_none n total h e = eqb-true total 0 (not-false (eqb total 0) (rw (eq-eqb n 0 e) at h))

module _ (us : ℕ) (s : State) (room : ℕ) (f : List ℕ) where
  abbrev p : List ℕ
  p = data_of f

  -- 8, 9, and data that is taken
  accepting : (w : Words) (i filled : ℕ) → Source us f s w i filled → i ≤ filled → filled ≤ w.total → w.total ≤ message_max → w.total ≤ room
      → Steps us s room f (accept w i filled p) → Outcome us s room f
  accepting w i filled source order part bounded held steps = by_data (lacks_data_def (length p) w.total) refl
    where
      by_end : lacks_data_def (length p) w.total ≡ false → length p ≤ w.total - filled → (all : Bool) → eqb (filled + length p) w.total ≡ all → Outcome us s room f
      by_end present fits true e =
          let h = eqb-true (filled + length p) w.total e in
          delivers w i filled source h held (λ b len. steps b len ∙ data_taken w i filled p b present fits ∙ whole w i (filled + length p) (landed filled p b) h)
      by_end present fits false e =
          let h = eqb-false (filled + length p) w.total e in
          let some-p : 0 < length p = pos_of_ne-zero (λ z. h (let none_at_all = lacks_none (length p) w.total present z in omega arith)) in
          let q : Progress = record { words = w; next = suc i; filled = filled + length p } in
          let again = by_room (Open q) q room refl (omega arith) (omega arith) (omega arith) bounded ∙ le-leb w.total room held in
          wants w i filled source (omega arith) again
          (λ b len. steps b len ∙ data_taken w i filled p b present fits ∙ not_whole w i (filled + length p) (landed filled p b) h)

      by_size : lacks_data_def (length p) w.total ≡ false → (much : Bool) → ltb (w.total - filled) (length p) ≡ much → Outcome us s room f
      by_size present true e =
          let h = ltb-true (w.total - filled) (length p) e in
          refuses TooMuchData tt (λ b len. steps b len ∙ excess w i filled p b present h)
      by_size present false e = by_end present (ltb-false (w.total - filled) (length p) e) _ refl

      by_data : (lacks : Bool) → lacks_data_def (length p) w.total ≡ lacks → Outcome us s room f
      by_data true e = refuses NoData tt (λ b len. steps b len ∙ lacking w i filled p b e)
      by_data false e = by_size e _ refl

  -- 10, and a message that begins
  beginning : (h : Header) → parsed us f ≡ Parsed.Header h → Steps us s room f (begin h.words p) → Outcome us s room f
  beginning h read steps = by_limit (ltb message_max total) refl
    where
      total : ℕ
      total = h.words.total

      by_buffer : total ≤ message_max → (long : Bool) → ltb room total ≡ long → Outcome us s room f
      by_buffer bounded true e =
          refuses MessageLong tt (λ b len. steps b len ∙ over_buffer h.words p b bounded (rw len (ltb-true room total e)))
      by_buffer bounded false e =
          let held = ltb-false room total e in
          accepting h.words 0 0 (begun s h read) (omega arith) (omega arith) bounded held (λ b len. steps b len ∙ begins h.words p b bounded (rw len held))

      by_limit : (long : Bool) → ltb message_max total ≡ long → Outcome us s room f
      by_limit true e = refuses MessageLong tt (λ b len. steps b len ∙ over_limit h.words p b (ltb-true message_max total e))
      by_limit false e = by_buffer (ltb-false message_max total e) _ refl

-- 5, 6, 7, and a message that goes on
proceeding : (us : ℕ) (s : State) (room : ℕ) (f : List ℕ) (h : Header) → parsed us f ≡ Parsed.Header h → consistent s room ≡ true
    → Steps us s room f (proceed h (data_of f) s) → Outcome us s room f
proceeding us Fresh room f h read ok steps = refuses NothingOpen tt (λ b len. steps b len ∙ none_open h (data_of f) Fresh b refl)
proceeding us (Open q) room f h read ok steps = by_index (is_next h q) refl
  where
    by_words : is_next h q ≡ true → (same : Bool) → same_words_def h.words q.words ≡ same → Outcome us (Open q) room f
    by_words i true e =
        let known = consistent_open q room ok in
        accepting us (Open q) room f q.words q.next q.filled (continued q) known.order (omega (arith, known.less)) known.bounded known.held
        (λ b len. steps b len ∙ goes_on h (data_of f) (Open q) b q refl i e)
    by_words i false e =
        let differ : h.words ≡ q.words → ⊥ = λ eq. never (sym (equal_same _ _ (ap words_of eq)) ∙ e) in
        let next = eqb-true h.index q.next i in
        refuses OtherWords
        (record { header = h; progress = q; reads = read; state_is = refl; is_consistent = ok; next = next; differ = differ })
        (λ b len. steps b len ∙ other_words h (data_of f) (Open q) b q refl i e)

    by_index : (next : Bool) → is_next h q ≡ next → Outcome us (Open q) room f
    by_index true e = by_words e _ refl
    by_index false e = refuses OutOfOrder tt (λ b len. steps b len ∙ other_index h (data_of f) (Open q) b q refl e)

pub outcome : (us : ℕ) (s : State) (room : ℕ) (f : List ℕ) → Outcome us s room f
outcome us s room f = by_state (consistent s room) refl
  where
    looked_at : consistent s room ≡ true → Steps us s room f (routed (parsed us f) (data_of f) s)
    looked_at ok b len = good_state (parsed us f) (data_of f) s b (rw len ok)

    by_index : consistent s room ≡ true → (h : Header) → parsed us f ≡ Parsed.Header h → (anew : Bool) → is_first h ≡ anew → Outcome us s room f
    by_index ok h q true e = beginning us s room f h q (λ b len. looked_at ok b len ∙ index_zero (parsed us f) (data_of f) s b h q e)
    by_index ok h q false e = proceeding us s room f h q ok (λ b len. looked_at ok b len ∙ index_more (parsed us f) (data_of f) s b h q e)

    by_header : consistent s room ≡ true → (r : Parsed) → parsed us f ≡ r → Outcome us s room f
    by_header ok (Parsed.Refused reason) q =
        refuses (Unread reason) tt (λ b len. looked_at ok b len ∙ unread_frame (parsed us f) (data_of f) s b reason q)
    by_header ok (Parsed.Header h) q = by_index ok h q _ refl

    by_state : (ok : Bool) → consistent s room ≡ ok → Outcome us s room f
    by_state true e = by_header e _ refl
    by_state false e = refuses BadState e (λ b len. bad_state (parsed us f) (data_of f) s b (rw len e))

-- a refusal's state is the state before or fresh
pub kept : (P : State → Type 0) → P Fresh → (reason : Reason) (s : State) → P s → P (state_after_def reason s)
kept P f (Unread reason) s h = h
kept P f NothingOpen s h = f
kept P f OutOfOrder s h = f
kept P f OtherWords s h = f
kept P f NoData s h = f
kept P f TooMuchData s h = f
kept P f MessageLong s h = f
kept P f BadState s h = f

pub stays_consistent : StaysConsistent
stays_consistent us s b f ok = by (outcome us s (length b) f)
  where
    by : Outcome us s (length b) f
        → NotBad (step_of us s b f).answer.verdict
        × (consistent (step_of us s b f).answer.state (length b) ≡ true)
        × (length (step_of us s b f).buffer ≡ length b)
    by (refuses reason cause steps) =
        let bad : reason ≡ BadState → consistent s (length b) ≡ false = λ q. subst (Cause us s (length b) f) q cause in
        rw (steps b refl) ((λ q. never (sym ok ∙ bad (cc))), kept (λ st. consistent st (length b) ≡ true) (fresh (length b)) reason s ok, refl)
    by (delivers w i filled source all held steps) =
        rw (steps b refl) ((λ q. apart (cc)), fresh (length b), length_landed filled (data_of f) b (omega arith))
    by (wants w i filled source room again steps) =
        rw (steps b refl) ((λ q. apart (cc)), again, length_landed filled (data_of f) b room)

-- the numbers of a frame that does not parse
pub small : (reason : ReadReason) → (1 ≤ Reading.number_of reason) × (Reading.number_of reason ≤ 4)
small FrameShort = (omega arith, omega arith)
small FrameLong = (omega arith, omega arith)
small WrongType = (omega arith, omega arith)
small OtherReceiver = (omega arith, omega arith)

column : (reason : Reason) (s : State) → (number_of reason ≤ 4 → state_after_def reason s ≡ s) × (5 ≤ number_of reason → state_after_def reason s ≡ Fresh)
column (Unread reason) s = ((λ h. refl), (λ h. absurd (omega (arith, (small reason).1))))
column NothingOpen s = ((λ h. absurd (omega arith)), (λ h. refl))
column OutOfOrder s = ((λ h. absurd (omega arith)), (λ h. refl))
column OtherWords s = ((λ h. absurd (omega arith)), (λ h. refl))
column NoData s = ((λ h. absurd (omega arith)), (λ h. refl))
column TooMuchData s = ((λ h. absurd (omega arith)), (λ h. refl))
column MessageLong s = ((λ h. absurd (omega arith)), (λ h. refl))
column BadState s = ((λ h. absurd (omega arith)), (λ h. refl))

pub refusal_leaves : RefusalLeaves
refusal_leaves us s b f reason q = by (outcome us s (length b) f)
  where
    by : Outcome us s (length b) f
        → (number_of reason ≤ 4 → (step_of us s b f).answer.state ≡ s)
        × (5 ≤ number_of reason → (step_of us s b f).answer.state ≡ Fresh)
        × ((step_of us s b f).buffer ≡ b)
    by (refuses r cause steps) =
        let said : ◌≡◌ {A = Verdict} (Refused r) (Refused reason) = rw (steps b refl) at q in
        let same : r ≡ reason = cc in
        rw (steps b refl, ← same) ((column r s).0, (column r s).1, refl)
    by (delivers w i filled source all held steps) = apart (let said : (delivered w b).answer.verdict ≡ Refused reason = rw (steps b refl) at q in cc)
    by (wants w i filled source room again steps) = apart (let said : (wanting w i 0 b).answer.verdict ≡ Refused reason = rw (steps b refl) at q in cc)

pub other_words_refused : OtherWordsRefused
other_words_refused us s b f d =
    let h = d.header in
    let q = d.progress in
    let known = consistent_open q (length b) (rw (← d.state_is) d.is_consistent) in
    let differ = other_list (words_of h.words) (words_of q.words) (λ e. d.differ (ap (words_at 0) e)) in
    good_state (parsed us f) (data_of f) s b d.is_consistent
    ∙ index_more (parsed us f) (data_of f) s b h d.reads (ne_eqb h.index 0 (λ z. omega (arith, known.positive, d.next)))
    ∙ other_words h (data_of f) s b q d.state_is (eq-eqb h.index q.next d.next) differ

pub refused_other_words : RefusedOtherWords
refused_other_words us s b f q = by (outcome us s (length b) f)
  where
    by : Outcome us s (length b) f → WordsDiffer us s (length b) f
    by (refuses reason cause steps) =
        let said : ◌≡◌ {A = Verdict} (Refused reason) (Refused OtherWords) = rw (steps b refl) at q in
        let same : reason ≡ OtherWords = cc in
        subst (Cause us s (length b) f) same cause
    by (delivers w i filled source all held steps) = apart (let said : (delivered w b).answer.verdict ≡ Refused OtherWords = rw (steps b refl) at q in cc)
    by (wants w i filled source room again steps) = apart (let said : (wanting w i 0 b).answer.verdict ≡ Refused OtherWords = rw (steps b refl) at q in cc)

-- what was filled before a frame's data was filled in both
from_source : (us : ℕ) (f : List ℕ) (s : State) (w : Words) (i filled : ℕ) → Source us f s w i filled → (b c : List ℕ) → Agree s b c → take filled b ≡ take filled c
from_source us f s w i filled (begun st h read) b c agree = refl
from_source us f s w i filled (continued q) b c agree = agree.1

pub step_agrees : StepAgrees
step_agrees us s b c f agree = by (outcome us s (length b) f)
  where
    -- over both what landed has the same length and starts with the same bytes
    landed_alike : (w : Words) (i filled : ℕ) → Source us f s w i filled → filled + length (data_of f) ≤ length b
        → (length (landed filled (data_of f) b) ≡ length (landed filled (data_of f) c))
        × (take (filled + length (data_of f)) (landed filled (data_of f) b) ≡ take (filled + length (data_of f)) (landed filled (data_of f) c))
    landed_alike w i filled source room =
        let room-c : filled + length (data_of f) ≤ length c = omega (arith, agree.0) in (
          length_landed filled (data_of f) b room ∙ agree.0 ∙ sym (length_landed filled (data_of f) c room-c),
          start_landed filled (data_of f) b room
              ∙ ap (λ (l : List ℕ). l ++ data_of f) (from_source us f s w i filled source b c agree)
              ∙ sym (start_landed filled (data_of f) c room-c),
        )

    by : Outcome us s (length b) f
        → ((step_of us s b f).answer ≡ (step_of us s c f).answer)
        × (up_by (step_of us s b f) ≡ up_by (step_of us s c f))
        × Agree (step_of us s b f).answer.state (step_of us s b f).buffer (step_of us s c f).buffer
    by (refuses reason cause steps) =
        rw (steps b refl, steps c (sym agree.0)) (refl, refl, kept (λ st. Agree st b c) (agree.0, refl) reason s agree)
    by (delivers w i filled source all held steps) =
        let alike = landed_alike w i filled source (omega arith) in
        let bytes-are : take w.total (landed filled (data_of f) b) ≡ take w.total (landed filled (data_of f) c) = rw (← all) alike.1 in
        rw (steps b refl, steps c (sym agree.0)) (refl, cc, (alike.0, refl))
    by (wants w i filled source room again steps) =
        rw (steps b refl, steps c (sym agree.0)) (refl, refl, landed_alike w i filled source room)
