-- The laws of one step: what `step_of` gives for a frame that was put in, for Index 0, and for any later Index.
-- Assumes nothing.
use Prim.Native.Nat.{ℕ, suc, ◌+◌, ◌≤◌, ◌<◌}
use mathlib.Core.Bool.{Bool, true, false, cond, not, ◌||◌}
use mathlib.Core.Path.{◌≡◌, refl, ap₂, ◌∙◌}
use mathlib.Core.List.{List, ◌++◌, append_assoc}
use borrow.Author.Tests.{eq-eqb, ne_eqb, eqb-true}
use native.Mathlib.Omega.{arith}
use lib.Dec.{eqb, ltb}
use lib.ListN.{length, take, drop, length-append, length-take, length-drop}
use lib.Seq.{take_at, drop_at}
use Rattle.le.specs.Word.{word}
use Rattle.le.proofs.Tests.{apart}
use Rattle.le.proofs.Comparing.{same_self}
use Rattle.frame.specs.Layout.{header_size, frame_max, piece_max, message_max, type_version, words_of, header_bytes, header_of, header_for, frame_of}
use Rattle.frame.specs.Reading.{parsed, data_of}
use Rattle.frame.specs.Statements.{Fits}
use Rattle.frame.specs.declared.Envelope.{Envelope}
use Rattle.frame.specs.declared.Header.{Header}
use Rattle.frame.specs.declared.Words.{Words}
use Rattle.frame.specs.declared.read.Parsed.{Parsed}
use Rattle.frame.specs.declared.read.Reason.{Reason}
use Rattle.frame.specs.declared.read.Reason.TheVariants.{FrameShort, FrameLong, WrongType, OtherReceiver}
use Rattle.frame.proofs.Writing.{length_header}
use Rattle.frame.proofs.Theorems.{frame_read}
use Rattle.reassembly.specs.Step.{consistent, same_words_def, refused, waiting, landed, taken, lacks_data_def, is_next, accept, proceed, routed, step_of}
use Rattle.reassembly.specs.Traffic.{PutIn}
use Rattle.reassembly.specs.declared.State.{State}
use Rattle.reassembly.specs.declared.State.TheVariants.{Fresh, Open}
use Rattle.reassembly.specs.declared.Reason as R
use Rattle.reassembly.specs.declared.Reason.TheVariants.{Unread, NothingOpen, OutOfOrder, OtherWords}
use Rattle.reassembly.specs.declared.Verdict.TheVariants.{Refused}
use Rattle.reassembly.proofs.Answers.{words_equal, data_taken, begins, none_open, other_index, other_words, goes_on, unread_frame, index_zero, index_more, good_state}

-- a frame of which a condition 1 to 4 holds does not parse, and of each that does not one holds
module _ (us : ℕ) (f : List ℕ) where
  abbrev by_tests : Bool → Bool → Bool → Bool → Parsed
  by_tests short long other-type other =
      cond short (Parsed.Refused FrameShort)
      (cond long (Parsed.Refused FrameLong)
      (cond other-type (Parsed.Refused WrongType)
      (cond other (Parsed.Refused OtherReceiver) (Parsed.Header (header_of f)))))

  pub unread : PutIn us f → (reason : Reason) × (parsed us f ≡ Parsed.Refused reason)
  unfolding parsed
  unread h = go (ltb (length f) header_size) (ltb frame_max (length f)) (not (eqb (word 1 f) type_version)) (not (eqb (header_of f).receiver us)) h
    where
      go : (short long other-type other : Bool) → short || (long || (other-type || other)) ≡ true
          → (reason : Reason) × (by_tests short long other-type other ≡ Parsed.Refused reason)
      go true long other-type other q = (FrameShort, refl)
      go false true other-type other q = (FrameLong, refl)
      go false false true other q = (WrongType, refl)
      go false false false true q = (OtherReceiver, refl)
      go false false false false q = apart (cc)

  pub unread_only : (reason : Reason) → parsed us f ≡ Parsed.Refused reason → PutIn us f
  unfolding parsed
  unread_only reason h = go (ltb (length f) header_size) (ltb frame_max (length f)) (not (eqb (word 1 f) type_version)) (not (eqb (header_of f).receiver us)) h
    where
      go : (short long other-type other : Bool) → by_tests short long other-type other ≡ Parsed.Refused reason → short || (long || (other-type || other)) ≡ true
      go true long other-type other q = refl
      go false true other-type other q = refl
      go false false true other q = refl
      go false false false true q = refl
      go false false false false q = apart (cc)

module _ (us : ℕ) (s : State) (b : List ℕ) (ok : consistent s (length b) ≡ true) where
  -- a frame that was put in changes nothing
  pub put_in : (f : List ℕ) → PutIn us f → (reason : Reason) × (step_of us s b f ≡ refused (Unread reason) s b)
  put_in f h =
      let r = unread us f h in
      (r.0, good_state (parsed us f) (data_of f) s b ok ∙ unread_frame (parsed us f) (data_of f) s b r.0 r.1)

  -- a frame of a message for us goes by its Index
  module _ (e : Envelope) (fits : Fits e) (ours : e.receiver ≡ us) (total : ℕ) (bounded : total ≤ message_max) (p : List ℕ) (small : length p ≤ piece_max) where
    read : (i : ℕ) → i ≤ message_max → step_of us s b (frame_of (header_for e total i) p) ≡ routed (Parsed.Header (header_for e total i)) p s b
    read i i-fits =
        let h = header_for e total i in
        let parses : parsed us (frame_of h p) ≡ Parsed.Header h = rw (← ours) (frame_read e fits total i (omega arith) (omega arith) p small) in
        let piece_of : data_of (frame_of h p) ≡ p = drop_at (header_bytes h) p header_size (length_header h) in
        good_state (parsed us (frame_of h p)) (data_of (frame_of h p)) s b ok ∙ ap₂ (λ (r : Parsed) (d : List ℕ). routed r d s b) parses piece_of

    pub first : total ≤ length b → step_of us s b (frame_of (header_for e total 0) p) ≡ accept (header_for e total 0).words 0 0 p b
    first room = let h = header_for e total 0 in read 0 (omega arith) ∙ index_zero _ p s b h refl refl ∙ begins h.words p b bounded room

    pub later : (i : ℕ) → suc i ≤ message_max
        → step_of us s b (frame_of (header_for e total (suc i)) p) ≡ proceed (header_for e total (suc i)) p s b
    later i i-fits = let h = header_for e total (suc i) in read (suc i) i-fits ∙ index_more _ p s b h refl (ne_eqb (suc i) 0 (λ z. omega arith))

-- the Index that comes next, with the same words, is accepted
pub in_order : (h : Header) (p b : List ℕ) (filled : ℕ) → proceed h p (waiting h.words h.index filled) b ≡ accept h.words h.index filled p b
in_order h p b filled =
    goes_on h p _ b (record { words = h.words; next = h.index; filled = filled }) refl (eq-eqb h.index h.index refl) (same_self (words_of h.words))

-- off the track of a message with these words, at Index i: nothing is open, or what is open has other words or waits for an Index below i
abbrev pub Off : Words → ℕ → State → Type 0
Off w i Fresh = Unit {0}
Off w i (Open p) = p.words ≡ w → p.next < i

-- there a frame with Index i is refused, and nothing is open after it
pub off_track : (h : Header) (p b : List ℕ) (s : State) → Off h.words h.index s
    → (reason : R.Reason) × (proceed h p s b ≡ record { answer = record { verdict = Refused reason; state = Fresh }; buffer = b })
off_track h p b Fresh off = (NothingOpen, none_open h p Fresh b refl)
off_track h p b (Open q) off = by_index (is_next h q) refl
  where
    Dropped : Type 0
    Dropped = (reason : R.Reason) × (proceed h p (Open q) b ≡ record { answer = record { verdict = Refused reason; state = Fresh }; buffer = b })

    by_words : is_next h q ≡ true → (same : Bool) → same_words_def h.words q.words ≡ same → Dropped
    by_words i true w =
        let behind = off (words_equal h.words q.words w) in
        absurd (omega (arith, eqb-true h.index q.next i))
    by_words i false w = (OtherWords, other_words h p (Open q) b q refl i w)

    by_index : (next : Bool) → is_next h q ≡ next → Dropped
    by_index true i = by_words i _ refl
    by_index false i = (OutOfOrder, other_index h p (Open q) b q refl i)

-- data that is there, and not more than is missing, is taken
pub fitting : (w : Words) (i filled : ℕ) (p b : List ℕ) → filled + length p ≤ w.total → (length p ≡ 0 → w.total ≡ 0)
    → accept w i filled p b ≡ taken w i (filled + length p) (landed filled p b)
fitting w i filled p b room some = data_taken w i filled p b (no_empty (eqb (length p) 0) refl) (omega arith)
  where
    no_empty : (none : Bool) → eqb (length p) 0 ≡ none → lacks_data_def (length p) w.total ≡ false
    no_empty true e = rw (e, eq-eqb w.total 0 (some (eqb-true (length p) 0 e)))
    no_empty false e = rw e

-- what landed: as much as before in all, and what stood before it with it at the start
pub length_landed : (filled : ℕ) (p b : List ℕ) → filled + length p ≤ length b → length (landed filled p b) ≡ length b
length_landed filled p b room = simp (length-append, length-take, length-drop) (omega arith)

pub start_landed : (filled : ℕ) (p b : List ℕ) → filled + length p ≤ length b → take (filled + length p) (landed filled p b) ≡ take filled b ++ p
start_landed filled p b room =
    rw (← append_assoc (take filled b) p (drop (filled + length p) b))
    (take_at (take filled b ++ p) (drop (filled + length p) b) (filled + length p) (simp (length-append, length-take) (omega arith)))
