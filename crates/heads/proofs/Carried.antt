-- What holds of the words that are open at each place holds after a call too, if it holds of the frame's. So places are narrow after frames of bytes, and are read again from the numbers that they are kept as.
-- Assumes nothing.
use Prim.Native.Nat.{ℕ, zero, suc, ◌+◌}
use mathlib.Core.Bool.{Bool, true, false, cond, not}
use mathlib.Core.Path.{◌≡◌, refl, sym, ap, ap₂, subst, ◌∙◌}
use mathlib.Core.List.{List, [], ◌∷◌, map}
use native.Mathlib.Omega.{arith}
use borrow.Author.Tests.{ltb-false}
use lib.Dec.{eqb, ltb}
use lib.ListN.{length, get_or, take, drop, set, replicate}
use lib.Seq.{set-set, get_or-drop}
use Rattle.le.specs.Compare.{same}
use Rattle.le.specs.Word.{word, AreBytes}
use Rattle.le.proofs.Tests.{either}
use Rattle.le.proofs.Words.{word_below}
use Rattle.frame.specs.Framing.{All}
use Rattle.frame.specs.Layout.{header_size, frame_max, type_version, header_of}
use Rattle.frame.specs.Reading.{parsed}
use Rattle.frame.specs.declared.Words.{Words}
use Rattle.frame.specs.declared.read.Parsed.{Parsed}
use Rattle.reassembly.specs.Step as One
use Rattle.reassembly.specs.Step.{is_first}
use Rattle.reassembly.specs.declared.Progress.{Progress}
use Rattle.reassembly.specs.declared.State.{State}
use Rattle.reassembly.specs.declared.State.TheVariants.{Fresh, Open}
use Rattle.reassembly.proofs.Outcome as Outcome
use Rattle.reassembly.proofs.Outcome.{Source, begun, continued, outcome}
use Rattle.heads.specs.Places.{place_count, part, place_of}
use Rattle.heads.specs.Step.{placed, step_of}
use Rattle.heads.specs.Numbers.{row_size, byte_max, row_of, no_state_def, state_in_def, rows, places_in, numbers_of}
use Rattle.heads.specs.declared.Verdict.{Verdict}
use Rattle.heads.specs.declared.Verdict.TheVariants.{More, Delivered, Refused}
use Rattle.heads.proofs.Calls.{Call, bad, unread, crowds, misses, sits, call}
use Rattle.heads.proofs.Rows.{progress_in, Narrow, row_back, numbers_first}

-- ---- what holds of the words

-- an open state with these words
abbrev pub opened : Words → State
opened w = Open (record { words = w; next = 0; filled = 0 })

-- what holds of what is fresh, and of an open state by its words alone
pub record ByWords (P : State → Type 0) : Type 0 where
  pub fresh_holds : P Fresh
  pub in_words : (q : Progress) → P (Open q) → P (opened q.words)
  pub from_words : (q : Progress) → P (opened q.words) → P (Open q)

-- and of the words of a frame, if it is read
abbrev pub ReadAs : (State → Type 0) → Parsed → Type 0
ReadAs P (Parsed.Header h) = P (opened h.words)
ReadAs P (Parsed.Refused reason) = Unit {0}

-- it holds of a delivery
abbrev pub DeliveredAs : (State → Type 0) → Verdict → Type 0
DeliveredAs P More = Unit {0}
DeliveredAs P (Delivered words n k) = P (opened words)
DeliveredAs P (Refused reason) = Unit {0}

-- of each place: at one of them, and with another put in
all_at : (P : State → Type 0) → P Fresh → (ps : List State) (k : ℕ) → All P ps → P (get_or ps k Fresh)
all_at P none [] k hold = none
all_at P none (p ∷ ps) zero hold = hold.0
all_at P none (p ∷ ps) (suc k) hold = all_at P none ps k hold.1

all_set : (P : State → Type 0) (ps : List State) (k : ℕ) (x : State) → All P ps → P x → All P (set ps k x)
all_set P [] k x hold here = tt
all_set P (p ∷ ps) zero x hold here = (here, hold.1)
all_set P (p ∷ ps) (suc k) x hold here = (hold.0, all_set P ps k x hold.1 here)

pub holds_of_fresh : (P : State → Type 0) → P Fresh → (n : ℕ) → All P (replicate n Fresh)
holds_of_fresh P none zero = tt
holds_of_fresh P none (suc n) = (none, holds_of_fresh P none n)

module _ (P : State → Type 0) (is : ByWords P) (us : ℕ) (f : List ℕ) (read : ReadAs P (parsed us f)) where
  from_source : (state : State) (w : Words) (i filled : ℕ) → Source us f state w i filled → P state → P (opened w)
  from_source state w i filled (begun st h r) holds = subst (ReadAs P) r read
  from_source state w i filled (continued q) holds = is.in_words q holds

  -- a step in a place
  place_carries : (k : ℕ) (state : State) (b : List ℕ) → P state
      → DeliveredAs P (placed k (One.step_of us state b f).answer.verdict) × P (One.step_of us state b f).answer.state
  place_carries k state b holds = by (outcome us state (length b) f)
    where
      by : Outcome.Outcome us state (length b) f → DeliveredAs P (placed k (One.step_of us state b f).answer.verdict) × P (One.step_of us state b f).answer.state
      by (Outcome.refuses reason cause steps) = rw (steps b refl) (tt, Outcome.kept P is.fresh_holds reason state holds)
      by (Outcome.delivers w i filled source all held steps) = rw (steps b refl) (from_source state w i filled source holds, is.fresh_holds)
      by (Outcome.wants w i filled source room again steps) = rw (steps b refl) (tt, is.from_words _ (from_source state w i filled source holds))

  pub carries : (ps : List State) (b : List ℕ) → All P ps → DeliveredAs P (step_of us ps b f).verdict × All P (step_of us ps b f).places
  carries ps b hold = by (call us ps b f)
    where
      by : Call us ps b f → DeliveredAs P (step_of us ps b f).verdict × All P (step_of us ps b f).places
      by (bad illegal e) = rw e (tt, holds_of_fresh P is.fresh_holds (length ps))
      by (unread ok reason r e) = rw e (tt, hold)
      by (crowds ok h r first none e) = rw e (tt, hold)
      by (misses ok h r later none e) = rw e (tt, hold)
      by (sits ok h r k state qs seat e) =
          let here = place_carries k state (part k b) (own (is_first h) refl) in
          let after = (One.step_of us state (part k b) f).answer.state in
          let dropped : All P (set qs k Fresh) = rw seat.cleared_is (all_set P ps (place_of h.words.sender ps) Fresh hold is.fresh_holds) in
          rw e (here.0, subst (All P) (set-set qs k Fresh after) (all_set P (set qs k Fresh) k after dropped here.1))
        where
          own : (t : Bool) → is_first h ≡ t → P state
          own true q = rw (seat.begins q).1 is.fresh_holds
          own false q = rw (seat.goes_on q).1 (all_at P is.fresh_holds ps (place_of h.words.sender ps) hold)

-- ---- sequence numbers of a byte

narrow_words : ByWords Narrow
narrow_words = record { fresh_holds = tt; in_words = λ q h. h; from_words = λ q h. h }

-- what a frame of bytes carries
read_narrow : (us : ℕ) (f : List ℕ) → AreBytes f → ReadAs Narrow (parsed us f)
unfolding parsed
read_narrow us f are =
    either (ReadAs Narrow) (ltb (length f) header_size) tt
    (either (ReadAs Narrow) (ltb frame_max (length f)) tt
    (either (ReadAs Narrow) (not (eqb (word 1 f) type_version)) tt
    (either (ReadAs Narrow) (not (eqb (header_of f).receiver us)) tt (omega (arith, word_below 1 (drop 1 f) (λ i. rw (get_or-drop 1 f i 0) (are (1 + i))))))))

pub step_narrow : (us : ℕ) (ps : List State) (b f : List ℕ) → AreBytes f → All Narrow ps → All Narrow (step_of us ps b f).places
step_narrow us ps b f are narrow = (carries Narrow narrow_words us f (read_narrow us f are) ps b narrow).1

-- what is read from numbers is narrow
row_narrow : (row : List ℕ) → Narrow (state_in_def row)
unfolding state_in_def
row_narrow row =
    either Narrow (eqb (get_or row 0 0) 0) (either Narrow (same row (row_of Fresh)) tt (omega arith))
    (either Narrow (not (eqb (get_or row 0 0) 1)) (omega arith) (by (ltb byte_max (get_or row 1 0)) refl))
  where
    by : (t : Bool) → ltb byte_max (get_or row 1 0) ≡ t → Narrow (cond t no_state_def (Open (progress_in row)))
    by true e = omega arith
    by false e = ltb-false byte_max (get_or row 1 0) e

rows_narrow : (n : ℕ) (numbers : List ℕ) → All Narrow (map state_in_def (rows n numbers))
unfolding rows
rows_narrow zero numbers = tt
rows_narrow (suc n) numbers = (row_narrow (take row_size numbers), rows_narrow n (drop row_size numbers))

pub places_narrow : (numbers : List ℕ) → All Narrow (places_in numbers)
places_narrow numbers = rows_narrow place_count numbers

-- places that are narrow are read again from the numbers that they are kept as
rows_back : (ps : List State) → All Narrow ps → map state_in_def (rows (length ps) (numbers_of ps)) ≡ ps
unfolding rows
rows_back [] narrow = refl
rows_back (p ∷ ps) narrow =
    let known = numbers_first p ps in
    ap₂ (λ (x y : List ℕ). state_in_def x ∷ map state_in_def (rows (length ps) y)) known.0 known.1 ∙ ap₂ ◌∷◌ (row_back p narrow.0) (rows_back ps narrow.1)

pub places_back : (ps : List State) → length ps ≡ place_count → All Narrow ps → places_in (numbers_of ps) ≡ ps
places_back ps eight narrow = ap (λ (n : ℕ). map state_in_def (rows n (numbers_of ps))) (sym eight) ∙ rows_back ps narrow
