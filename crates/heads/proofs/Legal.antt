-- Which places are legal, that they stay so, and 11: `legal_means`, `stays_legal`, `eleven_exactly`, `never_bad`.
-- Assumes nothing.
use Prim.Native.Nat.{ℕ, ◌≤◌}
use mathlib.Core.Bool.{true, false}
use mathlib.Core.Path.{◌≡◌, refl, sym, ap, ◌∙◌}
use mathlib.Core.List.{List, [], ◌∷◌}
use lib.Dec.{ltb}
use lib.ListN.{length, get_or, set, length-set, length-replicate}
use Rattle.le.proofs.Tests.{apart, never, either}
use Rattle.frame.specs.Framing.{All}
use Rattle.frame.specs.Layout.{message_max}
use Rattle.frame.specs.Reading.{data_of}
use Rattle.reassembly.specs.Step as One
use Rattle.reassembly.specs.Step.{lacks_data_def, exceeds}
use Rattle.reassembly.specs.declared.Reason.TheVariants.{BadState}
use Rattle.reassembly.specs.declared.State.{State}
use Rattle.reassembly.specs.declared.State.TheVariants.{Fresh}
use Rattle.heads.specs.Places.{place_count, buffer_min, part, is_of_def, legal}
use Rattle.heads.specs.Step.{crowded, step_of}
use Rattle.heads.specs.Run.{answers}
use Rattle.heads.specs.Statements.{LegalMeans, ElevenExactly, StaysLegal, NotBad, NeverBad}
use Rattle.heads.specs.declared.Reason.TheVariants.{Step}
use Rattle.heads.specs.declared.Verdict.TheVariants.{Refused}
use Rattle.heads.proofs.Seats.{of_same, each_consistent, consistent_each, consistent_set, one_place, one_each, distinct_set, legal_known, known_legal, fresh_legal, length_part, length_with_part}
use Rattle.heads.proofs.Answers.{bad_places}
use Rattle.heads.proofs.Calls.{Call, bad, unread, crowds, misses, sits, call, place_fits, step_keeps, placed_refused, stays_of}

pub legal_means : LegalMeans
legal_means ps room = (
  (λ ok. let known = legal_known ps room ok in
      record { room_enough = known.room_enough; each = each_consistent ps known.places_consistent; one_each = one_place ps known.all_distinct }),
  (λ orderly. known_legal ps room
      (record { room_enough = orderly.room_enough; places_consistent = consistent_each ps orderly.each; all_distinct = one_each ps orderly.one_each })),
)

pub stays_legal : StaysLegal
stays_legal us ps b f len = by (call us ps b f)
  where
    by : Call us ps b f
        → (buffer_min ≤ length b → legal (step_of us ps b f).places (length b) ≡ true)
        × (length (step_of us ps b f).places ≡ place_count)
        × (length (step_of us ps b f).buffer ≡ length b)
    by (bad illegal is) = rw is ((λ enough. fresh_legal (length ps) (length b) enough), length-replicate (length ps) _ ∙ len, refl)
    by (unread ok reason read is) = rw is ((λ enough. ok), len, refl)
    by (crowds ok h read first none is) = rw is ((λ enough. ok), len, refl)
    by (misses ok h read later none is) = rw is ((λ enough. ok), len, refl)
    by (sits ok h read k state qs seat is) =
        let s = h.words.sender in
        let st = One.step_of us state (part k b) f in
        let after = st.answer.state in
        let fits = place_fits ps k (length b) len ok seat.inside in
        let keeps = step_keeps us state (part k b) f (length_part k b fits) seat.state_ok in
        let of = stays_of us (part k b) f h s read refl state seat.state_of in
        let differ = distinct_set qs k after seat.places_apart (λ t j a own. seat.only j (ap (λ (x : ℕ). is_of_def x (get_or qs j Fresh)) (of_same s t after of a) ∙ own)) in
        rw is (
          (λ enough. known_legal (set qs k after) (length b) (record { room_enough = enough; places_consistent = consistent_set qs k after seat.places_ok keeps.1; all_distinct = differ })),
          length-set qs k after ∙ seat.as_many ∙ len,
          length_with_part k b fits st.buffer keeps.2,
        )

-- so from legal places a call leads to legal places
pub still_legal : (us : ℕ) (ps : List State) (b f : List ℕ) → length ps ≡ place_count → legal ps (length b) ≡ true
    → (length (step_of us ps b f).places ≡ place_count) × (legal (step_of us ps b f).places (length (step_of us ps b f).buffer) ≡ true)
still_legal us ps b f len ok =
    let after = stays_legal us ps b f len in
    (after.1, rw after.2 (after.0 (legal_known ps (length b) ok).room_enough))

-- where no place is free, the refusal is not 11
pub crowded_not_bad : (size total : ℕ) → crowded size total ≡ Step BadState → ⊥
unfolding crowded
crowded_not_bad size total =
    either (λ r. r ≡ Step BadState → ⊥) (ltb message_max total) (λ e. apart (cc))
    (either (λ r. r ≡ Step BadState → ⊥) (lacks_data_def size total) (λ e. apart (cc))
    (either (λ r. r ≡ Step BadState → ⊥) (exceeds size total) (λ e. apart (cc)) (λ e. apart (cc))))

pub eleven_exactly : ElevenExactly
eleven_exactly us ps b f len = (bad_places us ps b f, (λ q. by q (call us ps b f)))
  where
    by : (step_of us ps b f).verdict ≡ Refused (Step BadState) → Call us ps b f → legal ps (length b) ≡ false
    by q (bad illegal is) = illegal
    by q (unread ok reason read is) = apart (let said = rw is at q in cc)
    by q (crowds ok h read first none is) = let said = rw is at q in absurd (crowded_not_bad (length (data_of f)) h.words.total (cc))
    by q (misses ok h read later none is) = apart (let said = rw is at q in cc)
    by q (sits ok h read k state qs seat is) =
        let fits = place_fits ps k (length b) len ok seat.inside in
        let said = placed_refused k (One.step_of us state (part k b) f).answer.verdict (Step BadState) (rw is at q) in
        absurd ((step_keeps us state (part k b) f (length_part k b fits) seat.state_ok).0 (cc))

-- from legal places on no call answers 11
all_good : (us : ℕ) (ps : List State) (b : List ℕ) (fs : List (List ℕ)) → length ps ≡ place_count → legal ps (length b) ≡ true → All NotBad (answers us ps b fs)
unfolding answers
all_good us ps b [] len ok = tt
all_good us ps b (f ∷ fs) len ok =
    let after = still_legal us ps b f len ok in
    ((λ q. never (sym ok ∙ (eleven_exactly us ps b f len).1 q)), all_good us (step_of us ps b f).places (step_of us ps b f).buffer fs after.0 after.1)

pub never_bad : NeverBad
never_bad us b fs enough = all_good us _ b fs refl (fresh_legal place_count (length b) enough)
