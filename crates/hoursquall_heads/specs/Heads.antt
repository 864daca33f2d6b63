-- The answers of the crate `heads` as numbers.
-- Assumes nothing.
use Rattle.std.specs.Prelude.{ℕ, List}
use Rattle.frame.specs.Layout.{words_of}
use Rattle.heads.specs.Numbers.{places_in, numbers_of}
use Rattle.heads.specs.Step.{number_of, Stepped, step_of}
use Rattle.heads.specs.declared.Verdict.{Verdict}
use Rattle.heads.specs.declared.Verdict.TheVariants.{More, Delivered, Refused}

-- 0: more is wanted; 100: a message is delivered; else the number of the refusal
abbrev pub verdict_number : Verdict → ℕ
verdict_number More = 0
verdict_number (Delivered w n k) = 100
verdict_number (Refused reason) = number_of reason

-- the carried words and the place of a message that is delivered
abbrev pub words_after : Verdict → List ℕ → List ℕ
words_after More before = before
words_after (Delivered w n k) before = words_of w
words_after (Refused reason) before = before

abbrev pub place_after : Verdict → ℕ → ℕ
place_after More before = before
place_after (Delivered w n k) before = k
place_after (Refused reason) before = before

-- what a caller of `hs_heads_step` lends to each call: the block of the places, the buffer, and where the carried words and the place of a delivery go
pub record Lent : Type 0 where
  pub places : List ℕ
  pub buffer : List ℕ
  pub words : List ℕ
  pub place : ℕ

abbrev pub lending : List ℕ → List ℕ → List ℕ → ℕ → Lent
lending places buffer words place = record { places = places; buffer = buffer; words = words; place = place }

-- the step that the call takes
abbrev pub stepped : ℕ → Lent → List ℕ → Stepped
stepped us lent frame = step_of us (places_in lent.places) lent.buffer frame

-- what the call answers, and what it leaves
abbrev pub answered : ℕ → Lent → List ℕ → ℕ
answered us lent frame = verdict_number (stepped us lent frame).verdict

abbrev pub left : ℕ → Lent → List ℕ → Lent
left us lent frame =
    record {
      places = numbers_of (stepped us lent frame).places;
      buffer = (stepped us lent frame).buffer;
      words = words_after (stepped us lent frame).verdict lent.words;
      place = place_after (stepped us lent frame).verdict lent.place;
    }
