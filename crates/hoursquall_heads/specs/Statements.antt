-- What is proved of the block that C keeps of several senders. The proofs are in `proofs/Theorems.antt`, under the names given here.
-- Assumes nothing.
use Rattle.std.specs.Prelude.{ℕ, ◌*◌, ◌≤◌, cond, ◌≡◌, List, [], ◌∷◌, map, eqb, length, take, drop, replicate}
use Rattle.std.proofs.Math.Option.{Option, none, some}
use Rattle.le.specs.Word.{AreBytes}
use Rattle.frame.specs.Framing.{All}
use Rattle.frame.specs.Layout.{words_at}
use Rattle.frame.specs.declared.Header.{Header}
use Rattle.frame.specs.declared.read.Parsed.TheVariants as Parsed
use Rattle.frame.specs.Reading.{parsed}
use Rattle.reassembly.specs.Run.{HandedUp, messages}
use Rattle.reassembly.specs.Traffic.{Traffic, LegalTraffic, calls, arrived, expected}
use Rattle.heads.specs.Places.{place_size, buffer_min, all_fresh, without}
use Rattle.heads.specs.Step.{Stepped}
use Rattle.heads.specs.Numbers.{number_count, places_in, numbers_of}
use Rattle.heads.specs.Run.{answers, up_by, kept_answers}
use Rattle.heads.specs.Statements.{is_for, frames_for}
use Rattle.hoursquall_heads.specs.Heads.{verdict_number, Lent, lending, stepped, answered, left}

-- `zeros_fresh`. A zeroed block is eight fresh places.
abbrev pub ZerosFresh : Type 0
ZerosFresh = places_in (replicate number_count 0) ≡ all_fresh

-- `places_cross`. The block that a call leaves reads as the places after it. That the frame is a list of bytes is what each `&[u8]` is.
abbrev pub PlacesCross : Type 0
PlacesCross =
    (us : ℕ) (lent : Lent) (frame : List ℕ)
    → AreBytes frame
    → places_in (left us lent frame).places ≡ (stepped us lent frame).places

-- what C hands up after an answer: with 100 the carried words, and as many bytes as the total says from the start of the place that is named; else nothing
abbrev pub up_in_c : ℕ → List ℕ → ℕ → List ℕ → Option HandedUp
up_in_c number words place buffer =
    cond (eqb number 100)
    (some (record { words = words_at 0 words; length = (words_at 0 words).total; bytes = take (words_at 0 words).total (drop (place_size * place) buffer) }))
    none

-- one call: its frame, and what is lent to it for the words and the place, which the caller may lend anew each time
pub record Call : Type 0 where
  pub frame : List ℕ
  pub words : List ℕ
  pub place : ℕ

abbrev pub frames_of : List Call → List (List ℕ)
frames_of cs = map (λ c. c.frame) cs

abbrev pub lent_to : Call → List ℕ → List ℕ → Lent
lent_to c places buffer = lending places buffer c.words c.place

-- what C sees of a call: the number that it answers, and what it hands up
pub record Told : Type 0 where
  pub number : ℕ
  pub up : Option HandedUp

abbrev pub told_by : ℕ → Lent → List ℕ → Told
told_by us lent frame =
    record {
      number = answered us lent frame;
      up = up_in_c (answered us lent frame) (left us lent frame).words (left us lent frame).place (left us lent frame).buffer;
    }

-- the calls of a list, each with the block and the buffer as the last one left them
unfoldable pub run_in_c : ℕ → List ℕ → List ℕ → List Call → List Told
run_in_c us places buffer [] = []
run_in_c us places buffer (c ∷ cs) =
    told_by us (lent_to c places buffer) c.frame
    ∷ run_in_c us (left us (lent_to c places buffer) c.frame).places (left us (lent_to c places buffer) c.frame).buffer cs

-- the same of a call over places
abbrev pub tell_of : Stepped → Told
tell_of st = record { number = verdict_number st.verdict; up = up_by st }

-- `run_crosses`. From any block, and for any frames, such a run tells what the run from the places that the block is answers and hands up: what is proved of the numbers and messages of such runs in `heads` holds in C.
abbrev pub RunCrosses : Type 0
RunCrosses =
    (us : ℕ) (places buffer : List ℕ) (cs : List Call)
    → All AreBytes (frames_of cs)
    → run_in_c us places buffer cs ≡ map tell_of (answers us (places_in places) buffer (frames_of cs))

-- what C sees of the frames that are not another sender's
abbrev pub told_for : ℕ → ℕ → List ℕ → List ℕ → List Call → List Told
told_for us s places buffer cs = kept_answers (is_for us s) (frames_of cs) (run_in_c us places buffer cs)

-- the calls of C over any frames of which those that are not another sender's are those of legal traffic: "from a fresh start", with a zeroed block and a buffer of 32,768 bytes or more, whatever stands in it
-- and, at each call, in the words and the place
pub record Calling (us s : ℕ) (buffer : List ℕ) (traffic : Traffic) (cs : List Call) : Type 0 where
  pub room_enough : buffer_min ≤ length buffer
  pub legal : LegalTraffic us place_size traffic
  pub bytes : All AreBytes (frames_of cs)
  pub frames_are : frames_for us s (frames_of cs) ≡ calls us traffic

-- `demand_3_each_exported`. Demand 3 for each sender as C sees it: where none of its calls answers 15, what is handed up for it by 100, the five words, the place and the buffer is, call by call, what demand 3 gives.
abbrev pub Demand3EachExported : Type 0
Demand3EachExported =
    (us s : ℕ) (buffer : List ℕ) (traffic : Traffic) (cs : List Call)
    → Calling us s buffer traffic cs
    → All (λ t. t.number ≡ 15 → ⊥) (told_for us s (replicate number_count 0) buffer cs)
    → map (λ t. t.up) (told_for us s (replicate number_count 0) buffer cs) ≡ expected traffic

-- `exactly_these_each_exported`. So each sender's messages that are handed up in C are, in order, those all of whose frames arrive, as sent.
abbrev pub ExactlyTheseEachExported : Type 0
ExactlyTheseEachExported =
    (us s : ℕ) (buffer : List ℕ) (traffic : Traffic) (cs : List Call)
    → Calling us s buffer traffic cs
    → All (λ t. t.number ≡ 15 → ⊥) (told_for us s (replicate number_count 0) buffer cs)
    → messages (map (λ t. t.up) (told_for us s (replicate number_count 0) buffer cs)) ≡ arrived traffic.sent

-- `refusal_leaves_lent`. A refusal with 1 to 5 or 15 leaves all that was lent as it was; one with 5 to 10 drops what the frame's sender has open, and one with 11 leaves a zeroed block; no refusal
-- changes the buffer, the words or the place. That the block has 64 numbers is what its array has.
abbrev pub RefusalLeavesLent : Type 0
RefusalLeavesLent =
    (us : ℕ) (lent : Lent) (frame : List ℕ)
    → length lent.places ≡ number_count
    → (1 ≤ answered us lent frame → answered us lent frame ≤ 5 → left us lent frame ≡ lent)
    × (answered us lent frame ≡ 15 → left us lent frame ≡ lent)
    × (answered us lent frame ≡ 11 → left us lent frame ≡ lending (replicate number_count 0) lent.buffer lent.words lent.place)
    × ((h : Header) → parsed us frame ≡ Parsed.Header h → 5 ≤ answered us lent frame → answered us lent frame ≤ 10
    → left us lent frame ≡ lending (numbers_of (without h.words.sender (places_in lent.places))) lent.buffer lent.words lent.place)
