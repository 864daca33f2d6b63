-- Demand 3's traffic: "any list of messages for us .. framed by the rules and sent one after another", with frames taken out "except those with
-- Index 0", and frames put in "anywhere" of which a condition 1 to 4 holds. And the same with any frame taken out, where messages are told apart.
-- Assumes nothing.
use Rattle.std.specs.Prelude.{ℕ, suc, ◌≤◌, Bool, true, false, cond, not, ◌&&◌, ◌||◌, ◌≡◌, ltb, eqb, length}
use mathlib.Core.List.{List, [], ◌∷◌, ◌++◌, map, filter_map}
use Rattle.std.proofs.Math.Option.{Option, none, some}
use Rattle.le.specs.Word.{word}
use Rattle.frame.specs.Layout.{header_size, frame_max, message_max, type_version, header_of, header_for, frame_of}
use Rattle.frame.specs.Framing.{All, Cut}
use Rattle.frame.specs.Statements.{Fits}
use Rattle.frame.specs.declared.Envelope.{Envelope}
use Rattle.frame.specs.declared.Words.{Words}
use Rattle.reassembly.specs.Run.{HandedUp}

-- a message: the four words that are free, and its bytes
pub record Message : Type 0 where
  pub sequence : ℕ
  pub id : ℕ
  pub sender : ℕ
  pub status : ℕ
  pub bytes : List ℕ

-- one frame of a message: what was put in before it, its piece, and whether it arrives or is taken out
pub record Sent : Type 0 where
  pub before : List (List ℕ)
  pub piece : List ℕ
  pub arrives : Bool

-- a message with its frames
pub record Transmission : Type 0 where
  pub message : Message
  pub frames : List Sent

-- what is sent, and what was put in after the last frame
pub record Traffic : Type 0 where
  pub sent : List Transmission
  pub after : List (List ℕ)

-- "a frame may be put in if a condition 1 to 4 holds of it"
abbrev pub PutIn : ℕ → List ℕ → Type 0
PutIn us f =
    ltb (length f) header_size
    || (ltb frame_max (length f)
    || (not (eqb (word 1 f) type_version)
    || not (eqb (header_of f).receiver us)))
    ≡ true

abbrev pub envelope_for : ℕ → Message → Envelope
envelope_for us m = record { sequence = m.sequence; id = m.id; sender = m.sender; status = m.status; receiver = us }

-- a message "of at most 4,096 bytes and no longer than that buffer", its words no wider than a frame has them, "framed by the rules", and what was put in between
pub record Framed (us room : ℕ) (t : Transmission) : Type 0 where
  pub words : Fits (envelope_for us t.message)
  pub bounded : length t.message.bytes ≤ message_max
  pub fits : length t.message.bytes ≤ room
  pub cut : Cut t.message.bytes (map (λ s. s.piece) t.frames)
  pub put_in : All (λ s. All (PutIn us) s.before) t.frames

-- "Take out any frames except those with Index 0": the first arrives
abbrev pub FirstArrives : List Sent → Type 0
FirstArrives [] = ⊥
FirstArrives (s ∷ ss) = s.arrives ≡ true

pub record Legal (us room : ℕ) (t : Transmission) : Type 0 where
  pub framed : Framed us room t
  pub first_arrives : FirstArrives t.frames

pub record LegalTraffic (us room : ℕ) (t : Traffic) : Type 0 where
  pub all : All (Legal us room) t.sent
  pub put_in : All (PutIn us) t.after

-- the carried words of a message as it is sent
abbrev pub sent_words : Message → Words
sent_words m = record { sequence = m.sequence; id = m.id; sender = m.sender; status = m.status; total = length m.bytes }

abbrev pub FirstLost : List Sent → Type 0
FirstLost [] = ⊥
FirstLost (s ∷ ss) = s.arrives ≡ false

-- of the messages up to the next one whose Index 0 frame arrives, none has these words
abbrev pub Unlike : Words → List Transmission → Type 0
Unlike w [] = Unit {0}
Unlike w (t ∷ ts) = FirstLost t.frames → (w ≡ sent_words t.message → ⊥) × Unlike w ts

-- a message whose Index 0 frame is lost has other carried words than the last one whose Index 0 frame arrived
abbrev pub ToldApart : List Transmission → Type 0
ToldApart [] = Unit {0}
ToldApart (t ∷ ts) = (FirstArrives t.frames → Unlike (sent_words t.message) ts) × ToldApart ts

-- traffic of which any frame may be taken out
pub record ApartTraffic (us room : ℕ) (t : Traffic) : Type 0 where
  pub all : All (Framed us room) t.sent
  pub told_apart : ToldApart t.sent
  pub put_in : All (PutIn us) t.after

unfoldable pub calls_from : Envelope → ℕ → ℕ → List Sent → List (List ℕ)
calls_from e total index [] = []
calls_from e total index (s ∷ ss) =
    s.before
    ++ (cond s.arrives (frame_of (header_for e total index) s.piece ∷ []) []
    ++ calls_from e total (suc index) ss)

unfoldable pub calls_of : ℕ → List Transmission → List (List ℕ) → List (List ℕ)
calls_of us [] after = after
calls_of us (t ∷ ts) after = calls_from (envelope_for us t.message) (length t.message.bytes) 0 t.frames ++ calls_of us ts after

-- "the frames that now stand there"
abbrev pub calls : ℕ → Traffic → List (List ℕ)
calls us t = calls_of us t.sent t.after

unfoldable pub all_arrive : List Sent → Bool
all_arrive [] = true
all_arrive (s ∷ ss) = s.arrives && all_arrive ss

abbrev pub as_sent : Message → HandedUp
as_sent m = record { words = sent_words m; length = length m.bytes; bytes = m.bytes }

abbrev pub nothing : List (List ℕ) → List (Option HandedUp)
nothing frames = map (λ f. none) frames

-- at the last frame what the message gives, before it nothing
abbrev pub if_last : List Sent → Option HandedUp → Option HandedUp
if_last [] up = up
if_last (s ∷ ss) up = none

unfoldable pub expected_from : Option HandedUp → List Sent → List (Option HandedUp)
expected_from up [] = []
expected_from up (s ∷ ss) = nothing s.before ++ (cond s.arrives (if_last ss up ∷ []) [] ++ expected_from up ss)

-- a message that lost a frame gives nothing
abbrev pub gives : Transmission → Option HandedUp
gives t = cond (all_arrive t.frames) (some (as_sent t.message)) none

-- the messages all of whose frames arrive, in order, as sent
abbrev pub arrived : List Transmission → List HandedUp
arrived ts = filter_map gives ts

unfoldable pub expected_of : List Transmission → List (List ℕ) → List (Option HandedUp)
expected_of [] after = nothing after
expected_of (t ∷ ts) after = expected_from (gives t) t.frames ++ expected_of ts after

-- what is to be handed up, call by call: "exactly the messages that lost no frame, each once, in order, with bytes and carried words as sent", each
-- "with the call that gets its last frame", and nothing else
abbrev pub expected : Traffic → List (Option HandedUp)
expected t = expected_of t.sent t.after
