-- Document 01, "Frames": what a framing of a message is. Pieces may differ in length; the writer's are one framing among many.
-- Assumes nothing.
use Rattle.std.specs.Prelude.{ℕ, suc, ◌≤◌, ◌≡◌, length}
use mathlib.Core.List.{List, [], ◌∷◌, flatten}
use Rattle.frame.specs.Layout.{piece_max, message_max, header_for, frame_of}
use Rattle.frame.specs.declared.Envelope.{Envelope}

-- each element of a list is of the kind P
abbrev pub All : {A : Type 0} → (A → Type 0) → List A → Type 0
All P [] = Unit {0}
All P (x ∷ xs) = P x × All P xs

-- "each piece has at least one byte", and a frame carries at most 232
abbrev pub Piece : List ℕ → Type 0
Piece p = (1 ≤ length p) × (length p ≤ piece_max)

-- how a message is cut: "the pieces joined are the message"; "an empty message is one frame with Index 0 and no data"
abbrev pub Cut : List ℕ → List (List ℕ) → Type 0
Cut [] pieces = pieces ≡ [] ∷ []
Cut (b ∷ rest) pieces = All Piece pieces × (flatten pieces ≡ b ∷ rest)

-- the frames that carry the pieces, from this Index on: "every frame repeats the same words and Receiver ID"
unfoldable pub frames_from : Envelope → ℕ → ℕ → List (List ℕ) → List (List ℕ)
frames_from e total index [] = []
frames_from e total index (piece ∷ pieces) = frame_of (header_for e total index) piece ∷ frames_from e total (suc index) pieces

-- these frames are a framing of the message: "Index 0, 1, 2 and on", "and Data Total Size is the message's length"
pub record Framing (e : Envelope) (message : List ℕ) (frames : List (List ℕ)) : Type 0 where
  pub pieces : List (List ℕ)
  pub bounded : length message ≤ message_max
  pub cut : Cut message pieces
  pub frames_are : frames ≡ frames_from e (length message) 0 pieces
