-- What is proved of frames, beside each function's own contract. The proofs are in `proofs/Theorems.antt`, under the names given here.
-- Assumes nothing.
use Rattle.std.specs.Prelude.{ℕ, zero, suc, ◌^◌, ◌≤◌, ◌<◌, ◌≡◌, Ok, Err, length, take, drop}
use mathlib.Core.List.{List, [], ◌∷◌, map, flatten}
use Rattle.frame.specs.Layout.{header_size, frame_max, header_for}
use Rattle.frame.specs.Framing.{Framing}
use Rattle.frame.specs.Reading.{parsed, data_of}
use Rattle.frame.specs.Writing.{counted, piece_of, frame_at, written, output_after}
use Rattle.frame.specs.declared.Envelope.{Envelope}
use Rattle.frame.specs.declared.read.Parsed.TheVariants.{Header}
use Rattle.frame.specs.declared.write.Reason.TheVariants.{NoFrame}

-- the sequence number is a byte and the other words are of 32 bits, as each `u8` and each `u32` is
pub record Fits (e : Envelope) : Type 0 where
  pub sequence : e.sequence < 2 ^ 8
  pub id : e.id < 2 ^ 32
  pub sender : e.sender < 2 ^ 32
  pub status : e.status < 2 ^ 32
  pub receiver : e.receiver < 2 ^ 32

-- n, n + 1 and on, `more` of them
abbrev pub count_up : ℕ → ℕ → List ℕ
count_up n zero = []
count_up n (suc more) = n ∷ count_up (suc n) more

-- the pieces with Index 0 to count − 1
abbrev pub pieces_of : List ℕ → ℕ → ℕ → List (List ℕ)
pieces_of message size count = map (λ i. piece_of size i message) (count_up 0 count)

-- `reads_back`. Where the writer answers with a frame of n bytes, the output starts with the frame of that Index, which lies inside it; it is 24
-- to 256 bytes long; the receiver's reader answers with the header that was meant; its data is the piece of that Index; and no byte past it changed.
pub record Meant (e : Envelope) (message : List ℕ) (size index : ℕ) (out : List ℕ) (n : ℕ) : Type 0 where
  pub whole : take n (output_after e message size index out) ≡ frame_at e message size index
  pub inside : n ≤ length out
  pub least : header_size ≤ n
  pub most : n ≤ frame_max
  pub header : parsed e.receiver (take n (output_after e message size index out)) ≡ Header (header_for e (length message) index)
  pub piece : data_of (take n (output_after e message size index out)) ≡ piece_of size index message
  pub behind : drop n (output_after e message size index out) ≡ drop n out

abbrev pub ReadsBack : Type 0
ReadsBack =
    (e : Envelope) (message : List ℕ) (size index : ℕ) (out : List ℕ) (n : ℕ)
    → Fits e
    → written e message size index out ≡ Ok n
    → Meant e message size index out n

-- `pieces_join`. The pieces joined are the message.
abbrev pub PiecesJoin : Type 0
PiecesJoin =
    (message : List ℕ) (size count : ℕ)
    → counted (length message) size ≡ Ok count
    → flatten (pieces_of message size count) ≡ message

-- `pieces_full`. "All pieces but the last have the piece size."
abbrev pub PiecesFull : Type 0
PiecesFull =
    (message : List ℕ) (size count index : ℕ)
    → counted (length message) size ≡ Ok count
    → suc index < count
    → length (piece_of size index message) ≡ size

-- `writes_a_framing`. The frames with Index 0 to count − 1 are a framing of the message.
abbrev pub WritesAFraming : Type 0
WritesAFraming =
    (e : Envelope) (message : List ℕ) (size count : ℕ)
    → counted (length message) size ≡ Ok count
    → Framing e message (map (frame_at e message size) (count_up 0 count))

-- `writes_each`. Where the count is answered, each frame below it is written if the output holds it;
abbrev pub WritesEach : Type 0
WritesEach =
    (e : Envelope) (message : List ℕ) (size count index : ℕ) (out : List ℕ)
    → counted (length message) size ≡ Ok count
    → index < count
    → length (frame_at e message size index) ≤ length out
    → written e message size index out ≡ Ok (length (frame_at e message size index))

-- `writes_no_other`. and every other Index is refused with 13.
abbrev pub WritesNoOther : Type 0
WritesNoOther =
    (e : Envelope) (message : List ℕ) (size count index : ℕ) (out : List ℕ)
    → counted (length message) size ≡ Ok count
    → count ≤ index
    → written e message size index out ≡ Err NoFrame
