-- The theorems that `specs/Statements.antt` states, and two laws of any frame of a framing.
--     header_read    a frame's header reads back
--     frame_read     so the receiver's reader answers with it
-- Assumes nothing.
use Prim.Native.Nat.{ℕ, zero, suc, ◌+◌, ◌*◌, ◌^◌, ◌≤◌, ◌<◌}
use mathlib.Core.Path.{◌≡◌, refl, sym, ap, ◌∙◌}
use mathlib.Core.List.{List, [], ◌∷◌, map, flatten}
use native.Mathlib.Nat.{suc-mul, zero-mul, add-suc, suc-add, add-zero, zero-add}
use native.Mathlib.Omega.{arith}
use lib.ListN.{length, take, drop, length-take, length-drop, take-append-drop, drop_of_length-le}
use lib.Seq.{take_at, drop_at, drop-drop, take-nil, drop-nil}
use borrow.Author.Tests.{le-ltb}
use Rattle.le.specs.Word.{word, bytes}
use Rattle.le.proofs.Words.{word_bytes}
use Rattle.frame.specs.Layout.{header_size, piece_max, type_version, header_bytes, header_of, header_for, frame_of}
use Rattle.frame.specs.Framing.{All, Piece, Cut, frames_from}
use Rattle.frame.specs.Reading.{parsed}
use Rattle.frame.specs.Writing.{count_of, piece_of, frame_at, output_after}
use Rattle.frame.specs.Statements.{Fits, count_up, pieces_of, ReadsBack, PiecesJoin, PiecesFull, WritesAFraming, WritesEach, WritesNoOther}
use Rattle.frame.specs.declared.Envelope.{Envelope}
use Rattle.frame.specs.declared.Header.{Header}
use Rattle.frame.specs.declared.read.Parsed.TheVariants as Parsed
use Rattle.frame.proofs.Reading as Reading
use Rattle.frame.proofs.Counting.{Legal, count_empty, last_starts, starts_within, index_small, count_covers, counted_legal}
use Rattle.frame.proofs.Writing.{length_header, length_frame, no_frame, one_frame, wrote}

module _ (e : Envelope) (fits : Fits e) (total index : ℕ) (total-fits : total < 2 ^ 32) (index-fits : index < 2 ^ 16) (p : List ℕ) where
  pub header_read : header_of (frame_of (header_for e total index) p) ≡ header_for e total index
  unfolding header_bytes bytes
  header_read =
      let f = frame_of (header_for e total index) p in
      λ i.
      record {
        index = word_bytes 2 index (drop 4 f) index-fits i;
        receiver = word_bytes 4 e.receiver (drop 16 f) fits.receiver i;
        words =
            record {
              sequence = word_bytes 1 e.sequence (drop 2 f) fits.sequence i;
              id = word_bytes 4 e.id (drop 8 f) fits.id i;
              sender = word_bytes 4 e.sender (drop 12 f) fits.sender i;
              status = word_bytes 4 e.status (drop 20 f) fits.status i;
              total = word_bytes 4 total p total-fits i;
            };
      }

  typed : word 1 (frame_of (header_for e total index) p) ≡ type_version
  unfolding word header_bytes bytes
  typed = refl

  pub frame_read : length p ≤ piece_max → parsed e.receiver (frame_of (header_for e total index) p) ≡ Parsed.Header (header_for e total index)
  frame_read small =
      let f = frame_of (header_for e total index) p in
      let long = length_frame (header_for e total index) p in
      let receiver = ap (λ (h : Header). h.receiver) header_read in
      sym (Reading.header e.receiver f (omega arith) (omega arith) typed receiver) ∙ ap Parsed.Header header_read

-- the pieces and the frames from Index i on, n of them
module _ (m : List ℕ) (size : ℕ) where
  pieces : ℕ → ℕ → List (List ℕ)
  pieces i n = map (λ j. piece_of size j m) (count_up i n)

  joined : (n i : ℕ) → length m ≤ (i + n) * size → flatten (pieces i n) ≡ drop (i * size) m
  unfolding flatten pieces
  joined zero i covered = sym (drop_of_length-le m {i = i * size} (rw add-zero at covered))
  joined (suc n) i covered =
      let rest = joined n (suc i) (rw (add-suc, ← suc-add) at covered) in
      rw (rest, suc-mul, ← drop-drop size (i * size) m) (take-append-drop size (drop (i * size) m))

  all_pieces : (n i : ℕ) → 0 < size → size ≤ piece_max → ((j : ℕ) → j < i + n → j * size < length m) → All Piece (pieces i n)
  unfolding pieces
  all_pieces zero i some bounded starts = tt
  all_pieces (suc n) i some bounded starts =
      let start = starts i (omega arith) in
      let rest = all_pieces n (suc i) some bounded (λ j h. starts j (omega arith)) in
      ((simp (length-take, length-drop) (omega arith), simp (length-take, length-drop) (omega arith)), rest)

  carried : (e : Envelope) (n i : ℕ) → map (frame_at e m size) (count_up i n) ≡ frames_from e (length m) i (pieces i n)
  unfolding frames_from pieces
  carried e zero i = refl
  carried e (suc n) i = ap (λ (fs : List (List ℕ)). frame_at e m size i ∷ fs) (carried e n (suc i))

pub pieces_join : PiecesJoin
unfolding pieces
pieces_join m size count q =
    let legal = counted_legal (length m) size count q in
    let covered : length m ≤ (0 + count) * size = rw (zero-add count, legal.count) (count_covers (length m) size legal.some) in
    rw zero-mul at (joined m size count 0 covered)

pub pieces_full : PiecesFull
pieces_full m size count index q below =
    let legal = counted_legal (length m) size count q in
    let next = starts_within (length m) size (suc index) legal.some (rw (← legal.count) below) in
    simp (length-take, length-drop) (omega (arith, suc-mul index size))

pub writes_a_framing : WritesAFraming
unfolding pieces
writes_a_framing e m size count q =
    record {
      pieces = pieces_of m size count;
      bounded = legal.message;
      cut = cut m legal.count;
      frames_are = carried m size e count 0;
    }
  where
    legal : Legal (length m) size count
    legal = counted_legal (length m) size count q

    cut : (m : List ℕ) → count ≡ count_of (length m) size → Cut m (pieces_of m size count)
    cut [] is = rw (is, count_empty size, drop-nil (0 * size), take-nil size)
    cut (b ∷ rest) is =
        let n = length (b ∷ rest) in
        let covered : n ≤ (0 + count) * size = rw (zero-add count, is) (count_covers n size legal.some) in (
          all_pieces (b ∷ rest) size count 0 legal.some legal.piece (λ j below. last_starts n size j legal.some (omega arith) (rw (zero-add, is) at below)),
          rw zero-mul at (joined (b ∷ rest) size count 0 covered),
        )

pub reads_back : ReadsBack
reads_back e m size index out n fits answer =
    let known = wrote e m size index out n answer in
    let legal = known.legal in
    let p = piece_of size index m in
    let h = header_for e (length m) index in
    let small : length p ≤ piece_max = simp length-take (omega arith) in
    let len = known.length_is in
    let long = length_frame h p in
    let index_is = index_small (length m) size index legal.some (rw (← legal.count) known.below) in
    let total-fits : length m < 2 ^ 32 = omega arith in
    let index-fits : index < 2 ^ 16 = omega arith in
    let whole : take n (output_after e m size index out) ≡ frame_of h p = rw (answer, take_at (frame_of h p) (drop n out) n len) in
    record {
      whole = whole;
      inside = omega (arith, known.inside);
      least = omega arith;
      most = omega arith;
      header = rw whole (frame_read e fits (length m) index total-fits index-fits p small);
      piece = rw (whole, drop_at (header_bytes h) p header_size (length_header h));
      behind = rw (answer, drop_at (frame_of h p) (drop n out) n len);
    }

pub writes_each : WritesEach
writes_each e m size count index out q below room =
    rw (one_frame e m size index out count q below, le-ltb (length out) (length (frame_at e m size index)) room)

pub writes_no_other : WritesNoOther
writes_no_other e m size count index out q past = no_frame e m size index out count q past
