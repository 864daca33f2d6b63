-- The laws of the writer.
--     length_header, length_frame     how long a header and a frame are
--     refused, no_frame, one_frame    the writer's answers: as the count refuses, past the count, and below it
--     wrote                           what is known where the answer is a frame
-- Assumes nothing.
use Prim.Native.Nat.{ℕ, ◌+◌, ◌≤◌, ◌<◌}
use mathlib.Core.Bool.{Bool, true, false, cond}
use mathlib.Core.Path.{◌≡◌, refl, sym, ◌∙◌}
use mathlib.Core.List.{List}
use borrow.Author.Tests.{leb-true, leb-false, ltb-false, le-leb, lt-leb}
use Rattle.std.specs.Prelude.{Result, Ok, Err}
use lib.Dec.{ltb, leb}
use lib.ListN.{length, length-append}
use Rattle.le.specs.Word.{bytes}
use Rattle.frame.specs.Layout.{header_size, message_max, header_bytes, frame_of}
use Rattle.frame.specs.Writing.{bad_size, count_of, counted, frame_at, written}
use Rattle.frame.specs.Helpers.{lay_answer}
use Rattle.frame.specs.declared.Envelope.{Envelope}
use Rattle.frame.specs.declared.Header.{Header}
use Rattle.frame.specs.declared.write.Reason.{Reason}
use Rattle.frame.specs.declared.write.Reason.TheVariants.{MessageLong, PieceSize, NoFrame}
use Rattle.frame.proofs.Counting.{Legal, refusal_no_count, counted_legal, starts_within}

pub length_header : (h : Header) → length (header_bytes h) ≡ header_size
unfolding header_bytes bytes
length_header h = refl

pub length_frame : (h : Header) (p : List ℕ) → length (frame_of h p) ≡ header_size + length p
length_frame h p = rw (length-append (header_bytes h) p, length_header h)

-- what is known of a frame of n bytes that was written
pub record Wrote (e : Envelope) (m : List ℕ) (size index : ℕ) (out : List ℕ) (n : ℕ) : Type 0 where
  pub frames : ℕ
  pub legal : Legal (length m) size frames
  pub below : index < frames
  pub inside : length (frame_at e m size index) ≤ length out
  pub length_is : length (frame_at e m size index) ≡ n

-- what the writer answers, once the count has
abbrev after_count : Result ℕ Reason → Result ℕ Reason → Result ℕ Reason
after_count (Err reason) next = Err reason
after_count (Ok frames) next = next

module _ (e : Envelope) (m : List ℕ) (size index : ℕ) (out : List ℕ) where
  by_count : written e m size index out
      ≡ after_count (counted (length m) size) (cond (leb (count_of (length m) size) index) (Err NoFrame) (lay_answer (frame_at e m size index) out))
  unfolding written counted
  by_count = go (ltb message_max (length m)) (bad_size size) _
    where
      go : (long bad : Bool) (next : Result ℕ Reason)
          → cond long (Err MessageLong) (cond bad (Err PieceSize) next)
          ≡ after_count (cond long (Err MessageLong) (cond bad (Err PieceSize) (Ok (count_of (length m) size)))) next
      go true bad next = refl
      go false true next = refl
      go false false next = refl

  pub refused : (reason : Reason) → counted (length m) size ≡ Err reason → written e m size index out ≡ Err reason
  refused reason q = rw (by_count, q)

  pub no_frame : (frames : ℕ) → counted (length m) size ≡ Ok frames → frames ≤ index → written e m size index out ≡ Err NoFrame
  no_frame frames q h = rw (by_count, q, ← (counted_legal (length m) size frames q).count, le-leb frames index h)

  pub one_frame : (frames : ℕ) → counted (length m) size ≡ Ok frames → index < frames → written e m size index out ≡ lay_answer (frame_at e m size index) out
  one_frame frames q h = rw (by_count, q, ← (counted_legal (length m) size frames q).count, lt-leb frames index h)

  pub wrote : (n : ℕ) → written e m size index out ≡ Ok n → Wrote e m size index out n
  wrote n answer = counting (counted (length m) size) refl
    where
      laying : (frames : ℕ) → counted (length m) size ≡ Ok frames → index < frames
          → (short : Bool) → ltb (length out) (length (frame_at e m size index)) ≡ short → Wrote e m size index out n
      laying frames q below true short-is = refusal_no_count (sym (rw short-is at (one_frame frames q below)) ∙ answer)
      laying frames q below false short-is =
          record {
            frames = frames;
            legal = counted_legal (length m) size frames q;
            below = below;
            inside = ltb-false (length out) (length (frame_at e m size index)) short-is;
            length_is = cc (rw short-is at (one_frame frames q below));
          }

      choosing : (frames : ℕ) → counted (length m) size ≡ Ok frames → (none : Bool) → leb frames index ≡ none → Wrote e m size index out n
      choosing frames q true none_is = refusal_no_count (sym (no_frame frames q (leb-true frames index none_is)) ∙ answer)
      choosing frames q false none_is = laying frames q (leb-false frames index none_is) _ refl

      counting : (c : Result ℕ Reason) → counted (length m) size ≡ c → Wrote e m size index out n
      counting (Err reason) q = refusal_no_count (sym (refused reason q) ∙ answer)
      counting (Ok frames) q = choosing frames q _ refl

-- what the writer's own goals want
pub ruleset writing = (counted_legal, starts_within, refused)
