-- The laws of the frame count.
--     count_empty      an empty message is one frame
--     last_starts      the frames below the count start inside a message that is not empty
--     starts_within    the frames below the count start inside the message, or at its end where it is empty
--     index_small      so their Index is at most the message's length
--     count_covers     the pieces reach the message's end
--     ceil_rounded     the count as the library's method rounds it up
--     counted_legal    where there is a count, the length and the piece size are legal, and the count is theirs
-- Assumes nothing.
use Prim.Native.Nat.{ℕ, zero, suc, ◌+◌, ◌-◌, ◌*◌, ◌/◌, ◌≤◌, ◌<◌}
use mathlib.Core.Bool.{Bool, true, false, cond, ◌||◌}
use mathlib.Core.Path.{◌≡◌, refl, sym, ap, ◌∙◌}
use borrow.Author.Tests.{ne_eqb, ltb-false, eqb-false}
use native.Mathlib.Nat.{suc-mul, mul-one, zero-mul, le-div_iff_mul-le, lt-div-mul-add, mul-le-mul_left}
use native.Mathlib.Omega.{arith}
use Rattle.std.specs.Prelude.{Ok, Err}
use Rattle.std.specs.Int.{div_ceil}
use Rattle.std.proofs.lemmas.Grind.{div_ceil_times}
use Rattle.std.proofs.lemmas.Nat.{div-mul-add}
use lib.Dec.{ltb, eqb}
use Rattle.frame.specs.Layout.{piece_max, message_max}
use Rattle.frame.specs.Writing.{rounded_up, count_of, counted}
use Rattle.frame.specs.declared.write.Reason.{Reason}
use Rattle.frame.specs.declared.write.Reason.TheVariants.{MessageLong, PieceSize}

pub count_empty : (size : ℕ) → count_of 0 size ≡ 1
unfolding count_of
count_empty size = refl

pub count_more : (n size : ℕ) → 0 < n → count_of n size ≡ rounded_up n size
unfolding count_of
count_more n size h = rw (ne_eqb n 0 (λ e. omega arith))

pub last_starts : (n size index : ℕ) → 0 < size → 0 < n → index < count_of n size → index * size < n
last_starts n size index s h i =
    let below : index < rounded_up n size = rw (count_more n size h) at i in
    omega (arith, suc-mul index size, (le-div_iff_mul-le s).0 below)

pub starts_within : (n size index : ℕ) → 0 < size → index < count_of n size → index * size ≤ n
starts_within zero size index s i =
    let none : index < 1 = rw (count_empty size) at i in
    let is-zero : index ≡ 0 = omega arith in
    rw (is-zero, zero-mul) (omega arith)
starts_within (suc n) size index s i = omega (arith, last_starts (suc n) size index s (omega arith) i)

pub index_small : (n size index : ℕ) → 0 < size → index < count_of n size → index ≤ n
index_small n size index s i = omega (arith, starts_within n size index s i, mul-le-mul_left index s, mul-one index)

pub count_covers : (n size : ℕ) → 0 < size → n ≤ count_of n size * size
count_covers zero size s = omega arith
count_covers (suc n) size s = rw (count_more (suc n) size (omega arith)) (omega (arith, lt-div-mul-add {a = suc n + (size - 1)} s))

-- as the library rounds up
pub ceil_rounded : (n size : ℕ) → 0 < size → div_ceil n size ≡ rounded_up n size
ceil_rounded n size h =
    let m = div_ceil n size in
    let over = div_ceil_times n size h in
    let left = n + (size - 1) - m * size in
    let whole : n + (size - 1) ≡ m * size + left = omega (arith, over.0, over.1) in
    sym (div-mul-add m size left (omega (arith, over.0, over.1))) ∙ ap (λ (k : ℕ). k / size) (sym whole)

-- a legal length and piece size, and the count that is theirs
pub record Legal (n size frames : ℕ) : Type 0 where
  pub message : n ≤ message_max
  pub some : 0 < size
  pub piece : size ≤ piece_max
  pub count : frames ≡ count_of n size

pub refusal_no_count : {A : Type 0} {reason : Reason} {frames : ℕ} → Err reason ≡ Ok frames → A
refusal_no_count q = let z : ◌≡◌ {A = ℕ} 0 1 = cc in absurd (omega arith)

pub counted_legal : (n size frames : ℕ) → counted n size ≡ Ok frames → Legal n size frames
unfolding counted
counted_legal n size frames e = go (ltb message_max n) (eqb size 0) (ltb piece_max size) refl refl refl e
  where
    go : (long none large : Bool) → ltb message_max n ≡ long → eqb size 0 ≡ none → ltb piece_max size ≡ large
        → cond long (Err MessageLong) (cond (none || large) (Err PieceSize) (Ok (count_of n size))) ≡ Ok frames
        → Legal n size frames
    go true none large l s b q = refusal_no_count q
    go false true large l s b q = refusal_no_count q
    go false false true l s b q = refusal_no_count q
    go false false false l s b q =
        let not_zero = eqb-false size 0 s in
        record { message = ltb-false message_max n l; some = omega arith; piece = ltb-false piece_max size b; count = cc }
