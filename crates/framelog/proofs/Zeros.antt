-- Bytes are all zero where the words that they make are 0, and the bytes behind the words.
-- Assumes nothing.
use Prim.Native.Nat.{ℕ, zero, suc, ◌+◌, ◌*◌, ◌/◌, ◌^◌, ◌≤◌, ◌<◌}
use mathlib.Core.Bool.{Bool, true, ◌&&◌, and_assoc, and-true}
use mathlib.Core.Path.{◌≡◌, refl, sym, ap, ap₂, ◌∙◌}
use mathlib.Core.List.{List, [], ◌∷◌, ◌++◌}
use borrow.Author.Tests.{ne_eqb}
use native.Mathlib.Omega.{arith}
use native.Mathlib.Nat.{mul-le-mul_right}
use lib.ListN.{length, get_or, take, drop, length-drop, take-append-drop}
use lib.Seq.{drop-drop, length-take-le, take-length}
use Rattle.std.specs.Prelude.{◌==◌}
use Rattle.std.specs.Int.{w64, w128, from_le_bytes, sum_through, byte_worth}
use Rattle.std.specs.List.{list_all}
use Rattle.std.specs.Simd.{first_chunks}
use Rattle.std.proofs.lemmas.List.Folds.{list_all_more}
use Rattle.le.specs.Compare.{same}
use Rattle.le.proofs.Summing.{positive_power}
use Rattle.framelog.specs.Reading.{is_zero_def}

-- the tests of a word of 16 bytes, of one of eight, and of a byte
abbrev pub no_word : List ℕ → Bool
no_word w = from_le_bytes w128 w == 0

abbrev pub no_half : List ℕ → Bool
no_half w = from_le_bytes w64 w == 0

abbrev pub no_byte : ℕ → Bool
no_byte b = b == 0

-- bytes are zero where each is, where there are none, and where both parts are
zero_bytes : (s : List ℕ) → list_all no_byte s ≡ is_zero_def s
unfolding same
zero_bytes [] = refl
zero_bytes (b ∷ s) = ap (λ (rest : Bool). b == 0 && rest) (zero_bytes s)

pub none_zero : (s : List ℕ) → length s ≡ 0 → true ≡ is_zero_def s
unfolding same
none_zero [] e = refl
none_zero (b ∷ s) e = absurd (omega arith)

zero-append : (s t : List ℕ) → is_zero_def (s ++ t) ≡ (is_zero_def s && is_zero_def t)
unfolding same
zero-append [] t = refl
zero-append (b ∷ s) t = ap (λ (rest : Bool). b == 0 && rest) (zero-append s t) ∙ sym (and_assoc (b == 0) (is_zero_def s) (is_zero_def t))

zero_split : (n : ℕ) (s : List ℕ) → (is_zero_def (take n s) && is_zero_def (drop n s)) ≡ is_zero_def s
zero_split n s = sym (zero-append (take n s) (drop n s)) ∙ ap (λ (l : List ℕ). is_zero_def l) (take-append-drop n s)

-- a sum is 0 where both are, and a byte at its place in a word where the byte is
zero_sum : (a b : ℕ) → (a + b == 0) ≡ (a == 0 && b == 0)
zero_sum zero b = ap (λ (n : ℕ). n == 0) (let same : 0 + b ≡ b = omega arith in same)
zero_sum (suc a) b = ne_eqb _ 0 (λ e. omega arith) ∙ ap (λ (first : Bool). first && b == 0) (sym (ne_eqb (suc a) 0 (λ e. omega arith)))

zero_worth : (i b : ℕ) → (byte_worth i b == 0) ≡ (b == 0)
zero_worth zero b = refl
zero_worth (suc i) zero = ap (λ (n : ℕ). n == 0) (let none : 0 * 256 ^ suc i ≡ 0 = omega arith in none)
zero_worth (suc i) (suc b) =
    let least : 1 ≤ suc b = omega arith in
    ne_eqb _ 0 (λ e. omega (arith, e, mul-le-mul_right (256 ^ suc i) least, positive_power (suc i))) ∙ sym (ne_eqb (suc b) 0 (λ e. omega arith))

-- a little-endian word, of any width, is 0 where its bytes are zero
first_bytes : (k : ℕ) (s : List ℕ) → k < length s → (sum_through (λ i. byte_worth i (get_or s i 0)) k == 0) ≡ list_all no_byte (take (k + 1) s)
first_bytes zero [] h = absurd (omega arith)
first_bytes zero (b ∷ s) h = sym (and-true (b == 0))
first_bytes (suc k) s h =
    let next : suc k ≡ k + 1 = omega arith in
    zero_sum _ (byte_worth (suc k) (get_or s (suc k) 0))
    ∙ ap₂ (λ (a b : Bool). a && b) (first_bytes k s (omega arith) ∙ ap (λ (n : ℕ). list_all no_byte (take n s)) (sym next)) (zero_worth (suc k) (get_or s (suc k) 0))
    ∙ sym (list_all_more no_byte s (suc k) 0 h)

word_zero : (k : ℕ) (w : List ℕ) → length w ≡ k + 1 → (sum_through (λ i. byte_worth i (get_or w i 0)) k == 0) ≡ is_zero_def w
word_zero k w e = first_bytes k w (omega arith) ∙ ap (λ (n : ℕ). list_all no_byte (take n w)) (sym e) ∙ ap (list_all no_byte) (take-length w) ∙ zero_bytes w

-- the first words of n bytes, by a test that tells it of each, and what is left behind them
zero_chunks : (test : List ℕ → Bool) (n : ℕ) → ((w : List ℕ) → length w ≡ n → test w ≡ is_zero_def w)
    → (k : ℕ) (s : List ℕ) → k * n ≤ length s → (list_all test (first_chunks n k s) && is_zero_def (drop (k * n) s)) ≡ is_zero_def s
zero_chunks test n tells zero s h = ap (λ (m : ℕ). is_zero_def (drop m s)) (let none : 0 * n ≡ 0 = omega arith in none)
zero_chunks test n tells (suc k) s h =
    let on : suc k * n ≡ n + k * n = omega arith in
    let behind : drop (suc k * n) s ≡ drop (k * n) (drop n s) = ap (λ (m : ℕ). drop m s) on ∙ sym (drop-drop (k * n) n s) in
    let words = list_all test (first_chunks n k (drop n s)) in
    and_assoc (test (take n s)) words (is_zero_def (drop (suc k * n) s))
    ∙ ap₂ (λ (a b : Bool). a && b) (tells (take n s) (length-take-le n s (omega arith)))
    (ap (λ (l : List ℕ). words && is_zero_def l) behind ∙ zero_chunks test n tells k (drop n s) (simp length-drop (omega arith)))
    ∙ zero_split n s

-- all of it: the words of 16 bytes, what is left behind them as a word of eight, and the bytes behind that
pub zero_parts : (s rest bytes : List ℕ) (words halves : List (List ℕ))
    → words ≡ first_chunks 16 (length s / 16) s
    → rest ≡ drop (length s / 16 * 16) s
    → halves ≡ first_chunks 8 (length rest / 8) rest
    → bytes ≡ drop (length rest / 8 * 8) rest
    → (list_all no_word words && list_all no_half halves && list_all no_byte bytes) ≡ is_zero_def s
zero_parts s rest bytes words halves e-words e-rest e-halves e-bytes =
    let behind : (list_all no_half halves && list_all no_byte bytes) ≡ is_zero_def rest =
    ap₂ (λ (hs : List (List ℕ)) (b : Bool). list_all no_half hs && b) e-halves (zero_bytes bytes ∙ ap (λ (l : List ℕ). is_zero_def l) e-bytes)
    ∙ zero_chunks no_half 8 (word_zero 7) (length rest / 8) rest (omega arith) in
    and_assoc (list_all no_word words) (list_all no_half halves) (list_all no_byte bytes)
    ∙ ap₂ (λ (ws : List (List ℕ)) (b : Bool). list_all no_word ws && b) e-words (behind ∙ ap (λ (l : List ℕ). is_zero_def l) e-rest)
    ∙ zero_chunks no_word 16 (word_zero 15) (length s / 16) s (omega arith)
