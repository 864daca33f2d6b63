-- The laws of little-endian words, each once, for every width.
--     word_places    a word is its bytes, each by the weight of its place
--     word_split     a word in two parts
--     word-append    a word within the first of two joined lists
--     word_within    a word within the first bytes of a list
--     word_one       a word of one byte is the byte
--     byte_at        the same at a place of a list
--     word_below     a word of k bytes is below 256 ^ k
--     word_bytes     the word of a number's bytes is the number
--     word_own       the same with nothing behind them
--     bytes_word     the bytes of a word are the bytes that it was read from
--     word_same      bytes with equal words are equal
--     length-bytes   a number's k bytes are k bytes
-- Assumes nothing.
use Rattle.std.proofs.Common.{◌≡◌, ℕ, zero, suc, ◌+◌, ◌*◌, ◌/◌, ◌%◌, ◌^◌, ◌<◌, ◌≤◌, List, [], ◌∷◌, ◌++◌, length, get_or, take, drop, sym, refl, ap, ◌∙◌, ap₂, append-nil, add-zero, mul_assoc, mul_comm, add-mul, arith, length-drop, take-append-drop, length-take-le, get_or-drop}
use native.Mathlib.Nat.{pow-succ'}
use lib.Seq.{drop-append-le}
use Rattle.le.specs.Word.{word, bytes, AreBytes}

pub word-nil : (k : ℕ) → word k [] ≡ 0
unfolding word
word-nil zero = refl
word-nil (suc k) = refl

-- the sum of k places, the first of weight p, each next one of 256 times the weight
abbrev places : ℕ → ℕ → (ℕ → ℕ) → ℕ
places zero p f = 0
places (suc k) p f = f 0 * p + places k (p * 256) (λ i. f (suc i))

weighed : (k p : ℕ) (s : List ℕ) → word k s * p ≡ places k p (λ i. get_or s i 0)
unfolding word
weighed zero p s = omega arith
weighed (suc k) p [] = rw (← weighed k (p * 256) [], word-nil k) (omega arith)
weighed (suc k) p (b ∷ s) =
    let scaled : 256 * word k s * p ≡ word k s * (p * 256) = simp (mul_assoc, mul_comm) in
    rw (← weighed k (p * 256) s, add-mul b (256 * word k s) p, scaled)

pub word_places : (k : ℕ) (s : List ℕ) → word k s ≡ places k 1 (λ i. get_or s i 0)
word_places k s = rw (← weighed k 1 s) (omega arith)

pub word_split : (j k : ℕ) (s : List ℕ) → word (j + k) s ≡ word j s + 256 ^ j * word k (drop j s)
unfolding word
word_split zero k s =
    let width : 0 + k ≡ k = omega arith in
    let all : word k (drop 0 s) ≡ word k s = refl in
    rw width (omega (arith, all))
word_split (suc j) k [] =
    let width : suc j + k ≡ suc (j + k) = omega arith in
    rw (width, word-nil k) (omega arith)
word_split (suc j) k (b ∷ s) =
    let width : suc j + k ≡ suc (j + k) = omega arith in
    let rest = word k (drop j s) in
    let weight : 256 ^ suc j * rest ≡ 256 * (256 ^ j * rest) = rw (pow-succ' 256 j, mul_assoc 256 (256 ^ j) rest) in
    rw (width, weight, word_split j k s) (omega arith)

pub word-append : (k : ℕ) (s t : List ℕ) → k ≤ length s → word k (s ++ t) ≡ word k s
unfolding word
word-append zero s t l = refl
word-append (suc k) [] t l = absurd (omega arith)
word-append (suc k) (b ∷ s) t l = rw (word-append k s t (omega arith))

pub word_within : (k at n : ℕ) (s : List ℕ) → at + k ≤ n → n ≤ length s → word k (drop at (take n s)) ≡ word k (drop at s)
word_within k at n s inside l =
    let first = take n s in
    let len : length first ≡ n = length-take-le n s l in
    let room : k ≤ length (drop at first) = rw (length-drop at first) (omega arith) in
    sym (word-append k (drop at first) (drop n s) room)
    ∙ ap (word k) (sym (drop-append-le at first (drop n s) (omega arith)) ∙ ap (drop at) (take-append-drop n s))

pub word_one : (s : List ℕ) → word 1 s ≡ get_or s 0 0
unfolding word
word_one [] = refl
word_one (b ∷ s) = omega arith

pub byte_at : (s : List ℕ) (at : ℕ) → word 1 (drop at s) ≡ get_or s at 0
byte_at s at = rw (word_one (drop at s), get_or-drop at s 0 0, add-zero)

pub word_below : (k : ℕ) (s : List ℕ) → AreBytes s → word k s < 256 ^ k
unfolding word
word_below zero s h = omega arith
word_below (suc k) [] h = omega (arith, word_below k [] h, word-nil k)
word_below (suc k) (b ∷ s) h = omega (arith, h 0, word_below k s (λ i. h (suc i)))

pub word_bytes : (k n : ℕ) (rest : List ℕ) → n < 256 ^ k → word k (bytes k n ++ rest) ≡ n
unfolding word bytes
word_bytes zero n rest h = omega arith
word_bytes (suc k) n rest h = rw (word_bytes k (n / 256) rest (omega arith)) (omega arith)

pub word_own : (k n : ℕ) → n < 256 ^ k → word k (bytes k n) ≡ n
word_own k n h = rw (append-nil (bytes k n)) at (word_bytes k n [] h)

pub bytes_word : (k : ℕ) (s : List ℕ) → AreBytes s → k ≤ length s → bytes k (word k s) ≡ take k s
unfolding word bytes
bytes_word zero s h l = refl
bytes_word (suc k) [] h l = absurd (omega arith)
bytes_word (suc k) (b ∷ s) h l =
    let byte = h 0 in
    let low : (b + 256 * word k s) % 256 ≡ b = omega arith in
    let high : (b + 256 * word k s) / 256 ≡ word k s = omega arith in
    rw (low, high, bytes_word k s (λ i. h (suc i)) (omega arith))

pub word_same : (k : ℕ) (s t : List ℕ) → AreBytes s → AreBytes t → length s ≡ length t → word k s ≡ word k t → take k s ≡ take k t
unfolding word
word_same zero s t hs ht l e = refl
word_same (suc k) [] [] hs ht l e = refl
word_same (suc k) [] (c ∷ t) hs ht l e = absurd (omega arith)
word_same (suc k) (b ∷ s) [] hs ht l e = absurd (omega arith)
word_same (suc k) (b ∷ s) (c ∷ t) hs ht l e =
    let b-byte = hs 0 in
    let c-byte = ht 0 in
    let first : b ≡ c = omega arith in
    let rest : word k s ≡ word k t = omega arith in
    ap₂ (λ (x : ℕ) (xs : List ℕ). x ∷ xs) first (word_same k s t (λ i. hs (suc i)) (λ i. ht (suc i)) (omega arith) rest)

pub length-bytes : (k n : ℕ) → length (bytes k n) ≡ k
unfolding bytes
length-bytes zero n = refl
length-bytes (suc k) n = ap suc (length-bytes k (n / 256))
