-- The laws of sums of k-byte words, each once, for every width k that is not 0.
--     total_step     the sum of all words is the first word and the sum of the rest
--     sum-append     the sum of two joined lists, joined at a word's end
--     sum_cut        the same of one list, cut there
--     sum-replace    the sum after one aligned word is replaced by another
--     sum_below      a sum of k-byte words is below 256 ^ k
--     checksum       the word that brings a sum to 0
-- Assumes nothing.
use Rattle.std.proofs.Common.{◌≡◌, ℕ, zero, suc, ◌+◌, ◌-◌, ◌*◌, ◌%◌, ◌^◌, ◌<◌, ◌≤◌, List, [], ◌∷◌, ◌++◌, length, take, drop, sym, refl, ap, ◌∙◌, add-zero, mod-lt, mod-eq_of_lt, suc-mul, arith, length-drop, take-append-drop, length-take-le, drop_at}
use native.Mathlib.Nat.{add-mod, mod-add-mod, add-mod-mod, mod_self, one-le-pow}
use lib.Seq.{drop-nil, drop-append-le}
use Rattle.le.specs.Word.{word, bytes}
use Rattle.le.specs.Sum.{total, total_of, sum, checksum_of}
use Rattle.le.proofs.Words.{word-nil, word-append, word_own, length-bytes}

total-nil : (k n : ℕ) → total k n [] ≡ 0
unfolding total
total-nil k zero = refl
total-nil k (suc n) = rw (word-nil, drop-nil, total-nil k n)

empty : (s : List ℕ) → length s ≤ 0 → s ≡ []
empty [] h = refl
empty (b ∷ s) h = absurd (omega arith)

-- as many words as there are bytes are enough, and more change nothing
enough : (k n m : ℕ) (s : List ℕ) → 0 < k → length s ≤ n → length s ≤ m → total k n s ≡ total k m s
unfolding total
enough k zero m s p hn hm = rw (empty s hn, total-nil k m)
enough k (suc n) zero s p hn hm = rw (empty s hm, word-nil, drop-nil, total-nil k n)
enough k (suc n) (suc m) s p hn hm =
    rw (enough k n m (drop k s) p (simp length-drop (omega arith)) (simp length-drop (omega arith)))

pub total_none : (k : ℕ) → total_of k [] ≡ 0
unfolding total_of
total_none k = total-nil k 0

pub total_step : (k : ℕ) (s : List ℕ) → 0 < k → total_of k s ≡ word k s + total_of k (drop k s)
unfolding total_of total
total_step k [] p = rw (word-nil, drop-nil, total-nil k 0)
total_step k (b ∷ s) p =
    ap (λ (t : ℕ). word k (b ∷ s) + t)
    (enough k (length s) (length (drop k (b ∷ s))) (drop k (b ∷ s)) p (simp length-drop (omega arith)) (omega arith))

total-append : (k n : ℕ) (s t : List ℕ) → 0 < k → length s ≡ n * k → total_of k (s ++ t) ≡ total_of k s + total_of k t
total-append k zero s t p h = rw (empty s (omega arith), total_none) (omega arith)
total-append k (suc n) s t p h =
    let long : length s ≡ n * k + k = rw suc-mul at h in
    let first : k ≤ length s = omega arith in
    let rest = total-append k n (drop k s) t p (simp length-drop (omega arith)) in
    rw (total_step k (s ++ t) p, total_step k s p, word-append k s t first, drop-append-le k s t first, rest) (omega arith)

pub sum-append : (k n : ℕ) (s t : List ℕ) → 0 < k → length s ≡ n * k → sum k (s ++ t) ≡ (sum k s + sum k t) % 256 ^ k
unfolding sum
sum-append k n s t p h = rw (total-append k n s t p h) (add-mod (total_of k s) (total_of k t) (256 ^ k))

pub sum_cut : (k n at first second both : ℕ) (s : List ℕ) → 0 < k → at ≡ n * k → at ≤ length s
    → first ≡ sum k (take at s) → second ≡ sum k (drop at s)
    → both ≡ (first + second) % 256 ^ k
    → both ≡ sum k s
sum_cut k n at first second both s p whole fits e₁ e₂ e =
    e ∙ rw (e₁, e₂, ← sum-append k n (take at s) (drop at s) p (length-take-le at s fits ∙ whole), take-append-drop at s)

-- the sum of a list with the word v in it, at a word's place
sum_around : (k n : ℕ) (s v t : List ℕ) → 0 < k → length s ≡ n * k → length v ≡ k → total_of k (s ++ (v ++ t)) ≡ total_of k s + (word k v + total_of k t)
sum_around k n s v t p h hv =
    rw (total-append k n s (v ++ t) p h, total_step k (v ++ t) p, word-append k v t (omega arith), drop_at v t k hv)

pub sum-replace : (k n : ℕ) (s v w t : List ℕ) → 0 < k → length s ≡ n * k → length v ≡ k → length w ≡ k
    → (sum k (s ++ (w ++ t)) + word k v) % 256 ^ k ≡ (sum k (s ++ (v ++ t)) + word k w) % 256 ^ k
unfolding sum
sum-replace k n s v w t p h hv hw =
    rw (mod-add-mod _ _ (word k v), mod-add-mod _ _ (word k w), sum_around k n s w t p h hw, sum_around k n s v t p h hv)
    (ap (λ (x : ℕ). x % 256 ^ k) (omega arith))

pub sum_below : (k : ℕ) (s : List ℕ) → sum k s < 256 ^ k
unfolding sum
sum_below k s = mod-lt (total_of k s) (one-le-pow k 256 (omega arith))

pub checksum : (k n : ℕ) (s t : List ℕ) → 0 < k → length s ≡ n * k → sum k (s ++ (bytes k (checksum_of k s t) ++ t)) ≡ 0
checksum k n s t p h =
    let m = 256 ^ k in
    let positive : 0 < m = one-le-pow k 256 (omega arith) in
    let z = sum k (s ++ (bytes k 0 ++ t)) in
    let lacking = checksum_of k s t in
    let replaced = sum-replace k n s (bytes k 0) (bytes k lacking) t p h (length-bytes k 0) (length-bytes k lacking) in
    let added : sum k (s ++ (bytes k lacking ++ t)) % m ≡ (z + lacking) % m =
    rw (word_own k 0 positive, add-zero, word_own k lacking (mod-lt (m - z) positive)) at replaced in
    let whole : z + (m - z) ≡ m = omega (arith, sum_below k (s ++ (bytes k 0 ++ t))) in
    sym (mod-eq_of_lt (sum_below k (s ++ (bytes k lacking ++ t)))) ∙ added ∙ rw (add-mod-mod, whole, mod_self)
