-- Laws of the summing loops, for every width k. A loop keeps that the sum so far and what remains are the sum of all.
--     turn             a turn that adds a word
--     passed           what such a loop has in the end
--     reduced          what is reduced modulo 256 ^ k is below it
--     quarters_whole   four quarters of whole words are all
--     blocks_whole     blocks of 128 bytes are whole words
--     blocks_quarters  and four quarters of whole words
--     quarters_turn    a turn that adds a word of each quarter
--     quarters_passed  what such a loop has in the end
-- Assumes nothing.
use Rattle.std.proofs.Common.{◌≡◌, ℕ, zero, suc, ◌+◌, ◌*◌, ◌/◌, ◌%◌, ◌^◌, ◌<◌, ◌≤◌, List, length, drop, sym, refl, ap, ◌∙◌, add-zero, add_assoc, mod-eq_of_lt, mul-zero, mul-one, mul-suc, mul-add, mul_assoc, mul_comm, mod-lt, arith, drop_of_length-le, drop-drop}
use Rattle.std.proofs.Math.Nat.{div-add-mod, div-div-eq-div-mul, mul-mod_left}
use native.Mathlib.Nat.{mod-add-mod, add-mul-mod_self_right, one-le-pow}
use Rattle.le.specs.Word.{word}
use Rattle.le.specs.Sum.{total_of, sum}
use Rattle.le.proofs.Sums.{total_none, total_step}

-- what remains from the i-th word on, added up
abbrev pub remaining : ℕ → ℕ → List ℕ → ℕ
remaining k i s = total_of k (drop (k * i) s)

next_remaining : (k i next : ℕ) (s : List ℕ) → 0 < k → next ≡ i + 1 → remaining k i s ≡ word k (drop (k * i) s) + remaining k next s
next_remaining k i next s p e = rw (e, mul-add k i 1, mul-one k, ← drop-drop k (k * i) s) (total_step k (drop (k * i) s) p)

-- a word goes over from what remains to the sum so far
moved : (m so_far next w rest all : ℕ) → (so_far + (w + rest)) % m ≡ all → next ≡ (so_far + w) % m → (next + rest) % m ≡ all
moved m so_far next w rest all before e = rw (e, mod-add-mod, add_assoc) before

pub turn : (k i so_far next all : ℕ) (s : List ℕ) → 0 < k
    → (so_far + remaining k i s) % 256 ^ k ≡ all
    → next ≡ (so_far + word k (drop (k * i) s)) % 256 ^ k
    → (next + remaining k (i + 1) s) % 256 ^ k ≡ all
turn k i so_far next all s p before e =
    moved (256 ^ k) so_far next (word k (drop (k * i) s)) (remaining k (i + 1) s) all (rw (← next_remaining k i (i + 1) s p refl) before) e

-- nothing remains, so the sum so far is the sum
pub passed : (k i so_far : ℕ) (s : List ℕ) → length s ≤ k * i → so_far < 256 ^ k
    → (so_far + remaining k i s) % 256 ^ k ≡ total_of k s % 256 ^ k
    → so_far ≡ sum k s
unfolding sum
passed k i so_far s end fits e =
    let none : so_far % 256 ^ k ≡ total_of k s % 256 ^ k = simp (drop_of_length-le s {i = k * i} end, total_none k, add-zero) at e in
    rw (mod-eq_of_lt fits) at none

pub positive_power : (k : ℕ) → 0 < 256 ^ k
positive_power k = one-le-pow k 256 (omega arith)

pub reduced : (k n m : ℕ) → n ≡ m % 256 ^ k → n < 256 ^ k
reduced k n m e = rw e (mod-lt m (positive_power k))

pub quarters_whole : (k n : ℕ) → n % (4 * k) ≡ 0 → n ≤ k * (4 * (n / k / 4))
quarters_whole k n e =
    let exact : n % (k * 4) ≡ 0 = rw (mul_comm 4 k) at e in
    rw (div-div-eq-div-mul n k 4, ← mul_assoc k 4 (n / (k * 4))) (omega (arith, div-add-mod n (k * 4), exact))

pub blocks_whole : (k n : ℕ) → 8 % k ≡ 0 → n * 128 ≡ n * (16 * (8 / k)) * k
blocks_whole k n e =
    let exact : 8 / k * k ≡ 8 = omega (arith, div-add-mod 8 k, mul_comm k (8 / k)) in
    rw (mul_assoc n (16 * (8 / k)) k, mul_assoc 16 (8 / k) k, exact)

pub blocks_quarters : (k n : ℕ) → 8 % k ≡ 0 → n * 128 % (4 * k) ≡ 0
blocks_quarters k n e =
    let exact : 8 / k * k ≡ 8 = omega (arith, div-add-mod 8 k, mul_comm k (8 / k)) in
    let parts : 4 * (8 / k) * (4 * k) ≡ 128 = rw (mul_assoc 4 (8 / k) (4 * k), ← mul_assoc (8 / k) 4 k, mul_comm (8 / k) 4, mul_assoc 4 (8 / k) k, exact) in
    let whole : n * 128 ≡ n * (4 * (8 / k)) * (4 * k) = rw (mul_assoc n (4 * (8 / k)) (4 * k), parts) in
    rw whole (mul-mod_left (n * (4 * (8 / k))) (4 * k))

-- what remains of four quarters of n words, each from its i-th word on
abbrev pub quarters_remaining : ℕ → ℕ → ℕ → List ℕ → ℕ
quarters_remaining k n i s = remaining k i s + (remaining k (n + i) s + (remaining k (2 * n + i) s + remaining k (3 * n + i) s))

pub quarters_turn : (k n i a b c d e all : ℕ) (s : List ℕ) → 0 < k
    → (a + quarters_remaining k n i s) % 256 ^ k ≡ all
    → b ≡ (a + word k (drop (k * i) s)) % 256 ^ k
    → c ≡ (b + word k (drop (k * (n + i)) s)) % 256 ^ k
    → d ≡ (c + word k (drop (k * (2 * n + i)) s)) % 256 ^ k
    → e ≡ (d + word k (drop (k * (3 * n + i)) s)) % 256 ^ k
    → (e + quarters_remaining k n (i + 1) s) % 256 ^ k ≡ all
quarters_turn k n i a b c d e all s p before eb ec ed ee =
    let m = 256 ^ k in
    let w : ℕ → ℕ = λ j. word k (drop (k * j) s) in
    let rest = quarters_remaining k n (i + 1) s in
    let next : (j then : ℕ) → then ≡ j + 1 → remaining k j s ≡ w j + remaining k then s = λ j then h. next_remaining k j then s p h in
    let apart : a + quarters_remaining k n i s ≡ a + (w i + (w (n + i) + (w (2 * n + i) + (w (3 * n + i) + rest)))) =
    omega (arith, next i (i + 1) refl, next (n + i) (n + (i + 1)) (omega arith), next (2 * n + i) (2 * n + (i + 1)) (omega arith), next (3 * n + i) (3 * n + (i + 1)) (omega arith)) in
    moved m d e _ rest all (moved m c d _ _ all (moved m b c _ _ all (moved m a b _ _ all (rw (← apart) before) eb) ec) ed) ee

-- what is added on both sides cancels out
cancel : (m a b c : ℕ) → 0 < m → (a + c) % m ≡ (b + c) % m → a % m ≡ b % m
cancel zero a b c p h = absurd (omega arith)
cancel (suc m) a b c p h =
    let again : (x : ℕ) → ((x + c) % suc m + c * m) % suc m ≡ x % suc m = λ x.
    rw (mod-add-mod (x + c) (suc m) (c * m))
    (ap (λ (y : ℕ). y % suc m) (omega (arith, mul-suc c m)) ∙ add-mul-mod_self_right x c (suc m)) in
    sym (again a) ∙ ap (λ (y : ℕ). (y + c * m) % suc m) h ∙ again b

-- each quarter ends where the next one begins, so all but the sum cancels out
pub quarters_passed : (k n i so_far : ℕ) (s : List ℕ) → i ≡ n → length s ≤ k * (4 * n) → so_far < 256 ^ k
    → (so_far + quarters_remaining k n i s) % 256 ^ k ≡ quarters_remaining k n 0 s % 256 ^ k
    → so_far ≡ sum k s
quarters_passed k n i so_far s done end fits e =
    let m = 256 ^ k in
    let at : (i j : ℕ) → i ≡ j → remaining k i s ≡ remaining k j s = λ i j h. ap (λ (x : ℕ). remaining k x s) h in
    let between = remaining k n s + (remaining k (2 * n) s + remaining k (3 * n) s) in
    let after : so_far + quarters_remaining k n i s ≡ so_far + remaining k (4 * n) s + between =
    omega (arith, at i n done, at (n + i) (2 * n) (omega arith), at (2 * n + i) (3 * n) (omega arith), at (3 * n + i) (4 * n) (omega arith)) in
    let before : quarters_remaining k n 0 s ≡ total_of k s + between =
    omega (arith, ap (λ (x : ℕ). total_of k (drop x s)) (mul-zero k), at (n + 0) n (omega arith), at (2 * n + 0) (2 * n) (omega arith), at (3 * n + 0) (3 * n) (omega arith)) in
    passed k (4 * n) so_far s end fits (cancel m _ _ between (one-le-pow k 256 (omega arith)) (rw (← after, ← before) e))
