-- Little-endian words of k bytes, for every k at once. A word is read off the head of a list of bytes; the word at place `at` is `word k (drop at s)`.
-- Assumes nothing.
use Rattle.std.specs.Prelude.{ℕ, zero, suc, ◌+◌, ◌*◌, ◌/◌, ◌%◌, ◌<◌, List, [], ◌∷◌, slice_index}

-- the word in the first k bytes, the lowest byte first. Bytes past the end count as 0
unfoldable pub word : ℕ → List ℕ → ℕ
word zero s = 0
word (suc k) [] = 0
word (suc k) (b ∷ s) = b + 256 * word k s

-- the k bytes of a number, the lowest first; what does not fit in k bytes is dropped
unfoldable pub bytes : ℕ → ℕ → List ℕ
bytes zero n = []
bytes (suc k) n = n % 256 ∷ bytes k (n / 256)

-- each element is a byte, as each element of a `&[u8]` is
abbrev pub AreBytes : List ℕ → Type 0
AreBytes s = (i : ℕ) → slice_index s i < 256
