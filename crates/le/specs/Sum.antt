-- The sum of a list of bytes as words of k bytes, for every k at once: k is 4 for UBIOS tables and 1 for SFI tables (document 01, "UBIOS tables" and "SFI tables").
-- Assumes nothing.
use Rattle.std.specs.Prelude.{ℕ, zero, suc, ◌+◌, ◌-◌, ◌%◌, ◌^◌, List, ◌++◌, length, drop}
use Rattle.le.specs.Word.{word, bytes}

-- the first n words of k bytes, added up. Bytes past the end count as 0, so a short last word is filled with zeros at the high end
unfoldable pub total : ℕ → ℕ → List ℕ → ℕ
total k zero s = 0
total k (suc n) s = word k s + total k n (drop k s)

-- all words, added up: words past the end are 0, so as many words as there are bytes are all of them
unfoldable pub total_of : ℕ → List ℕ → ℕ
total_of k s = total k (length s) s

-- the sum in k bytes: a carry out of the top is dropped
unfoldable pub sum : ℕ → List ℕ → ℕ
sum k s = total_of k s % 256 ^ k

-- the Checksum between `head` and `behind` that brings the sum of all to 0: what the sum with 0 in its place lacks to 256 ^ k
abbrev pub checksum_of : ℕ → List ℕ → List ℕ → ℕ
checksum_of k head behind = (256 ^ k - sum k (head ++ (bytes k 0 ++ behind))) % 256 ^ k
