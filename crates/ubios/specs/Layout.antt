-- Document 01, "UBIOS tables" (001, tables 12 and 13): the words of a table and of the root. A table is the bytes of memory from its address on.
-- Assumes nothing.
use Rattle.std.specs.Prelude.{ℕ, zero, suc, ◌-◌, Bool, cond, List, [], ◌∷◌, eqb, take, drop}
use Rattle.le.specs.Word.{word}

-- a table's header, and the root's
abbrev pub table_header : ℕ
table_header = 32

abbrev pub root_header : ℕ
root_header = 40

-- the most that Total Size can be, the most slots that a root has, and the longest name
abbrev pub total_max : ℕ
total_max = 65536

abbrev pub count_max : ℕ
count_max = 128

abbrev pub name_max : ℕ
name_max = 16

abbrev pub version : ℕ
version = 1

-- "bytes after the first zero don't count"
unfoldable pub up_to_zero : List ℕ → List ℕ
up_to_zero [] = []
up_to_zero (b ∷ s) = cond (eqb b 0) [] (b ∷ up_to_zero s)

abbrev pub name_of : List ℕ → List ℕ
name_of t = up_to_zero (take name_max t)

abbrev pub total_of : List ℕ → ℕ
total_of t = word 4 (drop 16 t)

abbrev pub version_of : List ℕ → ℕ
version_of t = word 1 (drop 20 t)

abbrev pub remaining_of : List ℕ → ℕ
remaining_of t = word 4 (drop 24 t)

-- "The used part is Total − Remaining bytes."
abbrev pub used_of : List ℕ → ℕ
used_of t = total_of t - remaining_of t

-- what is summed: "Summing Total instead of the used part" is a trap
abbrev pub summed_part : List ℕ → List ℕ
summed_part t = take (used_of t) t

-- `root_table`
abbrev pub root_name : List ℕ
root_name = 0x72 ∷ 0x6F ∷ 0x6F ∷ 0x74 ∷ 0x5F ∷ 0x74 ∷ 0x61 ∷ 0x62 ∷ 0x6C ∷ 0x65 ∷ []

abbrev pub count_of : List ℕ → ℕ
count_of t = word 2 (drop 32 t)

-- "A slot of 0 is a gap, anywhere, and is passed over."
abbrev pub is_gap : ℕ → Bool
is_gap address = eqb address 0

-- the first n addresses of 8 bytes
unfoldable pub addresses : ℕ → List ℕ → List ℕ
addresses zero s = []
addresses (suc n) s = word 8 s ∷ addresses n (drop 8 s)

-- the addresses in the root's slots, in order, gaps too: "then Count addresses of 8 bytes from 40"
abbrev pub slots_of : List ℕ → List ℕ
slots_of t = addresses (count_of t) (drop root_header t)
