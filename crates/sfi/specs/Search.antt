-- Document 01, "SFI tables": finding SYST.
-- Assumes nothing.
use Rattle.std.specs.Prelude.{ℕ, zero, suc, ◌+◌, ◌%◌, Bool, cond, not, ◌&&◌, List, [], ◌∷◌, leb, eqb, length, drop, Result, Ok, Err}
use Rattle.sfi.specs.Kinds.{syst}
use Rattle.sfi.specs.Checks.{length_of_def, checked, passes_as_def}
use Rattle.sfi.specs.declared.Reason.{Reason}
use Rattle.sfi.specs.declared.Reason.TheVariants.{BadMemory, NoSyst}

-- "the slice is 0xE0000 to 0xFFFFF, 131,072 bytes"; "Every 16th byte is tried"
abbrev pub memory_size : ℕ
memory_size = 131072

abbrev pub step : ℕ
step = 16

-- so there are 8,192 places
abbrev pub tries : ℕ
tries = 8192

abbrev pub page_size : ℕ
page_size = 4096

-- "stays inside one 4,096-byte page": 0xE0000 is a multiple of 4,096, so pages by offset are pages by address
abbrev pub in_page : ℕ → ℕ → Bool
in_page at total = leb (at % page_size + total) page_size

-- "a hit passes all checks as SYST and stays inside one 4,096-byte page"
unfoldable pub is_hit_def : List ℕ → ℕ → Bool
is_hit_def memory at = passes_as_def syst.signature (checked (drop at memory)) && in_page at (length_of_def (drop at memory))

-- n places, from one on, lowest first
unfoldable pub places : ℕ → ℕ → List ℕ
places zero at = []
places (suc n) at = at ∷ places n (at + step)

-- "The answer is the first hit's offset; 47 exactly if there is no hit."
unfoldable pub first_hit : List ℕ → List ℕ → Result ℕ Reason
first_hit memory [] = Err NoSyst
first_hit memory (at ∷ rest) = cond (is_hit_def memory at) (Ok at) (first_hit memory rest)

unfoldable pub located : List ℕ → Result ℕ Reason
located memory =
    cond (not (eqb (length memory) memory_size)) (Err BadMemory)
    (first_hit memory (places tries 0))
