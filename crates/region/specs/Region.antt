-- Document 01, "UBIOS tables": "Memory is a lent region with the address of its first byte." Where a header lies that stands at an address: all sums are of exact
-- numbers, and a region that ends at 2^64 is legal.
-- Assumes nothing.
use Rattle.std.specs.Prelude.{ℕ, ◌+◌, ◌^◌, Bool, ◌||◌, ltb}

-- "region runs past 2^64"
abbrev pub runs_past_def : ℕ → ℕ → Bool
runs_past_def size base = ltb (2 ^ 64) (base + size)

-- the address comes before the region's first byte
abbrev pub is_before : ℕ → ℕ → Bool
is_before base address = ltb address base

-- the header's last byte comes behind the region's
abbrev pub ends_behind : ℕ → ℕ → ℕ → ℕ → Bool
ends_behind header size base address = ltb (base + size) (address + header)

-- "region runs past 2^64, or the header isn't inside it"
unfoldable pub outside : ℕ → ℕ → ℕ → ℕ → Bool
outside header size base address = runs_past_def size base || (is_before base address || ends_behind header size base address)
