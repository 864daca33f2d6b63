-- What is proved of a region, under the names given here. The proofs are in `proofs/Answers.antt`.
-- Assumes nothing.
use Rattle.std.specs.Prelude.{ℕ, ◌+◌, ◌^◌, ◌≤◌, false, ◌≡◌}
use Rattle.region.specs.Region.{outside}

-- a header of that size, at that address, lies in a region of `size` bytes that ends at 2^64 or before
pub record Inside (header size base address : ℕ) : Type 0 where
  pub top : base + size ≤ 2 ^ 64
  pub start : base ≤ address
  pub end : address + header ≤ base + size

-- `not_outside`, `is_inside`. What is not outside lies inside, and what lies inside is not outside.
abbrev pub NotOutside : Type 0
NotOutside = (header size base address : ℕ) → outside header size base address ≡ false → Inside header size base address

abbrev pub IsInside : Type 0
IsInside = (header size base address : ℕ) → Inside header size base address → outside header size base address ≡ false
