-- The laws of lines: how long their parts can be.
-- Assumes nothing.
use Prim.Native.Nat.{ℕ, ◌+◌, ◌^◌, ◌≤◌, ◌<◌}
use mathlib.Core.List.{◌++◌}
use native.Mathlib.Omega.{arith}
use lib.ListN.{length, length-append}
use Rattle.text.specs.Decimal.{decimal}
use Rattle.text.proofs.Digits.{digits_most}
use Rattle.frame.specs.Layout.{message_max}
use Rattle.replay.specs.Helpers.{told_max}
use Rattle.replay.specs.Lines.{space, delivered_text}

-- a space and a number
pub spaced_most : (n k : ℕ) → n < 10 ^ k → 1 ≤ k → length (space ++ decimal n) ≤ 1 + k
spaced_most n k h p = omega (arith, digits_most n k h p, length-append space (decimal n))

-- one of 32 bits, as a refusal's number and a Message ID
pub number_most : (n : ℕ) → n < 2 ^ 32 → length (space ++ decimal n) ≤ 11
number_most n narrow = spaced_most n 10 (omega (arith, narrow)) (omega arith)

-- a message's length
pub length_most : (n : ℕ) → n ≤ message_max → length (space ++ decimal n) ≤ 5
length_most n bounded = spaced_most n 4 (omega (arith, bounded)) (omega arith)

pub delivered_short : (id n : ℕ) → id < 2 ^ 32 → n ≤ message_max → length (space ++ delivered_text id n) ≤ told_max
delivered_short id n narrow bounded = omega (arith, number_most id narrow, length_most n bounded, length-append (decimal id) (space ++ decimal n))
