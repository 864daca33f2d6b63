-- The digits are those that are left, and behind them those that stand there.
use Rattle.std.proofs.Common.{◌≡◌, ◌++◌, length, drop}
use Rattle.text.specs.Decimal.{decimal}
use Rattle.text.proofs.Digits.{low}
use Rattle.text.proofs.spell.Given as goal

abbrev pub invariant-loop-at : goal.invariant-loop-at
invariant-loop-at l = (length l.out ≡ length l.fn.out) × (decimal l.n ≡ low l.at l.rest ++ drop l.at l.out)
