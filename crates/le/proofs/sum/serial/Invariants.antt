-- The sum so far and what remains are the sum of all, modulo 256 ^ SIZE.
use Rattle.std.proofs.Common.{◌≡◌, ◌+◌, ◌%◌, ◌^◌, ◌≤◌}
use Rattle.le.specs.Sum.{total_of}
use Rattle.le.proofs.Summing.{remaining}
use Rattle.le.proofs.sum.serial.Given as goal

abbrev pub invariant-loop-n : goal.invariant-loop-n
invariant-loop-n g l =
    let w = g.W.Word in
    (l.n ≤ l.words) × ((w.number l.sum + remaining w.SIZE l.n l.s) % 256 ^ w.SIZE ≡ total_of w.SIZE l.s % 256 ^ w.SIZE)
