-- The sum so far and what remains of the quarters are all of them, modulo 256 ^ SIZE.
use Rattle.std.proofs.Common.{◌≡◌, ◌+◌, ◌%◌, ◌^◌, ◌<◌, ◌≤◌}
use Rattle.le.proofs.Summing.{quarters_remaining}
use Rattle.le.proofs.sum.quarters.Given as goal

abbrev pub invariant-loop-i : goal.invariant-loop-i
invariant-loop-i g l =
    let w = g.W.Word in
    (l.i ≤ l.quarter)
    × (w.number l.sum < 256 ^ w.SIZE)
    × ((w.number l.sum + quarters_remaining w.SIZE l.quarter l.i l.s) % 256 ^ w.SIZE ≡ quarters_remaining w.SIZE l.quarter 0 l.s % 256 ^ w.SIZE)
