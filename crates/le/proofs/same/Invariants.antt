-- What stands from the n-th word on decides, and then what stands from the i-th byte on.
use Rattle.std.proofs.Common.{◌≡◌, ◌*◌, ◌≤◌, drop}
use Rattle.le.specs.Compare.{same}
use Rattle.le.proofs.same.Given as goal

abbrev pub invariant-loop-n : goal.invariant-loop-n
invariant-loop-n l = (l.n ≤ l.words) × (same (drop (8 * l.n) l.a) (drop (8 * l.n) l.b) ≡ same l.a l.b)

abbrev pub invariant-loop-i : goal.invariant-loop-i
invariant-loop-i l = same (drop l.i l.a) (drop l.i l.b) ≡ same l.a l.b
