use Rattle.std.proofs.Common.{ℕ, ◌*◌, ◌/◌, ◌%◌, ◌^◌, ◌≤◌, length, ap, arith, rules}
use Rattle.le.proofs.Summing.{quarters_turn, quarters_passed, quarters_whole, reduced, positive_power}
use Rattle.le.proofs.sum.quarters.Goals as goal

pub loop-i-init : goal.loop-i-init
loop-i-init g c = (omega arith, rw c.zero-sum.ensures (positive_power g.W.Word.SIZE), rw c.zero-sum.ensures (ap (λ (x : ℕ). x % 256 ^ g.W.Word.SIZE) (omega arith)))

pub loop-i-preserved : goal.loop-i-preserved
loop-i-preserved g c =
    let w = g.W.Word in
    let n = length c.args.s.now / c.SIZE.result / 4 in
    let sum-1 = w.number c.wrapping_add-sum.result in
    let sum-2 = w.number c.wrapping_add-sum-in-loop-i.result in
    let sum-3 = w.number c.wrapping_add-sum-in-loop-i-2.result in
    let sum-4 = w.number c.wrapping_add-sum-in-loop-i-3.result in (
      omega arith,
      reduced w.SIZE sum-4 _ c.wrapping_add-sum-in-loop-i-3.ensures,
      quarters_turn w.SIZE n c.loop-i.i (w.number c.loop-i.sum) sum-1 sum-2 sum-3 sum-4 _ c.args.s.now g.met.W.Word.size_divides.0 c.loop-i.invariant.2 (cc) (cc) (cc) (cc),
    )

pub returns : goal.returns
returns g c =
    let w = g.W.Word in
    let s = c.args.s.now in
    let n = length s / c.SIZE.result / 4 in
    let end : length s ≤ w.SIZE * (4 * n) = rw c.SIZE.ensures (quarters_whole w.SIZE (length s) c.requires) in
    quarters_passed w.SIZE n c.loop-i.i (w.number c.loop-i.sum) s (omega arith) end (search rules) c.loop-i.invariant.2
