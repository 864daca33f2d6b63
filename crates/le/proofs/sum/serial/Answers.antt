use Rattle.std.proofs.Common.{◌≡◌, ◌+◌, ◌*◌, ◌/◌, ◌%◌, ◌^◌, ◌<◌, length, drop, arith}
use Rattle.std.proofs.Math.Nat.{lt-mul-div-succ}
use Rattle.le.specs.Word.{word}
use Rattle.le.proofs.Parts.{rest}
use Rattle.le.proofs.Summing.{turn, passed, reduced}
use Rattle.le.proofs.sum.serial.Goals as goal

pub loop-n-preserved : goal.loop-n-preserved
loop-n-preserved g c =
    let w = g.W.Word in
    let positive = g.met.W.Word.size_divides.0 in
    (omega arith, turn w.SIZE c.loop-n.n (w.number c.loop-n.sum) _ _ c.args.s.now positive c.loop-n.invariant.1 (cc))

pub returns : goal.returns
returns g c =
    let w = g.W.Word in
    let s = c.args.s.now in
    let n = c.loop-n.n in
    let all = w.number c.wrapping_add.result in
    let positive = g.met.W.Word.size_divides.0 in
    let done : n ≡ length s / c.SIZE.result = omega arith in
    let short : w.number c.at.result ≡ word w.SIZE (drop (w.SIZE * n) s) =
    rw (rest s (c.SIZE-2.result * (length s / c.SIZE.result)), ← done, c.SIZE-2.ensures) at c.at.ensures in
    let last : all ≡ (w.number c.loop-n.sum + word w.SIZE (drop (w.SIZE * n) s)) % 256 ^ w.SIZE = cc in
    let end : length s < w.SIZE * (n + 1) = rw (done, c.SIZE.ensures) (lt-mul-div-succ (length s) positive) in
    passed w.SIZE (n + 1) all s (omega arith) (reduced w.SIZE all _ last) (turn w.SIZE n (w.number c.loop-n.sum) all _ s positive c.loop-n.invariant.1 last)
