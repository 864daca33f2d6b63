use Rattle.std.proofs.Common.{◌∙◌, arith, length-set, rules}
use Rattle.le.proofs.Copying.{copy_suc, copy_all}
use Rattle.le.proofs.copy_bytes.Goals as goal

pub loop-i-preserved : goal.loop-i-preserved
loop-i-preserved c =
    let n = c.min-n.ensures in
    (search rules, simp length-set (omega arith), copy_suc c.loop-i.i c.args.src.now c.args.dst.now c.loop-i.dst (omega arith) (omega arith) c.loop-i.invariant.2)

pub returns : goal.returns
returns c =
    let n = c.min-n.ensures in
    c.loop-i.invariant.2 ∙ copy_all c.loop-i.i c.args.src.now c.args.dst.now (omega arith)
