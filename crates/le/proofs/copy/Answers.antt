-- Nothing is copied, or what was copied to the array is copied on.
use Rattle.std.proofs.Common.{replicate, sym, ◌∙◌, rules}
use Rattle.le.proofs.Copying.{copy_held}
use Rattle.le.proofs.Parts.{copied_none}
use Rattle.le.proofs.copy.Goals as goal

pub returns-then-n-eq0 : goal.returns-then-n-eq0
returns-then-n-eq0 c = copied_none c.args.src.now c.args.dst.now (sym c.min-n.ensures ∙ c.if-n-eq0.true)

pub returns-then-n-le4096 : goal.returns-then-n-le4096
returns-then-n-le4096 c =
    c.copy_bytes-then-n-le4096.ensures
    ∙ copy_held _ c.args.src.now c.args.dst.now (replicate 4096 0) _ c.min-n.ensures c.copy_bytes.ensures (search rules)
