-- It hands on what the reassembly's step answers and leaves.
use Rattle.std.proofs.Common.{sym, subst}
use Rattle.reassembly.specs.declared.Answer.{Answer}
use Rattle.replay.specs.Day.{Bounded}
use Rattle.replay.proofs.Playing.{delivery_bounded}
use Rattle.replay.proofs.run_frame.Goals as goal

pub returns-clause-entry_bounded : goal.returns-clause-entry_bounded
returns-clause-entry_bounded c =
    let bounded = delivery_bounded c.args.us c.args.state c.args.buffer.now c.args.frame.now c.told-buffer in
    subst (λ (a : Answer). Bounded a.verdict) (sym c.step-answer.ensures.value) bounded
