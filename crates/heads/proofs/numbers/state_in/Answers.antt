-- Numbers that are joined are 0 exactly where each is.
use Rattle.std.proofs.Common.{Bool, cond, sym, ap, ◌∙◌}
use Rattle.reassembly.specs.declared.State.TheVariants.{Fresh}
use Rattle.heads.specs.Numbers.{no_state_def}
use Rattle.heads.proofs.Rows.{row_zero, all_zero, one_not_zero}
use Rattle.heads.proofs.numbers.state_in.Goals as goal

pub returns-then-any-eq0 : goal.returns-then-any-eq0
returns-then-any-eq0 c =
    let row = c.args.row.now in
    sym (row_zero row c.if-row-eq0.true ∙ ap (λ (t : Bool). cond t Fresh no_state_def) (all_zero row c.told-row c.if-row-eq0.true c.if-any-eq0.true))

pub returns-else-any-eq0 : goal.returns-else-any-eq0
returns-else-any-eq0 c =
    let row = c.args.row.now in
    sym (row_zero row c.if-row-eq0.true ∙ ap (λ (t : Bool). cond t Fresh no_state_def) (one_not_zero row c.if-any-eq0.false))
