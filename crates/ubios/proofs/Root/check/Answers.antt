-- The checks of a table, then the root's own.
use Rattle.std.proofs.Common.{drop, sym, ap, ◌∙◌}
use Rattle.le.proofs.Parts.{rest}
use Rattle.ubios.specs.Layout.{root_header}
use Rattle.ubios.specs.Checks.{root_judged}
use Rattle.ubios.specs.declared.Table.{Table}
use Rattle.ubios.proofs.Answers.{passes_only, root_after_lem}
use Rattle.ubios.proofs.Root.check.Goals as goal

pub returns : goal.returns
returns c =
    let r = c.args.region in
    let passed = passes_only root_header r.bytes.now r.base c.args.address _ (sym c.in_ok-table.ensures) in
    c.judge.ensures
    ∙ ap (root_judged _) (rest r.bytes.now c.in_ok-table.table.at ∙ ap (λ (t : Table). drop t.at r.bytes.now) passed.is)
    ∙ sym (root_after_lem _ _ _ (sym c.in_ok-table.ensures))
