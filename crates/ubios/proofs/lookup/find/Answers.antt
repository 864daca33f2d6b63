-- 39, the root's refusals, and then what its slots lead to.
use Rattle.std.proofs.Common.{ℕ, List, ◌≤◌, ◌+◌, ◌*◌, ◌/◌, length, take, sym, ap, ap₂, ◌∙◌, arith, length-take, length-drop}
use Rattle.le.proofs.Parts.{rest}
use Rattle.ubios.specs.Layout.{addresses}
use Rattle.ubios.specs.Lookup.{looked_up}
use Rattle.ubios.proofs.Walking.{in_root_lem, slots_fit, slots_read}
use Rattle.ubios.proofs.lookup.find.Goals as goal

pub slice_bounds-walk-end : goal.slice_bounds-walk-end
slice_bounds-walk-end c =
    let fits : c.in_ok-root.root.table.at + 40 + 8 * c.in_ok-root.root.count ≤ length c.args.region.bytes.now = slots_fit _ _ _ _ (sym c.in_ok-root.ensures) in
    simp (length-take, length-drop) (omega arith)

pub returns : goal.returns
returns c =
    let r = c.args.region in
    let root = c.in_ok-root.root in
    let slots : List ℕ → List ℕ = λ s. addresses (length s / 8) s in
    c.walk.ensures
    ∙ ap₂ (λ (n s : List ℕ). looked_up r.bytes.now r.base n (slots s)) c.in_ok-name.ensures.1 (ap (take (8 * root.count)) (rest r.bytes.now (root.table.at + 40)))
    ∙ ap (looked_up r.bytes.now r.base c.args.name.now) (slots_read _ _ _ root (sym c.in_ok-root.ensures))
    ∙ sym (in_root_lem _ _ _ _ c.in_ok-name.ensures.0 _ (sym c.in_ok-root.ensures))
