-- The header lands at the output's start, then the piece is copied to the part behind it.
use Rattle.std.proofs.Common.{◌≡◌, ℕ, List, ◌++◌, drop, sym, ap, ◌∙◌, arith}
use Rattle.le.specs.Copy.{copied}
use Rattle.le.proofs.Parts.{copied_whole, copied_behind}
use Rattle.frame.specs.Layout.{header_size, header_bytes}
use Rattle.frame.proofs.Writing.{length_header}
use Rattle.frame.proofs.write.lay.Goals as goal

pub returns-clause-out_after : goal.returns-clause-out_after
returns-clause-out_after c =
    let header = header_bytes c.args.header in
    let out = c.args.out.now in
    let long = length_header c.args.header in
    let landed : header ++ drop header_size out ≡ copied header out = ap (λ (n : ℕ). header ++ drop n out) (sym long) ∙ sym (copied_whole header out (omega (arith, long, c.if-out-length.false))) in
    let head_landed = ap (λ (l : List ℕ). l ++ drop header_size out) (c.copy_from_slice.ensures.after ∙ c.bytes.ensures) ∙ landed in
    copied_behind header c.args.piece.now out _ _ header_size long c.if-out-length.false head_landed c.copy.ensures
