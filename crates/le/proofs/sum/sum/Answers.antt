-- Whole blocks are whole words, so the sum may be cut behind them.
use Rattle.std.proofs.Common.{length-take-le, ◌*◌, ◌/◌, length, arith}
use Rattle.le.proofs.Sums.{sum_cut}
use Rattle.le.proofs.Summing.{blocks_whole, blocks_quarters}
use Rattle.le.proofs.Parts.{rest}
use Rattle.le.proofs.sum.sum.Goals as goal

pub quarters-requires : goal.quarters-requires
quarters-requires g c =
    let at = length c.args.s.now / 128 * 128 in
    rw (length-take-le at c.args.s.now (omega arith)) (blocks_quarters g.W.Word.SIZE (length c.args.s.now / 128) g.met.W.Word.size_divides.1)

pub returns : goal.returns
returns g c =
    let w = g.W.Word in
    let s = c.args.s.now in
    let at = length s / 128 * 128 in
    let law = g.met.W.Word.size_divides in
    sum_cut w.SIZE (length s / 128 * (16 * (8 / w.SIZE))) at (w.number c.quarters.result) (w.number c.serial-rest.result) _ s
    law.0
    (blocks_whole w.SIZE (length s / 128) law.1)
    (omega arith)
    c.quarters.ensures
    (rw (rest s at) at c.serial-rest.ensures)
    c.wrapping_add.ensures
