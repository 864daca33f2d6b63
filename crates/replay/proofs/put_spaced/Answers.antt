-- The number is put behind the space.
use Rattle.std.proofs.Common.{◌++◌, length, arith}
use Rattle.text.specs.Decimal.{decimal}
use Rattle.text.proofs.Output.{adds, room_left, adds_both}
use Rattle.replay.specs.Lines.{space}
use Rattle.replay.proofs.put_spaced.Goals as goal

pub returns : goal.returns
returns c =
    let before = c.args.text.now in
    let between = c.put.new.self in
    let digits = decimal c.args.n in
    let most = length (space ++ digits) in
    let first = adds most space before between c.requires (omega arith) c.put.ensures in
    let left = room_left space before between first most (length digits) c.requires (omega arith) in
    adds_both space before between first digits _ (adds (length digits) digits between _ left (omega arith) c.put_decimal.ensures)
