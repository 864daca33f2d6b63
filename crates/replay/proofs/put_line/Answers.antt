-- The number, what is told and the newline are put one behind the other.
use Rattle.std.proofs.Common.{◌++◌, arith}
use Rattle.text.specs.Decimal.{decimal}
use Rattle.text.proofs.Digits.{digits_most}
use Rattle.text.proofs.Output.{adds, room_left, adds_both}
use Rattle.replay.specs.Chunk.{line_max}
use Rattle.replay.specs.Helpers.{told_max}
use Rattle.replay.specs.Lines.{space, newline, told, line_of}
use Rattle.replay.proofs.put_line.Goals as goal

pub put_told-requires : goal.put_told-requires
put_told-requires c =
    let number = decimal c.args.number in
    let digits = digits_most c.args.number 20 (omega (arith, c.ranges.number.fits)) (omega arith) in
    let first = adds line_max number c.args.text.now c.put_decimal.new.self c.requires.1 (omega (arith, digits)) c.put_decimal.ensures in
    (c.requires.0, room_left number c.args.text.now c.put_decimal.new.self first line_max told_max c.requires.1 (omega (arith, digits)))

pub returns : goal.returns
unfolding line_of
returns c =
    let number = decimal c.args.number in
    let said = space ++ told c.args.entry in
    let digits = digits_most c.args.number 20 (omega (arith, c.ranges.number.fits)) (omega arith) in
    let numbered = c.put_decimal.new.self in
    let after = c.put_told.new.text in
    let first = adds line_max number c.args.text.now numbered c.requires.1 (omega (arith, digits)) c.put_decimal.ensures in
    let left = room_left number c.args.text.now numbered first line_max 27 c.requires.1 (omega (arith, digits)) in
    let last = adds 1 newline after _ (room_left said numbered after c.put_told.ensures.adds 27 1 left (omega (arith, c.put_told.ensures.short))) (omega arith) c.put.ensures in
    adds_both number c.args.text.now numbered first (said ++ newline) _ (adds_both said numbered after c.put_told.ensures.adds newline _ last)
