-- Each part is put behind the one before: the word has 10 bytes, the Message ID at most 11, the length at most 5.
use Rattle.std.proofs.Common.{◌++◌, arith}
use Rattle.text.specs.Decimal.{decimal}
use Rattle.text.proofs.Output.{adds, room_left, adds_both}
use Rattle.replay.specs.Helpers.{told_max}
use Rattle.replay.specs.Lines.{space, delivered_word}
use Rattle.replay.proofs.Texts.{number_most, length_most, delivered_short}
use Rattle.replay.proofs.put_delivered.Goals as goal

pub put_spaced-requires : goal.put_spaced-requires
put_spaced-requires c =
    let word = space ++ delivered_word in
    let worded = c.put.new.self in
    let first = adds told_max word c.args.text.now worded c.requires.1 (omega arith) c.put.ensures in
    room_left word c.args.text.now worded first told_max _ c.requires.1 (omega (arith, number_most c.args.id c.ranges.id.fits))

pub put_spaced-requires-2 : goal.put_spaced-requires-2
put_spaced-requires-2 c =
    let word = space ++ delivered_word in
    let id = space ++ decimal c.args.id in
    let worded = c.put.new.self in
    let named = c.put_spaced.new.text in
    let first = adds told_max word c.args.text.now worded c.requires.1 (omega arith) c.put.ensures in
    let left = room_left word c.args.text.now worded first told_max 16 c.requires.1 (omega arith) in
    room_left id worded named c.put_spaced.ensures 16 _ left (omega (arith, number_most c.args.id c.ranges.id.fits, length_most c.args.n c.requires.0))

pub returns-clause-adds : goal.returns-clause-adds
returns-clause-adds c =
    let word = space ++ delivered_word in
    let id = space ++ decimal c.args.id in
    let n = space ++ decimal c.args.n in
    let worded = c.put.new.self in
    let named = c.put_spaced.new.text in
    let first = adds told_max word c.args.text.now worded c.requires.1 (omega arith) c.put.ensures in
    adds_both word c.args.text.now worded first (id ++ n) _ (adds_both id worded named c.put_spaced.ensures n _ c.put_spaced-2.ensures)

pub returns-clause-short : goal.returns-clause-short
returns-clause-short c = delivered_short c.args.id c.args.n c.ranges.id.fits c.requires.0
