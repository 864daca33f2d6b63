-- By the cases of the verdict.
use Rattle.std.proofs.Common.{◌++◌, arith}
use Rattle.text.proofs.Output.{adds}
use Rattle.replay.specs.Helpers.{told_max}
use Rattle.replay.specs.Lines.{space, more_word}
use Rattle.replay.proofs.Texts.{number_most}
use Rattle.replay.proofs.put_verdict.Goals as goal

pub put_spaced-requires : goal.put_spaced-requires
put_spaced-requires c = omega (arith, c.requires.1, number_most c.number.result c.number.type_inv)

pub returns-in-More-clause-adds : goal.returns-in-More-clause-adds
returns-in-More-clause-adds c = rw c.in-More.is (adds told_max (space ++ more_word) c.args.text.now _ c.requires.1 (omega arith) c.put.ensures)

pub returns-in-Refused-clause-short : goal.returns-in-Refused-clause-short
returns-in-Refused-clause-short c = rw (c.in-Refused.is, ← c.number.ensures) (omega (arith, number_most c.number.result c.number.type_inv))
