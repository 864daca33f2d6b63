-- By the cases of the entry.
use Rattle.std.proofs.Common.{arith}
use Rattle.replay.proofs.Texts.{number_most}
use Rattle.replay.proofs.put_told.Goals as goal

pub put_spaced-requires : goal.put_spaced-requires
put_spaced-requires c = omega (arith, c.requires.1, number_most c.number.result c.number.type_inv)

pub returns-in-Err-clause-short : goal.returns-in-Err-clause-short
returns-in-Err-clause-short c = rw (c.in-Err.is, ← c.number.ensures) (omega (arith, number_most c.number.result c.number.type_inv))
