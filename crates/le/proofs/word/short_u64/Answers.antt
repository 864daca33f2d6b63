-- A word of 8 bytes is two of 4, the second by the weight of its place.
use Rattle.std.proofs.Common.{arith}
use Rattle.le.proofs.Words.{word_split}
use Rattle.le.proofs.word.short_u64.Goals as goal

pub returns : goal.returns
returns c = omega (arith, word_split 4 4 c.args.s.now)
