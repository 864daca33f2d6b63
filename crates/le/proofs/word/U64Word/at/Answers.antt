-- A word of 8 bytes is its bytes, each by the weight of its place.
use Rattle.std.proofs.Common.{arith}
use Rattle.le.proofs.Words.{word_places}
use Rattle.le.proofs.word.U64Word.at.Goals as goal

pub returns-then-here-ge8 : goal.returns-then-here-ge8
returns-then-here-ge8 c = rw (← c.tail-here.ensures) (omega (arith, word_places 8 c.tail-here.result.now))
