-- A word of 2 bytes is its bytes, each by the weight of its place.
use Rattle.std.proofs.Common.{arith}
use Rattle.le.proofs.Words.{word_places}
use Rattle.le.proofs.word.U16Word.at.Goals as goal

pub returns : goal.returns
returns c = rw (← c.tail-rest.ensures) (omega (arith, word_places 2 c.tail-rest.result.now))
