-- A word of one byte is the byte.
use Rattle.le.proofs.Words.{byte_at}
use Rattle.le.proofs.word.U8Word.at.Goals as goal

pub returns : goal.returns
returns c = rw (byte_at c.args.s.now c.args.at) c.byte.ensures
