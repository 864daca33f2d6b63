-- A call that is not the last reads something of what is left.
use Rattle.std.proofs.Common.{length}
use Rattle.play.proofs.play_part.Given as goal

abbrev pub decreases-loop-rest : goal.decreases-loop-rest
decreases-loop-rest g l = length l.rest
