-- What only private functions' contracts name. No reader has to believe it: `proofs/Writing.antt` ties it to `written`.
-- Assumes nothing.
use Rattle.std.specs.Prelude.{ℕ, cond, List, Result, Ok, Err, ltb, length}
use Rattle.frame.specs.declared.write.Reason.{Reason}
use Rattle.frame.specs.declared.write.Reason.TheVariants.{OutputShort}

-- what laying a frame at the output's start answers: the last link of `written`
abbrev pub lay_answer : List ℕ → List ℕ → Result ℕ Reason
lay_answer frame out = cond (ltb (length out) (length frame)) (Err OutputShort) (Ok (length frame))
