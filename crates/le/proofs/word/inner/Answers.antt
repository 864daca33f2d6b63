-- The word in the bytes cut out is the word there.
use Rattle.std.proofs.Common.{◌≡◌, ◌+◌, ◌-◌, ◌∙◌, drop, arith, length-drop}
use Rattle.le.proofs.Words.{word_within}
use Rattle.le.proofs.word.inner.Goals as goal

pub returns : goal.returns
returns g c =
    let k = g.W.Word.SIZE in
    let at = c.args.at in
    let s = c.args.s.now in
    let width : at + c.SIZE.result - at ≡ k = omega arith in
    rw width at c.at.ensures ∙ word_within k 0 k (drop at s) (omega arith) (rw (length-drop at s) c.requires)
