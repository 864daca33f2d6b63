use Rattle.std.proofs.Common.{refl, ◌∙◌, append-nil, length, length-set, drop_of_length-le, arith}
use Rattle.text.specs.Decimal.{decimal}
use Rattle.text.proofs.Digits.{all_low, spelt}
use Rattle.text.proofs.spell.Goals as goal

pub loop-at-init : goal.loop-at-init
loop-at-init c = (refl, rw (c.requires, drop_of_length-le c.args.out.now {i = length (decimal c.args.n)} (omega (arith, c.requires)), append-nil) (all_low c.args.n))

pub loop-at-preserved : goal.loop-at-preserved
loop-at-preserved c =
    let kept = c.loop-at.invariant in
    (length-set c.loop-at.out _ _ ∙ kept.0, spelt c.loop-at.rest c.loop-at.at c.loop-at.out _ c.loop-at-test.true (omega (arith, kept.0, c.loop-at.auto.at)) kept.1)
