use Rattle.std.proofs.Common.{sym}
use Rattle.text.proofs.Digits.{counted}
use Rattle.text.proofs.count_digits.Goals as goal

pub returns : goal.returns
returns c = sym (counted c.args.n _ _ c.max.ensures c.ilog10.ensures.power_le c.ilog10.ensures.next_power_gt)
