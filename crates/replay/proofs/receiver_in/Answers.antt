-- By the file's length.
use Rattle.std.proofs.Common.{ℕ, Bool, true, false, ◌≡◌, cond, Some, None, refl}
use Rattle.std.specs.Bool.{then_some}
use Rattle.replay.specs.Lines.{receiver_of}
use Rattle.replay.proofs.receiver_in.Goals as goal

some_if : (b : Bool) (x : ℕ) → then_some b x ≡ cond b (Some x) None
some_if true x = refl
some_if false x = refl

pub returns : goal.returns
unfolding receiver_of
returns c = rw (c.then_some.ensures, c.at.ensures) (some_if _ _)
