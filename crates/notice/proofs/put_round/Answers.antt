-- A copy to the end of the ring, and one of what is left to its start.
use Rattle.std.proofs.Common.{ℕ, List, ◌++◌, take, ap, ap₂, ◌∙◌}
use Rattle.le.specs.Copy.{copied}
use Rattle.le.proofs.Parts.{rest, put_rest}
use Rattle.notice.proofs.Turning.{put_parts}
use Rattle.notice.proofs.put_round.Goals as goal

pub returns : goal.returns
returns c =
    let src = c.args.src.now in
    let at = c.args.at in
    let ring = c.args.ring.now in
    let part_is = c.copy.ensures ∙ ap (copied src) (rest ring at) in
    let whole = put_rest ring _ at ∙ ap (λ (l : List ℕ). take at ring ++ l) part_is in
    c.copy-2.ensures ∙ ap₂ copied c.tail.ensures whole ∙ put_parts src at ring c.requires.0 c.requires.1
