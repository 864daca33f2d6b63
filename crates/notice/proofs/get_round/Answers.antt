-- A copy in one part, or one from the end of the ring and one from its start.
use Rattle.std.proofs.Common.{ℕ, ◌-◌, List, ◌++◌, length, take, ap, ◌∙◌, rules}
use Rattle.le.specs.Copy.{copied}
use Rattle.le.proofs.Parts.{rest, put_rest}
use Rattle.notice.proofs.Turning.{get_parts}
use Rattle.notice.proofs.get_round.Goals as goal

pub returns : goal.returns
returns c =
    let ring = c.args.ring.now in
    let at = c.args.at in
    let out = c.args.out.now in
    let room = length ring - at in
    let first = c.copy-2.new.dst in
    let first_is = c.copy-2.ensures ∙ ap (λ (l : List ℕ). copied l out) c.tail.ensures in
    let part_is = c.copy-3.ensures ∙ ap (copied ring) (rest first room) in
    put_rest first _ room
    ∙ ap (λ (l : List ℕ). take room first ++ l) part_is
    ∙ get_parts ring at out first c.requires.0 (search rules) c.requires.1 first_is
