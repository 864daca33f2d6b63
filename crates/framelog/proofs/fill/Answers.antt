-- Two copies, the second to the part behind the header.
use Rattle.std.proofs.Common.{List, ℕ, length, take, ap, ◌∙◌}
use Rattle.le.specs.Word.{bytes}
use Rattle.le.specs.Copy.{copied}
use Rattle.le.proofs.Words.{length-bytes}
use Rattle.le.proofs.Parts.{copied_behind}
use Rattle.framelog.specs.Layout.{header_size}
use Rattle.framelog.proofs.Answers.{lowest}
use Rattle.framelog.proofs.fill.Goals as goal

pub returns : goal.returns
returns c =
    let frame = c.args.frame.now in
    let built = c.args.built.now in
    let header = c.head.ensures ∙ ap (take header_size) c.bytes-n.ensures ∙ lowest (length frame) in
    let first_is = c.copy.ensures ∙ ap (λ (l : List ℕ). copied l built) header in
    copied_behind (bytes header_size (length frame)) frame built _ _ header_size (length-bytes header_size (length frame)) c.requires first_is c.copy-2.ensures
