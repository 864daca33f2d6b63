-- Eight bytes are read round the ring, and two words of them.
use Rattle.std.proofs.Common.{ℕ, ◌≤◌, List, length, drop, ap, ◌∙◌, arith}
use Rattle.le.specs.Word.{word}
use Rattle.le.proofs.Words.{word_within}
use Rattle.notice.specs.Ring.{header_size, turned}
use Rattle.notice.proofs.Turning.{length_turned}
use Rattle.notice.proofs.read_header.Goals as goal

pub returns : goal.returns
returns c =
    let seen = turned c.args.at c.args.ring.now in
    let head_is = c.get_round.ensures in
    let long : header_size ≤ length seen = rw (length_turned c.args.at c.args.ring.now) c.requires.1 in (
      c.at.ensures ∙ ap (λ (l : List ℕ). word 4 l) head_is ∙ word_within 4 0 8 seen (omega arith) long,
      c.at-2.ensures ∙ ap (λ (l : List ℕ). word 4 (drop 4 l)) head_is ∙ word_within 4 4 8 seen (omega arith) long,
    )
