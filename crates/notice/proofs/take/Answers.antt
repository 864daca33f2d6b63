-- What is read behind the header is the data.
use Rattle.std.proofs.Common.{ℕ, ◌+◌, ◌≤◌, ◌≡◌, List, ◌++◌, length, drop, ap, ◌∙◌, length-take, length-drop, arith}
use Rattle.std.proofs.Math.ListN as ListN
use Rattle.std.proofs.lemmas.List.{take-append-le}
use Rattle.notice.specs.Ring.{header_size, moved, turned}
use Rattle.notice.specs.declared.Positions.{Positions}
use Rattle.notice.proofs.Turning.{length_turned, turned_moved}
use Rattle.notice.proofs.take.Goals as goal

data_read : (ring out : List ℕ) (read n behind : ℕ) → read ≤ length ring → header_size + n ≤ length ring → n ≤ length out
    → behind ≡ moved (length ring) read header_size
    → ListN.take (length (ListN.take n out)) (turned behind ring) ≡ ListN.take n (drop header_size (turned read ring))
data_read ring out read n behind h l inside behind_is =
    let seen = turned read ring in
    let room : n ≤ length (drop header_size seen) = rw (length-drop header_size seen, length_turned read ring) (omega arith) in
    let part : length (ListN.take n out) ≡ n = simp length-take (omega arith) in
    rw (part, behind_is)
    (ap (ListN.take n) (turned_moved read header_size ring h (omega arith)) ∙ take-append-le n (drop header_size seen) (ListN.take header_size seen) room)

pub returns-clause-out_after : goal.returns-clause-out_after
returns-clause-out_after c =
    let out = c.args.out.now in
    let n = c.read_header-id.result.1 in
    let legal = c.in_ok-geometry.ensures.legal in
    let read_is = ap (λ (at : Positions). at.read) legal.2 in
    let whole : header_size + n ≤ length c.args.ring.now = grind arith in
    ap (λ (l : List ℕ). l ++ drop n out)
    (c.get_round.ensures
    ∙ data_read c.args.ring.now out c.args.at.read n _ (omega arith) whole c.if-out-length.false
    (c.moved.ensures.value ∙ ap (λ (size : ℕ). moved size c.args.at.read header_size) legal.1))
