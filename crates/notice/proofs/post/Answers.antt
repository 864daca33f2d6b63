-- Header and data are stored one behind the other, which is as one.
use Rattle.std.proofs.Common.{ℕ, ◌+◌, ◌≤◌, ◌<◌, ◌≡◌, List, ◌++◌, length, sym, ap, ap₂, ◌∙◌, append_assoc, length-append, arith}
use Rattle.le.specs.Word.{bytes}
use Rattle.le.proofs.Words.{length-bytes}
use Rattle.notice.specs.Ring.{header_size, moved, stored, notice_of}
use Rattle.notice.specs.declared.Positions.{Positions}
use Rattle.notice.proofs.Turning.{stored_join}
use Rattle.notice.proofs.Answers.{room_left}
use Rattle.notice.proofs.post.Goals as goal

-- header and data, stored one behind the other, are the notice
notice_stored : (id write behind : ℕ) (body ring header first : List ℕ) → write < length ring → header_size + length body ≤ length ring
    → header ≡ bytes 4 id ++ bytes 4 (length body)
    → first ≡ stored write header ring
    → behind ≡ moved (length ring) write header_size
    → stored behind body first ≡ stored write (notice_of id body) ring
notice_stored id write behind body ring header first h l header_is first_is behind_is =
    let eight : length header ≡ header_size =
    ap length header_is ∙ length-append (bytes 4 id) (bytes 4 (length body)) ∙ ap₂ ◌+◌ (length-bytes 4 id) (length-bytes 4 (length body)) in
    ap₂ (λ (n : ℕ) (r : List ℕ). stored n body r) (behind_is ∙ ap (moved (length ring) write) (sym eight)) first_is
    ∙ stored_join header body write ring h (omega arith)
    ∙ ap (λ (bs : List ℕ). stored write bs ring) (ap (λ (bs : List ℕ). bs ++ body) header_is ∙ append_assoc (bytes 4 id) (bytes 4 (length body)) body)

pub returns-clause-ring_after : goal.returns-clause-ring_after
returns-clause-ring_after c =
    let geometry = c.in_ok-geometry.geometry in
    let legal = c.in_ok-geometry.ensures.legal in
    let write_is = ap (λ (at : Positions). at.write) legal.2 in
    let room = room_left geometry.capacity geometry.at (length c.args.body.now) (sym c.lacks_room.ensures ∙ c.if-lacks_room.false) in
    c.put_round-2.ensures
    ∙ notice_stored c.args.id c.args.at.write _ c.args.body.now c.args.ring.now _ _ (omega arith) (omega arith) c.header.ensures c.put_round.ensures
    (c.moved.ensures.value ∙ ap (λ (size : ℕ). moved size c.args.at.write header_size) legal.1)
