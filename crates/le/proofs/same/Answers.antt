use Rattle.std.proofs.Common.{◌≡◌, ◌+◌, ◌*◌, ◌/◌, length, sym, ◌∙◌, arith, rules}
use Rattle.le.proofs.Comparing.{byte_off, byte_on, none_left, other_length, other_word, word_on}
use Rattle.le.proofs.same.Goals as goal

pub returns-then-a-b : goal.returns-then-a-b
returns-then-a-b c = sym (other_length c.args.a.now c.args.b.now c.if-a-b.true)

pub returns-then-inner : goal.returns-then-inner
returns-then-inner c =
    sym (other_word c.args.a.now c.args.b.now (8 * c.loop-n.n) (rw (c.inner.ensures, c.inner-in-loop-n.ensures) at c.if-inner.true))

pub loop-n-preserved : goal.loop-n-preserved
loop-n-preserved c =
    let n = c.loop-n.n in
    let alike = sym c.inner.ensures ∙ c.if-inner.false ∙ c.inner-in-loop-n.ensures in
    let on =
    word_on c.args.a.now c.args.b.now (8 * n)
    (λ i. omega (arith, c.type_inv.a i))
    (λ i. omega (arith, c.type_inv.b i))
    c.if-a-b.false alike in
    let next : 8 * n + 8 ≡ 8 * (n + 1) = omega arith in
    (omega arith, sym (rw next at on) ∙ c.loop-n.invariant.1)

pub loop-i-init : goal.loop-i-init
loop-i-init c =
    let words : c.loop-n.n ≡ length c.args.a.now / 8 = omega arith in
    rw words at c.loop-n.invariant.1

pub returns-then-a-i : goal.returns-then-a-i
returns-then-a-i c =
    sym (byte_off c.args.a.now c.args.b.now c.loop-i.i c.if-a-b.false (search rules) c.if-a-i.true) ∙ c.loop-i.invariant

pub loop-i-preserved : goal.loop-i-preserved
loop-i-preserved c =
    sym (byte_on c.args.a.now c.args.b.now c.loop-i.i c.if-a-b.false (search rules) c.if-a-i.false) ∙ c.loop-i.invariant

pub returns : goal.returns
returns c =
    sym (none_left c.args.a.now c.args.b.now c.loop-i.i c.if-a-b.false (search rules)) ∙ c.loop-i.invariant
