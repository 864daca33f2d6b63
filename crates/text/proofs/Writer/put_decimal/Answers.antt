-- The digits are spelt over the part of the output that has a byte for each, where there is one.
use Rattle.std.proofs.Common.{◌≡◌, ℕ, ◌+◌, ◌≤◌, List, ◌++◌, length, take, drop, refl, sym, ap, ap₂, ◌∙◌, leb-true, arith}
use borrow.Rule.Slice.PartMut.{Post-is}
use Rattle.text.specs.Decimal.{decimal}
use Rattle.text.proofs.Output.{not_put, is_put}
use Rattle.text.proofs.Writer.put_decimal.Goals as goal

pub returns-then-has_room : goal.returns-then-has_room
returns-then-has_room c =
    let at = c.args.self.now.at in
    let digits = decimal c.args.n in
    let out = c.args.self.now.out.now in
    let count = c.count_digits-count in
    let fit = sym c.has_room.ensures ∙ c.if-has_room.true in
    let law = is_put at digits out _ count.ensures fit in
    let room : at + count.result ≤ length out = leb-true _ _ fit in
    let last : drop (at + count.result) out ≡ drop (at + length digits) out = ap (λ (k : ℕ). drop (at + k) out) count.ensures in
    let parts = ap₂ (λ (a b : List ℕ). take at out ++ (a ++ b)) c.spell.ensures (Post-is at (at + count.result) out (omega arith) ∙ last) in
    record { same_output = refl; place_is = law.0; out_is = parts ∙ law.1 }

pub returns-else-has_room : goal.returns-else-has_room
returns-else-has_room c =
    let law = not_put c.args.self.now.at (decimal c.args.n) c.args.self.now.out.now _ c.count_digits-count.ensures (sym c.has_room.ensures ∙ c.if-has_room.false) in
    record { same_output = refl; place_is = law.0; out_is = law.1 }
