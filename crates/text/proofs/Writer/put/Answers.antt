-- All of the text is copied to the part from the place on, where it fits.
use Rattle.std.proofs.Common.{refl, sym, ◌∙◌, leb-true}
use Rattle.le.proofs.Parts.{copied_at}
use Rattle.text.proofs.Output.{not_put, is_put}
use Rattle.text.proofs.Writer.put.Goals as goal

pub returns-then-has_room : goal.returns-then-has_room
returns-then-has_room c =
    let at = c.args.self.now.at in
    let bytes = c.args.bytes.now in
    let out = c.args.self.now.out.now in
    let fit = sym c.has_room.ensures ∙ c.if-has_room.true in
    let law = is_put at bytes out _ refl fit in
    record { same_output = refl; place_is = law.0; out_is = copied_at bytes out _ at (leb-true _ _ fit) c.copy.ensures ∙ law.1 }

pub returns-else-has_room : goal.returns-else-has_room
returns-else-has_room c =
    let law = not_put c.args.self.now.at c.args.bytes.now c.args.self.now.out.now _ refl (sym c.has_room.ensures ∙ c.if-has_room.false) in
    record { same_output = refl; place_is = law.0; out_is = law.1 }
