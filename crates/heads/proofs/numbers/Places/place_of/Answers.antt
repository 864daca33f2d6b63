-- What is open has its sender as the fourth number.
use Rattle.std.proofs.Common.{rules, ℕ, List, Bool, not, ◌&&◌, get_or, nat_eq, ◌∙◌}
use Rattle.std.proofs.lemmas.Iterator.{YieldsList-from_slice}
use Rattle.std.proofs.lemmas.Iterator.Search.{position_from_yields_List}
use borrow.Author.Tests.{tests}
use Rattle.heads.specs.Places.{is_of_def}
use Rattle.heads.proofs.Rows.{row_sender, position_told}
use Rattle.heads.proofs.numbers.Places.place_of.Goals as goal

abbrev by_sender : ℕ → List ℕ → Bool
by_sender sender row = not (nat_eq (get_or row 0 0) 0) && nat_eq (get_or row 3 0) sender

pub returns : goal.returns
returns c =
    let sender = c.args.sender in
    position_from_yields_List (by_sender sender) _ _ _ c.position.ensures.ran (YieldsList-from_slice c.args.self.rows.now cc) (λ x b q k. search (rules, tests))
    ∙ position_told (is_of_def sender) (by_sender sender) (λ row ok. row_sender row sender ok) c.args.self.rows.now c.args.self.all_fit
