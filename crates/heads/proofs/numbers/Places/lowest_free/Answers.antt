-- A place is free exactly where its first number is 0.
use Rattle.std.proofs.Common.{rules, ℕ, List, Bool, get_or, nat_eq, sym, ◌∙◌}
use Rattle.std.proofs.lemmas.Iterator.{YieldsList-from_slice}
use Rattle.std.proofs.lemmas.Iterator.Search.{position_from_yields_List}
use borrow.Author.Tests.{tests}
use Rattle.heads.specs.Places.{is_free_def}
use Rattle.heads.proofs.Rows.{row_free, position_told}
use Rattle.heads.proofs.numbers.Places.lowest_free.Goals as goal

abbrev zero_first : List ℕ → Bool
zero_first row = nat_eq (get_or row 0 0) 0

pub returns : goal.returns
returns c =
    position_from_yields_List zero_first _ _ _ c.position.ensures.ran (YieldsList-from_slice c.args.self.rows.now cc) (λ x b q k. search (rules, tests))
    ∙ position_told is_free_def zero_first (λ row ok. sym (row_free row ok)) c.args.self.rows.now c.args.self.all_fit
