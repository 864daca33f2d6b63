-- The test is that of each place.
use Rattle.std.proofs.Common.{rules, List, ℕ, Bool, map, sym, ap, ◌∙◌}
use Rattle.std.proofs.lemmas.Iterator.{YieldsList-from_slice}
use Rattle.std.proofs.lemmas.Iterator.Search.{all_from_yields_List}
use borrow.Author.Tests.{tests}
use Rattle.reassembly.specs.Step.{consistent}
use Rattle.heads.specs.Places.{place_size, all_consistent}
use Rattle.heads.specs.Numbers.{state_in_def}
use Rattle.heads.proofs.Rows.{all_rows}
use Rattle.heads.proofs.numbers.Places.read.Goals as goal

abbrev is_fit : List ℕ → Bool
is_fit r = consistent (state_in_def r) place_size

pub returns-then-not-all_fit : goal.returns-then-not-all_fit
returns-then-not-all_fit c =
    let rs = c.rows_of.result.now in
    let all = all_from_yields_List is_fit _ _ c.all-all_fit.result c.all-all_fit.ensures.ran (YieldsList-from_slice rs cc) (λ x b q k. search (rules, tests)) in
    sym (ap (λ (rs : List (List ℕ)). all_consistent (map state_in_def rs)) c.rows_of.ensures) ∙ sym (all ∙ all_rows rs) ∙ c.if-not-all_fit.true

pub of-requires : goal.of-requires
of-requires c =
    let rs = c.rows_of.result.now in
    let all = all_from_yields_List is_fit _ _ c.all-all_fit.result c.all-all_fit.ensures.ran (YieldsList-from_slice rs cc) (λ x b q k. search (rules, tests)) in
    sym (ap (λ (rs : List (List ℕ)). all_consistent (map state_in_def rs)) c.rows_of.ensures) ∙ sym (all ∙ all_rows rs) ∙ c.if-not-all_fit.false
