-- All rows are those of the numbers, whose places are consistent.
use Rattle.std.proofs.Common.{ℕ, List, map, length, ap, ◌∙◌, arith}
use Rattle.heads.specs.Places.{place_count, all_consistent}
use Rattle.heads.specs.Numbers.{state_in_def}
use Rattle.heads.proofs.Rows.{length_rows}
use Rattle.heads.proofs.numbers.Places.of.Goals as goal

pub invariant_of-result : goal.invariant_of-result
invariant_of-result c =
    record {
      few = omega (arith, ap length c.rows_of.ensures, length_rows place_count c.args.numbers.now);
      all_fit = ap (λ (l : List (List ℕ)). all_consistent (map state_in_def l)) c.rows_of.ensures ∙ c.requires;
    }
