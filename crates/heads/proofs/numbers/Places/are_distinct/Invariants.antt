-- No place before `rest` shares its sender, so those of `rest` decide.
use Rattle.std.proofs.Common.{◌≡◌, ◌≤◌, true, map, length}
use Rattle.heads.specs.Places.{place_count, all_consistent, distinct}
use Rattle.heads.specs.Numbers.{state_in_def}
use Rattle.heads.proofs.numbers.Places.are_distinct.Given as goal

abbrev pub invariant-loop-row : goal.invariant-loop-row
invariant-loop-row l =
    (distinct (map state_in_def l.fn.self.rows.now) ≡ distinct (map state_in_def l.rest))
    × (all_consistent (map state_in_def l.rest) ≡ true)
    × (length l.rest ≤ place_count)

abbrev pub decreases-loop-row : goal.decreases-loop-row
decreases-loop-row l = length l.rest
