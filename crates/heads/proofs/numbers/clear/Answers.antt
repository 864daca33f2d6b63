-- Zeros are eight fresh places.
use Rattle.std.proofs.Common.{rules, ◌≡◌, ℕ, List, replicate, sym, ap, ◌∙◌}
use Rattle.heads.specs.Places.{place_count, all_fresh}
use Rattle.heads.specs.Numbers.{number_count, places_in, numbers_of}
use Rattle.heads.proofs.Rows.{fresh_numbers, fresh_places}
use Rattle.heads.proofs.numbers.clear.Goals as goal

zeros : (b : List ℕ) → b ≡ replicate number_count 0 → b ≡ numbers_of all_fresh
zeros b e = e ∙ sym (fresh_numbers place_count)

pub returns-clause-places_after : goal.returns-clause-places_after
returns-clause-places_after c = zeros _ (search rules)

pub returns-clause-read_back : goal.returns-clause-read_back
returns-clause-read_back c = ap places_in (zeros _ (search rules)) ∙ fresh_places place_count
