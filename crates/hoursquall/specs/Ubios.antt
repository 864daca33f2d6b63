-- What the crate `ubios` answers, as numbers. A refusal leaves what the caller lent as it was.
-- Assumes nothing.
use Rattle.std.specs.Prelude.{ℕ, List, [], ◌∷◌, Result}
use Rattle.ubios.specs.declared.Reason.{Reason}
use Rattle.ubios.specs.declared.Root.{Root}
use Rattle.ubios.specs.declared.Table.{Table}
use Rattle.ubios.specs.declared.lookup.Body.{Body}
use Rattle.hoursquall.specs.Answer.{left_lent}

-- the used part's place in the region and its length
abbrev pub part_of : Table → List ℕ
part_of table = table.at ∷ table.used ∷ []

abbrev pub part_after : Result Table Reason → List ℕ → List ℕ
part_after answer before = left_lent part_of answer before

-- the used part likewise, and how many slots there are
abbrev pub root_part_of : Root → List ℕ
root_part_of root = root.table.at ∷ root.table.used ∷ root.count ∷ []

abbrev pub root_part_after : Result Root Reason → List ℕ → List ℕ
root_part_after answer before = left_lent root_part_of answer before

-- the slot, and the body's place in the region and its length
abbrev pub place_of : Body → List ℕ
place_of body = body.slot ∷ body.at ∷ body.length ∷ []

abbrev pub body_after : Result Body Reason → List ℕ → List ℕ
body_after answer before = left_lent place_of answer before
