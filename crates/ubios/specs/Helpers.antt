-- What only the contracts of private functions name.
-- Assumes nothing.
use Rattle.std.specs.Prelude.{ℕ, cond, List, [], ◌∷◌, Option, Some, None}
use Rattle.ubios.specs.Lookup.{leads, body_at}
use Rattle.ubios.specs.declared.lookup.Body.{Body}

-- what one slot leads to
abbrev pub hit_of : List ℕ → ℕ → List ℕ → ℕ → ℕ → Option Body
hit_of region base name slot address = cond (leads region base name address) (Some (body_at region base slot address)) None

-- the first of all hits
abbrev pub first_of : List Body → Option Body
first_of [] = None
first_of (b ∷ more) = Some b
