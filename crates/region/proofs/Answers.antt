-- The laws of a region: what its tests say together, and what is known of a header that is not outside.
-- Assumes nothing.
use Rattle.std.proofs.Common.{◌≡◌, ℕ, ◌-◌, ◌≤◌, arith, ltb}
use Rattle.std.proofs.lemmas.Bool.{or_parts, le-ltb, ltb-false}
use Rattle.std.proofs.lemmas.Bool.Decides.{nat_tests}
use Rattle.region.specs.Region.{runs_past_def, is_before, ends_behind, outside}
use Rattle.region.specs.Statements.{NotOutside, IsInside}

-- by the room that there is from the address on
pub by_room : (header size base address : ℕ) → base ≤ address → address - base ≤ size → ends_behind header size base address ≡ ltb (size - (address - base)) header
by_room header size base address h near = grind (arith, nat_tests)

pub is_inside : IsInside
unfolding outside
is_inside header size base address i = rw (le-ltb _ _ i.top, le-ltb _ _ i.start, le-ltb _ _ i.end)

pub not_outside : NotOutside
unfolding outside
not_outside header size base address e =
    let p = or_parts (runs_past_def size base) _ e in
    let q = or_parts (is_before base address) _ p.1 in
    record { top = ltb-false _ _ p.0; start = ltb-false _ _ q.0; end = ltb-false _ _ q.1 }
