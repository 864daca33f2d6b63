use Rattle.std.proofs.Common.{rules}
use borrow.Author.Tests.{tests}
use Rattle.ubios.proofs.Ranges.{first_in_range}
use Rattle.ubios.proofs.Walking.{hit_at, first_met}
use Rattle.ubios.proofs.lookup.next_hit.Goals as goal

pub returns : goal.returns
returns c =
    let a = c.args in
    let hit = hit_at a.region.bytes.now a.region.base a.name.bytes.now a.slots.now in
    first_met _ _ _ _ _ _ _ (first_in_range _ _ hit (λ x y q k. search (rules, tests)) (λ x y k. search (rules, tests)) c.find_map.result _ c.find_map.ensures.runs)
