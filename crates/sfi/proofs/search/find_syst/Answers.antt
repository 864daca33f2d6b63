-- The chain finds the first hit of the places.
use Rattle.std.proofs.Common.{rules, tests, ◌∙◌}
use Rattle.sfi.proofs.Searching.{first_of_run}
use Rattle.sfi.proofs.search.find_syst.Goals as goal

pub returns : goal.returns
returns c =
    let places = c.find.ensures.runs in
    let numbers = c.map.ensures.runs places.0 places.0.seen places.1 in
    c.ok_or.ensures.value
    ∙ first_of_run places.0 numbers.0 numbers.1 _ _ numbers.2 (λ a r q k. search rules) (λ x y k. search rules) _ _ c.args.memory.now (λ a r q k. search rules) (λ x b k. search (rules, tests)) _ places.2 c.if-memory-ne-MEMORY_SIZE.false
