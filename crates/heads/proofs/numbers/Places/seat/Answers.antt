-- Each of the places is consistent.
use Rattle.std.proofs.Common.{ap, sym, ◌∙◌, arith}
use Rattle.reassembly.specs.Step.{consistent}
use Rattle.reassembly.specs.declared.State.{State}
use Rattle.heads.specs.Places.{place_size}
use Rattle.heads.proofs.Seats.{each_consistent}
use Rattle.heads.proofs.Rows.{state_of_row}
use Rattle.heads.proofs.numbers.Places.seat.Goals as goal

pub invariant_of-result : goal.invariant_of-result
invariant_of-result c =
    let rs = c.args.self.rows.now in
    record {
      in_range = omega (arith, c.args.self.few);
      fits =
          ap (λ (s : State). consistent s place_size) (c.state_in.ensures ∙ sym (state_of_row rs c.args.k c.requires))
          ∙ each_consistent _ c.args.self.all_fit c.args.k;
    }

pub returns-clause-state : goal.returns-clause-state
returns-clause-state c = c.state_in.ensures ∙ sym (state_of_row c.args.self.rows.now c.args.k c.requires)
