-- A consistent state's numbers are at most 4,096, and its sequence number is a byte, so they are read again.
use Rattle.std.proofs.Common.{sym, ap, ◌∙◌, arith}
use Rattle.reassembly.specs.Step.{consistent}
use Rattle.reassembly.specs.declared.State.{State}
use Rattle.reassembly.proofs.Answers.{consistent_open}
use Rattle.heads.specs.Places.{place_size}
use Rattle.heads.specs.Numbers.{state_in_def}
use Rattle.heads.proofs.Rows.{row_back}
use Rattle.heads.proofs.numbers.Seat.row.Goals as goal

pub open_row-requires : goal.open_row-requires
open_row-requires c =
    let known = consistent_open c.in-Open.open place_size (sym (ap (λ (s : State). consistent s place_size) c.in-Open.is) ∙ c.args.self.fits) in
    (omega (arith, known.order, known.less, known.held), omega (arith, known.less, known.held))

pub returns-in-Fresh-clause-read_back : goal.returns-in-Fresh-clause-read_back
returns-in-Fresh-clause-read_back c = row_back _ tt ∙ sym c.in-Fresh.is

pub returns-in-Open-clause-read_back : goal.returns-in-Open-clause-read_back
returns-in-Open-clause-read_back c =
    ap state_in_def c.open_row.ensures.row ∙ row_back _ c.open_row.ensures.sequence_is_byte ∙ sym c.in-Open.is
