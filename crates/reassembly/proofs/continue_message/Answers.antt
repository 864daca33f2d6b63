-- The words are the same, and what is open is consistent, so its message fits the buffer.
use Rattle.std.proofs.Common.{◌≡◌, ℕ, true, ap, arith, eq-eqb}
use Rattle.frame.specs.declared.Words.{Words}
use Rattle.reassembly.specs.Step.{consistent}
use Rattle.reassembly.specs.declared.Progress.{Progress}
use Rattle.reassembly.specs.declared.State.{State}
use Rattle.reassembly.specs.declared.State.TheVariants.{Open}
use Rattle.reassembly.proofs.Answers.{answer_in, buffer_in, Consistent, consistent_open, same_tested, words_equal, goes_on_with_frame}
use Rattle.reassembly.proofs.continue_message.Goals as goal

-- what is open is consistent
known : (s : State) (p : Progress) (room : ℕ) → s ≡ Open p → consistent s room ≡ true → Consistent p room
known s p room is_open holds = consistent_open p room (rw is_open at holds)

pub accept_data-requires-clause-filled_le_total : goal.accept_data-requires-clause-filled_le_total
accept_data-requires-clause-filled_le_total c =
    let open_is = known _ _ _ c.in-Open.is c.requires in
    let total : c.in-Open.open.words.total ≡ c.args.h.words.total = ap (λ (x : Words). x.total) (words_equal c.args.h.words c.in-Open.open.words (same_tested _ _ _ c.ne.ensures c.if-ne.false)) in
    omega (arith, open_is.less)

pub accept_data-requires-clause-total_in_bounds : goal.accept_data-requires-clause-total_in_bounds
accept_data-requires-clause-total_in_bounds c =
    let open_is = known _ _ _ c.in-Open.is c.requires in
    let total : c.in-Open.open.words.total ≡ c.args.h.words.total = ap (λ (x : Words). x.total) (words_equal c.args.h.words c.in-Open.open.words (same_tested _ _ _ c.ne.ensures c.if-ne.false)) in
    omega (arith, open_is.held)

pub returns-clause-value : goal.returns-clause-value
returns-clause-value c =
    answer_in _ _ _ (goes_on_with_frame _ _ _ _ _ c.in-Open.is (eq-eqb _ _ c.if-h-open.false) (same_tested _ _ _ c.ne.ensures c.if-ne.false)) c.accept_data.ensures.value

pub returns-clause-buf_after : goal.returns-clause-buf_after
returns-clause-buf_after c =
    buffer_in _ _ _ (goes_on_with_frame _ _ _ _ _ c.in-Open.is (eq-eqb _ _ c.if-h-open.false) (same_tested _ _ _ c.ne.ensures c.if-ne.false)) c.accept_data.ensures.buf_after
