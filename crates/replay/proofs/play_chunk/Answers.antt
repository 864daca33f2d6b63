-- What is played is what the loop keeps, and a turn plays one record.
use Rattle.std.proofs.Common.{rules, arith, sym, ◌∙◌}
use Rattle.replay.proofs.Spans.{done_all, done_halted, turn}
use Rattle.replay.proofs.play_chunk.Goals as goal
use Rattle.replay.proofs.play_chunk.Goals.{in-None, in-Some+then-must_halt}

pub loop-slice-preserved : goal.loop-slice-preserved
loop-slice-preserved c =
    let steps = c.in-Some.ensures.steps in
    let kept = c.loop-slice.invariant in
    let line = c.play_line-current.ensures in
    let size = steps.0 ∙ kept.2 in (
      rw size (omega arith),
      tt,
      size,
      line.adds.same_output ∙ kept.3,
      turn _ _ _ _ _ _ _ _ _ _ kept.4 _ _ _ _ _ steps.1.0 (rw kept.2 at steps.1.1) steps.1.2 (sym c.must_halt.ensures ∙ c.if-must_halt.false) line.value line.adds line.buffer_after,
    )

pub returns-clause-value : goal.returns-clause-value
returns-clause-value c = elim c.match-next.branch [
  | in-None w ↦ (done_all _ _ _ _ _ _ _ _ _ _ c.loop-slice.invariant.4 w.in-None.ensures.steps.1.0).0
  | in-Some+then-must_halt w ↦ (done_halted _ _ _ _ _ _ _ _ _ _ c.loop-slice.invariant.4 w.in-Some.ensures.steps.1.2 (sym w.must_halt.ensures ∙ w.if-must_halt.true)).0
]

pub returns-clause-buffer_after : goal.returns-clause-buffer_after
returns-clause-buffer_after c = elim c.match-next.branch [
  | in-None w ↦ (done_all _ _ _ _ _ _ _ _ _ _ c.loop-slice.invariant.4 w.in-None.ensures.steps.1.0).1.0
  | in-Some+then-must_halt w ↦ (done_halted _ _ _ _ _ _ _ _ _ _ c.loop-slice.invariant.4 w.in-Some.ensures.steps.1.2 (sym w.must_halt.ensures ∙ w.if-must_halt.true)).1.0
]

pub returns-clause-out_after : goal.returns-clause-out_after
returns-clause-out_after c = elim c.match-next.branch [
  | in-None w ↦ search (rules, c.loop-slice.invariant.3) ∙ (done_all _ _ _ _ _ _ _ _ _ _ c.loop-slice.invariant.4 w.in-None.ensures.steps.1.0).1.1
  | in-Some+then-must_halt w ↦ search (rules, c.loop-slice.invariant.3) ∙ (done_halted _ _ _ _ _ _ _ _ _ _ c.loop-slice.invariant.4 w.in-Some.ensures.steps.1.2 (sym w.must_halt.ensures ∙ w.if-must_halt.true)).1.1
]
