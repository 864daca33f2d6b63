-- Past the count no frame is laid; below it the frame that is laid is the one with that Index.
use Rattle.std.proofs.Common.{List, ℕ, length, sym, ap, ap₂, ◌∙◌, arith}
use Rattle.frame.specs.Layout.{frame_of}
use Rattle.frame.specs.Helpers.{lay_answer}
use Rattle.frame.proofs.Counting.{counted_legal, index_small}
use Rattle.frame.proofs.Writing.{no_frame, one_frame}
use Rattle.frame.proofs.write.write.Goals as goal

pub returns-then-frames-index-clause-value : goal.returns-then-frames-index-clause-value
returns-then-frames-index-clause-value c =
    sym (no_frame c.args.e c.args.message.now c.args.size c.args.index c.args.out.now _ (sym c.in_ok-frames.ensures) c.if-frames-index.true)

pub overflow_cast-index : goal.overflow_cast-index
overflow_cast-index c =
    let legal = counted_legal _ _ _ (sym c.in_ok-frames.ensures) in
    omega (arith, legal.message, index_small (length c.args.message.now) c.args.size c.args.index legal.some (rw (← legal.count) c.if-frames-index.false))

pub returns-clause-value : goal.returns-clause-value
returns-clause-value c =
    let out = c.args.out.now in
    let frame_is = ap₂ frame_of c.new-header.ensures c.piece.ensures in
    let answer = one_frame c.args.e c.args.message.now c.args.size c.args.index out _ (sym c.in_ok-frames.ensures) c.if-frames-index.false in
    c.lay.ensures.value ∙ ap (λ (f : List ℕ). lay_answer f out) frame_is ∙ sym answer
