-- The record is built from zeros, and copied over the slice.
use Rattle.framelog.specs.Layout.{record_size}
use Rattle.framelog.proofs.Answers.{copied_out}
use Rattle.framelog.proofs.Theorems.{size_in_use}
use Rattle.framelog.proofs.write.Goals as goal

pub returns-clause-slice_after : goal.returns-clause-slice_after
returns-clause-slice_after c =
    copied_out record_size c.args.frame.now size_in_use c.if-frame-gt-FRAME_MAX.false c.args.slice.now _ _ c.if-slice-ne-RECORD_SIZE.false c.fill.ensures c.copy.ensures
