-- By what the record's reader answers.
use Rattle.std.proofs.Common.{refl, sym, ap}
use Rattle.replay.specs.Day.{Stage}
use Rattle.replay.proofs.Playing.{is_skipped, is_run}
use Rattle.replay.proofs.play.Goals as goal

pub returns-in-Ok-clause-value : goal.returns-in-Ok-clause-value
returns-in-Ok-clause-value c =
    let runs = is_run c.args.us c.args.state c.args.buffer.now c.args.slice.now _ (sym c.in-Ok.ensures) in
    cc runs

pub returns-in-Ok-clause-buffer_after : goal.returns-in-Ok-clause-buffer_after
returns-in-Ok-clause-buffer_after c =
    let runs = is_run c.args.us c.args.state c.args.buffer.now c.args.slice.now _ (sym c.in-Ok.ensures) in
    cc (ap (λ (s : Stage). s.buffer) runs)

pub returns-in-Err-clause-value : goal.returns-in-Err-clause-value
returns-in-Err-clause-value c = rw (is_skipped c.args.us c.args.state c.args.buffer.now c.args.slice.now _ (sym c.in-Err.ensures)) refl

pub returns-in-Err-clause-buffer_after : goal.returns-in-Err-clause-buffer_after
returns-in-Err-clause-buffer_after c = rw (is_skipped c.args.us c.args.state c.args.buffer.now c.args.slice.now _ (sym c.in-Err.ensures)) refl
