-- The text so far stands at the output's start, and all that is to be played is that and what is left.
use Rattle.std.proofs.Common.{◌≡◌}
use Rattle.std.specs.Slice.Iter.{chunks_rest, chunks_size}
use Rattle.framelog.specs.Layout.{record_size}
use Rattle.replay.proofs.Spans.{Kept}
use Rattle.replay.proofs.play_chunk.Given as goal

abbrev pub invariant-loop-slice : goal.invariant-loop-slice
invariant-loop-slice l =
    goal.iterator-loop-slice.can_next l.slice-iterator
    × goal.iterator-loop-slice.is_finite l.slice-iterator
    × (chunks_size l.slice-iterator ≡ record_size)
    × (l.text.out.ghost_name ≡ l.initial.text.out.ghost_name)
    × Kept l.us l.fn.player l.fn.buffer l.chunk l.fn.out l.current l.buffer l.text (chunks_rest l.slice-iterator) l.read
