-- Each number of the table holds: the test computes. So does the equation.
-- Assumes nothing.
use mathlib.Core.Path.{refl}
use Rattle.le.specs.Word.{word, bytes}
use Rattle.le.specs.Sum.{total, total_of, sum}
use Rattle.le.specs.Compare.{same}
use Rattle.frame.specs.Layout.{header_bytes}
use Rattle.frame.specs.Reading.{parsed}
use Rattle.frame.specs.Writing.{count_of, counted, written}
use Rattle.reassembly.specs.Step.{consistent, accept, begin, proceed, routed, received}
use Rattle.reassembly.specs.Run.{answers}
use Rattle.notice.specs.Ring.{bad_ring, waiting, moved, posted, taken_of}
use Rattle.notice.specs.Queue.{run, end}
use Rattle.ubios.specs.Layout.{up_to_zero}
use Rattle.region.specs.Region.{outside}
use Rattle.ubios.specs.Checks.{bad_size, judged, checked, bad_count, root_judged, root_checked}
use Rattle.sfi.specs.Kinds.{among}
use Rattle.sfi.specs.Checks.{bad_length, bad_entries, judged as sfiJudged, header_checked, checked as sfiChecked}
use Rattle.cases.specs.Cases.{is_answer, holds, all_hold, starred, StarredHold, LogHoldsFrames}

pub starred_hold : StarredHold
unfolding word bytes total total_of sum header_bytes parsed count_of counted written consistent accept begin proceed routed received answers bad_ring waiting moved posted taken_of run end up_to_zero outside bad_size judged checked bad_count root_judged root_checked among bad_length bad_entries sfiJudged header_checked sfiChecked same is_answer holds all_hold starred
starred_hold = refl

pub log_holds_frames : LogHoldsFrames
log_holds_frames = refl
