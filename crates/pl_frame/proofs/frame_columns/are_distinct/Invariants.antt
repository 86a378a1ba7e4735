use Rattle.std.proofs.Common.{◌↔◌, length}
use Rattle.pl_frame.specs.FrameParts.{AreDistinctPlaces}
use Rattle.pl_frame.proofs.frame_columns.are_distinct.Given as goal

abbrev pub invariant-loop-place : goal.invariant-loop-place
invariant-loop-place l = AreDistinctPlaces l.fn.places ↔ AreDistinctPlaces l.left

abbrev pub decreases-loop-place : goal.decreases-loop-place
decreases-loop-place l = length l.left
