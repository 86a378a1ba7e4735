use Rattle.std.proofs.Common.{◌≡◌}
use Rattle.pl_rows.specs.Plan.{states}
use Rattle.pl_rows.proofs.whole_pieces.make_room.Given as goal

abbrev pub invariant-loop-place : goal.invariant-loop-place
invariant-loop-place l = states l.buffers ≡ states l.initial.buffers
