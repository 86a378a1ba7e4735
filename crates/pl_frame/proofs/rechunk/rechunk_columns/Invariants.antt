use Rattle.std.proofs.Common.{◌≡◌}
use Rattle.pl_frame.proofs.rechunk.rechunk_columns.Given as goal

abbrev pub invariant-loop-place : goal.invariant-loop-place
invariant-loop-place l = l.frame ≡ l.initial.frame
