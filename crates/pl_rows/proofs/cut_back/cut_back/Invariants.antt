use Rattle.std.proofs.Common.{◌≡◌}
use Rattle.pl_rows.specs.Plan.{states}
use Rattle.pl_rows.specs.Steps.{cut_back}
use Rattle.pl_rows.proofs.cut_back.cut_back.Given as goal

abbrev pub invariant-loop-column : goal.invariant-loop-column
invariant-loop-column l = states l.buffers ≡ cut_back l.column l.count (states l.initial.buffers)
