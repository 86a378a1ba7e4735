use Rattle.std.proofs.Common.{◌≡◌}
use Rattle.pl_rows.specs.Plan.{states}
use Rattle.pl_rows.specs.Columns.{columns_of}
use Rattle.pl_rows.proofs.columns.put_columns.Given as goal

abbrev pub invariant-loop-buffer : goal.invariant-loop-buffer
invariant-loop-buffer l = l.columns.items ≡ columns_of (states l.yielded)
