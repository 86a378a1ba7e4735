use Rattle.std.proofs.Common.{◌≡◌, take}
use Rattle.pl_rows.specs.Plan.{states}
use Rattle.pl_rows.specs.Columns.{columns_of}
use Rattle.pl_rows.proofs.columns.packed_columns.Given as goal

abbrev pub invariant-loop-buffer : goal.invariant-loop-buffer
invariant-loop-buffer l = l.columns.items ≡ columns_of (states (take l.buffer-index l.fn.buffers))
