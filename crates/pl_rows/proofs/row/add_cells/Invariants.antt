use Rattle.pl_rows.specs.Plan.{states}
use Rattle.pl_rows.proofs.RowLaws.{HasReadColumns}
use Rattle.pl_rows.proofs.row.add_cells.Given as goal

abbrev pub invariant-loop-index : goal.invariant-loop-index
invariant-loop-index l = HasReadColumns l.plan l.bytes (states l.initial.buffers) (states l.buffers) l.rest l.index l.next
