use Rattle.std.specs.Prelude.{take}
use Rattle.pl_table.specs.Rows.{table_rows}
use Rattle.pl_rows.specs.Plan.{states}
use Rattle.pl_rows.proofs.BlockLaws.{HaveReadColumns}
use Rattle.pl_rows.proofs.blocks.add_columns.Given as goal

abbrev pub invariant-loop-index : goal.invariant-loop-index
invariant-loop-index l = HaveReadColumns l.plan (take l.rows (table_rows l.block l.table)) l.index (states l.initial.buffers) (states l.buffers)
