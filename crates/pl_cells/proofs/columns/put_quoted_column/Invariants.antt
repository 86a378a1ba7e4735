use Rattle.std.proofs.Common.{take}
use Rattle.std.specs.Option.{option_copied}
use Rattle.pl_table.specs.Tables.{fields_of}
use Rattle.pl_cells.specs.Columns.{AddsCells}
use Rattle.pl_cells.specs.NullValues.{means_null}
use Rattle.pl_cells.proofs.ColumnLaws.{cells_of}
use Rattle.pl_cells.proofs.columns.put_quoted_column.Given as goal

abbrev pub invariant-loop-row : goal.invariant-loop-row
invariant-loop-row g l =
    AddsCells (cells_of (g.B.CellBuffer.state l.fn.buffer) l.missing_is_null l.ignore_errors (means_null (option_copied l.null_values) l.column) l.quote_char l.column (take l.row (fields_of l.text l.table)))
    (g.B.CellBuffer.state l.fn.buffer) (g.B.CellBuffer.state l.buffer)
