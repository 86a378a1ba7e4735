-- How the fields of rows are read as cells (docs/types.md, "Cells").
use Rattle.std.specs.Prelude.{ℕ, Bool, List, Option}
use Rattle.pl_frame.specs.declared.data_type.DataType.{DataType}
use Rattle.pl_cells.specs.declared.null_values.NullValuesCompiled.{NullValuesCompiled}
use Rattle.pl_cells.specs.Cells.{Cell, Reading}
use Rattle.pl_cells.specs.Cells as cells
use Rattle.pl_cells.specs.NullValues.{means_null}

-- how rows are read: the quote, if there is one; what is done with texts of each kind; which texts mean null; and whether
-- more fields than columns are passed over
pub record RowRules : Type 0 where
  pub quote_char : Option ℕ
  pub reading : Reading
  pub nulls : Option NullValuesCompiled
  pub truncate_ragged_lines : Bool

-- the cell of a field in a column
abbrev pub cell : RowRules → ℕ → DataType → List ℕ → Cell
cell rules column type field = cells.cell rules.reading (means_null rules.nulls column) rules.quote_char type field
