-- The rows of an input and the columns that are read of them (docs/types.md, "Records and columns").
use Rattle.std.specs.Prelude.{ℕ, List, ◌∷◌, length, Option, None, Some}
use Rattle.pl_frame.specs.Frame.{ColumnValue}
use Rattle.pl_frame.specs.RowIndex.{row_index_column}
use Rattle.pl_frame.specs.Schema.{Entry}
use Rattle.pl_options.specs.declared.read_options.CsvReadOptions.{CsvReadOptions}
use Rattle.pl_options.specs.declared.row_index.RowIndex.{RowIndex}
use Rattle.pl_rows.specs.Columns.{entries_in, columns_in, frame_of_rows}
use Rattle.pl_rows.specs.Plan.{Columns}
use Rattle.pl_rows.specs.Ranges.{limited}
use Rattle.pl_table.specs.Rows.{Row, rows}
use Rattle.pl_options.specs.Text.{marks_of, comment_of}
use Rattle.pl_read.specs.Options.{rules_of}
use Rattle.pl_read.specs.Projection.{projected}

-- the columns that are read, by their places in the schema
abbrev pub columns_read : CsvReadOptions → List Entry → Columns
columns_read o schema = columns_in schema (projected o schema)

-- the rows of data: its records, or the first so many of them
abbrev pub rows_in : CsvReadOptions → List ℕ → List Row
rows_in o records = limited o.n_rows (rows (marks_of o.parse_options) (comment_of o.parse_options) records)

-- the columns of the rows, each cell from its field
abbrev pub data_columns : CsvReadOptions → List Entry → List ℕ → List ColumnValue
data_columns o schema records = frame_of_rows (rules_of o schema) (entries_in schema (projected o schema)) (rows_in o records)

-- columns of so many rows behind their row index, where one is asked
abbrev pub with_index : Option RowIndex → ℕ → List ColumnValue → List ColumnValue
with_index None count columns = columns
with_index (Some index) count columns = row_index_column index.name index.offset count ∷ columns

-- the frame of data
abbrev pub data_frame : CsvReadOptions → List Entry → List ℕ → List ColumnValue
data_frame o schema records = with_index o.row_index (length (rows_in o records)) (data_columns o schema records)
