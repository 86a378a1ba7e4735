-- Columns of the cells of rows (docs/types.md, "Records and columns").
use Rattle.std.specs.Prelude.{ℕ, List, [], ◌∷◌, length, map, Option}
use Rattle.pl_frame.specs.declared.data_type.DataType.{DataType}
use Rattle.pl_frame.specs.Frame.{Scalar, ColumnValue}
use Rattle.pl_frame.specs.Schema.{Entry}
use Rattle.pl_cells.specs.BufferValue.{BufferValue, column_of, with_more}
use Rattle.pl_cells.specs.InitBuffers.{entry_at}
use Rattle.pl_cells.specs.Cells.{value_of}
use Rattle.pl_rows.specs.Cells.{RowRules, cell}
use Rattle.pl_rows.specs.Plan.{Columns}
use Rattle.pl_cells.specs.Columns.{field_in}
use Rattle.pl_table.specs.Rows.{Row}

-- the cells of a column over rows
abbrev pub column_cells : RowRules → List Row → ℕ × DataType → List (Option Scalar)
column_cells rules given (column, type) = map (λ row. value_of (cell rules column type (field_in row.fields column))) given

-- each buffer with the cells of its column over rows at its end, given the columns' places
abbrev pub with_columns : RowRules → List Row → List ℕ → List BufferValue → List BufferValue
with_columns rules given (place ∷ places) (buffer ∷ others) =
    with_more buffer (column_cells rules given (place, buffer.dtype)) ∷ with_columns rules given places others
with_columns rules given places others = []

-- a column of a frame, given its place in the schema, its name and its type
abbrev pub read_column : RowRules → List Row → ℕ × Entry → ColumnValue
read_column rules given (column, (name, type)) = record { name = name; dtype = type; values = column_cells rules given (column, type) }

-- columns of a schema, each cell from its field
abbrev pub frame_of_rows : RowRules → List (ℕ × Entry) → List Row → List ColumnValue
frame_of_rows rules columns given = map (read_column rules given) columns

-- columns at places of a schema, each with its name and its type
abbrev pub entries_in : List Entry → List ℕ → List (ℕ × Entry)
entries_in schema places = map (λ place. (place, entry_at schema place)) places

-- their types, and how many columns the schema has
abbrev pub columns_in : List Entry → List ℕ → Columns
columns_in schema places = record { read = map (λ place. (place, (entry_at schema place).1)) places; width = length schema }

-- the columns that buffers are, once all is read
abbrev pub columns_of : List BufferValue → List ColumnValue
columns_of buffers = map column_of buffers
