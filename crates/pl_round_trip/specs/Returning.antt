-- What comes back of a frame that fits: its rows, its cells and the place where they begin (docs/quoting.md, "What comes back").
use Rattle.std.specs.Prelude.{◌≡◌, ℕ, ◌++◌, true, nat_le, List, [], ◌∷◌, length, map, Option, None, Some, Ok}
use Rattle.std.specs.List.{range_with_len}
use Rattle.pl_frame.specs.declared.data_type.DataType.{DataType}
use Rattle.pl_frame.specs.Frame.{Scalar, ColumnValue, IsFrame, height_of}
use Rattle.pl_text.specs.FrameText.{WriteOptions, written_null, written_cell, row_lines, text_of_frame}
use Rattle.pl_frame.specs.Types.{is_readable}
use Rattle.pl_scan.specs.Start.{skips, data_left}
use Rattle.pl_table.specs.Rows.{rows, ended_row}
use Rattle.pl_cells.specs.declared.null_values.NullValuesCompiled.{NullValuesCompiled}
use Rattle.pl_cells.specs.declared.null_values.NullValuesCompiled.TheVariants as compiled
use Rattle.pl_cells.specs.Cells.{Reading, cell}
use Rattle.pl_cells.specs.NullValues.{means_null}
use Rattle.pl_round_trip.specs.RoundTrip.{IsLineTail, line_marks, with_tail, written_texts}
use Rattle.pl_round_trip.specs.Fits.{FitsOptions, FitsCell, Fits}

-- the texts that mean null where this is written for a null: it alone, or none where it is empty
abbrev pub nulls_of : List ℕ → Option NullValuesCompiled
nulls_of [] = None
nulls_of (x ∷ null) = Some (compiled.AllColumnsSingle (x ∷ null))

-- The field of a cell that fits, also at the end of a line, is read as that cell, a null too, where missing texts are null.
abbrev pub CellsReturn : Type 0
CellsReturn =
    (o : WriteOptions) (reading : Reading) (column : ℕ) (type : DataType) (value : Option Scalar) (tail : List ℕ)
    → FitsOptions o → is_readable type ≡ true → FitsCell o type value → reading.missing_is_null ≡ true → IsLineTail tail
    → cell reading (means_null (nulls_of (written_null o)) column) (Some o.quote) type (written_cell o type value ++ tail) ≡ Ok value

-- The data of the text of a frame that fits begin behind the byte order mark and the header, where leading line ends are kept of a
-- frame of at most one column.
abbrev pub DataReturn : Type 0
DataReturn =
    (o : WriteOptions) (columns : List ColumnValue) → IsFrame columns → Fits o columns
    → data_left (skips 0 0 o.include_header 0) (nat_le (length columns) 1) (line_marks o) None (text_of_frame o columns) ≡ Some (row_lines o columns 0 (height_of columns))

-- the fields of a row: what is written of its cells, the last with what stands before the line feed
abbrev pub row_fields : WriteOptions → List ColumnValue → List ℕ → ℕ → List (List ℕ)
row_fields o columns tail row = with_tail tail (written_texts o columns row)

-- The rows of these data are the rows of the frame.
abbrev pub FittingRowsReturn : Type 0
FittingRowsReturn =
    (o : WriteOptions) (columns : List ColumnValue) → IsFrame columns → Fits o columns
    → (tail : List ℕ) × IsLineTail tail × (rows (line_marks o) None (row_lines o columns 0 (height_of columns)) ≡ map (λ row. ended_row (row_fields o columns tail row)) (range_with_len 0 (height_of columns)))
