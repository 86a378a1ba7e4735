-- The rows of a frame that fits.
use Rattle.std.proofs.Common.{◌≡◌, ℕ, zero, suc, ◌<◌, true, List, [], ◌∷◌, ◌++◌, length, map, None, Some, Option, refl, inl, inr, arith}
use Rattle.std.specs.Prelude.{unwrap_or, slice_get}
use Rattle.std.specs.List.{AllByRecursion, range_with_len}
use Rattle.pl_frame.specs.declared.data_type.DataType.{DataType}
use Rattle.pl_frame.specs.Frame.{Scalar, ColumnValue, HaveHeight, IsFrame, cell_at, height_of}
use Rattle.pl_text.specs.FrameText.{WriteOptions, written_null, row_lines}
use Rattle.pl_frame.specs.Types.{is_readable}
use Rattle.pl_table.specs.Rows.{rows, ended_row}
use Rattle.pl_cells.specs.NullValues.{means_null}
use Rattle.pl_round_trip.specs.RoundTrip.{IsCellWritable, IsLineTail, line_marks}
use Rattle.pl_round_trip.specs.Fits.{IsLineEnding, FitsOptions, FitsCell, FitsColumn, Fits}
use Rattle.pl_round_trip.specs.Returning.{nulls_of, row_fields}
use Rattle.pl_round_trip.proofs.CellTextLaws.{needless}
use Rattle.pl_round_trip.proofs.FitCellLaws.{value-writable}
use Rattle.pl_round_trip.proofs.FrameRowLaws.{frame-rows-return}
use Rattle.pl_round_trip.proofs.StepLaws.{rows-nil}
use Rattle.pl_round_trip.proofs.WrittenLaws.{are-apart}

-- what stands before the line feed
pub record Tail (o : WriteOptions) : Type 0 where
  pub tail : List ℕ
  pub ends : IsLineTail tail
  pub is : o.terminator ≡ tail ++ 10 ∷ []

pub tail-of : (o : WriteOptions) → IsLineEnding o.terminator → Tail o
tail-of o (inl is) = record { tail = []; ends = inl refl; is = is }
tail-of o (inr is) = record { tail = 13 ∷ []; ends = inr refl; is = is }

-- the cell in a row of a column
pub fits-at : (o : WriteOptions) (type : DataType) (values : List (Option Scalar)) (row : ℕ) → AllByRecursion (FitsCell o type) values → row < length values
    → FitsCell o type (unwrap_or (slice_get values row) None)
fits-at o type [] row all below = absurd (omega (arith, below))
fits-at o type (value ∷ values) zero all below = all.0
fits-at o type (value ∷ values) (suc row) all below = fits-at o type values row all.1 (omega (arith, below))

cell-writable : (o : WriteOptions) (type : DataType) (value : Option Scalar) → FitsOptions o → is_readable type ≡ true → FitsCell o type value
    → IsCellWritable o (means_null (nulls_of (written_null o)) 0) type value
cell-writable o type None h can fits = needless o (are-apart o h) o.null h.null
cell-writable o type (Some value) h can fits = value-writable o 0 type value h can fits

row-writable : (o : WriteOptions) (n row : ℕ) (columns : List ColumnValue) → FitsOptions o → AllByRecursion (FitsColumn o) columns → HaveHeight n columns → row < n
    → AllByRecursion (λ column. IsCellWritable o (means_null (nulls_of (written_null o)) 0) column.dtype (cell_at column row)) columns
row-writable o n row [] h all height below = tt
row-writable o n row (column ∷ columns) h all height below = (
  cell-writable o column.dtype (cell_at column row) h all.0.readable (fits-at o column.dtype column.values row all.0.cells (omega (arith, below, height.0))),
  row-writable o n row columns h all.1 height.1 below,
)

pub rows-are : (o : WriteOptions) (columns : List ColumnValue) (t : Tail o) → IsFrame columns → Fits o columns
    → rows (line_marks o) None (row_lines o columns 0 (height_of columns)) ≡ map (λ row. ended_row (row_fields o columns t.tail row)) (range_with_len 0 (height_of columns))
rows-are o [] t frame fits = rows-nil (line_marks o)
rows-are o (column ∷ columns) t frame fits =
    let all : List ColumnValue = column ∷ columns in
    frame-rows-return o (λ _. means_null (nulls_of (written_null o)) 0) all 0 (height_of all) t.tail (are-apart o fits.options) t.ends t.is (omega arith)
    (λ row low high. row-writable o (height_of all) row all fits.options fits.each frame.one_height (omega (arith, high)))

pub fitting-rows : (o : WriteOptions) (columns : List ColumnValue) → IsFrame columns → Fits o columns
    → (tail : List ℕ) × IsLineTail tail × (rows (line_marks o) None (row_lines o columns 0 (height_of columns)) ≡ map (λ row. ended_row (row_fields o columns tail row)) (range_with_len 0 (height_of columns)))
fitting-rows o columns frame fits = let t = tail-of o fits.options.terminator in (t.tail, t.ends, rows-are o columns t frame fits)
