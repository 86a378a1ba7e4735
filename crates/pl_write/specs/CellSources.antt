-- Where the cells of a column come from when rows are written, settled once for the column.
use Rattle.std.specs.Prelude.{◌≡◌, ℕ, ℤ, ◌≤◌, List, Option, Some}
use Rattle.std.specs.Fmt.{signed_decimal}
use Rattle.pl_frame.specs.Columns.{HoldsType, number_cells, text_cells}
use Rattle.pl_frame.specs.Frame.{ColumnValue}
use Rattle.pl_text.specs.ValueText.{date_text, datetime_text, decimal_text, number_text}
use Rattle.pl_text.specs.FrameText.{WriteOptions, written_value}
use Rattle.pl_frame.specs.Types.{Range, day_range, datetime_range, is_numeric, range_of, units_in_second}
use Rattle.pl_write.specs.CellForms.{FitsForm}
use Rattle.pl_write.specs.declared.cell_source.CellSource.{CellSource}
use Rattle.pl_write.specs.declared.cell_source.CellSource.TheVariants as source

-- the numbers are those of the column, and each is written as its text
pub record WritesNumbers (text : ℤ → List ℕ) (numbers : List (Option ℤ)) (o : WriteOptions) (column : ColumnValue) : Type 0 where
  pub written : (n : ℤ) → written_value o (is_numeric column.dtype) (number_text column.dtype n) ≡ text n
  pub cells : number_cells numbers ≡ column.values

-- the numbers of the column lie in the range
pub record LieWithin (range : Range) (column : ColumnValue) : Type 0 where
  pub range_is : range_of column.dtype ≡ Some range
  pub held : HoldsType column.dtype column.values

-- written from there, the cells of the column come out as the style asks
abbrev pub IsSourceOf : CellSource → WriteOptions → ColumnValue → Type 0
IsSourceOf (source.Digits numbers) o column = WritesNumbers signed_decimal numbers.now o column
IsSourceOf (source.Dates numbers) o column = WritesNumbers date_text numbers.now o column × LieWithin day_range column
IsSourceOf (source.Datetimes unit numbers) o column = WritesNumbers (datetime_text unit) numbers.now o column × LieWithin (datetime_range (units_in_second unit)) column
IsSourceOf (source.Decimals scale numbers) o column = WritesNumbers (decimal_text scale) numbers.now o column × (1 ≤ scale) × (scale ≤ 7)
IsSourceOf (source.WideDecimals scale numbers) o column = WritesNumbers (decimal_text scale) numbers.now o column × (1 ≤ scale) × (scale ≤ 7)
IsSourceOf (source.Texts texts) o column = (o.style ≡ 0) × (text_cells texts.now ≡ column.values)
IsSourceOf (source.Cells form) o column = FitsForm form o column.dtype
