-- All rows of data, read and printed (docs/regions.md, "From an input to regions").
use Rattle.std.specs.Prelude.{◌≡◌, ℕ, ◌<◌, ◌≤◌, ◌^◌, false, List, length, drop, map}
use Rattle.std.specs.Cow.{cow_slice_items}
use Rattle.std.specs.List.{concat}
use Rattle.pl_frame.specs.Frame.{height_of}
use Rattle.pl_frame.specs.Schema.{Entry}
use Rattle.pl_text.specs.FrameText.{WriteOptions}
use Rattle.pl_rows.specs.Columns.{columns_in}
use Rattle.pl_rows.specs.Pieces.{is_fault}
use Rattle.pl_rows.specs.Ranges.{range_end, range_frame}
use Rattle.pl_rows.specs.declared.plan.RangePlan.{RangePlan}
use Rattle.pl_verbatim.specs.PrintedTexts.{IsFrontPrinted}
use Rattle.pl_write.specs.Batches.{all_lines}
use Rattle.pl_regions.specs.declared.front.Front.{Front}
use Rattle.pl_regions.specs.declared.printing.PrintedRows.{PrintedRows}

-- the front of data was printed
abbrev pub IsPrintedFront : RangePlan → List Entry → WriteOptions → List ℕ → Front → Type 0
IsPrintedFront plan schema o records front = IsFrontPrinted plan schema o records front.end front.rows (concat (map cow_slice_items front.lines.items))

-- the front of data was printed, and this is left of it
pub record IsLeftBehind (plan : RangePlan) (schema : List Entry) (o : WriteOptions) (records : List ℕ) (front : Front) (left : List ℕ) : Type 0 where
  pub small : length records < 2 ^ 64
  pub printed : IsPrintedFront plan schema o records front
  pub left_is : left ≡ drop front.end records

-- data was read, which ended where it has to, and where no row has a fault, these are the lines of all rows, and there are no more than these
pub record IsPrinted (plan : RangePlan) (schema : List Entry) (o : WriteOptions) (records : List ℕ) (printed : PrintedRows) : Type 0 where
  pub end_is : printed.end ≡ range_end plan (columns_in schema plan.projection.places.now) records
  pub lines_are : is_fault printed.end ≡ false → concat (map cow_slice_items printed.lines.items) ≡ all_lines o (range_frame plan schema records)
  pub rows_are : is_fault printed.end ≡ false → height_of (range_frame plan schema records) ≤ printed.rows
