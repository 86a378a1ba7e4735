-- What reading a range gives: which rows it judges, where it ends, and what the buffers gain (docs/types.md, "Reading a range").
use Rattle.std.specs.Prelude.{◌≡◌, ℕ, Bool, true, false, not, ◌||◌, List, take, Option, None, Some, filter, is_none, take_while}
use Rattle.std.specs.List.{list_any}
use Rattle.pl_frame.specs.declared.error.FaultKind.{FaultKind}
use Rattle.pl_frame.specs.Frame.{ColumnValue}
use Rattle.pl_frame.specs.Schema.{Entry}
use Rattle.pl_scan.specs.Closing.{have_open_end}
use Rattle.pl_scan.specs.Dialect.{marks_of, comment_of}
use Rattle.pl_cells.specs.BufferValue.{BufferValue}
use Rattle.pl_rows.specs.declared.plan.RangePlan.{RangePlan}
use Rattle.pl_rows.specs.declared.columns.RangeColumns.{RangeColumns}
use Rattle.pl_rows.specs.declared.range.RangeEnd.{RangeEnd}
use Rattle.pl_rows.specs.declared.range.RangeEnd.TheVariants as end
use Rattle.pl_rows.specs.Cells.{RowRules}
use Rattle.pl_rows.specs.Columns.{with_columns, entries_in, columns_in, frame_of_rows}
use Rattle.pl_rows.specs.Plan.{Columns, plan_columns, rules_of}
use Rattle.pl_rows.specs.Rows.{first_fault, first_faulty}
use Rattle.pl_table.specs.Rows.{Row, rows}

-- the first so many, or all
abbrev pub limited : {X : Type 0} → Option ℕ → List X → List X
limited None xs = xs
limited (Some n) xs = take n xs

-- the rows of a range: its records, or the first so many of them
abbrev pub rows_of : RangePlan → List ℕ → List Row
rows_of plan range = limited plan.limit (rows (marks_of plan.dialect) (comment_of plan.dialect) range)

-- in the last range each row is judged; in any other those are whose last field is not open
abbrev pub is_judged : RangePlan → Row → Bool
is_judged plan row = plan.last || not (have_open_end (marks_of plan.dialect) row.fields)

-- the rows of a range that are judged
abbrev pub judged_rows : RangePlan → List ℕ → List Row
judged_rows plan range = filter (is_judged plan) (rows_of plan range)

-- a row of a range is not judged
abbrev pub has_unjudged : RangePlan → List ℕ → Bool
has_unjudged plan range = list_any (λ row. not (is_judged plan row)) (rows_of plan range)

-- where a range ends: at the first faulty row, else at a row that is not judged, else it is closed
abbrev pub end_of : Option (ℕ × (ℕ × FaultKind)) → Bool → RangeEnd
end_of (Some (row, (column, kind))) unjudged = end.Fault row column kind
end_of None true = end.Open
end_of None false = end.Closed

-- where a range ends of which these columns are read
abbrev pub range_end : RangePlan → Columns → List ℕ → RangeEnd
range_end plan columns range = end_of (first_faulty (rules_of plan) columns 0 (judged_rows plan range)) (has_unjudged plan range)

-- the rows before the first that has a fault
abbrev pub sound_rows : RowRules → Columns → List Row → List Row
sound_rows rules columns given = take_while (λ row. is_none (first_fault rules columns row)) given

-- the rows of a range that columns gain: the judged ones before the first that has a fault
abbrev pub rows_read : RangePlan → Columns → List ℕ → List Row
rows_read plan columns range = sound_rows (rules_of plan) columns (judged_rows plan range)

-- each buffer with the cells of its column over the rows of a range that are read
abbrev pub with_range : RangePlan → List ℕ → List BufferValue → List BufferValue
with_range plan range buffers = with_columns (rules_of plan) (rows_read plan (plan_columns plan buffers) range) plan.projection.places.now buffers

-- columns of a schema over the rows of a range that are read
abbrev pub range_frame : RangePlan → List Entry → List ℕ → List ColumnValue
range_frame plan schema range =
    frame_of_rows (rules_of plan) (entries_in schema plan.projection.places.now) (rows_read plan (columns_in schema plan.projection.places.now) range)

-- what was read of a range of columns of a schema
pub record IsRangeRead (plan : RangePlan) (schema : List Entry) (range : List ℕ) (read : RangeColumns) : Type 0 where
  pub columns : read.columns.items ≡ range_frame plan schema range
  pub end_is : read.end ≡ range_end plan (columns_in schema plan.projection.places.now) range
