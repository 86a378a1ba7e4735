-- What the steps of a range's reading do to its buffers.
use Rattle.std.specs.Prelude.{◌≡◌, ℕ, ◌-◌, ◌<◌, ◌⊎◌, Bool, true, false, not, ◌||◌, ◌==◌, nat_lt, List, [], ◌∷◌, ◌++◌, map, length, take, drop, Option, None, Some, Result, Ok, Err}
use Rattle.std.specs.Borrow.{Bor}
use Rattle.pl_frame.specs.declared.error.FaultKind.{FaultKind}
use Rattle.pl_frame.specs.declared.error.FaultKind.TheVariants as fault
use Rattle.pl_scan.specs.Dialect.{marks_of}
use Rattle.pl_scan.specs.Fields.{fields, extent}
use Rattle.pl_cells.specs.declared.cell_fault.CellFault.{CellFault}
use Rattle.pl_cells.specs.declared.cell_fault.CellFault.TheVariants as cell_fault
use Rattle.pl_cells.specs.BufferValue.{BufferValue, cut_to}
use Rattle.pl_rows.specs.declared.plan.RangePlan.{RangePlan}
use Rattle.pl_rows.specs.declared.row.RowFault.{RowFault}
use Rattle.pl_rows.specs.declared.row.RowFault.TheVariants as row_fault
use Rattle.pl_rows.specs.declared.row.RowRead.{RowRead}
use Rattle.pl_rows.specs.declared.row.RowRead.TheVariants as row_read
use Rattle.pl_rows.specs.declared.row_rest.RowRest.{RowRest}
use Rattle.pl_rows.specs.Columns.{with_columns}
use Rattle.pl_rows.specs.Plan.{plan_columns, rules_of}
use Rattle.pl_rows.specs.Ranges.{is_judged}
use Rattle.pl_rows.specs.RowRest.{fields_left, behind_row, IsDone, HasMore}
use Rattle.pl_rows.specs.Rows.{first_fault, column_fault}
use Rattle.pl_table.specs.Rows.{Row, row_at}
use Rattle.std.specs.List.{filter_map}

-- a buffer without its last cells
abbrev pub without_last : ℕ → BufferValue → BufferValue
without_last n buffer = cut_to (length buffer.values - n) buffer

-- a row number is below the limit, where there is one
abbrev pub is_below : Option ℕ → ℕ → Bool
is_below None row = true
is_below (Some limit) row = nat_lt row limit

-- the first buffers without their last cells
abbrev pub cut_back : ℕ → ℕ → List BufferValue → List BufferValue
cut_back columns n given = map (without_last n) (take columns given) ++ drop columns given

-- the fault is this one; want of memory says nothing
abbrev pub IsRowFault : RowFault → Option (ℕ × FaultKind) → Type 0
IsRowFault (row_fault.Record column kind) first = first ≡ Some (column, kind)
IsRowFault row_fault.OutOfMemory first = Unit {0}

-- the fault of a column's cell
abbrev pub row_fault_of : ℕ → CellFault → RowFault
row_fault_of column cell_fault.Escape = row_fault.Record column fault.Escape
row_fault_of column cell_fault.Utf8 = row_fault.Record column fault.Utf8
row_fault_of column cell_fault.Value = row_fault.Record column fault.Value
row_fault_of column cell_fault.OutOfMemory = row_fault.OutOfMemory

-- the first buffers have the cells of a row at their end, and the others are as they were
pub record HaveCells (plan : RangePlan) (row : Row) (n : ℕ) (old new : List BufferValue) : Type 0 where
  pub front : take n new ≡ with_columns (rules_of plan) (row ∷ []) (take n plan.projection.places.now) (take n old)
  pub rest : drop n new ≡ drop n old

-- all cells of the row at the front of a text were added, none of which has a fault, and this is left of it
pub record HasAddedCells (plan : RangePlan) (bytes : List ℕ) (old new : List BufferValue) (left : RowRest) : Type 0 where
  pub added : new ≡ with_columns (rules_of plan) (row_at (marks_of plan.dialect) bytes ∷ []) plan.projection.places.now old
  pub sound : filter_map (column_fault (rules_of plan) (fields (marks_of plan.dialect) bytes)) (plan_columns plan old).read ≡ []
  pub left_is : length plan.projection.places.now ≡ plan.projection.width → fields_left (marks_of plan.dialect) left ≡ drop plan.projection.width (fields (marks_of plan.dialect) bytes)
  pub behind_is : behind_row (marks_of plan.dialect) left ≡ drop (extent (marks_of plan.dialect) bytes) bytes

-- the cells of the first columns were added, and the fault is the row's; want of memory says nothing
pub record IsCellsFault (plan : RangePlan) (bytes : List ℕ) (old new : List BufferValue) (n : ℕ) (wrong : RowFault) : Type 0 where
  pub few : n < length old
  pub added : HaveCells plan (row_at (marks_of plan.dialect) bytes) n old new
  pub first : IsRowFault wrong (first_fault (rules_of plan) (plan_columns plan old) (row_at (marks_of plan.dialect) bytes))

-- the row was judged and has no fault, each buffer has its cell at the end, and this stands behind it
pub record HasReadRow (plan : RangePlan) (bytes : List ℕ) (old new : List BufferValue) (behind : List ℕ) : Type 0 where
  pub judged : is_judged plan (row_at (marks_of plan.dialect) bytes) ≡ true
  pub whole : first_fault (rules_of plan) (plan_columns plan old) (row_at (marks_of plan.dialect) bytes) ≡ None
  pub added : new ≡ with_columns (rules_of plan) (row_at (marks_of plan.dialect) bytes ∷ []) plan.projection.places.now old
  pub behind_is : behind ≡ drop (extent (marks_of plan.dialect) bytes) bytes

-- more fields than columns are passed over
abbrev pub passes_more : RangePlan → Bool
passes_more plan = plan.options.truncate_ragged_lines || not (length plan.projection.places.now == plan.projection.width)

-- what stands behind a row of which this is left; or the fault that more is left, where it is not passed over
abbrev pub IsRowEnd : RangePlan → RowRest → Result (Bor (List ℕ)) RowFault → Type 0
IsRowEnd plan left (Ok behind) =
    ((passes_more plan ≡ true) × (behind.now ≡ behind_row (marks_of plan.dialect) left)) ⊎ ((passes_more plan ≡ false) × IsDone left behind.now)
IsRowEnd plan left (Err wrong) = (passes_more plan ≡ false) × HasMore left × (wrong ≡ row_fault.Record plan.projection.width fault.Fields)

-- what came of the row at the front of a text
abbrev pub IsRowRead : RangePlan → List ℕ → List BufferValue → List BufferValue → RowRead → Type 0
IsRowRead plan bytes old new (row_read.Read behind) = HasReadRow plan bytes old new behind.now
IsRowRead plan bytes old new row_read.Open = (is_judged plan (row_at (marks_of plan.dialect) bytes) ≡ false) × (new ≡ old)
IsRowRead plan bytes old new (row_read.Fault column kind) =
    (is_judged plan (row_at (marks_of plan.dialect) bytes) ≡ true)
    × (first_fault (rules_of plan) (plan_columns plan old) (row_at (marks_of plan.dialect) bytes) ≡ Some (column, kind))
    × (new ≡ old)
IsRowRead plan bytes old new row_read.OutOfMemory = new ≡ old
