-- Laws of rows and ranges.
use Rattle.std.specs.Prelude.{◌≡◌, ℕ, ◌↔◌, true, false, List, [], ◌∷◌, ◌++◌, None}
use Rattle.pl_frame.specs.declared.data_type.DataType.{DataType}
use Rattle.pl_frame.specs.Dialect.{AreDistinct}
use Rattle.pl_scan.specs.Closing.{ends_open}
use Rattle.pl_scan.specs.Dialect.{marks_of, comment_of}
use Rattle.pl_rows.specs.declared.plan.RangePlan.{RangePlan}
use Rattle.pl_rows.specs.declared.range.RangeEnd.TheVariants as end
use Rattle.pl_rows.specs.Cells.{RowRules, cell}
use Rattle.pl_rows.specs.Plan.{Columns, rules_of}
use Rattle.pl_rows.specs.Ranges.{judged_rows, range_end}
use Rattle.pl_cells.specs.Columns.{field_in}
use Rattle.pl_rows.specs.Rows.{first_faulty}

-- a record with one empty field more at its end means the same cells, whatever the types and the texts that mean null: a
-- missing field is the empty field
abbrev pub MissingIsEmpty : Type 0
MissingIsEmpty = (rules : RowRules) (type : DataType) (fs : List (List ℕ)) (column : ℕ)
    → cell rules column type (field_in (fs ++ [] ∷ []) column) ≡ cell rules column type (field_in fs column)

-- without a limit a range is open exactly where it is not the last one, it ends within a quoted field, and none of its
-- judged rows has a fault
abbrev pub OpenEndsWithin : Type 0
OpenEndsWithin = (plan : RangePlan) (columns : Columns) (range : List ℕ) → AreDistinct (marks_of plan.dialect) → plan.limit ≡ None
    → (range_end plan columns range ≡ end.Open
    ↔ (plan.last ≡ false) × (ends_open (marks_of plan.dialect) (comment_of plan.dialect) range ≡ true) × (first_faulty (rules_of plan) columns 0 (judged_rows plan range) ≡ None))
