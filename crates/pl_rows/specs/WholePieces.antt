-- Pieces that end where an item does, read into columns of their own and linked (docs/pieces.md, "Whole pieces").
use Rattle.std.specs.Prelude.{◌≡◌, ℕ, ◌≤◌, true, false, List, length, take, Option, None, Some, IfSome, slice_range}
use Rattle.std.specs.List.{AllByRecursion}
use Rattle.pl_frame.specs.Frame.{ColumnValue}
use Rattle.pl_frame.specs.Schema.{Entry}
use Rattle.pl_scan.specs.Dialect.{marks_of, comment_of}
use Rattle.pl_rows.specs.declared.plan.RangePlan.{RangePlan}
use Rattle.pl_rows.specs.declared.whole_pieces.PieceFrame.{PieceFrame}
use Rattle.pl_rows.specs.Columns.{entries_in, columns_in, frame_of_rows}
use Rattle.pl_rows.specs.Pieces.{EndsItem}
use Rattle.pl_rows.specs.Plan.{rules_of}
use Rattle.pl_rows.specs.Rows.{first_fault}
use Rattle.pl_rows.specs.Steps.{is_below}
use Rattle.pl_table.specs.Rows.{rows}

-- a text that ends where an item does, and none of whose rows has a fault
pub record IsSoundText (plan : RangePlan) (schema : List Entry) (text : List ℕ) : Type 0 where
  pub ends : EndsItem plan.dialect text
  pub sound : AllByRecursion (λ row. first_fault (rules_of plan) (columns_in schema plan.projection.places.now) row ≡ None) (rows (marks_of plan.dialect) (comment_of plan.dialect) text)

-- the columns of all rows of a text
abbrev pub text_frame : RangePlan → List Entry → List ℕ → List ColumnValue
text_frame plan schema text = frame_of_rows (rules_of plan) (entries_in schema plan.projection.places.now) (rows (marks_of plan.dialect) (comment_of plan.dialect) text)

-- what was read of a whole piece
pub record IsPieceFrame (plan : RangePlan) (schema : List Entry) (text : List ℕ) (read : PieceFrame) : Type 0 where
  pub sound : IsSoundText plan schema text
  pub columns_are : read.columns.items ≡ text_frame plan schema text
  pub count : read.rows ≡ length (rows (marks_of plan.dialect) (comment_of plan.dialect) text)

-- what came of a piece: nothing, where it is no sound text, or has as many rows as the limit
abbrev pub IsPieceFound : RangePlan → List Entry → List ℕ → Option PieceFrame → Type 0
IsPieceFound plan schema text None = IsSoundText plan schema text → is_below plan.limit (length (rows (marks_of plan.dialect) (comment_of plan.dialect) text)) ≡ false
IsPieceFound plan schema text (Some read) = IsPieceFrame plan schema text read × (is_below plan.limit read.rows ≡ true)

-- what was read of a piece apart from others: it is this part of a range, and what was read of it, if anything, is what these bytes give
pub record IsReadApart (range : List ℕ) (reads : List ℕ → PieceFrame → Type 0) (text : List ℕ) (from to : ℕ) (read : Option PieceFrame) : Type 0 where
  pub text_is : text ≡ slice_range range from to
  pub read_is : IfSome read (reads text)

-- the columns of the rows of a range up to a place: a sound text, whose rows are no more than the limit
pub record IsFrontLinked (plan : RangePlan) (schema : List Entry) (range : List ℕ) (columns : List ColumnValue) (count end : ℕ) : Type 0 where
  pub within : end ≤ length range
  pub sound : IsSoundText plan schema (take end range)
  pub columns_are : columns ≡ text_frame plan schema (take end range)
  pub count_is : count ≡ length (rows (marks_of plan.dialect) (comment_of plan.dialect) (take end range))
  pub few : IfSome plan.limit (λ limit. count ≤ limit)
