-- Texts that are read and whose rows are printed (docs/workers.md, "From an input to regions").
use Rattle.std.specs.Prelude.{◌≡◌, ℕ, ◌≤◌, List, length, take, None}
use Rattle.pl_frame.specs.Dialect.{IsDialect}
use Rattle.pl_frame.specs.Schema.{Entry}
use Rattle.pl_text.specs.FrameText.{WriteOptions}
use Rattle.pl_scan.specs.Dialect.{marks_of, comment_of}
use Rattle.pl_cells.specs.InitBuffers.{first_unreadable}
use Rattle.pl_cells.specs.NullValues.{HaveTexts}
use Rattle.pl_rows.specs.declared.plan.RangePlan.{RangePlan}
use Rattle.pl_rows.specs.Plan.{AreRising}
use Rattle.pl_rows.specs.WholePieces.{IsSoundText, text_frame}
use Rattle.pl_table.specs.Rows.{rows}
use Rattle.pl_write.specs.Batches.{all_lines}

-- texts can be read by a plan, without a limit of rows, into columns of a schema
pub record CanPrint (plan : RangePlan) (schema : List Entry) : Type 0 where
  pub dialect : IsDialect (marks_of plan.dialect) (comment_of plan.dialect)
  pub width : plan.projection.width ≡ length schema
  pub rising : AreRising 0 (length schema) plan.projection.places.now
  pub readable : first_unreadable schema plan.projection.places.now ≡ None
  pub texts : HaveTexts plan.options.null_values (length schema)
  pub unlimited : plan.limit ≡ None

-- a text ends where an item does, so many rows are in it, none of which has a fault, and these are their lines
pub record IsTextPrinted (plan : RangePlan) (schema : List Entry) (o : WriteOptions) (text : List ℕ) (count : ℕ) (lines : List ℕ) : Type 0 where
  pub sound : IsSoundText plan schema text
  pub count_is : count ≡ length (rows (marks_of plan.dialect) (comment_of plan.dialect) text)
  pub lines_are : lines ≡ all_lines o (text_frame plan schema text)

-- the front of a text was printed: so many of its bytes
pub record IsFrontPrinted (plan : RangePlan) (schema : List Entry) (o : WriteOptions) (text : List ℕ) (end count : ℕ) (lines : List ℕ) : Type 0 where
  pub within : end ≤ length text
  pub front : IsTextPrinted plan schema o (take end text) count lines
