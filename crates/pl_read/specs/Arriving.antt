-- Texts that are read into columns while those behind them come (docs/workers.md, "From a source to a frame").
use Rattle.std.specs.Prelude.{◌≡◌, ℕ, ◌-◌, ◌^◌, List, ◌++◌, length, Option, None}
use Rattle.std.specs.List.{concat}
use Rattle.std.specs.Io.KnownBytes.{Consumes, IsAtEnd}
use Rattle.pl_frame.specs.Dialect.{IsDialect}
use Rattle.pl_frame.specs.Schema.{Entry}
use Rattle.pl_intake.specs.Intake.{HasGiven}
use Rattle.pl_intake.specs.declared.intake.Intake.{Intake}
use Rattle.pl_scan.specs.Dialect.{marks_of, comment_of}
use Rattle.pl_cells.specs.InitBuffers.{first_unreadable}
use Rattle.pl_cells.specs.NullValues.{HaveTexts}
use Rattle.pl_rows.specs.declared.columns.RangeColumns.{RangeColumns}
use Rattle.pl_rows.specs.declared.plan.RangePlan.{RangePlan}
use Rattle.pl_rows.specs.Plan.{AreRising}
use Rattle.pl_rows.specs.Ranges.{IsRangeRead}
use Rattle.pl_rows.specs.Texts.{AllLinked}
use Rattle.pl_read.specs.declared.linked.Linked.{Linked}

-- texts can be read by a plan into columns of a schema
pub record CanTake (plan : RangePlan) (schema : List Entry) : Type 0 where
  pub dialect : IsDialect (marks_of plan.dialect) (comment_of plan.dialect)
  pub width : plan.projection.width ≡ length schema
  pub rising : AreRising 0 (length schema) plan.projection.places.now
  pub readable : first_unreadable schema plan.projection.places.now ≡ None
  pub texts : HaveTexts plan.options.null_values (length schema)

-- the columns of a text, all of it
abbrev pub IsLinked : RangePlan → List Entry → List ℕ → Linked → Type 0
IsLinked plan schema text linked = AllLinked plan schema text linked.stacks.items linked.front

-- the columns of the front of a text, behind which these bytes are left
pub record IsLinkedUpTo (plan : RangePlan) (schema : List Entry) (text left : List ℕ) (linked : Linked) : Type 0 where
  pub front : List ℕ
  pub is : IsLinked plan schema front linked
  pub are : text ≡ front ++ left

-- the columns of the front of a text, and what stands behind that was taken back
pub record IsLinkedOn (plan : RangePlan) (schema : List Entry) (text : List ℕ) (intake next : Intake) (linked : Linked) : Type 0 where
  pub front : List ℕ
  pub is : IsLinked plan schema front linked
  pub are : text ++ intake.rest.items ≡ front ++ next.rest.items
  pub size_is : next.size ≡ intake.size
  pub ended_is : next.is_ended ≡ intake.is_ended

-- what came of a source, behind what was kept of it before, and is not kept: these are the columns of it
pub record HasLinked (plan : RangePlan) (schema : List Entry) (before now : Option (List ℕ)) (intake next : Intake) (linked : Linked) : Type 0 where
  pub text : List ℕ
  pub given : HasGiven before now (2 ^ 64 - 1) intake next text
  pub is : IsLinked plan schema text linked

-- what came of a source, behind what was kept of it before, and is not kept: these are the columns of its front, and behind that stand what is left
-- of a text and the texts that were handed out
pub record HasInLine (plan : RangePlan) (schema : List Entry) (before now : Option (List ℕ)) (intake next : Intake) (linked : Linked) (left : List ℕ) (pending : List (List ℕ)) : Type 0 where
  pub text : List ℕ
  pub given : HasGiven before now (2 ^ 64 - 1) intake next text
  pub is : IsLinkedUpTo plan schema text (left ++ concat pending) linked

-- All bytes that were left of a source came. These bytes, behind those that were kept, are a range that was read.
pub record HasArrived (plan : RangePlan) (schema : List Entry) (before now : Option (List ℕ)) (kept : List ℕ) (read : RangeColumns) : Type 0 where
  pub bytes : List ℕ
  pub came : Consumes before now bytes
  pub end : IsAtEnd now
  pub is : IsRangeRead plan schema (kept ++ bytes) read
