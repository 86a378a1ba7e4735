-- A limit of rows (docs/regions.md, "A limit of rows").
use Rattle.std.specs.Prelude.{◌≡◌, ℕ, ◌≤◌, List, length, take, Option, None, Some}
use Rattle.std.specs.List.{concat}
use Rattle.pl_frame.specs.Schema.{Entry}
use Rattle.pl_text.specs.FrameText.{WriteOptions}
use Rattle.pl_rows.specs.declared.plan.RangePlan.{RangePlan}
use Rattle.pl_verbatim.specs.PrintedTexts.{IsFrontPrinted}
use Rattle.pl_regions.specs.Printing.{IsPrinted, IsPrintedFront}
use Rattle.pl_regions.specs.declared.front.Front.{Front}
use Rattle.pl_regions.specs.declared.printing.PrintedRows.{PrintedRows}

-- the same plan without a limit of rows
abbrev pub without_limit : RangePlan → RangePlan
without_limit plan = record plan { limit = None }

-- a text has a front with at least so many rows, none of which has a fault
pub record HasRows (plan : RangePlan) (schema : List Entry) (o : WriteOptions) (text : List ℕ) (least : ℕ) : Type 0 where
  pub end : ℕ
  pub rows : ℕ
  pub lines : List ℕ
  pub front : IsFrontPrinted plan schema o text end rows lines
  pub enough : least ≤ rows

-- so many of these texts have as many rows as there may be, and this is a front of them
pub record IsFull (plan : RangePlan) (schema : List Entry) (o : WriteOptions) (most : Option ℕ) (texts : List (List ℕ)) (front : Front) (count : ℕ) : Type 0 where
  pub within : count ≤ length texts
  pub number : ℕ
  pub most_is : most ≡ Some number
  pub many : HasRows plan schema o (concat (take count texts)) number
  pub is : IsPrintedFront plan schema o (concat (take count texts)) front

-- what is printed of a text is printed of data too, where the plan has a limit that the text reaches
abbrev pub IsDecidedBy : RangePlan → List Entry → WriteOptions → List ℕ → List ℕ → Type 0
IsDecidedBy plan schema o records text = (printed : PrintedRows) → IsPrinted plan schema o text printed → IsPrinted plan schema o records printed
