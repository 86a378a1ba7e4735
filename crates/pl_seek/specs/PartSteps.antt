-- The steps of reading a part. Only the proofs of the code need this.
use Rattle.std.specs.Prelude.{◌≡◌, ℕ, Bool, true, if◌then◌else◌, List, length, take, None, Some}
use Rattle.pl_frame.specs.Frame.{ColumnValue, IsFrame, height_of}
use Rattle.pl_frame.specs.Schema.{HaveDistinctNames}
use Rattle.pl_scan.specs.Dialect as scan
use Rattle.pl_options.specs.declared.read_options.CsvReadOptions.{CsvReadOptions}
use Rattle.pl_options.specs.Text.{marks_of, comment_of}
use Rattle.pl_read.specs.Batches.{index_behind}
use Rattle.pl_read.specs.Options.{rules_of}
use Rattle.pl_read.specs.Projection.{projected, taken_name}
use Rattle.pl_read.specs.Rows.{columns_read, with_index}
use Rattle.pl_read.specs.SettleGiven.{given_schema}
use Rattle.pl_rows.specs.declared.columns.RangeColumns.{RangeColumns}
use Rattle.pl_rows.specs.declared.plan.RangePlan.{RangePlan}
use Rattle.pl_rows.specs.Plan.{rules_of as plan_rules}
use Rattle.pl_rows.specs.Ranges.{end_of, sound_rows}
use Rattle.pl_rows.specs.Rows.{first_faulty}
use Rattle.pl_table.specs.Rows.{Row, rows}
use Rattle.pl_seek.specs.Parts.{columns_of_rows}

-- how many records an item is
abbrev pub one_unless : Bool → ℕ
one_unless is_comment = if is_comment then 0 else 1

-- a plan reads at most so many records by the options, and the columns that are read of the given schema
pub record IsPartPlan (plan : RangePlan) (o : CsvReadOptions) (count : ℕ) : Type 0 where
  pub marks_are : scan.marks_of plan.dialect ≡ marks_of o.parse_options
  pub comment_is : scan.comment_of plan.dialect ≡ comment_of o.parse_options
  pub rules_are : plan_rules plan ≡ rules_of o (given_schema o)
  pub places_are : plan.projection.places.now ≡ projected o (given_schema o)
  pub width_is : plan.projection.width ≡ length (given_schema o)
  pub limit_is : plan.limit ≡ Some count
  pub is_last : plan.last ≡ true

-- rows were read into columns, up to the first that has a fault; they are the first so many of a text
pub record AreRead (o : CsvReadOptions) (given : List Row) (read : RangeColumns) : Type 0 where
  pub columns : read.columns.items ≡ columns_of_rows o (sound_rows (rules_of o (given_schema o)) (columns_read o (given_schema o)) given)
  pub unjudged : Bool
  pub end_is : read.end ≡ end_of (first_faulty (rules_of o (given_schema o)) (columns_read o (given_schema o)) 0 given) unjudged
  pub text : List ℕ
  pub count : ℕ
  pub given_is : given ≡ take count (rows (marks_of o.parse_options) (comment_of o.parse_options) text)
  pub distinct : HaveDistinctNames (given_schema o)
  pub free : taken_name o (given_schema o) ≡ None

-- columns of rows, which are a frame, and one behind any row index
pub record AreColumns (o : CsvReadOptions) (given : List Row) (columns : List ColumnValue) : Type 0 where
  pub columns_are : columns ≡ columns_of_rows o given
  pub are_frame : IsFrame columns
  pub are_numbered : (before : ℕ) → IsFrame (with_index (index_behind before o.row_index) (height_of columns) columns)
