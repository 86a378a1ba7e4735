-- What the steps of a read answer.
use Rattle.std.specs.Prelude.{◌≡◌, ◌<◌, ℕ, zero, suc, Bool, true, false, List, [], ◌∷◌, length, Option, None, map}
use Rattle.std.specs.List.{range_with_len}
use Rattle.std.specs.Option.{option_and_then}
use Rattle.pl_frame.specs.declared.error.PolarsError.{PolarsError}
use Rattle.pl_frame.specs.Schema.{Entry, HaveDistinctNames}
use Rattle.pl_frame.specs.Dialect.{IsDialect}
use Rattle.pl_scan.specs.Dialect as scan
use Rattle.pl_cells.specs.NullValues.{unknown_name, HaveTexts}
use Rattle.pl_options.specs.declared.read_options.CsvReadOptions.{CsvReadOptions}
use Rattle.pl_options.specs.FirstCause.{IsFirstCause, first_some}
use Rattle.pl_options.specs.Text.{marks_of, comment_of}
use Rattle.pl_infer.specs.Schemas.{unreadable, first_unreadable_column}
use Rattle.pl_read.specs.Options.{rules_of, schema_of, settled, settled_schema}
use Rattle.pl_rows.specs.declared.plan.RangePlan.{RangePlan}
use Rattle.pl_rows.specs.declared.columns.RangeColumns.{RangeColumns}
use Rattle.pl_rows.specs.Plan.{rules_of as plan_rules}
use Rattle.pl_rows.specs.Ranges.{IsRangeRead}
use Rattle.pl_read.specs.declared.projecting.Times.{Times}
use Rattle.pl_read.specs.declared.projecting.Times.TheVariants as times
use Rattle.pl_read.specs.Projection.{projected, taken_name, times_asked}
use Rattle.pl_read.specs.Rows.{rows_in, data_columns}
use Rattle.pl_read.specs.Refusals.{early_causes, late_causes, no_record, repeats, overrides, out_of_bounds, duplicate, nothing_read, faulty_record, index_past, plan_causes, causes_before_rows}

-- the marks are a dialect, and no option has a value that it may not have
abbrev pub MayRead : CsvReadOptions → Type 0
MayRead o = IsFirstCause (early_causes o) o.parse_options None

-- the first of the causes behind those
abbrev pub late_cause : CsvReadOptions → List Entry → List ℕ → Option PolarsError
late_cause o schema input = first_some (late_causes o schema input)

-- the first cause against the schema of an input before its types are settled
abbrev pub schema_cause : CsvReadOptions → List ℕ → Option PolarsError
schema_cause o input = first_some (no_record o input ∷ repeats o (schema_of o input) ∷ [])

-- the first cause against a schema with the types that the options give, that schema being given
abbrev pub types_cause : CsvReadOptions → List Entry → Option PolarsError
types_cause o given = first_some (overrides o (settled o given) ∷ unreadable (settled o given) ∷ [])

-- the first cause against the settled schema of an input
abbrev pub settling_cause : CsvReadOptions → List ℕ → Option PolarsError
settling_cause o input =
    let schema = settled_schema o input in
    first_some (no_record o input ∷ repeats o schema ∷ overrides o schema ∷ unreadable schema ∷ [])

-- the first of the null values' names that the schema doesn't have
abbrev pub unknown_null : CsvReadOptions → List Entry → Option (List ℕ)
unknown_null o schema = option_and_then (unknown_name schema) o.parse_options.null_values

-- the first cause against the projection
abbrev pub projection_cause : CsvReadOptions → List Entry → Option PolarsError
projection_cause o schema = first_some (out_of_bounds o schema ∷ duplicate o schema ∷ [])

-- the first cause against data
abbrev pub data_cause : CsvReadOptions → List Entry → List ℕ → Option PolarsError
data_cause o schema records = first_some (faulty_record o schema records ∷ index_past o.row_index (length (rows_in o records)) (data_columns o schema records) ∷ [])

-- the first cause against data of which columns are asked, before those of its rows
abbrev pub asked_cause : CsvReadOptions → List Entry → List ℕ → Option PolarsError
asked_cause o schema records = first_some (out_of_bounds o schema ∷ duplicate o schema ∷ nothing_read o schema records ∷ [])

-- the first cause against an input that stands behind those against its schema, and before those of its rows
abbrev pub settled_cause : CsvReadOptions → List Entry → List ℕ → Option PolarsError
settled_cause o schema input = first_some (plan_causes o schema input)

-- the first cause against an input, behind those against the options, that stands before those of its rows
abbrev pub opening_cause : CsvReadOptions → List Entry → List ℕ → Option PolarsError
opening_cause o schema input = first_some (causes_before_rows o schema input)

-- ---- the plan of a read

-- a plan reads the last range by the options, and the projected columns of a schema
pub record IsPlanOf (plan : RangePlan) (o : CsvReadOptions) (schema : List Entry) : Type 0 where
  pub marks_are : scan.marks_of plan.dialect ≡ marks_of o.parse_options
  pub comment_is : scan.comment_of plan.dialect ≡ comment_of o.parse_options
  pub rules_are : plan_rules plan ≡ rules_of o schema
  pub places_are : plan.projection.places.now ≡ projected o schema
  pub width_is : plan.projection.width ≡ length schema
  pub limit_is : plan.limit ≡ o.n_rows
  pub is_last : plan.last ≡ true

-- data that can be read by a plan: no cause stands before its rows
pub record CanReadData (plan : RangePlan) (o : CsvReadOptions) (schema : List Entry) (records : List ℕ) : Type 0 where
  pub plan_is : IsPlanOf plan o schema
  pub dialect : IsDialect (marks_of o.parse_options) (comment_of o.parse_options)
  pub pieces : 0 < o.chunk_size
  pub readable : first_unreadable_column schema ≡ None
  pub texts : HaveTexts plan.options.null_values (length schema)
  pub distinct : HaveDistinctNames schema
  pub free : taken_name o schema ≡ None
  pub some : nothing_read o schema records ≡ None

-- data that can be read by a plan was read
pub record IsDataRead (plan : RangePlan) (o : CsvReadOptions) (schema : List Entry) (records : List ℕ) (read : RangeColumns) : Type 0 where
  pub can : CanReadData plan o schema records
  pub is : IsRangeRead plan schema records read

-- ---- how often places are asked

-- once more
abbrev pub once_more : Times → Times
once_more times.Never = times.Once
once_more _ = times.More

abbrev pub is_asked : Times → Bool
is_asked times.Never = false
is_asked _ = true

abbrev pub is_more : Times → Bool
is_more times.More = true
is_more _ = false

-- how often that many times are
abbrev pub times_of : ℕ → Times
times_of zero = times.Never
times_of (suc n) = once_more (times_of n)

-- how often each place below a width is asked
abbrev pub all_times : List ℕ → ℕ → List Times
all_times places width = map (λ place. times_of (times_asked places place)) (range_with_len 0 width)
