-- Why an input has no frame: the causes in their order (docs/refusals.md).
use Rattle.std.specs.Prelude.{ℕ, ◌^◌, ◌+◌, Bool, false, not, ◌&&◌, ◌||◌, ◌==◌, nat_lt, List, [], ◌∷◌, ◌++◌, length, map, Option, None, Some, unwrap_or, is_none}
use Rattle.std.specs.Option.{option_map, option_and_then, option_map_or}
use Rattle.pl_frame.specs.declared.error.PolarsError.{PolarsError}
use Rattle.pl_frame.specs.declared.error.PolarsError.TheVariants as error
use Rattle.pl_frame.specs.declared.error.OpFault.TheVariants as op_fault
use Rattle.pl_frame.specs.declared.error.ComputeFault.TheVariants as compute_fault
use Rattle.pl_frame.specs.declared.error.NoDataFault.TheVariants as no_data
use Rattle.pl_frame.specs.declared.error.NamePlace.TheVariants as name_place
use Rattle.pl_frame.specs.Columns.{dictionary}
use Rattle.pl_frame.specs.Compression.{is_compressed}
use Rattle.pl_frame.specs.Frame.{ColumnValue}
use Rattle.pl_frame.specs.Schema.{Entry}
use Rattle.pl_cells.specs.NullValues.{unknown_name}
use Rattle.pl_options.specs.declared.read_options.CsvReadOptions.{CsvReadOptions}
use Rattle.pl_options.specs.declared.row_index.RowIndex.{RowIndex}
use Rattle.pl_options.specs.FirstCause.{when, first_some}
use Rattle.pl_infer.specs.Inference.{inference_of, empty, repeated}
use Rattle.pl_infer.specs.Schemas.{unreadable, is_categorical}
use Rattle.pl_rows.specs.Rows.{first_faulty}
use Rattle.pl_read.specs.Options.{data_of, rules_of}
use Rattle.pl_read.specs.Projection.{projected, unknown_column, outside, doubled_name, taken_name}
use Rattle.pl_read.specs.Rows.{columns_read, rows_in, data_columns}

-- ---- the options

-- a count is given, and it is 0
abbrev pub is_zero : Option ℕ → Bool
is_zero count = option_map_or (λ n. n == 0) count false

-- an option has a value that it may not have: no workers, pieces of no bytes, lines and rows before the header that are both
-- to be skipped, or fields to cast
abbrev pub has_wrong_option : CsvReadOptions → Bool
has_wrong_option o =
    is_zero o.n_threads || (o.chunk_size == 0 || ((nat_lt 0 o.skip_lines && nat_lt 0 o.skip_rows) || nat_lt 0 (length o.fields_to_cast)))

-- ---- the schema

-- a cause that stands only where no schema is given
abbrev pub unless_given : Option (List Entry) → Option PolarsError → Option PolarsError
unless_given None cause = cause
unless_given (Some given) cause = None

-- no schema is given, and there is no record to infer one from, which is refused
abbrev pub no_record : CsvReadOptions → List ℕ → Option PolarsError
no_record o input = unless_given o.schema (empty (inference_of o) input)

-- no schema is given, and a column of the settled one has the name of an earlier column; the first such
abbrev pub repeats : CsvReadOptions → List Entry → Option PolarsError
repeats o schema = unless_given o.schema (repeated schema)

-- more types are given than the schema has columns
abbrev pub overrides : CsvReadOptions → List Entry → Option PolarsError
overrides o schema =
    let given = length (unwrap_or o.dtype_overwrite []) in
    when (nat_lt (length schema) given) (error.InvalidOperation (op_fault.Overrides given (length schema)))

-- the first name of the null values, or else of the asked columns, that the schema doesn't have
abbrev pub unknown : CsvReadOptions → List Entry → Option PolarsError
unknown o schema =
    option_map error.ColumnNotFound (first_some (option_and_then (unknown_name schema) o.parse_options.null_values ∷ unknown_column o schema ∷ []))

-- ---- the projection

-- the greatest place that is given and is none of the schema's
abbrev pub out_of_bounds : CsvReadOptions → List Entry → Option PolarsError
out_of_bounds o schema = option_map (λ place. error.OutOfBounds place (length schema)) (outside o schema)

-- a column that is asked twice, or the row index with the name of a column that is read
abbrev pub duplicate : CsvReadOptions → List Entry → Option PolarsError
duplicate o schema = option_map (λ name. error.Duplicate name name_place.Projection) (first_some (doubled_name o schema ∷ taken_name o schema ∷ []))

-- no column is read, and there is data
abbrev pub nothing_read : CsvReadOptions → List Entry → List ℕ → Option PolarsError
nothing_read o schema records = when (length (projected o schema) == 0 && nat_lt 0 (length records)) error.EmptyProjection

-- ---- the rows

-- the least row with a fault, and its first fault
abbrev pub faulty_record : CsvReadOptions → List Entry → List ℕ → Option PolarsError
faulty_record o schema records =
    option_map (λ found. error.ComputeError (compute_fault.Record found.0 found.1.0 found.1.1)) (first_faulty (rules_of o schema) (columns_read o schema) 0 (rows_in o records))

-- the last of so many numbers of a row index does not fit 64 bits
abbrev pub numbers_past : Option RowIndex → ℕ → Option PolarsError
numbers_past None count = None
numbers_past (Some index) count = when (nat_lt (2 ^ 64) (index.offset + count)) (error.ComputeError (compute_fault.Index index.offset count))

-- the last code of a category of the column does not fit 32 bits
abbrev pub codes_past : ColumnValue → Option PolarsError
codes_past column =
    let texts = length (dictionary column.dtype column.values) in
    when (is_categorical column.dtype && nat_lt (2 ^ 32) texts) (error.ComputeError (compute_fault.Index 0 texts))

-- the last number of a row index of so many rows, or else of a code of a category of one of these columns
abbrev pub index_past : Option RowIndex → ℕ → List ColumnValue → Option PolarsError
index_past index count columns = first_some (numbers_past index count ∷ map codes_past columns)

-- ---- all of them

-- the causes that stand before the quote of an output, given whether the marks are a dialect
abbrev pub early_causes : CsvReadOptions → Bool → List (Option PolarsError)
early_causes o is_dialect =
    when (not is_dialect) (error.InvalidOperation op_fault.Dialect)
    ∷ when (has_wrong_option o) (error.InvalidOperation op_fault.Option)
    ∷ []

-- the causes against the settled schema, or against there being one
abbrev pub schema_causes : CsvReadOptions → List Entry → List ℕ → List (Option PolarsError)
schema_causes o schema input =
    when (is_compressed input) (error.ComputeError compute_fault.Compressed)
    ∷ no_record o input
    ∷ repeats o schema
    ∷ overrides o schema
    ∷ unreadable schema
    ∷ []

-- the causes against what is read of it: names, skips and places
abbrev pub plan_causes : CsvReadOptions → List Entry → List ℕ → List (Option PolarsError)
plan_causes o schema input =
    unknown o schema
    ∷ when (is_none (data_of o input)) (error.NoData no_data.Skip)
    ∷ out_of_bounds o schema
    ∷ duplicate o schema
    ∷ option_and_then (nothing_read o schema) (data_of o input)
    ∷ []

-- the causes against the rows
abbrev pub row_causes : CsvReadOptions → List Entry → List ℕ → List (Option PolarsError)
row_causes o schema input =
    option_and_then (faulty_record o schema) (data_of o input)
    ∷ option_and_then (λ records. index_past o.row_index (length (rows_in o records)) (data_columns o schema records)) (data_of o input)
    ∷ []

-- the causes that stand behind the quote of an output and before those against the rows, given the settled schema
abbrev pub causes_before_rows : CsvReadOptions → List Entry → List ℕ → List (Option PolarsError)
causes_before_rows o schema input = schema_causes o schema input ++ plan_causes o schema input

-- the causes that stand behind the quote of an output, given the settled schema
abbrev pub late_causes : CsvReadOptions → List Entry → List ℕ → List (Option PolarsError)
late_causes o schema input = causes_before_rows o schema input ++ row_causes o schema input

-- the causes against the frame of an input, in their order
abbrev pub read_causes : CsvReadOptions → List Entry → List ℕ → Bool → List (Option PolarsError)
read_causes o schema input is_dialect = early_causes o is_dialect ++ late_causes o schema input
