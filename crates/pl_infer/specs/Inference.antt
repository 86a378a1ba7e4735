-- The schema of an input for which none is given (docs/types.md, "Names of columns", "Inference").
use Rattle.std.specs.Prelude.{◌≡◌, ◌⊎◌, ℕ, ◌-◌, ◌+◌, Bool, true, false, not, ◌&&◌, ◌==◌, nat_lt, if◌then◌else◌, List, [], ◌∷◌, length, map, slice_index_or, Option, None, Some, is_none, unwrap_or}
use Rattle.std.specs.List.{list_any, range_with_len}
use Rattle.std.specs.Option.{option_map, option_map_or, option_and_then}
use Rattle.pl_frame.specs.declared.data_type.DataType.{DataType}
use Rattle.pl_frame.specs.declared.data_type.DataType.TheVariants as dtype
use Rattle.pl_frame.specs.declared.error.NamePlace.TheVariants as name_place
use Rattle.pl_frame.specs.declared.error.NoDataFault.TheVariants as no_data
use Rattle.pl_frame.specs.declared.error.OpFault.TheVariants as op_fault
use Rattle.pl_frame.specs.declared.error.PolarsError.{PolarsError}
use Rattle.pl_frame.specs.declared.error.PolarsError.TheVariants as error
use Rattle.pl_frame.specs.Names.{repeated_name}
use Rattle.pl_frame.specs.Schema.{Entry, names_in, type_of}
use Rattle.pl_scan.specs.Items.{ItemText, items}
use Rattle.pl_scan.specs.Start.{Skips, skips, skip_lines, data_left}
use Rattle.pl_cells.specs.InitBuffers.{entry_at}
use Rattle.pl_cells.specs.NullTest.{NullTest}
use Rattle.pl_cells.specs.NullValues.{compiled_under, means_null}
use Rattle.pl_options.specs.declared.parse_options.CsvParseOptions.{CsvParseOptions}
use Rattle.pl_options.specs.declared.read_options.CsvReadOptions.{CsvReadOptions}
use Rattle.pl_options.specs.FirstCause.{when, IsFirstCause}
use Rattle.pl_options.specs.Text.{marks_of, comment_of}
use Rattle.pl_infer.specs.Evidence.{sampled, column_type}
use Rattle.pl_infer.specs.Header.{column_names}
use Rattle.pl_infer.specs.Sample.{has_long_text, bytes_of_items}
use Rattle.pl_infer.specs.declared.inference_result.SchemaInferenceResult.{SchemaInferenceResult}

-- What a schema is inferred by: how the text is cut and its fields are read, what is skipped, how many items are sampled, a
-- schema that overwrites names and types, and whether an input without a record is refused.
pub record Inference : Type 0 where
  pub parse : CsvParseOptions
  pub skips : Skips
  pub limit : Option ℕ
  pub overwrite : List Entry
  pub raise_if_empty : Bool

-- an inference by these options
abbrev pub inference : CsvParseOptions → Option ℕ → Bool → List Entry → (skip_rows skip_lines skip_rows_after_header : ℕ) → Bool → Inference
inference parse limit has_header overwrite skip_rows skip_lines skip_rows_after_header raise_if_empty = record {
  parse = parse;
  skips = skips skip_lines skip_rows has_header skip_rows_after_header;
  limit = limit;
  overwrite = overwrite;
  raise_if_empty = raise_if_empty;
}

-- what options of a reader say of it
abbrev pub inference_of : CsvReadOptions → Inference
inference_of o = inference o.parse_options o.infer_schema_length o.has_header (unwrap_or o.schema_overwrite []) o.skip_rows o.skip_lines o.skip_rows_after_header o.raise_if_empty

-- ---- the names

-- a text that is not empty
abbrev pub unless_nothing : List ℕ → Option (List ℕ)
unless_nothing [] = None
unless_nothing (x ∷ xs) = Some (x ∷ xs)

-- what stands from the first record on, where there is one: behind the head, the rows to skip and the comments
abbrev pub first_record : Inference → List ℕ → Option (List ℕ)
first_record i input =
    option_and_then unless_nothing (data_left (skips i.skips.lines i.skips.rows false 0) false (marks_of i.parse) (comment_of i.parse) input)

-- the names of the columns: those of the first record, where there is one
abbrev pub names_of : Inference → List ℕ → List (List ℕ)
names_of i input = option_map_or (column_names i.skips.has_header (marks_of i.parse)) (first_record i input) []

-- ---- the sample

-- what stands from the starting point of the data on, or nothing where there are too few items before it
abbrev pub data_in : Inference → List ℕ → List ℕ
data_in i input = unwrap_or (data_left i.skips false (marks_of i.parse) (comment_of i.parse) input) []

-- the items of data that are sampled
abbrev pub sample_of : Inference → List ℕ → List ItemText
sample_of i records = sampled i.limit (items (marks_of i.parse) (comment_of i.parse) records)

-- which texts mean null in a column, given the names of all
abbrev pub null_test_of : Inference → List (List ℕ) → ℕ → NullTest
null_test_of i names column = means_null (option_map (λ values. compiled_under values names) i.parse.null_values) column

-- the types of columns of these names by the sample of data
abbrev pub types_of_names : Inference → List (List ℕ) → List ℕ → List DataType
types_of_names i names records =
    map (λ column. column_type i.parse.try_parse_dates (null_test_of i names column) (marks_of i.parse) (sample_of i records) column) (range_with_len 0 (length names))

-- a column of these names has a long text in the sample of data
abbrev pub has_long_texts : Inference → List (List ℕ) → List ℕ → Bool
has_long_texts i names records =
    list_any (λ column. has_long_text i.parse.try_parse_dates (null_test_of i names column) (marks_of i.parse) (sample_of i records) column) (range_with_len 0 (length names))

-- ---- the schema

-- A column of so many that another schema overwrites: its type where that has its name; else its name and its type, where that
-- has as many columns.
abbrev pub overwritten : List Entry → ℕ → ℕ → Entry → Entry
overwritten other width column entry = elim (type_of entry.0 other) [
  | Some type ↦ (entry.0, type)
  | None ↦ if length other == width then entry_at other column else entry
]

-- the column at a place of these names and types
abbrev pub overwritten_at : List Entry → List (List ℕ) → List DataType → ℕ → Entry
overwritten_at other names types column = overwritten other (length names) column (slice_index_or names column [], slice_index_or types column dtype.String)

-- all columns of these names and types
abbrev pub overwritten_columns : List Entry → List (List ℕ) → List DataType → List Entry
overwritten_columns other names types = map (overwritten_at other names types) (range_with_len 0 (length names))

-- the columns of an input, by their first record and their sample
unfoldable pub inferred : Inference → List ℕ → List Entry
inferred i input =
    let names = names_of i input in
    overwritten_columns i.overwrite names (types_of_names i names (data_in i input))

-- ---- what stands against it

-- there is no record, and that is refused
abbrev pub empty : Inference → List ℕ → Option PolarsError
empty i input = when (is_none (first_record i input) && i.raise_if_empty) (error.NoData no_data.Empty)

-- the first name of columns that an earlier one has
abbrev pub repeated : List Entry → Option PolarsError
repeated columns = option_map (λ name. error.Duplicate name name_place.Schema) (repeated_name (names_in columns))

-- the causes against a schema, in their order
abbrev pub inference_causes : Inference → List ℕ → List (Option PolarsError)
inference_causes i input = empty i input ∷ repeated (inferred i input) ∷ []

-- and before them: the marks are no dialect, or lines and rows are both to be skipped
abbrev pub file_causes : Inference → List ℕ → Bool → List (Option PolarsError)
file_causes i input is_dialect =
    when (not is_dialect) (error.InvalidOperation op_fault.Dialect)
    ∷ when (nat_lt 0 i.skips.lines && nat_lt 0 i.skips.rows) (error.InvalidOperation op_fault.Option)
    ∷ inference_causes i input

-- the refusal is the first of these; or memory is wanting, which may be at any time
abbrev pub IsInferenceFault : Inference → List ℕ → PolarsError → Type 0
IsInferenceFault i input fault = IsFirstCause (file_causes i input) i.parse (Some fault) ⊎ (fault ≡ error.OutOfMemory)

-- ---- what is told beside it

-- how many bytes stand between the skipped lines and the place just behind the last sampled item; 0 where none is sampled
abbrev pub sampled_bytes : Inference → List ℕ → ℕ
sampled_bytes i input =
    let records = data_in i input in
    let count = length (sample_of i records) in
    if count == 0 then 0
    else length (skip_lines i.parse.eol_char i.skips.lines input) - length records + bytes_of_items (marks_of i.parse) (comment_of i.parse) count records

-- more than one worker is asked, or four for want of a number
abbrev pub asks_several : Option ℕ → Bool
asks_several asked = option_map_or (λ workers. nat_lt 1 workers) asked true

-- how many workers are to read: one where several are asked and a long text was seen
abbrev pub workers_left : Option ℕ → Bool → Option ℕ
workers_left asked has_long = if asks_several asked && has_long then Some 1 else asked

-- what inference gives, where so many workers are asked
abbrev pub inference_result : Inference → Option ℕ → List ℕ → SchemaInferenceResult
inference_result i asked input = record {
  inferred_schema = inferred i input;
  rows_read = length (sample_of i (data_in i input));
  bytes_read = sampled_bytes i input;
  bytes_total = length input;
  n_threads = workers_left asked (has_long_texts i (names_of i input) (data_in i input));
}

-- a schema, the number of sampled items, and the bytes up to the end of the last of them
abbrev pub IsInferred : Inference → List ℕ → List Entry × ℕ × ℕ → Type 0
IsInferred i input found = (found.0 ≡ inferred i input) × (found.1 ≡ length (sample_of i (data_in i input))) × (found.2 ≡ sampled_bytes i input)
