-- What options of a read say of the head of a text, of its schema and of its cells (docs/grammar.md, docs/options.md, docs/types.md).
use Rattle.std.specs.Prelude.{ℕ, Bool, false, nat_le, List, [], ◌∷◌, length, Option, unwrap_or}
use Rattle.std.specs.Option.{option_map, option_map_or}
use Rattle.pl_frame.specs.declared.data_type.DataType.{DataType}
use Rattle.pl_frame.specs.Schema.{Entry}
use Rattle.pl_scan.specs.Start.{data_left}
use Rattle.pl_cells.specs.NullValues.{compiled_for}
use Rattle.pl_options.specs.declared.read_options.CsvReadOptions.{CsvReadOptions}
use Rattle.pl_options.specs.Text.{marks_of, comment_of, skips_of}
use Rattle.pl_rows.specs.Cells.{RowRules}
use Rattle.pl_infer.specs.Inference.{inference_of, inferred}

-- ---- the head

-- leading line ends are kept where a schema of at most one column was given
abbrev pub keeps_ends : CsvReadOptions → Bool
keeps_ends o = option_map_or (λ schema. nat_le (length schema) 1) o.schema false

-- what stands from the starting point on, where there are as many items as are to be skipped
abbrev pub data_of : CsvReadOptions → List ℕ → Option (List ℕ)
data_of o input = data_left (skips_of o) (keeps_ends o) (marks_of o.parse_options) (comment_of o.parse_options) input

-- ---- the schema

-- the entries with these types in place of the first ones
abbrev pub with_types : List DataType → List Entry → List Entry
with_types [] entries = entries
with_types (type ∷ types) [] = []
with_types (type ∷ types) (entry ∷ entries) = (entry.0, type) ∷ with_types types entries

-- a schema, settled: its first types are those that the options give
abbrev pub settled : CsvReadOptions → List Entry → List Entry
settled o schema = with_types (unwrap_or o.dtype_overwrite []) schema

-- the schema of an input: the one that is given, or else the inferred one
abbrev pub schema_of : CsvReadOptions → List ℕ → List Entry
schema_of o input = unwrap_or o.schema (inferred (inference_of o) input)

-- the settled schema of an input
abbrev pub settled_schema : CsvReadOptions → List ℕ → List Entry
settled_schema o input = settled o (schema_of o input)

-- ---- the cells

-- how the fields of rows are read as cells of a schema
abbrev pub rules_of : CsvReadOptions → List Entry → RowRules
rules_of o schema = record {
  quote_char = o.parse_options.quote_char;
  reading = record { encoding = o.parse_options.encoding; missing_is_null = o.parse_options.missing_is_null; ignore_errors = o.ignore_errors };
  nulls = option_map (λ values. compiled_for values schema) o.parse_options.null_values;
  truncate_ragged_lines = o.parse_options.truncate_ragged_lines;
}
