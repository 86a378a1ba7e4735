-- Which columns of a schema are read (docs/options.md, "Which columns are read").
use Rattle.std.specs.Prelude.{ℕ, Bool, nat_eq, nat_le, nat_lt, max, if◌then◌else◌, List, length, filter, find, count_by, Option, None, Some, unwrap_or}
use Rattle.std.specs.List.{range_with_len, list_any, filter_map, fold}
use Rattle.std.specs.Option.{option_map, option_and_then}
use Rattle.std.specs.Str.{bytes_eq}
use Rattle.pl_frame.specs.Schema.{Entry, lacks, place_of}
use Rattle.pl_cells.specs.InitBuffers.{entry_at}
use Rattle.pl_options.specs.declared.read_options.CsvReadOptions.{CsvReadOptions}

-- the places of columns that are asked: those of the names, where names are given; else the places that are given; else all
abbrev pub asked : CsvReadOptions → List Entry → List ℕ
asked o schema = elim o.columns [
  | Some names ↦ filter_map (λ name. place_of name schema) names
  | None ↦ unwrap_or o.projection (range_with_len 0 (length schema))
]

-- how often a place is asked
abbrev pub times_asked : List ℕ → ℕ → ℕ
times_asked places place = count_by (nat_eq place) places

-- the places that are read: each that is asked, in the order of the schema
abbrev pub projected : CsvReadOptions → List Entry → List ℕ
projected o schema = filter (λ place. nat_lt 0 (times_asked (asked o schema) place)) (range_with_len 0 (length schema))

-- ---- what stands against it

-- the first of the asked names that the schema doesn't have
abbrev pub unknown_column : CsvReadOptions → List Entry → Option (List ℕ)
unknown_column o schema = option_and_then (find (lacks schema)) o.columns

-- the greater of two numbers, where both are there
abbrev pub greater : Option ℕ → ℕ → Option ℕ
greater None n = Some n
greater (Some m) n = Some (max m n)

-- the greatest of some numbers
abbrev pub greatest : List ℕ → Option ℕ
greatest numbers = fold greater None numbers

-- the greatest place that is asked and is none of the schema's
abbrev pub outside : CsvReadOptions → List Entry → Option ℕ
outside o schema = greatest (filter (nat_le (length schema)) (asked o schema))

-- the least place that is asked more than once
abbrev pub doubled : List ℕ → ℕ → Option ℕ
doubled places width = find (λ place. nat_lt 1 (times_asked places place)) (range_with_len 0 width)

-- its name
abbrev pub doubled_name : CsvReadOptions → List Entry → Option (List ℕ)
doubled_name o schema = option_map (λ place. (entry_at schema place).0) (doubled (asked o schema) (length schema))

-- a column that is read has this name
abbrev pub has_projected : CsvReadOptions → List Entry → List ℕ → Bool
has_projected o schema name = list_any (λ place. bytes_eq name (entry_at schema place).0) (projected o schema)

-- the name of the row index, where a column that is read has it
abbrev pub taken_name : CsvReadOptions → List Entry → Option (List ℕ)
taken_name o schema = option_and_then (λ index. if has_projected o schema index.name then Some index.name else None) o.row_index
