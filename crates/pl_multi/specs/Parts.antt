-- The parts of a joined read, and what stands against them whatever their bytes (docs/files.md, "Many files").
use Rattle.std.specs.Prelude.{ℕ, Bool, not, nat_lt, List, [], ◌∷◌, ◌++◌, map, Option, None, Some, is_none, is_some, ◌||◌, false, if◌then◌else◌}
use Rattle.std.specs.Cmp.Lexicographic.{pointwise}
use Rattle.std.specs.List.{position}
use Rattle.std.specs.Option.{option_map, option_map_or}
use Rattle.std.specs.Str.{bytes_eq}
use Rattle.pl_frame.specs.Names.{repeated_name}
use Rattle.pl_frame.specs.Schema.{Entry}
use Rattle.pl_frame.specs.declared.error.PolarsError.{PolarsError}
use Rattle.pl_options.specs.declared.read_options.CsvReadOptions.{CsvReadOptions}
use Rattle.pl_options.specs.declared.row_index.RowIndex.{RowIndex}
use Rattle.pl_options.specs.FirstCause.{first_some}
use Rattle.pl_cells.specs.InitBuffers.{entry_at}
use Rattle.pl_read.specs.Projection.{projected}
use Rattle.pl_read.specs.SettleGiven.{given_schema}
use Rattle.pl_multi.specs.declared.part.Part.{Part}
use Rattle.pl_multi.specs.declared.scan.MultiFault.{MultiFault}
use Rattle.pl_multi.specs.declared.scan.MultiFault.TheVariants as fault

-- ---- names

-- the names of a part's values
abbrev pub value_names : Part → List (List ℕ)
value_names part = map (λ value. value.0) part.values

-- the names of the first part's values; there are none without parts
abbrev pub partition_names : List Part → List (List ℕ)
partition_names [] = []
partition_names (part ∷ parts) = value_names part

-- the least part whose values have other names than those of the first
abbrev pub first_other : List Part → Option ℕ
first_other parts = position (λ part. not (pointwise bytes_eq (value_names part) (partition_names parts))) parts

-- the name of the row index, where one is asked
abbrev pub index_name : Option RowIndex → List (List ℕ)
index_name None = []
index_name (Some index) = index.name ∷ []

-- the entries of the columns that are read
abbrev pub entries_read : CsvReadOptions → List Entry → List Entry
entries_read o schema = map (entry_at schema) (projected o schema)

-- the names of all columns of the answer: of the row index, of the columns that are read, and of the values of parts
abbrev pub column_names : CsvReadOptions → List Entry → List Part → List (List ℕ)
column_names o schema parts = index_name o.row_index ++ (map (λ entry. entry.0) (entries_read o schema) ++ partition_names parts)

-- ---- the slice

-- the first row of the answer, and the row before which it ends, where one is given
abbrev pub start_of : Option (ℕ × ℕ) → ℕ
start_of slice = option_map_or (λ rows. rows.0) slice 0

abbrev pub end_of : Option (ℕ × ℕ) → Option ℕ
end_of slice = option_map (λ rows. rows.1) slice

-- ---- what stands against them

-- no schema is given, or a path or a limit of rows is, or the slice ends before it starts
abbrev pub is_wrong : CsvReadOptions → Option (ℕ × ℕ) → Bool
is_wrong o slice = is_none o.schema || (is_some o.path || (is_some o.n_rows || option_map_or (λ rows. nat_lt rows.1 rows.0) slice false))

-- the first cause that no byte has a part in, given the first cause against the options of the read
abbrev pub early_fault : Option PolarsError → CsvReadOptions → Option (ℕ × ℕ) → List Part → Option MultiFault
early_fault refused o slice parts = first_some (
    (if is_wrong o slice then Some fault.Options else None)
    ∷ option_map fault.Read refused
    ∷ option_map fault.Partitions (first_other parts)
    ∷ option_map fault.Duplicate (repeated_name (column_names o (given_schema o) parts))
    ∷ [])
