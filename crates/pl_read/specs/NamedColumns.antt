-- The places in a file of columns that are asked for by name (docs/files.md, "Names and places").
use Rattle.std.specs.Prelude.{◌≡◌, ℕ, zero, suc, Bool, true, false, ◌||◌, not, List, [], map, filter, Option, None, Some, is_some}
use Rattle.std.specs.Borrow.{Bor}
use Rattle.std.specs.List.{list_all, list_any}
use Rattle.std.specs.Option.{option_and_then}
use Rattle.std.specs.Str.{bytes_eq}
use Rattle.pl_frame.specs.Frame.{ColumnValue}
use Rattle.pl_frame.specs.Schema.{Entry, place_of}

-- a place, counted without the row index before it, where there is one
abbrev pub place_behind : Bool → ℕ → Option ℕ
place_behind false place = Some place
place_behind true zero = None
place_behind true (suc place) = Some place

-- the place of a name in the file: that in the schema, counted without the row index
abbrev pub place_in_file : List Entry → Bool → List ℕ → Option ℕ
place_in_file schema has_row_index name = option_and_then (place_behind has_row_index) (place_of name schema)

-- the partitions, where there are any
abbrev pub partitions_in : Option (Bor (List ColumnValue)) → List ColumnValue
partitions_in None = []
partitions_in (Some partitions) = partitions.now

-- it is the name of a partition
abbrev pub is_partition : List ColumnValue → List ℕ → Bool
is_partition partitions name = list_any (λ partition. bytes_eq name partition.name) partitions

-- those of the names that are none of a partition
abbrev pub names_in_file : List ColumnValue → List (List ℕ) → List (List ℕ)
names_in_file partitions names = filter (λ name. not (is_partition partitions name)) names

-- each of the names is that of a partition or of a column of the file
abbrev pub have_places : List Entry → List ColumnValue → Bool → List (List ℕ) → Bool
have_places schema partitions has_row_index names = list_all (λ name. is_partition partitions name || is_some (place_in_file schema has_row_index name)) names

-- these are the places of the names that are none of a partition, in their order
abbrev pub ArePlaces : List Entry → List ColumnValue → Bool → List (List ℕ) → List ℕ → Type 0
ArePlaces schema partitions has_row_index names places = map Some places ≡ map (place_in_file schema has_row_index) (names_in_file partitions names)
