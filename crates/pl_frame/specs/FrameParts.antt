-- Parts of frames, and frames that are put together (docs/types.md, "Columns and frames").
use Rattle.std.specs.Prelude.{◌≡◌, ◌≢◌, ℕ, ◌+◌, ◌^◌, ◌<◌, Bool, true, false, if◌then◌else◌, List, [], ◌∷◌, ◌++◌, length, take, drop, map, slice_get, option_to_list, Option}
use Rattle.std.specs.List.{list_any, flat_map, AllByRecursion}
use Rattle.std.specs.Str.{bytes_eq}
use Rattle.pl_frame.specs.declared.error.ComputeFault.TheVariants as fault
use Rattle.pl_frame.specs.declared.error.NamePlace.TheVariants as place
use Rattle.pl_frame.specs.declared.error.PolarsError.{PolarsError}
use Rattle.pl_frame.specs.declared.error.PolarsError.TheVariants as error
use Rattle.pl_frame.specs.Frame.{Scalar, ColumnValue, height_of}
use Rattle.pl_frame.specs.Schema.{Entry}

-- the column with other values
abbrev pub with_values : ColumnValue → List (Option Scalar) → ColumnValue
with_values column values = record { name = column.name; dtype = column.dtype; values = values }

-- ---- rows

-- the rows from one on, at most so many
abbrev pub sliced : ℕ → ℕ → List ColumnValue → List ColumnValue
sliced offset count columns = map (λ column. with_values column (take count (drop offset column.values))) columns

-- the values whose flag is set
abbrev pub kept_of : {X : Type 0} → List Bool → List X → List X
kept_of [] values = []
kept_of (flag ∷ flags) [] = []
kept_of (flag ∷ flags) (value ∷ values) = if flag then value ∷ kept_of flags values else kept_of flags values

-- the rows whose flag is set
abbrev pub filtered : List Bool → List ColumnValue → List ColumnValue
filtered flags columns = map (λ column. with_values column (kept_of flags column.values)) columns

-- the names and the types in order
abbrev pub schema_of : List ColumnValue → List Entry
schema_of columns = map (λ column. (column.name, column.dtype)) columns

-- the same names and types in order
abbrev pub HaveSameColumns : List ColumnValue → List ColumnValue → Type 0
HaveSameColumns columns others = schema_of columns ≡ schema_of others

-- the rows of both, column by column
abbrev pub stacked : List ColumnValue → List ColumnValue → List ColumnValue
stacked [] others = []
stacked (column ∷ columns) [] = []
stacked (column ∷ columns) (other ∷ others) = with_values column (column.values ++ other.values) ∷ stacked columns others

-- the rows of columns and then those of others, one behind the other
abbrev pub all_stacked : List ColumnValue → List (List ColumnValue) → List ColumnValue
all_stacked columns [] = columns
all_stacked columns (others ∷ more) = all_stacked (stacked columns others) more

-- ---- columns

-- the columns of these names and types, without rows
abbrev pub empty_columns : List Entry → List ColumnValue
empty_columns entries = map (λ entry. record { name = entry.0; dtype = entry.1; values = [] }) entries

-- the columns at these places, in this order
abbrev pub columns_at : List ℕ → List ColumnValue → List ColumnValue
columns_at places columns = flat_map (λ place. option_to_list (slice_get columns place)) places

-- there is a column at each of these places
abbrev pub AreWithin : List ℕ → List ColumnValue → Type 0
AreWithin places columns = AllByRecursion (λ place. place < length columns) places

-- no place stands twice
abbrev pub AreDistinctPlaces : List ℕ → Type 0
AreDistinctPlaces [] = Unit {0}
AreDistinctPlaces (place ∷ places) = AllByRecursion (λ other. place ≢ other) places × AreDistinctPlaces places

-- a column has this name
abbrev pub has_name : List ColumnValue → List ℕ → Bool
has_name columns name = list_any (λ column. bytes_eq column.name name) columns

-- the last number of the rows passes 2 ^ 64 - 1
abbrev pub IsTooLong : ℕ → List ColumnValue → Type 0
IsTooLong offset columns = 2 ^ 64 < offset + height_of columns

-- A column has the name, or, where none has, the last number passes 2 ^ 64 - 1. Want of memory may come at any time.
abbrev pub IsRowIndexFault : List ℕ → ℕ → List ColumnValue → PolarsError → Type 0
IsRowIndexFault name offset columns (error.Duplicate repeated place.Projection) = (repeated ≡ name) × (has_name columns name ≡ true)
IsRowIndexFault name offset columns (error.ComputeError (fault.Index start rows)) =
    (start ≡ offset) × (rows ≡ height_of columns) × (has_name columns name ≡ false) × IsTooLong offset columns
IsRowIndexFault name offset columns error.OutOfMemory = Unit {0}
IsRowIndexFault name offset columns _ = ⊥
