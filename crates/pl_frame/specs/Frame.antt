-- Columns and frames, as contracts see them (docs/types.md).
use Rattle.std.specs.Prelude.{◌≡◌, ℕ, ℤ, Bool, List, [], ◌∷◌, length, Option, None, map, unwrap_or, slice_get, AllPairs, ◌≢◌}
use Rattle.std.specs.List.{AllByRecursion}
use Rattle.pl_frame.specs.declared.data_type.DataType.{DataType}

-- what a cell holds where it is not null
pub data Scalar : Type 0 where
  Truth : Bool → Scalar
  Number : ℤ → Scalar
  Letters : List ℕ → Scalar

-- a column: its name, its type and its cells, a null being `None`
pub record ColumnValue : Type 0 where
  pub name : List ℕ
  pub dtype : DataType
  pub values : List (Option Scalar)

-- the cell of a column in a row
abbrev pub cell_at : ColumnValue → ℕ → Option Scalar
cell_at column row = unwrap_or (slice_get column.values row) None

-- the number of rows of a list of columns: that of the first, and 0 where there is none
abbrev pub height_of : List ColumnValue → ℕ
height_of [] = 0
height_of (column ∷ columns) = length column.values

-- every column has this many rows
abbrev pub HaveHeight : ℕ → List ColumnValue → Type 0
HaveHeight n columns = AllByRecursion (λ column. length column.values ≡ n) columns

-- the names of columns in order
abbrev pub names_of : List ColumnValue → List (List ℕ)
names_of columns = map (λ column. column.name) columns

-- columns of one height with distinct names
pub record IsFrame (columns : List ColumnValue) : Type 0 where
  pub one_height : HaveHeight (height_of columns) columns
  pub distinct : AllPairs (λ a b. a ≢ b) (names_of columns)
