-- Columns that are made of what the host gives, or why none is.
use Rattle.std.specs.Prelude.{◌≡◌, ℕ, true, false}
use Rattle.std.specs.Str.{is_utf8}
use Rattle.pl_csv_c.specs.HostCells.{IsFirstOpen}
use Rattle.pl_csv_c.specs.HostColumns.{has_type, type_of, is_in_words}
use Rattle.pl_csv_c.specs.declared.host_column.HostColumn.{HostColumn}
use Rattle.pl_csv_c.specs.declared.host_made.Kind.{Kind}
use Rattle.pl_csv_c.specs.declared.host_made.Kind.TheVariants as kind
use Rattle.pl_csv_c.specs.declared.host_made.Unmade.{Unmade}
use Rattle.pl_csv_c.specs.declared.host_made.Unmade.TheVariants as unmade
use Rattle.pl_frame.specs.Columns.{is_number, is_enum}
use Rattle.pl_frame.specs.declared.data_type.DataType.{DataType}
use Rattle.pl_frame.specs.declared.data_type.DataType.TheVariants as dtype

-- the cells of a type are taken so
abbrev pub IsKind : Kind → DataType → Type 0
IsKind kind.Truths type = type ≡ dtype.Boolean
IsKind kind.Narrow type = (is_number type ≡ true) × (is_in_words type ≡ false)
IsKind kind.Wide type = (is_number type ≡ true) × (is_in_words type ≡ true)
IsKind kind.Strings type = type ≡ dtype.String
IsKind kind.Categories type = type ≡ dtype.Categorical
IsKind kind.Enum type = is_enum type ≡ true

-- the first row without a value under a type that is given
pub record HasOpenRow (c : HostColumn) (row : ℕ) : Type 0 where
  pub name : is_utf8 c.name.now ≡ true
  pub typed : has_type c ≡ true
  pub first : IsFirstOpen (type_of c) c row

-- why no column is made: the name is not UTF-8; or no type is given whose values can be read; or a row has no value of the type, though
-- its flag is set, and is the first such; or memory is wanting, which may be at any time
abbrev pub IsUnmade : HostColumn → Unmade → Type 0
IsUnmade c unmade.Name = is_utf8 c.name.now ≡ false
IsUnmade c unmade.Type = has_type c ≡ false
IsUnmade c (unmade.Row row) = HasOpenRow c row
IsUnmade c unmade.OutOfMemory = Unit {0}
