-- The names of a frame as a row of texts.
use Rattle.std.specs.Prelude.{ℕ, List, [], ◌∷◌, Some}
use Rattle.pl_frame.specs.Frame.{ColumnValue, Letters}
use Rattle.pl_frame.specs.declared.data_type.DataType.TheVariants as dtype

-- a name as a column of one text, which is the name
abbrev pub name_column : List ℕ → ColumnValue
name_column name = record { name = name; dtype = dtype.String; values = Some (Letters name) ∷ [] }
