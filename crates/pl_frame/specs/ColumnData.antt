-- How the values of a column are kept.
use Rattle.std.specs.Prelude.{◌≡◌, Bool, true, false, List, Option}
use Rattle.pl_frame.specs.declared.column.Data.{Data}
use Rattle.pl_frame.specs.declared.column.Data.TheVariants as kept
use Rattle.pl_frame.specs.declared.data_type.DataType.{DataType}
use Rattle.pl_frame.specs.Categories.{AreCodes, decoded}
use Rattle.pl_frame.specs.Columns.{text_cells, is_coded, is_enum, categories_of, HoldsType}
use Rattle.pl_frame.specs.Frame.{Scalar}
use Rattle.pl_frame.specs.Parts.{part_cells}

-- the cells of a column of a type whose values are kept in this way
abbrev pub cells : DataType → Data → List (Option Scalar)
cells type (kept.Single part) = part_cells part
cells type (kept.Parts values) = values
cells type (kept.Categories texts) = text_cells texts
cells type (kept.Enum codes) = text_cells (decoded (categories_of type) codes)

-- kept as codes
abbrev pub has_codes : Data → Bool
has_codes (kept.Categories texts) = true
has_codes (kept.Enum codes) = true
has_codes _ = false

-- kept as places among the categories of the type
abbrev pub has_places : Data → Bool
has_places (kept.Enum codes) = true
has_places _ = false

-- codes that are kept beside no dictionary are those of the type's categories
abbrev pub HavePlaces : DataType → Data → Type 0
HavePlaces type (kept.Enum codes) = AreCodes (categories_of type) codes
HavePlaces type _ = Unit {0}

-- the values are kept as their type asks, and are values of the type
pub record FitsType (type : DataType) (values : Data) : Type 0 where
  pub coded : is_coded type ≡ has_codes values
  pub enumerated : is_enum type ≡ has_places values
  pub places : HavePlaces type values
  pub held : HoldsType type (cells type values)
