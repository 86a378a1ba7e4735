-- How texts of an enum are kept: for each the place where it stands among the categories.
use Rattle.std.specs.Prelude.{ℕ, List, Option, Some}
use Rattle.pl_frame.specs.declared.data_type.DataType.TheVariants as dtype
use Rattle.pl_frame.specs.Categories.{AreCodes, decoded}
use Rattle.pl_frame.specs.Columns.{text_cells, HoldsType}

-- an enum's categories, and texts among them
pub record EnumValue : Type 0 where
  pub categories : List (List ℕ)
  pub texts : List (Option (List ℕ))

-- each code is the place of its text among the categories, and each text is one of their enum
pub record ArePlaces (categories : List (List ℕ)) (places : List (Option ℕ)) : Type 0 where
  pub codes : AreCodes categories places
  pub held : HoldsType (dtype.Enum (Some categories)) (text_cells (decoded categories places))
