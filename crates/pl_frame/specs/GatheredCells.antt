-- Cells that are gathered for a column of a type.
use Rattle.std.specs.Prelude.{◌≡◌, ℤ, Bool, true, false, List, Option, None, Some, replicate}
use Rattle.std.specs.Option.{option_map_or}
use Rattle.pl_frame.specs.declared.data_type.DataType.{DataType}
use Rattle.pl_frame.specs.declared.data_type.DataType.TheVariants as dtype
use Rattle.pl_frame.specs.declared.gathered.Gathered.{Gathered}
use Rattle.pl_frame.specs.declared.gathered.Gathered.TheVariants as gathered
use Rattle.pl_frame.specs.Categories.{AreCodes, decoded}
use Rattle.pl_frame.specs.Columns.{truth_cells, number_cells, text_cells, is_number, is_enum, categories_of, HoldsType}
use Rattle.pl_frame.specs.Frame.{Scalar, Truth, Number}
use Rattle.pl_frame.specs.Types.{range_of, is_narrow}

-- the truth value in a cell
abbrev pub truth_in : Option Scalar → Option Bool
truth_in (Some (Truth b)) = Some b
truth_in _ = None

-- the number in a cell
abbrev pub whole_in : Option Scalar → Option ℤ
whole_in (Some (Number n)) = Some n
whole_in _ = None

-- the cells so far
abbrev pub cells_so_far : DataType → Gathered → List (Option Scalar)
cells_so_far type (gathered.Boolean truths) = truth_cells truths
cells_so_far type (gathered.Narrow numbers) = number_cells numbers
cells_so_far type (gathered.Wide numbers) = number_cells numbers
cells_so_far type (gathered.String texts) = text_cells texts
cells_so_far type (gathered.Categories texts) = text_cells texts
cells_so_far type (gathered.Enum codes) = text_cells (decoded (categories_of type) codes)
cells_so_far type (gathered.Null len) = replicate len None

-- a type of numbers that fit 64 bits with a sign
abbrev pub is_narrow_type : DataType → Bool
is_narrow_type type = option_map_or is_narrow (range_of type) false

-- cells of the type can be gathered in this way
abbrev pub GathersType : DataType → Gathered → Type 0
GathersType type (gathered.Boolean truths) = type ≡ dtype.Boolean
GathersType type (gathered.Narrow numbers) = is_narrow_type type ≡ true
GathersType type (gathered.Wide numbers) = is_number type ≡ true
GathersType type (gathered.String texts) = type ≡ dtype.String
GathersType type (gathered.Categories texts) = type ≡ dtype.Categorical
GathersType type (gathered.Enum codes) = (is_enum type ≡ true) × AreCodes (categories_of type) codes
GathersType type (gathered.Null len) = type ≡ dtype.Null

-- the cells so far are gathered in a way for the type, and are values of it
pub record SuitsType (type : DataType) (cells : Gathered) : Type 0 where
  pub way : GathersType type cells
  pub held : HoldsType type (cells_so_far type cells)
