-- What columns of a type are that are put behind one another.
use Rattle.std.specs.Prelude.{◌≡◌, false, List, Option}
use Rattle.pl_frame.specs.declared.data_type.DataType.{DataType}
use Rattle.pl_frame.specs.declared.stack.Linked.{Linked}
use Rattle.pl_frame.specs.declared.stack.Linked.TheVariants as linked
use Rattle.pl_frame.specs.Columns.{is_coded, HoldsType}
use Rattle.pl_frame.specs.Frame.{Scalar}
use Rattle.pl_frame.specs.GatheredCells.{cells_so_far, SuitsType}

-- the cells so far
abbrev pub linked_cells : DataType → Linked → List (Option Scalar)
linked_cells type (linked.Parts parts) = parts
linked_cells type (linked.Gathered gathered) = cells_so_far type gathered

-- they are kept as their type asks, and are values of the type
abbrev pub SuitsLinked : DataType → Linked → Type 0
SuitsLinked type (linked.Parts parts) = (is_coded type ≡ false) × HoldsType type parts
SuitsLinked type (linked.Gathered gathered) = SuitsType type gathered
