-- How the parts of a column are kept.
use Rattle.std.specs.Prelude.{ℕ, ◌+◌, List, [], ◌∷◌, length, Option, None, replicate}
use Rattle.std.specs.List.{flat_map}
use Rattle.pl_frame.specs.declared.part.Part.{Part}
use Rattle.pl_frame.specs.declared.part.Part.TheVariants as part
use Rattle.pl_frame.specs.Columns.{truth_cells, number_cells, text_cells}
use Rattle.pl_frame.specs.Frame.{Scalar}

-- the cells of a part
abbrev pub part_cells : Part → List (Option Scalar)
part_cells (part.Boolean truths) = truth_cells truths
part_cells (part.Byte numbers) = number_cells numbers
part_cells (part.Short numbers) = number_cells numbers
part_cells (part.Medium numbers) = number_cells numbers
part_cells (part.Narrow numbers) = number_cells numbers
part_cells (part.Wide numbers) = number_cells numbers
part_cells (part.Texts texts) = text_cells texts
part_cells (part.Packed texts) = text_cells texts
part_cells (part.Null len) = replicate len None

-- the cells of parts, one part behind the other
abbrev pub parts_cells : List Part → List (Option Scalar)
parts_cells parts = flat_map part_cells parts

-- the row at which each part ends, where the first begins at a row
abbrev pub ends_from : ℕ → List Part → List ℕ
ends_from from [] = []
ends_from from (part ∷ parts) = (from + length (part_cells part)) ∷ ends_from (from + length (part_cells part)) parts
