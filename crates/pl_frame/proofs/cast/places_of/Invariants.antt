use Rattle.std.proofs.Common.{◌≡◌, map, take}
use Rattle.pl_frame.specs.Categories.{code_of}
use Rattle.pl_frame.specs.Columns.{text_in}
use Rattle.pl_frame.proofs.cast.places_of.Given as goal

abbrev pub invariant-loop-row : goal.invariant-loop-row
invariant-loop-row l = l.places ≡ map (λ cell. code_of l.categories (text_in cell)) (take l.row l.column.values)
