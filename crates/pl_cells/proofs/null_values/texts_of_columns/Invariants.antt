use Rattle.std.proofs.Common.{◌≡◌, take}
use Rattle.pl_frame.specs.Schema.{names_in}
use Rattle.pl_cells.specs.NullValues.{column_texts}
use Rattle.pl_cells.proofs.null_values.texts_of_columns.Given as goal

abbrev pub invariant-loop-place : goal.invariant-loop-place
invariant-loop-place l = l.texts.items ≡ take l.place (column_texts l.entries (names_in l.schema))
