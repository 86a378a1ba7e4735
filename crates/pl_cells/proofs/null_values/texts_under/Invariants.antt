use Rattle.std.proofs.Common.{◌≡◌, take}
use Rattle.pl_cells.specs.NullValues.{column_texts}
use Rattle.pl_cells.proofs.null_values.texts_under.Given as goal

abbrev pub invariant-loop-name : goal.invariant-loop-name
invariant-loop-name l = l.texts.items ≡ column_texts l.entries (take l.name-index l.names)
