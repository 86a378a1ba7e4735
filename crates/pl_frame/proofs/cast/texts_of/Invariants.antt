use Rattle.std.proofs.Common.{◌≡◌, map, take}
use Rattle.pl_frame.specs.Columns.{text_in}
use Rattle.pl_frame.proofs.cast.texts_of.Given as goal

abbrev pub invariant-loop-row : goal.invariant-loop-row
invariant-loop-row l = l.texts ≡ map text_in (take l.row l.column.values)
