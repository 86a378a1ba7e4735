use Rattle.std.proofs.Common.{take}
use Rattle.pl_write.specs.Strips.{AreCopies}
use Rattle.pl_write.proofs.copies.copies_of.Given as goal

abbrev pub invariant-loop-column : goal.invariant-loop-column
invariant-loop-column l = AreCopies l.first l.end (take l.column-index l.columns) l.copies.items
