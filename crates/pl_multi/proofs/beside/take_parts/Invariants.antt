use Rattle.std.proofs.Common.{All}
use Rattle.pl_multi.specs.Cells.{IsTakenCell}
use Rattle.pl_multi.proofs.beside.take_parts.Given as goal

abbrev pub invariant-loop : goal.invariant-loop
invariant-loop g l = All (IsTakenCell l.read l.write l.cells) l.taken.items
