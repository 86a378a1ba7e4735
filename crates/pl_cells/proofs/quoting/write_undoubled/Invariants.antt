use Rattle.std.proofs.Common.{◌≡◌, ◌++◌, length}
use Rattle.pl_cells.specs.Quoting.{undouble}
use Rattle.pl_cells.proofs.quoting.write_undoubled.Given as goal

abbrev pub invariant-loop-at : goal.invariant-loop-at
invariant-loop-at l = l.to.items ++ undouble l.quote l.rest ≡ undouble l.quote l.text

abbrev pub decreases-loop-at : goal.decreases-loop-at
decreases-loop-at l = length l.rest
