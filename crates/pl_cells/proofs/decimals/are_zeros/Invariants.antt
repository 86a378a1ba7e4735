use Rattle.std.proofs.Common.{◌≡◌, length}
use Rattle.pl_cells.specs.Decimals.{are_zeros}
use Rattle.pl_cells.proofs.decimals.are_zeros.Given as goal

abbrev pub invariant-loop-rest : goal.invariant-loop-rest
invariant-loop-rest l = are_zeros l.rest ≡ are_zeros l.text

abbrev pub decreases-loop-rest : goal.decreases-loop-rest
decreases-loop-rest l = length l.rest
