use Rattle.std.proofs.Common.{◌≡◌}
use Rattle.pl_write.proofs.block.Block.append_cell.Given as goal

abbrev pub invariant-loop : goal.invariant-loop
invariant-loop g l = l.self ≡ l.initial.self
