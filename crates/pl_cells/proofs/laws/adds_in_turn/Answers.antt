use Rattle.std.proofs.Common.{ap, append_assoc}
use Rattle.pl_cells.specs.BufferValue.{holding}
use Rattle.pl_cells.proofs.laws.adds_in_turn.Goals as goal

pub returns : goal.returns
returns c = λ buffer first second. ap (holding buffer) (append_assoc buffer.values first second)
