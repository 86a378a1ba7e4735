use Rattle.std.proofs.Common.{ap, length, refl}
use Rattle.std.proofs.lemmas.List.{take_at}
use Rattle.pl_cells.specs.BufferValue.{holding}
use Rattle.pl_cells.proofs.laws.cuts_back.Goals as goal

pub returns : goal.returns
returns c = λ buffer more. ap (holding buffer) (take_at buffer.values more (length buffer.values) refl)
