use Rattle.pl_write.proofs.OptionsEqualLaws.{cells_told, writers_told}
use Rattle.pl_write.proofs.laws.options_are_told.Goals as goal

pub returns-clause-cells : goal.returns-clause-cells
returns-clause-cells c = cells_told

pub returns-clause-writers : goal.returns-clause-writers
returns-clause-writers c = writers_told
