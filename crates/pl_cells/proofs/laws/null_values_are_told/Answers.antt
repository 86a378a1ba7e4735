use Rattle.pl_cells.proofs.NullEqualLaws.{values_told, compiled_told}
use Rattle.pl_cells.proofs.laws.null_values_are_told.Goals as goal

pub returns-clause-values : goal.returns-clause-values
returns-clause-values c = values_told

pub returns-clause-compiled : goal.returns-clause-compiled
returns-clause-compiled c = compiled_told
