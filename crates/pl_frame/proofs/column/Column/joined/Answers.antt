use Rattle.std.proofs.Common.{sym, subst}
use Rattle.pl_frame.specs.GatheredCells.{SuitsType}
use Rattle.pl_frame.proofs.column.Column.joined.Goals as goal

pub push_rows-requires-2-clause-suits : goal.push_rows-requires-2-clause-suits
push_rows-requires-2-clause-suits c = subst (λ t. SuitsType t c.push_rows.new.self) (sym c.requires) c.in-Ok.ensures.suits

pub with_cells-requires : goal.with_cells-requires
with_cells-requires c = subst (λ t. SuitsType t c.push_rows-2.new.self) c.requires c.in-Ok-push_rows.ensures.suits
