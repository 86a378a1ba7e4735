use Rattle.pl_write.proofs.LeftLaws.{left-next}
use Rattle.pl_write.proofs.cells.Cells.push_next.Goals as goal

pub returns-clause-next : goal.returns-clause-next
returns-clause-next c = rw (← c.self.view_is) (left-next c.self.inside.column.now.dtype c.self.inside.column.now.values c.self.inside.next)
