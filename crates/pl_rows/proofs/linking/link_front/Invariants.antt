use Rattle.pl_rows.specs.WholePieces.{IsFrontLinked}
use Rattle.pl_rows.proofs.linking.link_front.Given as goal

abbrev pub invariant-loop-posted : goal.invariant-loop-posted
invariant-loop-posted g l = IsFrontLinked l.fn.plan l.fn.schema l.fn.range l.stacks l.rows l.end
