use Rattle.pl_csv_c.specs.Growing.{IsFrontGrown}
use Rattle.pl_csv_c.proofs.straight.grow_pieces.Given as goal

abbrev pub invariant-pieces : goal.invariant-pieces
invariant-pieces l = IsFrontGrown l.plan l.schema l.range l.all l.rows l.end
