use Rattle.std.proofs.Common.{◌≡◌}
use Rattle.pl_cells.specs.InitBuffers.{empty_buffers}
use Rattle.pl_rows.specs.Plan.{states}
use Rattle.pl_rows.specs.WholePieces.{IsFrontLinked}
use Rattle.pl_csv_c.proofs.pieces.link_pieces.Given as goal

abbrev pub invariant-pieces : goal.invariant-pieces
invariant-pieces l = record {
  linked : IsFrontLinked l.plan l.schema l.range l.stacks l.rows l.end;
  empty : states l.buffers ≡ empty_buffers l.plan.dialect.quote_char l.plan.options.encoding l.schema l.plan.projection.places.now;
}
