use Rattle.std.proofs.Common.{◌≡◌, ◌≤◌}
use Rattle.pl_cells.specs.InitBuffers.{empty_buffers}
use Rattle.pl_rows.specs.Plan.{states}
use Rattle.pl_read.specs.Arriving.{HasLinked}
use Rattle.pl_read.proofs.in_turn.read_in_turn.Given as goal

abbrev pub invariant-loop : goal.invariant-loop
invariant-loop g l = record {
  empty : states l.buffers.items ≡ empty_buffers l.fn.plan.dialect.quote_char l.fn.plan.options.encoding l.fn.schema l.fn.plan.projection.places.now;
  linked : HasLinked l.fn.plan l.fn.schema (g.So.Source.left l.initial.source) (g.So.Source.left l.source) l.initial.intake l.intake l.linked;
  later : g.So.Source.faults l.initial.source ≤ g.So.Source.faults l.source;
}
