use Rattle.std.proofs.Common.{◌≤◌}
use Rattle.pl_read.specs.Arriving.{HasLinked}
use Rattle.pl_read.proofs.rounds.read_rounds.Given as goal

abbrev pub invariant-loop : goal.invariant-loop
invariant-loop g l = record {
  linked : HasLinked l.fn.plan l.fn.schema (g.So.Source.left l.initial.source) (g.So.Source.left l.source) l.initial.intake l.intake l.linked;
  later : g.So.Source.faults l.initial.source ≤ g.So.Source.faults l.source;
}
