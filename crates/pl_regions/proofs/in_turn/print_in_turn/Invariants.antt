use Rattle.std.proofs.Common.{◌≤◌}
use Rattle.std.specs.Prelude.{IfSome}
use Rattle.pl_write.specs.Options.{cell_options}
use Rattle.pl_regions.specs.Arriving.{HasPrinted}
use Rattle.pl_regions.proofs.in_turn.print_in_turn.Given as goal

abbrev pub invariant-loop : goal.invariant-loop
invariant-loop g l = record {
  printed : HasPrinted l.fn.plan l.fn.schema (cell_options l.fn.options) (g.So.Source.left l.initial.source) (g.So.Source.left l.source) l.fn.limit l.initial.intake l.intake l.kept;
  few : IfSome l.fn.most (λ most. l.kept.rows ≤ most);
  later : g.So.Source.faults l.initial.source ≤ g.So.Source.faults l.source;
}
