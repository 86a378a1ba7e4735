use Rattle.std.proofs.Common.{◌≤◌}
use Rattle.pl_write.specs.Options.{cell_options}
use Rattle.pl_regions.specs.Printing.{IsPrintedFront}
use Rattle.pl_regions.proofs.first_rows.print_first.Given as goal

abbrev pub invariant-loop : goal.invariant-loop
invariant-loop g l = record {
  printed : IsPrintedFront l.plan l.schema (cell_options l.options) l.records l.front;
  few : l.front.rows ≤ l.limit;
}
