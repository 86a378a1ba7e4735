use Rattle.std.proofs.Common.{◌≤◌, ℕ, List, Option}
use Rattle.std.specs.Prelude.{IfSome}
use Rattle.pl_intake.specs.Intake.{HasGiven}
use Rattle.pl_intake.specs.declared.intake.Intake.{Intake}
use Rattle.pl_write.specs.Options.{cell_options}
use Rattle.pl_regions.specs.Arriving.{HasInLine}
use Rattle.pl_regions.proofs.in_line.hand_and_print.Given as goal

abbrev pub invariant-loop : goal.invariant-loop
invariant-loop g l = record {
  given : (text : List ℕ) × HasGiven (g.So.Source.left l.initial.source) (g.So.Source.left l.source) l.fn.limit l.initial.intake l.intake text;
  line : (before : Option (List ℕ)) (first : Intake)
      → HasInLine l.fn.plan l.fn.schema (cell_options l.fn.options) before (g.So.Source.left l.initial.source) l.fn.limit first l.initial.intake l.initial.line.kept l.initial.line.left.items l.initial.line.pending
      → HasInLine l.fn.plan l.fn.schema (cell_options l.fn.options) before (g.So.Source.left l.source) l.fn.limit first l.intake l.line.kept l.line.left.items l.line.pending;
  few : IfSome l.fn.most (λ most. l.line.kept.rows ≤ most);
  later : g.So.Source.faults l.initial.source ≤ g.So.Source.faults l.source;
}
