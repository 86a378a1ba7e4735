use Rattle.std.proofs.Common.{◌≡◌, ◌++◌, ◌-◌, ◌≤◌, ◌^◌, ℕ, List, Option}
use Rattle.std.specs.List.{concat}
use Rattle.pl_cells.specs.InitBuffers.{empty_buffers}
use Rattle.pl_frame.specs.Came.{IsReadOn}
use Rattle.pl_intake.specs.declared.intake.Intake.{Intake}
use Rattle.pl_rows.specs.Plan.{states}
use Rattle.pl_read.specs.Arriving.{IsLinkedUpTo, HasInLine}
use Rattle.pl_read.proofs.arriving.hand_and_read.Given as goal

abbrev pub invariant-loop : goal.invariant-loop
invariant-loop g l = record {
  empty : states l.buffers.items ≡ empty_buffers l.fn.plan.dialect.quote_char l.fn.plan.options.encoding l.fn.schema l.fn.plan.projection.places.now;
  some : (text : List ℕ) × IsLinkedUpTo l.fn.plan l.fn.schema text (l.line.left.items ++ concat l.line.pending) l.line.linked;
  line : (before : Option (List ℕ)) (first : Intake)
      → HasInLine l.fn.plan l.fn.schema before (g.So.Source.left l.initial.source) first l.initial.intake l.initial.line.linked l.initial.line.left.items l.initial.line.pending
      → HasInLine l.fn.plan l.fn.schema before (g.So.Source.left l.source) first l.intake l.line.linked l.line.left.items l.line.pending;
  within : l.intake.size ≤ 2 ^ 64 - 1;
  read_on : IsReadOn (g.So.Source.left l.initial.source) (g.So.Source.left l.source);
  later : g.So.Source.faults l.initial.source ≤ g.So.Source.faults l.source;
}
