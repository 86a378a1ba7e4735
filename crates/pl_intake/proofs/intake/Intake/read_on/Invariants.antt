use Rattle.std.proofs.Common.{◌+◌, ◌-◌, ◌≤◌, [], cond}
use Rattle.pl_intake.specs.Intake.{HasGiven}
use Rattle.pl_intake.proofs.intake.Intake.read_on.Given as goal

abbrev pub invariant-loop-self : goal.invariant-loop-self
invariant-loop-self g l = record {
  given : HasGiven (g.So.Source.left l.fn.source) (g.So.Source.left l.source) l.limit l.fn.self l.self [];
  within : l.self.size ≤ l.limit;
  later : g.So.Source.faults l.fn.source ≤ g.So.Source.faults l.source;
}

abbrev pub decreases-loop-self : goal.decreases-loop-self
decreases-loop-self g l = cond l.self.is_ended 0 1 + (l.limit - l.self.size)
