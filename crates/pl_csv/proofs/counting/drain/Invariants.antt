use Rattle.std.proofs.Common.{◌≤◌, ◌-◌, ◌^◌}
use Rattle.pl_csv.proofs.CountingLaws.{HasPassed}
use Rattle.pl_csv.proofs.counting.drain.Given as goal

abbrev pub invariant-loop-count : goal.invariant-loop-count
invariant-loop-count g l = record {
  within : l.length ≤ 2 ^ 36;
  passed : HasPassed (g.So.Source.left l.fn.source) (g.So.Source.left l.source);
  later : g.So.Source.faults l.fn.source ≤ g.So.Source.faults l.source;
}

abbrev pub decreases-loop-count : goal.decreases-loop-count
decreases-loop-count g l = 2 ^ 36 - l.length
