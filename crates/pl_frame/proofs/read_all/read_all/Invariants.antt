use Rattle.std.proofs.Common.{◌≤◌, ◌-◌, length}
use Rattle.std.specs.Io.KnownBytes.{Consumes}
use Rattle.pl_frame.proofs.read_all.read_all.Given as goal

abbrev pub invariant-loop-count : goal.invariant-loop-count
invariant-loop-count g l = record {
  within : length l.all.items ≤ l.limit;
  came : Consumes (g.So.Source.left l.fn.source) (g.So.Source.left l.source) l.all.items;
  later : g.So.Source.faults l.fn.source ≤ g.So.Source.faults l.source;
}

abbrev pub decreases-loop-count : goal.decreases-loop-count
decreases-loop-count g l = l.limit - length l.all.items
