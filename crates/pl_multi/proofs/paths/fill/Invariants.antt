use Rattle.std.proofs.Common.{◌≤◌, ◌-◌, length, take}
use Rattle.std.specs.Io.KnownBytes.{Consumes}
use Rattle.pl_multi.proofs.paths.fill.Given as goal

abbrev pub invariant-loop-to : goal.invariant-loop-to
invariant-loop-to g l = record {
  inside : l.to ≤ length l.bytes;
  came : Consumes (g.So.Source.left l.fn.source) (g.So.Source.left l.source) (take l.to l.bytes);
  later : g.So.Source.faults l.fn.source ≤ g.So.Source.faults l.source;
}

abbrev pub decreases-loop-to : goal.decreases-loop-to
decreases-loop-to g l = length l.initial.bytes - l.to
