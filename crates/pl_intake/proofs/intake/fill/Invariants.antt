use Rattle.std.proofs.Common.{◌≡◌, ◌+◌, ◌-◌, ◌≤◌, length, take, slice_range}
use Rattle.std.specs.Io.KnownBytes.{Consumes}
use Rattle.pl_intake.proofs.intake.fill.Given as goal

abbrev pub invariant-loop-to : goal.invariant-loop-to
invariant-loop-to g l = record {
  after : l.from ≤ l.to;
  inside : l.to ≤ length l.text;
  kept : take l.from l.text ≡ take l.from l.initial.text;
  came : Consumes (g.So.Source.left l.fn.source) (g.So.Source.left l.source) (slice_range l.text l.from l.to);
  within : l.size + (l.to - l.from) ≤ l.limit;
  later : g.So.Source.faults l.fn.source ≤ g.So.Source.faults l.source;
}

-- proposed from the loop's first test
abbrev pub decreases-loop-to : goal.decreases-loop-to
decreases-loop-to g l = length l.initial.text - l.to
