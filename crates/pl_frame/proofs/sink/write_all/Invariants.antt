use Rattle.std.proofs.Common.{◌≤◌, ◌-◌, length, take}
use Rattle.std.specs.Io.KnownBytes.{Appends}
use Rattle.pl_frame.proofs.sink.write_all.Given as goal

abbrev pub invariant-loop-at : goal.invariant-loop-at
invariant-loop-at g l = record {
  within : l.at ≤ length l.bytes;
  written : Appends (g.Si.Sink.received l.fn.sink) (g.Si.Sink.received l.sink) (take l.at l.bytes);
  later : g.Si.Sink.faults l.fn.sink ≤ g.Si.Sink.faults l.sink;
  later_wants : g.Si.Sink.wants l.fn.sink ≤ g.Si.Sink.wants l.sink;
}

abbrev pub decreases-loop-at : goal.decreases-loop-at
decreases-loop-at g l = length l.bytes - l.at
