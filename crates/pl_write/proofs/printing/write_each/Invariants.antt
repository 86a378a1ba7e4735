use Rattle.std.proofs.Common.{◌≤◌, [], drop}
use Rattle.pl_write.specs.Printing.{texts_of}
use Rattle.pl_write.specs.Writing.{IsWriting}
use Rattle.pl_write.proofs.printing.write_each.Given as goal

abbrev pub invariant-loop-share : goal.invariant-loop-share
invariant-loop-share g l = record {
  writing : IsWriting (g.Si.Sink.received l.fn.sink) (g.Si.Sink.received l.sink) [] (texts_of (drop l.share-index l.shares)) (texts_of l.shares);
  later : g.Si.Sink.faults l.fn.sink ≤ g.Si.Sink.faults l.sink;
  later_wants : g.Si.Sink.wants l.fn.sink ≤ g.Si.Sink.wants l.sink;
}
