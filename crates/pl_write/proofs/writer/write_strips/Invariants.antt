use Rattle.std.proofs.Common.{◌<◌, ◌≤◌, ◌-◌, ◌++◌, length}
use Rattle.pl_write.specs.Options.{cell_options}
use Rattle.pl_write.specs.Strips.{strip_lines}
use Rattle.pl_write.specs.Writing.{IsWriting}
use Rattle.pl_write.proofs.writer.write_strips.Given as goal

abbrev pub invariant-loop-row : goal.invariant-loop-row
invariant-loop-row g l = record {
  lines : 0 < length l.lines;
  up : l.first ≤ l.row;
  writing : IsWriting (g.Si.Sink.received l.fn.sink) (g.Si.Sink.received l.sink) l.block
      (strip_lines (cell_options l.options) l.strips l.row (l.end - l.row)) (l.initial.block ++ strip_lines (cell_options l.options) l.strips l.first (l.end - l.first));
  later : g.Si.Sink.faults l.fn.sink ≤ g.Si.Sink.faults l.sink;
  later_wants : g.Si.Sink.wants l.fn.sink ≤ g.Si.Sink.wants l.sink;
}

abbrev pub decreases-loop-row : goal.decreases-loop-row
decreases-loop-row g l = l.end - l.row
