use Rattle.std.proofs.Common.{◌<◌, ◌≤◌, ◌-◌, length}
use Rattle.pl_text.specs.FrameText.{row_lines}
use Rattle.pl_write.specs.Options.{cell_options}
use Rattle.pl_write.specs.Printing.{texts_of}
use Rattle.pl_write.specs.Writing.{IsWriting}
use Rattle.pl_write.proofs.printing.write_by_workers.Given as goal

abbrev pub invariant-loop-row : goal.invariant-loop-row
invariant-loop-row g l = record {
  ready : 0 < length l.ready.items;
  next : 0 < length l.next.items;
  inside : l.row ≤ l.height;
  writing : IsWriting (g.Si.Sink.received l.fn.sink) (g.Si.Sink.received l.sink) (texts_of l.ready.items)
      (row_lines (cell_options l.options.serialize_options) l.columns l.row (l.height - l.row)) (row_lines (cell_options l.options.serialize_options) l.columns 0 l.height);
  later : g.Si.Sink.faults l.fn.sink ≤ g.Si.Sink.faults l.sink;
  later_wants : g.Si.Sink.wants l.fn.sink ≤ g.Si.Sink.wants l.sink;
}

abbrev pub decreases-loop-row : goal.decreases-loop-row
decreases-loop-row g l = l.height - l.row
