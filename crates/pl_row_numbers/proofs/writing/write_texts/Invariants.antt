use Rattle.std.proofs.Common.{◌≤◌, [], drop, map}
use Rattle.std.specs.Cow.{cow_slice_items}
use Rattle.std.specs.List.{concat}
use Rattle.pl_row_numbers.specs.Numbered.{numbered}
use Rattle.pl_write.specs.Writing.{IsWriting}
use Rattle.pl_row_numbers.proofs.writing.write_texts.Given as goal

abbrev pub invariant-loop-text : goal.invariant-loop-text
invariant-loop-text g l = record {
  writing : IsWriting (g.Si.Sink.received l.fn.sink) (g.Si.Sink.received l.sink) [] (numbered l.form l.now (concat (map cow_slice_items (drop l.text-index l.texts))))
      (numbered l.form l.fn.stand (concat (map cow_slice_items l.texts)));
  later : g.Si.Sink.faults l.fn.sink ≤ g.Si.Sink.faults l.sink;
  later_wants : g.Si.Sink.wants l.fn.sink ≤ g.Si.Sink.wants l.sink;
}
