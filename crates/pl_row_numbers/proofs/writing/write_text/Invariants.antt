use Rattle.std.proofs.Common.{◌≡◌, ◌-◌, ◌≤◌, [], length, take, drop}
use Rattle.pl_row_numbers.specs.Numbered.{numbered, stand_behind}
use Rattle.pl_write.specs.Writing.{IsWriting}
use Rattle.pl_row_numbers.proofs.writing.write_text.Given as goal

abbrev pub invariant-loop-from : goal.invariant-loop-from
invariant-loop-from g l = record {
  inside : l.from ≤ length l.text;
  stand : stand_behind l.fn.stand (take l.from l.text) ≡ l.now;
  writing : IsWriting (g.Si.Sink.received l.fn.sink) (g.Si.Sink.received l.sink) [] (numbered l.form l.now (drop l.from l.text)) (numbered l.form l.fn.stand l.text);
  later : g.Si.Sink.faults l.fn.sink ≤ g.Si.Sink.faults l.sink;
  later_wants : g.Si.Sink.wants l.fn.sink ≤ g.Si.Sink.wants l.sink;
}

abbrev pub decreases-loop-from : goal.decreases-loop-from
decreases-loop-from g l = length l.text - l.from
