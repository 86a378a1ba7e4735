use Rattle.std.proofs.Common.{◌++◌, false, arith}
use Rattle.pl_csv.specs.Telling.{fault_line}
use Rattle.pl_csv.specs.Views.{sink_view}
use Rattle.pl_csv.proofs.TellLaws.{telling-cut, telling-told, told-then}
use Rattle.pl_multi.specs.Telling.{part_text}
use Rattle.pl_multi.proofs.telling.tell_part.Goals as goal

pub returns-then-tell_place : goal.returns-then-tell_place
returns-then-tell_place g c = record {
  told = told-then (part_text c.args.part) (fault_line c.args.refusal.now) (sink_view (g.Se.Sink.received c.args.sink.now) (g.Se.Sink.faults c.args.sink.now) (g.Se.Sink.wants c.args.sink.now)) (sink_view (g.Se.Sink.received c.tell_place.new.sink) (g.Se.Sink.faults c.tell_place.new.sink) (g.Se.Sink.wants c.tell_place.new.sink)) (sink_view (g.Se.Sink.received c.tell_refusal.new.sink) (g.Se.Sink.faults c.tell_refusal.new.sink) (g.Se.Sink.wants c.tell_refusal.new.sink)) c.if-tell_place.ensures c.tell_refusal.ensures.told;
  later = omega (arith, c.if-tell_place.ensures.later, c.tell_refusal.ensures.later);
  later_wants = omega (arith, c.if-tell_place.ensures.later_wants, c.tell_refusal.ensures.later_wants);
}

pub returns-else-tell_place : goal.returns-else-tell_place
returns-else-tell_place g c = record {
  told = telling-told (part_text c.args.part ++ fault_line c.args.refusal.now) false (sink_view (g.Se.Sink.received c.args.sink.now) (g.Se.Sink.faults c.args.sink.now) (g.Se.Sink.wants c.args.sink.now)) (sink_view (g.Se.Sink.received c.tell_place.new.sink) (g.Se.Sink.faults c.tell_place.new.sink) (g.Se.Sink.wants c.tell_place.new.sink)) (telling-cut (part_text c.args.part) (fault_line c.args.refusal.now) (sink_view (g.Se.Sink.received c.args.sink.now) (g.Se.Sink.faults c.args.sink.now) (g.Se.Sink.wants c.args.sink.now)) (sink_view (g.Se.Sink.received c.tell_place.new.sink) (g.Se.Sink.faults c.tell_place.new.sink) (g.Se.Sink.wants c.tell_place.new.sink)) c.if-tell_place.ensures);
  later = c.if-tell_place.ensures.later;
  later_wants = c.if-tell_place.ensures.later_wants;
}
