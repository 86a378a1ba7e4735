use Rattle.std.specs.Prelude.{codes}
use Rattle.pl_csv.specs.Telling.{refusal_detail}
use Rattle.pl_csv.specs.Views.{sink_view}
use Rattle.pl_csv.proofs.TellLaws.{telling-cut, telling-then}
use Rattle.pl_csv.proofs.telling.tell_end.Goals as goal

pub returns-then-not-tell_refusal_detail : goal.returns-then-not-tell_refusal_detail
returns-then-not-tell_refusal_detail g c = telling-cut (refusal_detail c.args.refusal.now) (codes "\n") (sink_view (g.Se.Sink.received c.args.sink.now) (g.Se.Sink.faults c.args.sink.now) (g.Se.Sink.wants c.args.sink.now)) (sink_view (g.Se.Sink.received c.tell_refusal_detail.new.sink) (g.Se.Sink.faults c.tell_refusal_detail.new.sink) (g.Se.Sink.wants c.tell_refusal_detail.new.sink)) c.if-not-tell_refusal_detail.ensures

pub returns : goal.returns
returns g c = telling-then (refusal_detail c.args.refusal.now) (codes "\n") c.tell.result (sink_view (g.Se.Sink.received c.args.sink.now) (g.Se.Sink.faults c.args.sink.now) (g.Se.Sink.wants c.args.sink.now)) (sink_view (g.Se.Sink.received c.tell_refusal_detail.new.sink) (g.Se.Sink.faults c.tell_refusal_detail.new.sink) (g.Se.Sink.wants c.tell_refusal_detail.new.sink)) (sink_view (g.Se.Sink.received c.tell.new.sink) (g.Se.Sink.faults c.tell.new.sink) (g.Se.Sink.wants c.tell.new.sink)) c.if-not-tell_refusal_detail.ensures c.tell.ensures
