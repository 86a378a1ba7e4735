use Rattle.pl_csv.specs.Views.{sink_view}
use Rattle.pl_csv.proofs.TellLaws.{telling-cut, telling-then}
use Rattle.pl_csv.proofs.telling.tell_both.Goals as goal

pub returns-then-not-tell : goal.returns-then-not-tell
returns-then-not-tell g c = telling-cut (c.args.text.now) (c.args.other.now) (sink_view (g.Se.Sink.received c.args.sink.now) (g.Se.Sink.faults c.args.sink.now) (g.Se.Sink.wants c.args.sink.now)) (sink_view (g.Se.Sink.received c.tell.new.sink) (g.Se.Sink.faults c.tell.new.sink) (g.Se.Sink.wants c.tell.new.sink)) c.if-not-tell.ensures

pub returns : goal.returns
returns g c = telling-then (c.args.text.now) (c.args.other.now) c.tell-2.result (sink_view (g.Se.Sink.received c.args.sink.now) (g.Se.Sink.faults c.args.sink.now) (g.Se.Sink.wants c.args.sink.now)) (sink_view (g.Se.Sink.received c.tell.new.sink) (g.Se.Sink.faults c.tell.new.sink) (g.Se.Sink.wants c.tell.new.sink)) (sink_view (g.Se.Sink.received c.tell-2.new.sink) (g.Se.Sink.faults c.tell-2.new.sink) (g.Se.Sink.wants c.tell-2.new.sink)) c.if-not-tell.ensures c.tell-2.ensures
