use Rattle.std.specs.Prelude.{◌++◌, codes, decimal}
use Rattle.pl_csv.specs.Views.{sink_view}
use Rattle.pl_csv.proofs.TellLaws.{telling-cut, telling-then}
use Rattle.pl_stream.proofs.telling.tell_category.Goals as goal

pub returns-then-not-tell_counted : goal.returns-then-not-tell_counted
returns-then-not-tell_counted g c = telling-cut (codes "category column " ++ decimal c.args.column) (codes "\n") (sink_view (g.Se.Sink.received c.args.sink.now) (g.Se.Sink.faults c.args.sink.now) (g.Se.Sink.wants c.args.sink.now)) (sink_view (g.Se.Sink.received c.tell_counted.new.sink) (g.Se.Sink.faults c.tell_counted.new.sink) (g.Se.Sink.wants c.tell_counted.new.sink)) c.if-not-tell_counted.ensures

pub returns : goal.returns
returns g c = telling-then (codes "category column " ++ decimal c.args.column) (codes "\n") c.tell.result (sink_view (g.Se.Sink.received c.args.sink.now) (g.Se.Sink.faults c.args.sink.now) (g.Se.Sink.wants c.args.sink.now)) (sink_view (g.Se.Sink.received c.tell_counted.new.sink) (g.Se.Sink.faults c.tell_counted.new.sink) (g.Se.Sink.wants c.tell_counted.new.sink)) (sink_view (g.Se.Sink.received c.tell.new.sink) (g.Se.Sink.faults c.tell.new.sink) (g.Se.Sink.wants c.tell.new.sink)) c.if-not-tell_counted.ensures c.tell.ensures
