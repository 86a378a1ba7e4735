use Rattle.std.specs.Prelude.{◌++◌, codes}
use Rattle.pl_csv.specs.Views.{sink_view}
use Rattle.pl_csv.proofs.TellLaws.{telling-cut, telling-then}
use Rattle.pl_multi.proofs.telling.tell_duplicate.Goals as goal

pub returns-then-not-tell_both : goal.returns-then-not-tell_both
returns-then-not-tell_both g c = telling-cut (codes "duplicate " ++ c.args.name.now) (codes "\n") (sink_view (g.Se.Sink.received c.args.sink.now) (g.Se.Sink.faults c.args.sink.now) (g.Se.Sink.wants c.args.sink.now)) (sink_view (g.Se.Sink.received c.tell_both.new.sink) (g.Se.Sink.faults c.tell_both.new.sink) (g.Se.Sink.wants c.tell_both.new.sink)) c.if-not-tell_both.ensures

pub returns : goal.returns
returns g c = telling-then (codes "duplicate " ++ c.args.name.now) (codes "\n") c.tell.result (sink_view (g.Se.Sink.received c.args.sink.now) (g.Se.Sink.faults c.args.sink.now) (g.Se.Sink.wants c.args.sink.now)) (sink_view (g.Se.Sink.received c.tell_both.new.sink) (g.Se.Sink.faults c.tell_both.new.sink) (g.Se.Sink.wants c.tell_both.new.sink)) (sink_view (g.Se.Sink.received c.tell.new.sink) (g.Se.Sink.faults c.tell.new.sink) (g.Se.Sink.wants c.tell.new.sink)) c.if-not-tell_both.ensures c.tell.ensures
