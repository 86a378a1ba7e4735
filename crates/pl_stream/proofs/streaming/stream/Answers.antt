use Rattle.std.proofs.Common.{inr, subst}
use Rattle.pl_csv.specs.Views.{sink_view, source_view}
use Rattle.pl_stream.specs.Stream.{Stream}
use Rattle.pl_stream.specs.Streaming.{IsUnstreamed}
use Rattle.pl_stream.proofs.StreamingLaws.{if_err}
use Rattle.pl_stream.proofs.streaming.stream.Goals as goal

pub returns-clause-refused : goal.returns-clause-refused
returns-clause-refused g c =
    if_err c.feed_source.result
    (λ given is. inr (
      c.in_ok-state.ensures.accepted,
      subst (λ (s : Stream). IsUnstreamed s.read s.write (source_view (g.So.Source.left c.args.source.now) (g.So.Source.faults c.args.source.now)) (source_view (g.So.Source.left c.feed_source.new.source) (g.So.Source.faults c.feed_source.new.source)) (sink_view (g.Si.Sink.received c.args.sink.now) (g.Si.Sink.faults c.args.sink.now) (g.Si.Sink.wants c.args.sink.now)) (sink_view (g.Si.Sink.received c.feed_source.new.sink) (g.Si.Sink.faults c.feed_source.new.sink) (g.Si.Sink.wants c.feed_source.new.sink)) given) c.in_ok-state.ensures.fresh is,
    ))
    c.feed_source.ensures.refused
