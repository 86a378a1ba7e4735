use Rattle.pl_csv.specs.Views.{sink_view}
use Rattle.pl_stream.proofs.StreamingLaws.{on_ok, if_err, fed-on, put-fed}
use Rattle.pl_stream.proofs.streaming.feed_piece.Goals as goal

pub returns-in-Ok-clause-fed : goal.returns-in-Ok-clause-fed
returns-in-Ok-clause-fed g c = λ bytes stands small.
    on_ok c.put_text.result
    (fed-on c.args.state.now c.feed.new.self bytes c.args.piece.now c.args.text.now.items c.feed.new.text.items c.deref.result.now (g.Si.Sink.received c.args.sink.now) (g.Si.Sink.received c.put_text.new.sink)
    (c.in-Ok.ensures.fed bytes stands small) c.feed.ensures.open c.requires.empty c.deref.ensures.value)
    c.put_text.ensures.put

pub returns-in-Ok-clause-refused : goal.returns-in-Ok-clause-refused
returns-in-Ok-clause-refused g c = λ bytes stands small.
    if_err c.put_text.result
    (λ given. put-fed c.args.state.now c.feed.new.self bytes c.args.piece.now c.args.text.now.items c.feed.new.text.items c.deref.result.now (sink_view (g.Si.Sink.received c.args.sink.now) (g.Si.Sink.faults c.args.sink.now) (g.Si.Sink.wants c.args.sink.now)) (sink_view (g.Si.Sink.received c.put_text.new.sink) (g.Si.Sink.faults c.put_text.new.sink) (g.Si.Sink.wants c.put_text.new.sink)) given
    (c.in-Ok.ensures.fed bytes stands small) c.requires.empty c.deref.ensures.value)
    c.put_text.ensures.refused
