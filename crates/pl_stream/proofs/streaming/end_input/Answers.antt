use Rattle.pl_csv.specs.Views.{sink_view}
use Rattle.std.proofs.Common.{refl, inl}
use Rattle.pl_stream.specs.Feeding.{finish_cause}
use Rattle.pl_stream.proofs.StreamingLaws.{if_err, put-ended, refused-by}
use Rattle.pl_stream.proofs.streaming.end_input.Goals as goal

pub returns-in-Ok-clause-refused : goal.returns-in-Ok-clause-refused
returns-in-Ok-clause-refused g c = λ bytes stands.
    if_err c.put_text.result
    (λ given. put-ended c.args.state.now c.finish.new.self bytes c.args.text.now.items c.finish.new.text.items c.deref.result.now (sink_view (g.Si.Sink.received c.args.sink.now) (g.Si.Sink.faults c.args.sink.now) (g.Si.Sink.wants c.args.sink.now)) (sink_view (g.Si.Sink.received c.put_text.new.sink) (g.Si.Sink.faults c.put_text.new.sink) (g.Si.Sink.wants c.put_text.new.sink)) given
    (c.in-Ok.ensures.finished bytes stands) c.requires.empty c.deref.ensures.value)
    c.put_text.ensures.refused

pub returns-in-Err-clause-refused : goal.returns-in-Err-clause-refused
returns-in-Err-clause-refused g c = λ bytes stands.
    inl (refused-by c.args.state.now c.finish.new.self (finish_cause c.args.state.now.read bytes) c.in-Err.fault c.requires.open.none (c.in-Err.ensures.refused bytes stands), refl)
