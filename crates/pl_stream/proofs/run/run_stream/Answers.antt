use Rattle.std.proofs.Common.{subst, sym, map, string_bytes}
use Rattle.pl_csv.specs.Views.{sink_view, source_view}
use Rattle.pl_stream.specs.Run.{EndsStreamed}
use Rattle.pl_stream.proofs.RunLaws.{due-refused}
use Rattle.pl_stream.proofs.run.run_stream.Goals as goal

pub returns-in-Err-clause-due : goal.returns-in-Err-clause-due
returns-in-Err-clause-due g c = λ must.
    subst (λ s. EndsStreamed s (g.So.Source.faults c.args.source.now) (g.So.Source.faults c.do_words.new.source) (g.Si.Sink.faults c.args.out.now) (g.Si.Sink.faults c.do_words.new.out))
    (sym c.status.ensures)
    (due-refused (map string_bytes c.args.words.now) (source_view (g.So.Source.left c.args.source.now) (g.So.Source.faults c.args.source.now)) (source_view (g.So.Source.left c.do_words.new.source) (g.So.Source.faults c.do_words.new.source))
    (sink_view (g.Si.Sink.received c.args.out.now) (g.Si.Sink.faults c.args.out.now) (g.Si.Sink.wants c.args.out.now)) (sink_view (g.Si.Sink.received c.do_words.new.out) (g.Si.Sink.faults c.do_words.new.out) (g.Si.Sink.wants c.do_words.new.out))
    c.in-Err.refusal must c.in-Err.ensures.refused)
