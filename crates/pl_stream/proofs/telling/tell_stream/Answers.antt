use Rattle.std.proofs.Common.{subst, sym}
use Rattle.pl_csv.proofs.TellLaws.{telling-told}
use Rattle.pl_csv.specs.Telling.{IsTold}
use Rattle.pl_csv.specs.Views.{sink_view}
use Rattle.pl_stream.specs.Telling.{stream_line}
use Rattle.pl_stream.specs.declared.run.StreamRefusal.TheVariants as stream
use Rattle.pl_stream.proofs.telling.tell_stream.Goals as goal

pub returns-in-Category-clause-told : goal.returns-in-Category-clause-told
returns-in-Category-clause-told g c =
    let before = sink_view (g.Se.Sink.received c.args.sink.now) (g.Se.Sink.faults c.args.sink.now) (g.Se.Sink.wants c.args.sink.now) in
    let now = sink_view (g.Se.Sink.received c.tell_category.new.sink) (g.Se.Sink.faults c.tell_category.new.sink) (g.Se.Sink.wants c.tell_category.new.sink) in
    subst (λ r. IsTold (stream_line r) before now) (sym c.in-Category.is) (telling-told (stream_line (stream.Category c.in-Category.column)) c.tell_category.result before now c.tell_category.ensures)
