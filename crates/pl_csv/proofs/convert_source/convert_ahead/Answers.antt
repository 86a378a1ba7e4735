use Rattle.std.proofs.Common.{rules, refl, inr}
use Rattle.pl_csv.specs.Sources.{IsUnconverted}
use Rattle.pl_csv.specs.Views.{views}
use Rattle.pl_csv.proofs.SourceLaws.{unprinted}
use Rattle.pl_csv.proofs.convert_source.convert_ahead.Goals as goal

pub returns-in_err-printed-clause-refused : goal.returns-in_err-printed-clause-refused
returns-in_err-printed-clause-refused g c = λ before kept.
    let read = c.args.read.now in
    let write = c.args.write.now in
    let out = views before.left before.faults (g.S.Sink.received c.args.sink.now) (g.S.Sink.faults c.args.sink.now) (g.S.Sink.wants c.args.sink.now) in
    let out_now =
    views (g.So.Source.left c.print_ahead.new.source) (g.So.Source.faults c.print_ahead.new.source) (g.S.Sink.received c.args.sink.now) (g.S.Sink.faults c.args.sink.now) (g.S.Sink.wants c.args.sink.now) in
    let is : IsUnconverted read write out out_now c.in_err-printed.field-0.0 = unprinted read write out out_now c.in_err-printed.field-0.0 refl (c.in_err-printed.ensures.refused before kept) in
    search (rules, is)

pub returns-clause-refused : goal.returns-clause-refused
returns-clause-refused g c = λ before kept.
    let is = c.in_ok-printed.ensures.printed before kept in
    inr (is.0, is.1, c.in-Err.ensures.refused is.0 is.2)
