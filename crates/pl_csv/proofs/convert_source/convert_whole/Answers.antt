use Rattle.std.proofs.Common.{◌≡◌, ◌^◌, refl, sym, subst, inr}
use Rattle.pl_csv.specs.Sources.{HasCome, IsUnprinted}
use Rattle.pl_csv.specs.Views.{source_view, views}
use Rattle.pl_csv.proofs.SourceLaws.{come-whole, stopped, unprinted}
use Rattle.pl_csv.proofs.convert_source.convert_whole.Goals as goal

pub returns-in-Err-clause-refused : goal.returns-in-Err-clause-refused
returns-in-Err-clause-refused g c = λ before kept.
    let read = c.args.read.now in
    let write = c.args.write.now in
    let intake = c.args.intake in
    let now = source_view (g.So.Source.left c.args.source.now) (g.So.Source.faults c.args.source.now) in
    let end = source_view (g.So.Source.left c.read_on.new.source) (g.So.Source.faults c.read_on.new.source) in
    let out = views before.left before.faults (g.S.Sink.received c.args.sink.now) (g.S.Sink.faults c.args.sink.now) (g.S.Sink.wants c.args.sink.now) in
    let out_now = views end.left end.faults (g.S.Sink.received c.args.sink.now) (g.S.Sink.faults c.args.sink.now) (g.S.Sink.wants c.args.sink.now) in
    let why = stopped read write before now end intake.rest.items intake.size (2 ^ 36) c.in-Err.fault kept c.requires.size refl c.in-Err.ensures.too_long c.in-Err.ensures.failed c.in-Err.ensures.cause in
    unprinted read write out out_now c.unread.result refl (subst (IsUnprinted read write before end) (sym c.unread.ensures) why)

pub returns-in-Err-converted-clause-refused : goal.returns-in-Err-converted-clause-refused
returns-in-Err-converted-clause-refused g c = λ before kept.
    let now = source_view (g.So.Source.left c.args.source.now) (g.So.Source.faults c.args.source.now) in
    let end = source_view (g.So.Source.left c.read_on.new.source) (g.So.Source.faults c.read_on.new.source) in
    let same : c.read_on.new.self.rest.items ≡ c.deref.result.now = cc in
    inr (c.deref.result.now, subst (HasCome before.left end.left) same (come-whole before now end c.args.intake c.read_on.new.self (2 ^ 36) kept c.requires.size refl c.in_default.ensures.all), c.in-Err-converted.ensures.refused)
