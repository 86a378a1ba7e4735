use Rattle.std.proofs.Common.{true, subst, arith}
use Rattle.std.specs.Prelude.{◌++◌, false, codes}
use Rattle.pl_csv.specs.Telling.{refusal_name, refusal_detail, IsTelling}
use Rattle.pl_csv.specs.Views.{sink_view}
use Rattle.pl_csv.proofs.TellLaws.{telling-cut, telling-then, telling-told}
use Rattle.pl_csv.proofs.telling.tell_refusal.Goals as goal

pub returns-then-tell : goal.returns-then-tell
returns-then-tell g c =
    let name = refusal_name c.args.refusal.now in
    let end = refusal_detail c.args.refusal.now ++ codes "\n" in
    record {
      told = telling-told (name ++ end) c.tell_end.result (sink_view (g.Se.Sink.received c.args.sink.now) (g.Se.Sink.faults c.args.sink.now) (g.Se.Sink.wants c.args.sink.now)) (sink_view (g.Se.Sink.received c.tell_end.new.sink) (g.Se.Sink.faults c.tell_end.new.sink) (g.Se.Sink.wants c.tell_end.new.sink))
          (telling-then name end c.tell_end.result (sink_view (g.Se.Sink.received c.args.sink.now) (g.Se.Sink.faults c.args.sink.now) (g.Se.Sink.wants c.args.sink.now)) (sink_view (g.Se.Sink.received c.tell.new.sink) (g.Se.Sink.faults c.tell.new.sink) (g.Se.Sink.wants c.tell.new.sink)) (sink_view (g.Se.Sink.received c.tell_end.new.sink) (g.Se.Sink.faults c.tell_end.new.sink) (g.Se.Sink.wants c.tell_end.new.sink)) (subst (λ text. IsTelling true text (sink_view (g.Se.Sink.received c.args.sink.now) (g.Se.Sink.faults c.args.sink.now) (g.Se.Sink.wants c.args.sink.now)) (sink_view (g.Se.Sink.received c.tell.new.sink) (g.Se.Sink.faults c.tell.new.sink) (g.Se.Sink.wants c.tell.new.sink))) c.refusal_name.ensures c.if-tell.ensures) c.tell_end.ensures);
      later = omega (arith, c.if-tell.ensures.later, c.tell_end.ensures.later);
      later_wants = omega (arith, c.if-tell.ensures.later_wants, c.tell_end.ensures.later_wants);
    }

pub returns-else-tell : goal.returns-else-tell
returns-else-tell g c =
    let name = refusal_name c.args.refusal.now in
    let end = refusal_detail c.args.refusal.now ++ codes "\n" in
    record { told = telling-told (name ++ end) false (sink_view (g.Se.Sink.received c.args.sink.now) (g.Se.Sink.faults c.args.sink.now) (g.Se.Sink.wants c.args.sink.now)) (sink_view (g.Se.Sink.received c.tell.new.sink) (g.Se.Sink.faults c.tell.new.sink) (g.Se.Sink.wants c.tell.new.sink)) (telling-cut name end (sink_view (g.Se.Sink.received c.args.sink.now) (g.Se.Sink.faults c.args.sink.now) (g.Se.Sink.wants c.args.sink.now)) (sink_view (g.Se.Sink.received c.tell.new.sink) (g.Se.Sink.faults c.tell.new.sink) (g.Se.Sink.wants c.tell.new.sink)) (subst (λ text. IsTelling false text (sink_view (g.Se.Sink.received c.args.sink.now) (g.Se.Sink.faults c.args.sink.now) (g.Se.Sink.wants c.args.sink.now)) (sink_view (g.Se.Sink.received c.tell.new.sink) (g.Se.Sink.faults c.tell.new.sink) (g.Se.Sink.wants c.tell.new.sink))) c.refusal_name.ensures c.if-tell.ensures)); later = c.if-tell.ensures.later; later_wants = c.if-tell.ensures.later_wants }
