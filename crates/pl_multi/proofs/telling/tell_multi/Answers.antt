use Rattle.std.proofs.Common.{subst, sym}
use Rattle.pl_csv.proofs.TellLaws.{telling-told}
use Rattle.pl_csv.specs.Telling.{IsTold}
use Rattle.pl_csv.specs.Views.{sink_view}
use Rattle.pl_multi.specs.Telling.{multi_line}
use Rattle.pl_multi.specs.declared.run.MultiRefusal.TheVariants as multi
use Rattle.pl_multi.proofs.telling.tell_multi.Goals as goal

pub returns-in-Partitions-clause-told : goal.returns-in-Partitions-clause-told
returns-in-Partitions-clause-told g c =
    let before = sink_view (g.Se.Sink.received c.args.sink.now) (g.Se.Sink.faults c.args.sink.now) (g.Se.Sink.wants c.args.sink.now) in
    let now = sink_view (g.Se.Sink.received c.tell_partitions.new.sink) (g.Se.Sink.faults c.tell_partitions.new.sink) (g.Se.Sink.wants c.tell_partitions.new.sink) in
    subst (λ r. IsTold (multi_line r) before now) (sym c.in-Partitions.is) (telling-told (multi_line (multi.Partitions c.in-Partitions.part)) c.tell_partitions.result before now c.tell_partitions.ensures)
