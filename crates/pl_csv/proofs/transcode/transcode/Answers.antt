use Rattle.std.proofs.Common.{arith}
use Rattle.std.specs.Prelude.{IfErr}
use Rattle.pl_csv.specs.Transcoding.{IsTranscodeFault}
use Rattle.pl_csv.specs.Views.{SinkView, sink_view}
use Rattle.pl_csv.proofs.ReturnLaws.{same_frame, err_returned}
use Rattle.pl_csv.proofs.TranscodeLaws.{fault_unread}
use Rattle.pl_csv.proofs.transcode.transcode.Goals as goal

pub returns-in_err-frame-clause-round_trip : goal.returns-in_err-frame-clause-round_trip
returns-in_err-frame-clause-round_trip g c =
    let sink : SinkView = sink_view (g.S.Sink.received c.args.sink.now) (g.S.Sink.faults c.args.sink.now) (g.S.Sink.wants c.args.sink.now) in
    let wrong : IfErr c.from_residual.result (IsTranscodeFault c.args.read.now c.args.write.now c.args.input.now sink sink) = grind (arith, fault_unread) in
    err_returned c.args.read.now c.args.write.now c.args.input.now sink sink c.from_residual.result c.from_residual.ensures.0 wrong

pub returns-in-Ok-clause-round_trip : goal.returns-in-Ok-clause-round_trip
returns-in-Ok-clause-round_trip g c = same_frame c.args.read.now c.args.write.now c.args.input.now c.in_ok-frame.frame (g.S.Sink.faults c.args.sink.now) (g.S.Sink.faults c.write_frame.new.sink) c.in_ok-frame.ensures
