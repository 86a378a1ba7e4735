use Rattle.std.proofs.Common.{◌∙◌, subst}
use Rattle.std.specs.Io.KnownBytes.{Appends}
use Rattle.pl_write.specs.Batches.{batch_text}
use Rattle.pl_write.proofs.BatchingLaws.{IsBatching-more}
use Rattle.pl_write.proofs.laws.write_batches.Goals as goal

pub loop-batch-preserved : goal.loop-batch-preserved
loop-batch-preserved g c =
    let received = g.S.Sink.received in
    let now = c.loop-batch.writer in
    let next = c.write_batch.new.self in
    let ensures = c.in_ok-write_batch.ensures in
    record {
      batching =
          IsBatching-more received c.args.writer.now now next c.args.batches.now c.loop-batch.batch-index c.batch-item.result c.loop-batch-test.true c.loop-batch.invariant.batching
          c.loop-batch.invariant.options
          (ensures.begun ensures.can)
          (subst (λ batch. Appends (received now.writer.sink) (received next.writer.sink) (batch_text now batch)) c.batch-item.is ensures.written);
      options = ensures.options ∙ c.loop-batch.invariant.options;
      schema = ensures.schema ∙ c.loop-batch.invariant.schema;
    }
