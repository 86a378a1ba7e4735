use Rattle.std.proofs.Common.{◌≡◌, take}
use Rattle.pl_write.proofs.BatchingLaws.{IsBatching}
use Rattle.pl_write.proofs.laws.write_batches.Given as goal

abbrev pub invariant-loop-batch : goal.invariant-loop-batch
invariant-loop-batch g l = record {
  batching : IsBatching g.S.Sink.received l.fn.writer l.writer (take l.batch-index l.batches);
  options : l.writer.writer.options ≡ l.fn.writer.writer.options;
  schema : l.writer.schema ≡ l.fn.writer.schema;
}
