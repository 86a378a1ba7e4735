use Rattle.std.proofs.Common.{length}
use Rattle.pl_csv_example.proofs.batching.count_in_batches.Given as goal

abbrev pub decreases-loop-frames : goal.decreases-loop-frames
decreases-loop-frames g l = length l.batches.rest
