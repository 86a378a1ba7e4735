use Rattle.std.proofs.Common.{take}
use Rattle.std.specs.Prelude.{All}
use Rattle.pl_frame.specs.Frame.{IsFrame}
use Rattle.pl_write.proofs.laws.are_frames.Given as goal

abbrev pub invariant-loop-batch : goal.invariant-loop-batch
invariant-loop-batch l = All IsFrame (take l.batch-index l.batches)
