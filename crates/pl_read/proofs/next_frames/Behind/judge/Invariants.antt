use Rattle.std.proofs.Common.{take}
use Rattle.pl_read.proofs.NextFrameLaws.{AreJudged}
use Rattle.pl_read.proofs.next_frames.Behind.judge.Given as goal

abbrev pub invariant-loop-part : goal.invariant-loop-part
invariant-loop-part l = AreJudged l.self (take l.part-index l.parts) l.count
