use Rattle.std.proofs.Common.{length}
use Rattle.pl_infer.proofs.SampleLaws.{HasSampled}
use Rattle.pl_infer.proofs.sample.add_items.Given as goal

abbrev pub invariant-loop-behind : goal.invariant-loop-behind
invariant-loop-behind l = HasSampled l.rules l.fn.limit l.bytes l.initial.columns l.columns l.left l.items l.behind l.rest

abbrev pub decreases-loop-behind : goal.decreases-loop-behind
decreases-loop-behind l = length l.rest
