use Rattle.std.proofs.Common.{◌≡◌, take}
use Rattle.pl_frame.proofs.constructors.collect_texts.Given as goal

abbrev pub invariant-loop-value : goal.invariant-loop-value
invariant-loop-value l = l.texts ≡ take l.value-index l.values
