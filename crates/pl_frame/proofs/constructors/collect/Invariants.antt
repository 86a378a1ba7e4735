use Rattle.std.proofs.Common.{◌≡◌, take}
use Rattle.pl_frame.proofs.constructors.collect.Given as goal

abbrev pub invariant-loop-value : goal.invariant-loop-value
invariant-loop-value g l = l.numbers ≡ take l.value-index l.values
