use Rattle.std.proofs.Common.{◌≡◌, take}
use Rattle.pl_read.specs.Steps.{all_times}
use Rattle.pl_read.proofs.projecting.times_asked.Given as goal

abbrev pub invariant-loop-place : goal.invariant-loop-place
invariant-loop-place l = l.times.items ≡ all_times (take l.place-index l.places) l.width
