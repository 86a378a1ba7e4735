use Rattle.std.proofs.Common.{◌≡◌, take, nat_le}
use Rattle.std.specs.Prelude.{filter}
use Rattle.pl_read.specs.Projection.{greatest}
use Rattle.pl_read.proofs.projecting.greatest_outside.Given as goal

abbrev pub invariant-loop-place : goal.invariant-loop-place
invariant-loop-place l = l.greatest ≡ greatest (filter (nat_le l.width) (take l.place-index l.places))
