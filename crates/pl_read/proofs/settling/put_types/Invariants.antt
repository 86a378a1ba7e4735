use Rattle.std.proofs.Common.{◌≡◌, take}
use Rattle.pl_read.specs.Options.{with_types}
use Rattle.pl_read.proofs.settling.put_types.Given as goal

abbrev pub invariant-loop-place : goal.invariant-loop-place
invariant-loop-place l = l.schema ≡ with_types (take l.place l.types) l.fn.schema
