use Rattle.std.proofs.Common.{◌≡◌, take, length}
use Rattle.std.specs.Prelude.{None, find, slice_index_or}
use Rattle.std.specs.List.{range_with_len}
use Rattle.pl_read.specs.declared.projecting.Times.TheVariants as times
use Rattle.pl_read.specs.Steps.{is_more}
use Rattle.pl_read.proofs.projecting.find_doubled.Given as goal

abbrev pub invariant-loop-place : goal.invariant-loop-place
invariant-loop-place l = find (λ place. is_more (slice_index_or l.times place times.Never)) (take l.place (range_with_len 0 (length l.times))) ≡ None
