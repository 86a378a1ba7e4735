use Rattle.std.proofs.Common.{◌≡◌, All, Err}
use Rattle.pl_frame.specs.declared.error.PolarsError.TheVariants as error
use Rattle.pl_multi.specs.Cells.{held_bytes}
use Rattle.pl_multi.specs.declared.groups.PartLines.{PartLines}
use Rattle.pl_multi.proofs.GroupLaws.{bytes_of}
use Rattle.pl_multi.proofs.settling.own_parts.Given as goal

abbrev pub invariant-loop-one : goal.invariant-loop-one
invariant-loop-one l = record {
  bytes : bytes_of l.group.items ≡ held_bytes l.yielded;
  unprinted : All (λ (one : PartLines). one.printed ≡ Err error.OutOfMemory) l.group.items;
}
