use Rattle.std.proofs.Common.{◌≡◌, length}
use Rattle.pl_rows.proofs.StackLaws.{front_stacked}
use Rattle.pl_rows.proofs.stack.push_columns.Given as goal

abbrev pub invariant-loop-column : goal.invariant-loop-column
invariant-loop-column l = record {
  stacks_are : l.stacks ≡ front_stacked l.fn.stacks l.yielded;
  place_is : l.place ≡ length l.yielded;
}
