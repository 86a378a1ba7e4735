use Rattle.std.proofs.Common.{◌≡◌, ◌<◌, [], length}
use Rattle.pl_write.specs.Printing.{texts_of}
use Rattle.pl_write.proofs.printing.new_shares.Given as goal

abbrev pub invariant-loop : goal.invariant-loop
invariant-loop l = record {
  some : 0 < length l.shares.items;
  empty : texts_of l.shares.items ≡ [];
}
