use Rattle.std.proofs.Common.{sym}
use Rattle.pl_frame.specs.Frame.{names_of}
use Rattle.pl_frame.proofs.NameLaws.{distinct_from_first_repeat}
use Rattle.pl_frame.proofs.frame.DataFrame.new.Goals as goal

pub invariant_of-result : goal.invariant_of-result
invariant_of-result c = record {
  one_height = c.requires;
  distinct = distinct_from_first_repeat (names_of c.args.columns.items)
      (rw c.deref.ensures.value at (sym c.in-None.ensures.first));
}
