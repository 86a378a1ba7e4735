use Rattle.std.proofs.Common.{◌≡◌, List, length}
use Rattle.pl_csv_c.specs.Growing.{AreGrown}
use Rattle.pl_frame.specs.Frame.{ColumnValue}
use Rattle.pl_rows.proofs.StackLaws.{front_stacked}
use Rattle.pl_csv_c.proofs.growing.grow_all.Given as goal

abbrev pub invariant-loop-column : goal.invariant-loop-column
invariant-loop-column l = record {
  place_is : l.place ≡ length l.yielded;
  as_many : length l.all ≡ length l.fn.all;
  grown : (before : List ColumnValue) → AreGrown before l.fn.all → AreGrown (front_stacked before l.yielded) l.all;
}
