use Rattle.std.proofs.Common.{◌≡◌, List, length}
use Rattle.pl_csv_c.specs.Growing.{AreGrown}
use Rattle.pl_frame.specs.Frame.{ColumnValue}
use Rattle.pl_csv_c.proofs.growing.make_rooms.Given as goal

abbrev pub invariant-loop-place : goal.invariant-loop-place
invariant-loop-place l = record {
  as_many : length l.all ≡ length l.fn.all;
  grown : (columns : List ColumnValue) → AreGrown columns l.fn.all → AreGrown columns l.all;
}
