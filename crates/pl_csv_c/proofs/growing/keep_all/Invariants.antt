use Rattle.std.proofs.Common.{◌≡◌, List}
use Rattle.pl_csv_c.specs.Growing.{AreGrown, ArePlain}
use Rattle.pl_csv_c.specs.Views.{AreKept}
use Rattle.pl_frame.specs.Frame.{ColumnValue}
use Rattle.pl_csv_c.proofs.growing.keep_all.Given as goal

abbrev pub invariant-loop-one : goal.invariant-loop-one
invariant-loop-one l = record {
  columns : (columns : List ColumnValue) → AreGrown columns l.yielded → ArePlain columns → AreKept columns l.kept.columns.items l.kept.views.items;
  height : l.kept.height ≡ l.initial.kept.height;
}
