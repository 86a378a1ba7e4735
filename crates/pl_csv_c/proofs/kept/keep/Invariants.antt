use Rattle.std.proofs.Common.{◌≡◌}
use Rattle.pl_csv_c.specs.Views.{AreKept}
use Rattle.pl_csv_c.proofs.kept.keep.Given as goal

abbrev pub invariant-loop-column : goal.invariant-loop-column
invariant-loop-column l = record {
  columns : AreKept l.yielded l.kept.columns.items l.kept.views.items;
  height : l.kept.height ≡ l.initial.kept.height;
}
