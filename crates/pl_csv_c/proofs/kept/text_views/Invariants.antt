use Rattle.std.proofs.Common.{◌≡◌, length}
use Rattle.pl_csv_c.proofs.kept.text_views.Given as goal

abbrev pub invariant-loop-text : goal.invariant-loop-text
invariant-loop-text l = length l.views.items ≡ l.text-index
