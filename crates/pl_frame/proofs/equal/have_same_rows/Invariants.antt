use Rattle.std.proofs.Common.{◌≡◌, ℕ, ◌<◌, true, get_or, None}
use Rattle.pl_frame.specs.Equal.{cells_equal}
use Rattle.pl_frame.proofs.equal.have_same_rows.Given as goal

abbrev pub invariant-loop-row : goal.invariant-loop-row
invariant-loop-row l = (k : ℕ) → k < l.row → cells_equal (get_or l.a.values k None) (get_or l.b.values k None) ≡ true
