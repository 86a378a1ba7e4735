use Rattle.std.proofs.Common.{◌≡◌, ℕ, ◌<◌, false, get_or, None}
use Rattle.pl_cells.specs.Casts.{is_lost}
use Rattle.pl_cells.proofs.casts.first_lost.Given as goal

abbrev pub invariant-loop-row : goal.invariant-loop-row
invariant-loop-row l = (k : ℕ) → k < l.row → is_lost l.column.dtype l.cast.dtype (get_or l.column.values k None) ≡ false
