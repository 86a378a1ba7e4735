use Rattle.std.proofs.Common.{◌≡◌, ℕ, ◌<◌, false, not}
use Rattle.pl_frame.specs.Types.{is_readable}
use Rattle.pl_cells.specs.InitBuffers.{entry_at}
use Rattle.pl_infer.proofs.schemas.find_unreadable.Given as goal

abbrev pub invariant-loop-place : goal.invariant-loop-place
invariant-loop-place l = (k : ℕ) → k < l.place → not (is_readable (entry_at l.schema k).1) ≡ false
