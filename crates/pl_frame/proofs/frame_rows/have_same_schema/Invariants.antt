use Rattle.std.proofs.Common.{◌≡◌, ℕ, ◌<◌, true, get_or}
use Rattle.pl_frame.proofs.FramePartLaws.{same_entry, no_column}
use Rattle.pl_frame.proofs.frame_rows.have_same_schema.Given as goal

abbrev pub invariant-loop-i : goal.invariant-loop-i
invariant-loop-i l = (k : ℕ) → k < l.i → same_entry (get_or l.columns k no_column) (get_or l.others k no_column) ≡ true
