use Rattle.std.proofs.Common.{◌≡◌, ℕ, ◌<◌, true, get_or}
use Rattle.pl_frame.specs.Equal.{entries_equal}
use Rattle.pl_frame.specs.FrameParts.{schema_of}
use Rattle.pl_write.proofs.BatchLaws.{no_entry}
use Rattle.pl_write.proofs.batched_writer.have_schema.Given as goal

abbrev pub invariant-loop-place : goal.invariant-loop-place
invariant-loop-place l = (k : ℕ) → k < l.place → entries_equal (get_or (schema_of l.columns) k no_entry) (get_or l.schema k no_entry) ≡ true
