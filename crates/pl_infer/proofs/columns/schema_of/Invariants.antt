use Rattle.std.proofs.Common.{◌≡◌, ℕ, ◌<◌, false, take}
use Rattle.pl_frame.specs.Names.{is_repeat}
use Rattle.pl_frame.specs.Schema.{names_in}
use Rattle.pl_infer.proofs.columns.schema_of.Given as goal

abbrev pub invariant-loop-place : goal.invariant-loop-place
invariant-loop-place l = (l.schema ≡ take l.place l.columns) × ((k : ℕ) → k < l.place → is_repeat (names_in l.columns) k ≡ false)
