use Rattle.std.proofs.Common.{◌≡◌, [], map}
use Rattle.std.specs.Prelude.{unwrap_or}
use Rattle.std.specs.List.{range_with_len}
use Rattle.std.specs.Option.{option_copied}
use Rattle.pl_infer.specs.Inference.{overwritten_at}
use Rattle.pl_infer.proofs.columns.overwritten_columns.Given as goal

abbrev pub invariant-loop-place : goal.invariant-loop-place
invariant-loop-place l = l.columns.items ≡ map (overwritten_at (unwrap_or (option_copied l.other) []) l.names l.types) (range_with_len 0 l.place)
