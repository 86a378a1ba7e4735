use Rattle.std.proofs.Common.{◌≡◌, pos, map, Some}
use Rattle.std.specs.List.{range_with_len}
use Rattle.pl_frame.proofs.row_index.wide_from.Given as goal

abbrev pub invariant-loop-row : goal.invariant-loop-row
invariant-loop-row l = l.numbers ≡ map (λ n. Some (pos n)) (range_with_len l.offset l.row)
