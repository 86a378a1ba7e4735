use Rattle.std.proofs.Common.{◌≡◌, map, take}
use Rattle.pl_frame.specs.Casts.{number_in}
use Rattle.pl_frame.specs.Types.{from_to}
use Rattle.pl_frame.proofs.cast.narrow_of_rows.Given as goal

abbrev pub invariant-loop-row : goal.invariant-loop-row
invariant-loop-row l = l.numbers ≡ map (number_in (from_to l.range.low l.range.high)) (take l.row l.column.values)
