use Rattle.std.proofs.Common.{◌≡◌, map, take}
use Rattle.pl_frame.specs.Casts.{number_in}
use Rattle.pl_frame.specs.Columns.{number_cells}
use Rattle.pl_frame.specs.Types.{from_to}
use Rattle.pl_frame.proofs.cast.narrow_of_narrow.Given as goal

abbrev pub invariant-loop-row : goal.invariant-loop-row
invariant-loop-row l = l.cast ≡ map (number_in (from_to l.range.low l.range.high)) (take l.row (number_cells l.numbers))
