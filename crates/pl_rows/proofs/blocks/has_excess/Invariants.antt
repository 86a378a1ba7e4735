use Rattle.std.specs.Prelude.{◌≤◌, length, take}
use Rattle.std.specs.List.{AllByRecursion}
use Rattle.pl_rows.proofs.blocks.has_excess.Given as goal

abbrev pub invariant-loop-row : goal.invariant-loop-row
invariant-loop-row l = AllByRecursion (λ fields. length fields ≤ l.width) (take l.row l.table)
