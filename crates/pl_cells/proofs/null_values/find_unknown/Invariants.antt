use Rattle.std.proofs.Common.{◌≡◌, take}
use Rattle.std.specs.Prelude.{None, find}
use Rattle.pl_cells.specs.NullValues.{is_unknown}
use Rattle.pl_cells.proofs.null_values.find_unknown.Given as goal

abbrev pub invariant-loop-name : goal.invariant-loop-name
invariant-loop-name l = find (is_unknown l.schema) (take l.name-index l.entries) ≡ None
