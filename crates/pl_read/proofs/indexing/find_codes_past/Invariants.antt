use Rattle.std.proofs.Common.{◌≡◌, map, take}
use Rattle.std.specs.Prelude.{None}
use Rattle.pl_options.specs.FirstCause.{first_some}
use Rattle.pl_read.specs.Refusals.{codes_past}
use Rattle.pl_read.proofs.indexing.find_codes_past.Given as goal

abbrev pub invariant-loop-column : goal.invariant-loop-column
invariant-loop-column l = first_some (map codes_past (take l.column-index l.columns)) ≡ None
