use Rattle.std.proofs.Common.{◌≡◌, take}
use Rattle.pl_cells.proofs.null_values.NamedTexts.try_clone.Given as goal

abbrev pub invariant-loop-name : goal.invariant-loop-name
invariant-loop-name l = l.entries.items ≡ take l.name-index l.self
