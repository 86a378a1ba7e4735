use Rattle.std.proofs.Common.{All}
use Rattle.pl_write.specs.Options.{cell_options}
use Rattle.pl_regions.specs.Arriving.{IsTaken}
use Rattle.pl_regions.proofs.texts.take_texts.Given as goal

abbrev pub invariant-loop : goal.invariant-loop
invariant-loop g l = All (IsTaken l.plan l.schema (cell_options l.options) l.cells) l.taken.items
