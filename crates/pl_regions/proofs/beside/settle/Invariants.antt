use Rattle.std.proofs.Common.{All}
use Rattle.pl_write.specs.Options.{cell_options}
use Rattle.pl_regions.specs.Regions.{IsRegionOf}
use Rattle.pl_intake.proofs.TextLaws.{values_of}
use Rattle.pl_regions.proofs.beside.settle.Given as goal

abbrev pub invariant-loop-taken : goal.invariant-loop-taken
invariant-loop-taken l = All (IsRegionOf l.plan l.schema (cell_options l.options) (values_of l.tokens.items)) l.regions.items
