use Rattle.std.proofs.Common.{◌≡◌, length}
use Rattle.pl_write.specs.Options.{cell_options}
use Rattle.pl_regions.specs.Regions.{ArePlaced}
use Rattle.pl_intake.proofs.TextLaws.{values_of}
use Rattle.pl_regions.proofs.beside.places_of.Given as goal

abbrev pub invariant-loop-taken : goal.invariant-loop-taken
invariant-loop-taken l = record {
  len : length l.places.items ≡ length l.tokens.items;
  placed : ArePlaced l.plan l.schema (cell_options l.options) (values_of l.tokens.items) l.places.items;
}
