use Rattle.std.proofs.Common.{◌≡◌, length, map}
use Rattle.pl_write.specs.Options.{cell_options}
use Rattle.pl_regions.specs.Regions.{ArePlaced}
use Rattle.pl_regions.proofs.taking.print_regions.Given as goal

abbrev pub invariant-loop-taken : goal.invariant-loop-taken
invariant-loop-taken g l = record {
  len : length l.places.items ≡ length l.texts;
  placed : ArePlaced l.plan l.schema (cell_options l.options) (map (λ text. text.now) l.texts) l.places.items;
}
