use Rattle.std.proofs.Common.{All, map}
use Rattle.pl_write.specs.Options.{cell_options}
use Rattle.pl_regions.specs.Regions.{IsRegionOf}
use Rattle.pl_regions.proofs.taking.take_regions.Given as goal

abbrev pub invariant-loop : goal.invariant-loop
invariant-loop l = All (IsRegionOf l.plan l.schema (cell_options l.options) (map (λ text. text.now) l.texts)) l.taken.items
