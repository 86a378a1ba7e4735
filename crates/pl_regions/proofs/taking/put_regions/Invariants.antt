use Rattle.std.proofs.Common.{◌≡◌, length}
use Rattle.pl_regions.specs.Regions.{ArePut}
use Rattle.pl_regions.proofs.taking.put_regions.Given as goal

abbrev pub invariant-loop-region : goal.invariant-loop-region
invariant-loop-region l = record {
  len : length l.places ≡ length l.initial.places;
  put : ArePut l.yielded l.initial.places l.places;
}
