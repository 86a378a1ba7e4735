use Rattle.std.proofs.Common.{◌≡◌, None, map}
use Rattle.pl_cells.specs.Casts.{first_fault}
use Rattle.pl_cells.specs.CastPlaces.{placed_cast}
use Rattle.pl_cells.proofs.cast_workers.casts_by_workers.Given as goal

abbrev pub invariant-loop-one : goal.invariant-loop-one
invariant-loop-one g l = record {
  made : l.casts.items ≡ map (placed_cast l.fn.columns) (map (λ one. one.field.now) l.yielded);
  faultless : first_fault l.fn.ignore_errors l.fn.columns (map (λ one. one.field.now) l.yielded) ≡ None;
}
