use Rattle.std.proofs.Common.{◌≡◌, None, map, take}
use Rattle.pl_cells.specs.Casts.{first_fault}
use Rattle.pl_cells.specs.CastPlaces.{placed_cast}
use Rattle.pl_cells.proofs.casts.put_casts.Given as goal

abbrev pub invariant-loop-field : goal.invariant-loop-field
invariant-loop-field l = record {
  made : l.casts.items ≡ map (placed_cast l.columns) (take l.field-index l.to_cast);
  faultless : first_fault l.ignore_errors l.columns (take l.field-index l.to_cast) ≡ None;
}
