use Rattle.std.proofs.Common.{◌≡◌, map, take}
use Rattle.pl_cells.proofs.cast_workers.fields_to_cast.Given as goal

abbrev pub invariant-loop-field : goal.invariant-loop-field
invariant-loop-field l = map (λ one. one.field.now) l.all.items ≡ take l.field-index l.to_cast
