use Rattle.std.proofs.Common.{◌≡◌, map, take}
use Rattle.std.specs.Option.{option_map}
use Rattle.pl_frame.specs.Columns.{HoldsType}
use Rattle.pl_cells.specs.Casts.{read_cell}
use Rattle.pl_cells.proofs.casts.parsed_values.Given as goal

abbrev pub invariant-loop-row : goal.invariant-loop-row
invariant-loop-row g l = record {
  values : map (option_map g.K.ValueType.scalar) l.values ≡ map (read_cell (g.K.ValueType.dtype l.kind)) (take l.row l.column.values);
  held : HoldsType (g.K.ValueType.dtype l.kind) (map (option_map g.K.ValueType.scalar) l.values);
}
