use Rattle.std.proofs.Common.{◌≡◌, map}
use Rattle.std.specs.List.{range_with_len}
use Rattle.pl_csv_c.specs.HostColumns.{host_cell, AreWhole}
use Rattle.pl_frame.specs.declared.data_type.DataType.{DataType}
use Rattle.pl_csv_c.proofs.host_cells.take_rows.Given as goal

abbrev pub invariant-loop-row : goal.invariant-loop-row
invariant-loop-row g l = record {
  takes : (type : DataType) → g.C.HostCells.takes l.initial.cells type → g.C.HostCells.takes l.cells type;
  cells_are : (type : DataType) → g.C.HostCells.takes l.initial.cells type → g.C.HostCells.cells l.cells ≡ map (host_cell type l.column) (range_with_len 0 l.row);
  whole : (type : DataType) → g.C.HostCells.takes l.initial.cells type → AreWhole type l.column l.row;
}
