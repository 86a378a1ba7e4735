-- What is left of a column that is written cell by cell.
use Rattle.std.specs.Prelude.{List, Option, None, unwrap_or, slice_get, drop}
use Rattle.pl_frame.specs.Frame.{Scalar}
use Rattle.pl_frame.specs.declared.data_type.DataType.{DataType}

-- cells of one type, a null being `None`
pub record CellsLeft : Type 0 where
  pub dtype : DataType
  pub cells : List (Option Scalar)

-- the first of them
abbrev pub next_cell : CellsLeft → Option Scalar
next_cell left = unwrap_or (slice_get left.cells 0) None

-- those behind the first
abbrev pub without_next : CellsLeft → CellsLeft
without_next left = record { dtype = left.dtype; cells = drop 1 left.cells }
