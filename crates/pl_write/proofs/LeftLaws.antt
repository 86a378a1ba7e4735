-- The cells of a column from one row on.
use Rattle.std.proofs.Common.{◌≡◌, ℕ, ◌+◌, List, drop, sym, ap}
use Rattle.std.specs.Prelude.{Option}
use Rattle.std.proofs.lemmas.List.{drop-drop}
use Rattle.pl_frame.specs.Frame.{Scalar}
use Rattle.pl_frame.specs.declared.data_type.DataType.{DataType}
use Rattle.pl_write.specs.CellsLeft.{without_next}

-- those from the next row on
pub left-next : (type : DataType) (cells : List (Option Scalar)) (row : ℕ) → record { dtype = type; cells = drop (row + 1) cells } ≡ without_next (record { dtype = type; cells = drop row cells })
left-next type cells row = ap (λ (left : List (Option Scalar)). record { dtype = type; cells = left }) (sym (drop-drop 1 row cells))
