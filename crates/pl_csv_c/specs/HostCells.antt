-- Cells that are taken from a column of the host, one behind the other.
use Rattle.std.specs.Prelude.{◌≡◌, ◌<◌, ℕ, Bool, true, false, List, [], ◌∷◌, ◌++◌, length, Option, None, is_some}
use Rattle.pl_csv_c.specs.HostColumns.{host_cell, is_whole, AreWhole}
use Rattle.pl_csv_c.specs.declared.host_cells.Untaken.{Untaken}
use Rattle.pl_csv_c.specs.declared.host_cells.Untaken.TheVariants as untaken
use Rattle.pl_csv_c.specs.declared.host_column.HostColumn.{HostColumn}
use Rattle.pl_frame.specs.declared.data_type.DataType.{DataType}
use Rattle.pl_frame.specs.Frame.{Scalar}

-- a value was put at the end; or there is none
abbrev pub IsPushed : Bool → Option Scalar → List (Option Scalar) → List (Option Scalar) → Type 0
IsPushed true value old new = (is_some value ≡ true) × (new ≡ old ++ value ∷ [])
IsPushed false value old new = value ≡ None

-- the cell of a row was put at the end; or it has no value, though its flag is set
abbrev pub IsTaken : Bool → DataType → HostColumn → ℕ → List (Option Scalar) → List (Option Scalar) → Type 0
IsTaken true type c row old new = (is_whole type c row ≡ true) × (new ≡ old ++ host_cell type c row ∷ [])
IsTaken false type c row old new = is_whole type c row ≡ false

-- a row has no value, though its flag is set, and each before it has one
pub record IsFirstOpen (type : DataType) (c : HostColumn) (row : ℕ) : Type 0 where
  pub within : row < length c.present.now
  pub before : AreWhole type c row
  pub none : is_whole type c row ≡ false

-- why cells were not taken: the first row without a value; or memory is wanting, which may be at any time
abbrev pub IsRowFault : DataType → HostColumn → Untaken → Type 0
IsRowFault type c (untaken.Row row) = IsFirstOpen type c row
IsRowFault type c untaken.OutOfMemory = Unit {0}
