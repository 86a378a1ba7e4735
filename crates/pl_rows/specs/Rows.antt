-- Records as rows of cells, and the first fault of a row (docs/types.md, "Records and columns").
use Rattle.std.specs.Prelude.{ℕ, ◌+◌, Bool, not, ◌&&◌, ◌||◌, ◌==◌, nat_lt, if◌then◌else◌, List, [], ◌∷◌, length, Option, None, Some}
use Rattle.std.specs.List.{filter_map}
use Rattle.pl_frame.specs.declared.data_type.DataType.{DataType}
use Rattle.pl_frame.specs.declared.error.FaultKind.{FaultKind}
use Rattle.pl_frame.specs.declared.error.FaultKind.TheVariants as fault
use Rattle.pl_table.specs.Rows.{Row}
use Rattle.pl_cells.specs.Cells.{fault_of}
use Rattle.pl_cells.specs.Columns.{field_in}
use Rattle.pl_rows.specs.Cells.{RowRules, cell}
use Rattle.pl_rows.specs.Plan.{Columns}

-- the fault of a column's cell, if it has one
abbrev pub column_fault : RowRules → List (List ℕ) → ℕ × DataType → Option (ℕ × FaultKind)
column_fault rules fs (column, type) = elim (fault_of (cell rules column type (field_in fs column))) [ None ↦ None | Some kind ↦ Some (column, kind) ]

-- one field too many, empty, whose separator is the last byte of the text
abbrev pub is_forgiven : ℕ → Row → Bool
is_forgiven width row = row.is_end && (length row.fields == width + 1 && length (field_in row.fields width) == 0)

-- more fields than columns, where they are not passed over
abbrev pub excess_fault : Bool → ℕ → Row → Option (ℕ × FaultKind)
excess_fault passed width row =
    if not passed && (nat_lt width (length row.fields) && not (is_forgiven width row)) then Some (width, fault.Fields) else None

-- more fields than the schema has columns are passed over where they may be, and where not all of its columns are read
abbrev pub passes_excess : RowRules → Columns → Bool
passes_excess rules columns = rules.truncate_ragged_lines || not (length columns.read == columns.width)

-- the first element, or else another
abbrev pub first_or : {X : Type 0} → Option X → List X → Option X
first_or other [] = other
first_or other (x ∷ xs) = Some x

-- the least column among those that are read whose cell has a fault, or else more fields than the schema has columns
abbrev pub first_fault : RowRules → Columns → Row → Option (ℕ × FaultKind)
first_fault rules columns row =
    first_or (excess_fault (passes_excess rules columns) columns.width row) (filter_map (column_fault rules row.fields) columns.read)

-- the least row with a fault, counted from a number on, and its first fault
abbrev pub first_faulty : RowRules → Columns → ℕ → List Row → Option (ℕ × (ℕ × FaultKind))
first_faulty rules columns number [] = None
first_faulty rules columns number (row ∷ others) = elim (first_fault rules columns row) [
  | Some found ↦ Some (number, found)
  | None ↦ first_faulty rules columns (number + 1) others
]
