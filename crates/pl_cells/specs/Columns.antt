-- The cells of a column of records, and of fields that are read in place (docs/types.md, "Cells").
use Rattle.std.specs.Prelude.{◌≡◌, ◌⊎◌, ℕ, Bool, true, false, not, ◌&&◌, ◌||◌, ◌==◌, List, [], ◌∷◌, ◌++◌, map, Option, None, Some, Ok, slice_get, unwrap_or}
use Rattle.std.specs.Char.{is_ascii_digit}
use Rattle.std.specs.List.{AllByRecursion}
use Rattle.pl_frame.specs.declared.data_type.DataType.{DataType}
use Rattle.pl_frame.specs.Frame.{Scalar}
use Rattle.pl_frame.specs.Types.{is_text}
use Rattle.pl_cells.specs.declared.cell_fault.CellFault.{CellFault}
use Rattle.pl_cells.specs.declared.cell_fault.CellFault.TheVariants as cell_fault
use Rattle.pl_cells.specs.BufferValue.{BufferValue, IsCellFault, Adds, with_value, reading_of, with_more}
use Rattle.pl_cells.specs.Cells.{Cell, Reading, cell, is_missing, text_cell, softened, value_of, fault_of}
use Rattle.pl_cells.specs.NullTest.{NullTest, null_test, nothing_is_null}
use Rattle.pl_cells.specs.Quoting.{strip}
use Rattle.pl_cells.specs.Values.{value_of_text}

-- the field of a record in a column, or the empty one where the record has fewer
abbrev pub field_in : List (List ℕ) → ℕ → List ℕ
field_in fields column = unwrap_or (slice_get fields column) []

-- the cells of records in a column
abbrev pub column_cells : Reading → NullTest → Option ℕ → DataType → ℕ → List (List (List ℕ)) → List Cell
column_cells reading is_null quote type column records = map (λ fields. cell reading is_null quote type (field_in fields column)) records

-- none of them has a fault
abbrev pub AreSound : List Cell → Type 0
AreSound cells = AllByRecursion (λ c. fault_of c ≡ None) cells

-- why cells were not all put: one of them has this fault; or memory is wanting, which may be at any time
abbrev pub IsFaultOf : List Cell → CellFault → Type 0
IsFaultOf cells wrong = (wrong ≡ cell_fault.OutOfMemory) ⊎ ((n : ℕ) × (c : Cell) × (slice_get cells n ≡ Some c) × IsCellFault wrong c)

-- none of the cells has a fault, and their values stand at the end
pub record AddsCells (cells : List Cell) (old new : BufferValue) : Type 0 where
  pub added : new ≡ with_more old (map value_of cells)
  pub sound : AreSound cells

-- where no text means null, the cell of a field has a value, which was added
abbrev pub AddsSeen : Option ℕ → List ℕ → BufferValue → BufferValue → Type 0
AddsSeen quote field old new = (missing ignore : Bool) → Adds with_value old new (cell (reading_of old missing ignore) nothing_is_null quote old.dtype field)

-- the field was seen to have a value, or nothing changed
abbrev pub IsSeen : Option ℕ → List ℕ → BufferValue → BufferValue → Bool → Type 0
IsSeen quote field old new true = AddsSeen quote field old new
IsSeen quote field old new false = new ≡ old

-- a text was added to the values of a type, as its cell however it is read, or nothing changed
abbrev pub IsKnown : DataType → List ℕ → List (Option Scalar) → List (Option Scalar) → Bool → Type 0
IsKnown type text old new true = (reading : Reading) → Adds (λ values value. values ++ value ∷ []) old new (text_cell reading type text)
IsKnown type text old new false = new ≡ old

-- ---- numbers that are read in place

-- the first byte is a digit or a minus
abbrev pub begins_number : List ℕ → Bool
begins_number [] = false
begins_number (x ∷ xs) = is_ascii_digit x || x == 45

-- no number begins with the quote
abbrev pub is_apart_from_numbers : Option ℕ → Bool
is_apart_from_numbers None = true
is_apart_from_numbers (Some q) = not (is_ascii_digit q || q == 45)

-- a text stands for a field: where it begins like a number, the value that it has is the field's, where no text means null
abbrev pub StandsFor : Option ℕ → List ℕ → List ℕ → Type 0
StandsFor quote field text = (reading : Reading) (type : DataType) (value : Scalar) → is_text type ≡ false → begins_number text ≡ true → strip text ≡ text → value_of_text type text ≡ Some value → cell reading nothing_is_null quote type field ≡ Ok (Some value)

-- the same of texts that are not empty
abbrev pub StandsForText : Option ℕ → List ℕ → List ℕ → Type 0
StandsForText quote field text = (reading : Reading) (type : DataType) → is_text type ≡ true → cell reading nothing_is_null quote type field ≡ softened reading.ignore_errors (text_cell reading type text)

-- a field without its carriage return means null and is not missing, given the quote that it begins with
abbrev pub is_null_by : NullTest → Option ℕ → List ℕ → Bool
is_null_by is_null quote text = null_test is_null quote text && not (is_missing quote text)
