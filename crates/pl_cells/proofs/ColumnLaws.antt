-- The cells of a column of records, record by record.
use Rattle.std.proofs.Common.{◌≡◌, ℕ, ◌<◌, Bool, List, [], length, take, map, get_or, min, Option, Some, ◌∙◌, ap, subst, inr, arith, length-take}
use Rattle.std.specs.Prelude.{slice_get, option_map}
use Rattle.std.proofs.lemmas.List.{get_or-take}
use Rattle.std.proofs.lemmas.Option.{slice_get-get_or, slice_get-map}
use Rattle.pl_frame.specs.Frame.{Scalar}
use Rattle.pl_cells.specs.declared.cell_fault.CellFault.{CellFault}
use Rattle.pl_cells.specs.BufferValue.{BufferValue, IsCellFault, reading_of, with_more}
use Rattle.pl_cells.specs.Cells.{Cell, cell}
use Rattle.pl_cells.specs.Columns.{column_cells, field_in, IsFaultOf}
use Rattle.pl_cells.specs.NullTest.{NullTest}

-- the cells of a buffer's column
abbrev pub cells_of : BufferValue → Bool → Bool → NullTest → Option ℕ → ℕ → List (List (List ℕ)) → List Cell
cells_of old missing ignore is_null quote column records = column_cells (reading_of old missing ignore) is_null quote old.dtype column records

-- the fault of the cell of a record, met when the cells before it were put, is one of the column's
pub fault-at : (old now : BufferValue) (missing ignore : Bool) (is_null : NullTest) (quote : Option ℕ) (column rows row : ℕ) (records : List (List (List ℕ))) (values : List (Option Scalar)) (field : List ℕ) (wrong : CellFault)
    → now ≡ with_more old values → row < rows → row < length records → field ≡ field_in (get_or records row []) column
    → IsCellFault wrong (cell (reading_of now missing ignore) is_null quote now.dtype field)
    → IsFaultOf (cells_of old missing ignore is_null quote column (take rows records)) wrong
fault-at old now missing ignore is_null quote column rows row records values field wrong added less within is fault =
    let of : List (List ℕ) → Cell = λ fields. cell (reading_of old missing ignore) is_null quote old.dtype (field_in fields column) in
    let taken : slice_get (take rows records) row ≡ Some (get_or records row []) =
    slice_get-get_or (take rows records) row [] (omega (arith, length-take rows records)) ∙ ap (λ (fields : List (List ℕ)). Some fields) (get_or-take rows records row [] less) in
    let here : slice_get (map of (take rows records)) row ≡ Some (of (get_or records row [])) =
    slice_get-map of (take rows records) row ∙ ap (option_map of) taken in
    let its : IsCellFault wrong (of (get_or records row [])) =
    subst (λ (b : BufferValue). IsCellFault wrong (cell (reading_of b missing ignore) is_null quote b.dtype (field_in (get_or records row []) column))) added
    (subst (λ (t : List ℕ). IsCellFault wrong (cell (reading_of now missing ignore) is_null quote now.dtype t)) is fault) in
    inr (row, of (get_or records row []), here, its)
