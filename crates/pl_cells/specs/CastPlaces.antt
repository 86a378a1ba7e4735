-- Cast columns on the way into a frame, each with its place there.
use Rattle.std.specs.Prelude.{◌≡◌, ℕ, Bool, List, [], ◌∷◌, Option, None, Some, Result, IfOk, OnOk, IfErr, length, slice_get, slice_set}
use Rattle.std.specs.Option.{option_map, option_map_or, option_and_then}
use Rattle.pl_frame.specs.declared.schema.Field.{Field}
use Rattle.pl_frame.specs.Frame.{ColumnValue}
use Rattle.pl_frame.specs.declared.error.PolarsError.{PolarsError}
use Rattle.pl_cells.specs.Casts.{carried_cast, place_named, field_fault, IsCastFault}

-- the cast column of a field with its place, where the frame has one of its name
abbrev pub placed_cast : List ColumnValue → Field → Option (ℕ × ColumnValue)
placed_cast columns field =
    option_and_then (λ place. option_map (λ column. (place, carried_cast column field.dtype)) (slice_get columns place)) (place_named field.name columns)

-- the columns with one of them at its place
abbrev pub with_placed : Option (ℕ × ColumnValue) → List ColumnValue → List ColumnValue
with_placed placed columns = option_map_or (λ p. slice_set columns p.0 p.1) placed columns

-- the columns with each of these at its place; where two have one place, the first of them stands
abbrev pub with_all_placed : List (Option (ℕ × ColumnValue)) → List ColumnValue → List ColumnValue
with_all_placed [] columns = columns
with_all_placed (placed ∷ rest) columns = with_placed placed (with_all_placed rest columns)

-- the column has a name of the frame at its place, and the frame's height
abbrev pub FitsAt : List (List ℕ) → ℕ → Option (ℕ × ColumnValue) → Type 0
FitsAt names height None = Unit {0}
FitsAt names height (Some placed) = (slice_get names placed.0 ≡ Some placed.1.name) × (length placed.1.values ≡ height)

-- what was made of a field: the cast column with its place, where nothing is wrong with it; else the fault, or want of memory
pub record IsMade (ignore : Bool) (columns : List ColumnValue) (field : Field) (made : Result (Option (ℕ × ColumnValue)) PolarsError) : Type 0 where
  pub cast : IfOk made (λ cast. cast ≡ placed_cast columns field)
  pub faultless : OnOk made (field_fault ignore columns field ≡ None)
  pub refused : IfErr made (IsCastFault (field_fault ignore columns field))
