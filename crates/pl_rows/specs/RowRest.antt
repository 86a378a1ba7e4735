-- How far a row was read.
use Rattle.std.specs.Prelude.{◌≡◌, ◌≢◌, ℕ, List, [], drop, None, Some}
use Rattle.pl_frame.specs.Dialect.{Marks}
use Rattle.pl_scan.specs.Fields.{fields, extent, behind}
use Rattle.pl_rows.specs.declared.row_rest.RowRest.{RowRest}
use Rattle.pl_rows.specs.declared.row_rest.RowRest.TheVariants as rest

-- the fields that are left of a row
abbrev pub fields_left : Marks → RowRest → List (List ℕ)
fields_left m (rest.Fields bytes) = fields m bytes.now
fields_left m (rest.End bytes) = []

-- what stands behind the row
abbrev pub behind_row : Marks → RowRest → List ℕ
behind_row m (rest.Fields bytes) = drop (extent m bytes.now) bytes.now
behind_row m (rest.End bytes) = bytes.now

-- what is left behind a field: more fields behind a separator, or the end of the row
abbrev pub IsBehind : ℕ → List ℕ → RowRest → Type 0
IsBehind separator others (rest.Fields bytes) = behind separator others ≡ Some (bytes.now)
IsBehind separator others (rest.End bytes) = (behind separator others ≡ None) × (bytes.now ≡ others)

-- no field is left, or one empty field behind which nothing stands
abbrev pub IsDone : RowRest → List ℕ → Type 0
IsDone (rest.Fields bytes) behind = (bytes.now ≡ []) × (behind ≡ [])
IsDone (rest.End bytes) behind = behind ≡ bytes.now

-- more is left
abbrev pub HasMore : RowRest → Type 0
HasMore (rest.Fields bytes) = bytes.now ≢ []
HasMore (rest.End bytes) = ⊥
