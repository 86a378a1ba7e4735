-- The values that a column holds.
use Rattle.std.proofs.Common.{◌≡◌, ℕ, ◌<◌, Bool, true, false, ℤ, List, length, get_or, Some, None, refl, sym, ◌∙◌, ap}
use Rattle.std.specs.Prelude.{Option, unwrap_or, slice_get}
use Rattle.std.proofs.lemmas.Option.{unwrap_or-slice_get}
use Rattle.pl_frame.specs.Columns.{misfits, first_misfit}
use Rattle.pl_frame.specs.Frame.{Scalar, Number}
use Rattle.pl_frame.specs.declared.data_type.DataType.{DataType}
use Rattle.std.proofs.lemmas.List.Folds.{list_any_at}
use Rattle.pl_frame.proofs.SchemaLaws.{none_passes}
use Rattle.pl_frame.proofs.ColumnLaws.{true_from_not}
use Rattle.pl_frame.specs.Columns.{is_number_of}

-- no row of what a column holds has a value that is none of the type
held : (type : DataType) (values : List (Option Scalar)) (row : ℕ) → row < length values → first_misfit type values ≡ None → misfits type (get_or values row None) ≡ false
held type values row inside none = by_test (misfits type (get_or values row None)) refl
  where
    by_test : (b : Bool) → misfits type (get_or values row None) ≡ b → misfits type (get_or values row None) ≡ false
    by_test false e = e
    by_test true e =
        let seen = list_any_at (misfits type) values row None inside e in
        let unseen = none_passes (misfits type) values none in
        absurd (cc)

-- a number that a column holds lies in the range of its type
pub held_number : (type : DataType) (values : List (Option Scalar)) (row : ℕ) (n : ℤ) → row < length values → first_misfit type values ≡ None → Some (Number n) ≡ unwrap_or (slice_get values row) None → is_number_of type n ≡ true
held_number type values row n inside none is =
    let cell : get_or values row None ≡ Some (Number n) = sym (unwrap_or-slice_get values row None) ∙ sym is in
    true_from_not (is_number_of type n) (sym (ap (misfits type) cell) ∙ held type values row inside none)
