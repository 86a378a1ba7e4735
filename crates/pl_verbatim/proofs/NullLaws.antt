-- What is missing, and texts that mean null in all columns alike.
use Rattle.std.proofs.Common.{◌≡◌, ℕ, Bool, true, false, not, ◌&&◌, ◌==◌, if◌then◌else◌, List, [], length, Option, None, Some, Ok, refl}
use Rattle.pl_frame.specs.declared.data_type.DataType.{DataType}
use Rattle.pl_cells.specs.Cells.{Reading, cell, stripped_cell}
use Rattle.pl_cells.specs.NullTest.{NullTest, nothing_is_null}
use Rattle.pl_cells.specs.NullValues.{means_null}
use Rattle.pl_cells.specs.declared.null_values.NullValuesCompiled.{NullValuesCompiled}
use Rattle.pl_cells.specs.declared.null_values.NullValuesCompiled.TheVariants as compiled
use Rattle.pl_verbatim.specs.Nulls.{are_alike}

abbrev text_none : List ℕ
text_none = []

-- what is missing is not asked
pub cell-missing : (reading : Reading) (is_null : NullTest) (q : ℕ) (type : DataType) → cell reading is_null (Some q) type [] ≡ cell reading nothing_is_null (Some q) type []
cell-missing reading is_null q type = by (is_null [])
  where
    by : (t : Bool) → (if (t && not (true && (length text_none == 0))) then Ok None else stripped_cell reading nothing_is_null None type []) ≡ stripped_cell reading nothing_is_null None type []
    by true = refl
    by false = refl

-- texts that mean null in all columns alike do so in each as in the first
pub alike-nulls : (nulls : Option NullValuesCompiled) (column : ℕ) → are_alike nulls ≡ true → means_null nulls column ≡ means_null nulls 0
alike-nulls None column alike = refl
alike-nulls (Some (compiled.AllColumnsSingle text)) column alike = refl
alike-nulls (Some (compiled.AllColumns texts)) column alike = refl
alike-nulls (Some (compiled.Columns texts)) column alike = absurd (cc)
