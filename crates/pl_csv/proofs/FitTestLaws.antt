-- The test of whether the cells of a column come back.
use Rattle.std.proofs.Common.{◌≡◌, ℕ, zero, suc, ◌+◌, ◌<◌, Bool, true, false, ◌==◌, List, [], ◌∷◌, ◌++◌, length, drop, None, Some, Option, refl, sym, ◌∙◌, ap, subst, arith, add-one}
use Rattle.std.specs.Prelude.{◌↔◌, IsTrue, IfSome, unwrap_or, slice_get}
use Rattle.std.specs.List.{AllByRecursion, list_any}
use Rattle.std.proofs.lemmas.Bool.Decides.{nat_tests}
use Rattle.std.proofs.lemmas.List.{drop-drop}
use Rattle.pl_frame.specs.declared.data_type.DataType.{DataType}
use Rattle.pl_frame.specs.Columns.{misfits, HoldsType}
use Rattle.pl_frame.specs.Frame.{Scalar, Truth, Number, Letters, ColumnValue, cell_at}
use Rattle.pl_text.specs.ValueText.{printed}
use Rattle.pl_text.specs.FrameText.{WriteOptions, written_value, written_cell}
use Rattle.pl_frame.specs.Types.{is_numeric}
use Rattle.pl_frame.proofs.CastLaws.{none_misfit}
use Rattle.pl_write.specs.declared.serializer.Serializer.{Serializer}
use Rattle.pl_write.specs.declared.serializer.Serializer.TheVariants as serializer
use Rattle.pl_write.specs.CellsLeft.{CellsLeft, next_cell, without_next}
use Rattle.pl_write.specs.Serializing.{left_of, after_one}
use Rattle.pl_round_trip.specs.Fits.{FitsCell}
use Rattle.pl_round_trip.proofs.FieldLaws.{neither}

-- ---- the cells that are left

left-after : (s : Serializer) → left_of (after_one s) ≡ without_next (left_of s)
left-after (serializer.Boolean left) = refl
left-after (serializer.Int8 left) = refl
left-after (serializer.Int16 left) = refl
left-after (serializer.Int32 left) = refl
left-after (serializer.Int64 left) = refl
left-after (serializer.Int128 left) = refl
left-after (serializer.UInt8 left) = refl
left-after (serializer.UInt16 left) = refl
left-after (serializer.UInt32 left) = refl
left-after (serializer.UInt64 left) = refl
left-after (serializer.String left) = refl
left-after (serializer.Categorical left) = refl
left-after (serializer.Enum left) = refl
left-after (serializer.Date left) = refl
left-after (serializer.Time left) = refl
left-after (serializer.Datetime left) = refl
left-after (serializer.Decimal left) = refl
left-after (serializer.Null left) = refl

-- the cells of a column from a row on
abbrev pub cells_from : ColumnValue → ℕ → CellsLeft
cells_from column row = record { dtype = column.dtype; cells = drop row column.values }

pub left-next : (s next : Serializer) (column : ColumnValue) (row : ℕ) → left_of s ≡ cells_from column row → next ≡ after_one s → left_of next ≡ cells_from column (row + 1)
left-next s next column row left is =
    ap left_of is ∙ left-after s ∙ ap without_next left ∙ ap (λ (cells : List (Option Scalar)). record { dtype = column.dtype; cells = cells }) (drop-drop 1 row column.values)

-- ---- a cell

first-behind : (values : List (Option Scalar)) (row : ℕ) → unwrap_or (slice_get (drop row values) 0) None ≡ unwrap_or (slice_get values row) None
first-behind [] zero = refl
first-behind [] (suc row) = refl
first-behind (value ∷ values) zero = refl
first-behind (value ∷ values) (suc row) = first-behind values row

none-at : (test : Option Scalar → Bool) (values : List (Option Scalar)) (row : ℕ) → list_any test values ≡ false → row < length values → test (unwrap_or (slice_get values row) None) ≡ false
none-at test [] row none below = absurd (omega (arith, below))
none-at test (value ∷ values) zero none below = (neither (test value) (list_any test values) none).0
none-at test (value ∷ values) (suc row) none below = none-at test values row (neither (test value) (list_any test values) none).1 (omega (arith, below))

-- it is a value of the type, or a null
pub cell-held : (type : DataType) (s : Option Scalar) (column : ColumnValue) (row : ℕ) → type ≡ column.dtype → HoldsType column.dtype column.values → s ≡ cell_at column row → row < length column.values
    → misfits type s ≡ false
cell-held type s column row same held is below =
    ap (misfits type) is ∙ ap (λ (t : DataType). misfits t (cell_at column row)) same ∙ none-at (misfits column.dtype) column.values row (none_misfit column.dtype column.values held) below

value-bare : (o : WriteOptions) (numeric : Bool) (text : List ℕ) → o.style ≡ 3 → written_value o numeric text ≡ text
value-bare o numeric text never =
    let other : (o.style == 1) ≡ false = grind (arith, nat_tests, never) in
    let another : (o.style == 2) ≡ false = grind (arith, nat_tests, never) in
    rw (other, another) refl

-- written without quotes it is its printed text
bare-text : (o : WriteOptions) (type : DataType) (v : Scalar) → o.style ≡ 3 → written_cell o type (Some v) ≡ printed type v
bare-text o type (Letters text) never = let is : (o.style == 3) ≡ true = grind (arith, nat_tests, never) in rw is refl
bare-text o type (Number n) never = value-bare o (is_numeric type) (printed type (Number n)) never
bare-text o type (Truth b) never = value-bare o (is_numeric type) (printed type (Truth b)) never

-- a cell that is no null, as it was written
pub cell-written : (o : WriteOptions) (type : DataType) (s : Option Scalar) (column : ColumnValue) (row : ℕ) (left : CellsLeft) (text before : List ℕ)
    → type ≡ column.dtype → s ≡ cell_at column row → left ≡ cells_from column row → before ≡ [] → text ≡ before ++ written_cell o left.dtype (next_cell left)
    → IfSome s (λ v. text ≡ written_cell o type (Some v))
cell-written o type None column row left text before same is here empty written = tt
cell-written o type (Some v) column row left text before same is here empty written =
    written ∙ ap (λ b. b ++ written_cell o left.dtype (next_cell left)) empty
    ∙ ap (λ (l : CellsLeft). written_cell o l.dtype (next_cell l)) here
    ∙ ap (written_cell o column.dtype) (first-behind column.values row ∙ sym is)
    ∙ ap (λ (t : DataType). written_cell o t (Some v)) (sym same)

-- and as it is printed
pub cell-printed : (bare : WriteOptions) (type : DataType) (s : Option Scalar) (column : ColumnValue) (row : ℕ) (left : CellsLeft) (text before : List ℕ)
    → bare.style ≡ 3 → type ≡ column.dtype → s ≡ cell_at column row → left ≡ cells_from column row → before ≡ [] → text ≡ before ++ written_cell bare left.dtype (next_cell left)
    → IfSome s (λ v. text ≡ printed type v)
cell-printed bare type None column row left text before never same is here empty written = tt
cell-printed bare type (Some v) column row left text before never same is here empty written =
    cell-written bare type (Some v) column row left text before same is here empty written ∙ bare-text bare type v never

-- ---- all of them

pub not-true : IsTrue false → ⊥
not-true wrong = let same : false ≡ true = wrong in cc

module _ (o : WriteOptions) where
  split : (type : DataType) (values : List (Option Scalar)) (row : ℕ) → row < length values
      → AllByRecursion (FitsCell o type) (drop row values) ↔ FitsCell o type (unwrap_or (slice_get values row) None) × AllByRecursion (FitsCell o type) (drop (row + 1) values)
  split type [] row below = absurd (omega (arith, below))
  split type (value ∷ values) zero below = (λ all. (all.0, all.1), λ both. (both.0, both.1))
  split type (value ∷ values) (suc row) below = rw add-one (let next = split type values row (omega (arith, below)) in rw add-one at next)

  -- one that does not come back
  pub some-unfit : (type : DataType) (s : Option Scalar) (column : ColumnValue) (row : ℕ) → type ≡ column.dtype → s ≡ cell_at column row → row < length column.values
      → (FitsCell o type s → ⊥) → AllByRecursion (FitsCell o column.dtype) column.values ↔ AllByRecursion (FitsCell o column.dtype) (drop row column.values)
      → AllByRecursion (FitsCell o column.dtype) column.values → ⊥
  some-unfit type s column row same is below unfit all every =
      unfit (subst (λ (t : DataType). FitsCell o t s) (sym same) (subst (FitsCell o column.dtype) (sym is) ((split column.dtype column.values row below).0 (all.0 every)).0))

  -- or one more that does
  pub one-more : (type : DataType) (s : Option Scalar) (column : ColumnValue) (row : ℕ) → type ≡ column.dtype → s ≡ cell_at column row → row < length column.values
      → FitsCell o type s → AllByRecursion (FitsCell o column.dtype) column.values ↔ AllByRecursion (FitsCell o column.dtype) (drop row column.values)
      → AllByRecursion (FitsCell o column.dtype) column.values ↔ AllByRecursion (FitsCell o column.dtype) (drop (row + 1) column.values)
  one-more type s column row same is below fit all =
      let here = split column.dtype column.values row below in
      let own : FitsCell o column.dtype (cell_at column row) = subst (FitsCell o column.dtype) is (subst (λ (t : DataType). FitsCell o t s) same fit) in
      (λ every. (here.0 (all.0 every)).1, λ rest. all.1 (here.1 (own, rest)))
