-- Where the cells of columns come from.
use Rattle.std.proofs.Common.{◌≡◌, ℕ, ℤ, zero, suc, ◌<◌, true, false, List, [], ◌∷◌, ◌++◌, length, take, refl, sym, ◌∙◌, ap}
use Rattle.std.specs.Option.{option_map, option_map_or}
use Rattle.std.specs.Prelude.{Option, None, Some, IfSome, unwrap_or, slice_get}
use Rattle.pl_frame.specs.Columns.{number_cells, text_cells}
use Rattle.pl_frame.specs.Frame.{Number, Letters, ColumnValue, cell_at}
use Rattle.pl_text.specs.ValueText.{number_text}
use Rattle.pl_text.specs.FrameText.{WriteOptions, written_cell, written_value}
use Rattle.pl_frame.specs.Types.{Range, is_numeric, is_within}
use Rattle.pl_frame.specs.declared.data_type.DataType.{DataType}
use Rattle.pl_write.specs.CellForms.{number_or_null, text_or_null}
use Rattle.pl_write.specs.CellSources.{WritesNumbers, LieWithin}
use Rattle.pl_write.proofs.HeldLaws.{held_number}
use Rattle.pl_write.proofs.PutLaws.{some_map}

-- ---- numbers and texts, each written as its text

-- the cells of numbers
number_at : (numbers : List (Option ℤ)) (row : ℕ) → unwrap_or (slice_get (number_cells numbers) row) None ≡ option_map Number (unwrap_or (slice_get numbers row) None)
number_at [] row = refl
number_at (number ∷ numbers) zero = refl
number_at (number ∷ numbers) (suc row) = number_at numbers row

-- the cells of texts
text_at : (texts : List (Option (List ℕ))) (row : ℕ) → unwrap_or (slice_get (text_cells texts) row) None ≡ option_map Letters (unwrap_or (slice_get texts row) None)
text_at [] row = refl
text_at (text ∷ texts) zero = refl
text_at (text ∷ texts) (suc row) = text_at texts row

number_written : (text : ℤ → List ℕ) (o : WriteOptions) (type : DataType) (number : Option ℤ) → ((n : ℤ) → written_value o (is_numeric type) (number_text type n) ≡ text n)
    → number_or_null text o number ≡ written_cell o type (option_map Number number)
number_written text o type None written = refl
number_written text o type (Some n) written = sym (written n)

text_written : (o : WriteOptions) (type : DataType) (text : Option (List ℕ)) → text_or_null o text ≡ written_cell o type (option_map Letters text)
text_written o type None = refl
text_written o type (Some text) = refl

-- what is put for a number is the cell of the column
pub number_cell : {text : ℤ → List ℕ} {numbers : List (Option ℤ)} {o : WriteOptions} {column : ColumnValue} (row : ℕ) → WritesNumbers text numbers o column
    → number_or_null text o (unwrap_or (slice_get numbers row) None) ≡ written_cell o column.dtype (cell_at column row)
number_cell {text} {numbers} {o} {column} row writes =
    number_written text o column.dtype (unwrap_or (slice_get numbers row) None) writes.written
    ∙ ap (written_cell o column.dtype) (sym (number_at numbers row) ∙ ap (λ values. unwrap_or (slice_get values row) None) writes.cells)

-- and what is put for a text
pub text_cell : (texts : List (Option (List ℕ))) (o : WriteOptions) (column : ColumnValue) (row : ℕ) → text_cells texts ≡ column.values
    → text_or_null o (unwrap_or (slice_get texts row) None) ≡ written_cell o column.dtype (cell_at column row)
text_cell texts o column row cells =
    text_written o column.dtype (unwrap_or (slice_get texts row) None)
    ∙ ap (written_cell o column.dtype) (sym (text_at texts row) ∙ ap (λ values. unwrap_or (slice_get values row) None) cells)

-- a number of the column lies in the range
pub number_within : {text : ℤ → List ℕ} {numbers : List (Option ℤ)} {o : WriteOptions} {range : Range} {column : ColumnValue} (row : ℕ) (n : ℤ) → WritesNumbers text numbers o column
    → LieWithin range column → row < length column.values → slice_get numbers row ≡ Some (Some n) → is_within range n ≡ true
number_within {text} {numbers} {o} {range} {column} row n writes within inside is =
    let here : Some (Number n) ≡ cell_at column row =
    ap (λ cell. option_map Number (unwrap_or cell None)) (sym is) ∙ sym (number_at numbers row) ∙ ap (λ values. unwrap_or (slice_get values row) None) writes.cells in
    ap (λ r. option_map_or (λ (range : Range). is_within range n) r false) (sym within.range_is) ∙ held_number column.dtype column.values row n inside within.held here

-- what was put, under another name
pub put-as : (r : Option ℕ) (new old text cell : List ℕ) → IfSome r (λ end. take end new ≡ old ++ text) → text ≡ cell → IfSome r (λ end. take end new ≡ old ++ cell)
put-as r new old text cell put is = some_map r _ _ (λ end e. e ∙ ap (λ l. old ++ l) is) put
