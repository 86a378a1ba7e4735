-- Columns of few rows have few categories.
use Rattle.std.proofs.Common.{◌≡◌, ℕ, ◌+◌, ◌^◌, ◌≤◌, nat_lt, Bool, true, false, cond, List, [], ◌∷◌, ◌++◌, length, map, Option, None, Some, refl, ap, ◌∙◌, arith, length-append, length-take}
use Rattle.std.specs.List.{list_any, fold}
use Rattle.std.specs.Str.{bytes_eq}
use Rattle.std.proofs.lemmas.Bool.Decides.{nat_tests}
use Rattle.std.proofs.lemmas.List.{length-map}
use Rattle.pl_frame.specs.declared.data_type.DataType.{DataType}
use Rattle.pl_frame.specs.declared.data_type.DataType.TheVariants as dtype
use Rattle.pl_frame.specs.Categories.{with_text, dictionary_of}
use Rattle.pl_frame.specs.Columns.{is_enum, categories_of, text_in, dictionary}
use Rattle.pl_frame.specs.Frame.{Scalar}
use Rattle.pl_frame.specs.Schema.{Entry}
use Rattle.pl_cells.specs.InitBuffers.{entry_at}
use Rattle.pl_infer.specs.Schemas.{is_categorical}
use Rattle.pl_options.specs.FirstCause.{first_some}
use Rattle.pl_options.specs.Text.{marks_of, comment_of}
use Rattle.pl_options.specs.declared.read_options.CsvReadOptions.{CsvReadOptions}
use Rattle.pl_read.specs.Refusals.{codes_past}
use Rattle.pl_read.specs.Rows.{rows_in}
use Rattle.pl_read.proofs.CauseLaws.{first_some-behind}
use Rattle.pl_read.proofs.NextLaws.{few-rows}
use Rattle.pl_cells.specs.Cells.{value_of}
use Rattle.pl_cells.specs.Columns.{field_in}
use Rattle.pl_rows.specs.Cells.{RowRules, cell}
use Rattle.pl_rows.specs.Columns.{read_column, column_cells, frame_of_rows, entries_in}
use Rattle.pl_rows.specs.Ranges.{limited}
use Rattle.pl_table.specs.Rows.{Row, rows}

few-limited : {X : Type 0} (limit : Option ℕ) (xs : List X) → length (limited limit xs) ≤ length xs
few-limited None xs = omega arith
few-limited (Some n) xs = omega (arith, length-take n xs)

-- the rows that are read of data are no more than its bytes
pub few-rows-in : (o : CsvReadOptions) (records : List ℕ) → length (rows_in o records) ≤ length records
few-rows-in o records =
    let m = marks_of o.parse_options in
    let comment = comment_of o.parse_options in
    omega (arith, few-limited o.n_rows (rows m comment records), few-rows m comment records)

-- one value adds one text at most
text-few : (texts : List (List ℕ)) (value : Option (List ℕ)) → length (with_text texts value) ≤ length texts + 1
text-few texts None = omega arith
text-few texts (Some text) = by (list_any (bytes_eq text) texts)
  where
    by : (t : Bool) → length (cond t texts (texts ++ text ∷ [])) ≤ length texts + 1
    by true = omega arith
    by false = omega (arith, length-append texts (text ∷ []))

texts-few : (texts : List (List ℕ)) (values : List (Option (List ℕ))) → length (fold with_text texts values) ≤ length texts + length values
texts-few texts [] = omega arith
texts-few texts (value ∷ values) = omega (arith, text-few texts value, texts-few (with_text texts value) values)

no-enum : (type : DataType) → is_categorical type ≡ true → is_enum type ≡ false
no-enum dtype.Categorical is = refl
no-enum type is = absurd (cc)

dictionary-few : (type : DataType) (values : List (Option Scalar)) → is_categorical type ≡ true → length (dictionary type values) ≤ length values
dictionary-few type values is =
    let texts = ap (λ t. length (cond t (categories_of type) (dictionary_of (map text_in values)))) (no-enum type is) in
    omega (arith, texts, texts-few [] (map text_in values), length-map values text_in)

not-past : (n m : ℕ) → m ≤ n → nat_lt n m ≡ false
not-past n m few = grind (arith, nat_tests, few)

mapped-long : {X Y : Type 0} (f : X → Y) (xs : List X) → length (map f xs) ≤ length xs
mapped-long f xs = omega (arith, length-map xs f)

column-few : (rules : RowRules) (given : List Row) (column : ℕ × Entry) → length given ≤ 2 ^ 32 → codes_past (read_column rules given column) ≡ None
column-few rules given column few = by (is_categorical column.1.1) refl
  where
    by : (t : Bool) → is_categorical column.1.1 ≡ t → codes_past (read_column rules given column) ≡ None
    by false e = rw e refl
    by true e =
        let values = column_cells rules given (column.0, column.1.1) in
        let long : length values ≤ length given = mapped-long (λ row. value_of (cell rules column.0 column.1.1 (field_in row.fields column.0))) given in
        let none : nat_lt (2 ^ 32) (length (dictionary column.1.1 values)) ≡ false = not-past (2 ^ 32) (length (dictionary column.1.1 values)) (omega (arith, dictionary-few column.1.1 values e, long, few)) in
        rw (e, none) refl

-- so their codes fit
pub codes-few : (rules : RowRules) (given : List Row) (schema : List Entry) (places : List ℕ) → length given ≤ 2 ^ 32 → first_some (map codes_past (frame_of_rows rules (entries_in schema places) given)) ≡ None
codes-few rules given schema [] few = refl
codes-few rules given schema (place ∷ places) few =
    let column : ℕ × Entry = (place, entry_at schema place) in
    first_some-behind (codes_past (read_column rules given column)) (map codes_past (frame_of_rows rules (entries_in schema places) given)) (column-few rules given column few)
    ∙ codes-few rules given schema places few
