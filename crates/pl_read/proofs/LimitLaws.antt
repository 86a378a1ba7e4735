-- What fewer rows give.
use Rattle.std.proofs.Common.{◌≡◌, ℕ, zero, suc, ◌+◌, ◌^◌, ◌≤◌, Bool, true, false, cond, ◌&&◌, List, [], ◌∷◌, ◌++◌, map, length, take, refl, sym, ◌∙◌, ap, subst, arith, nat_lt, length-append}
use Rattle.std.specs.Prelude.{Option, None, Some, pos, unwrap_or}
use Rattle.std.specs.List.{range_with_len, list_any, fold}
use Rattle.std.specs.Option.{option_map, option_and_then}
use Rattle.std.specs.Str.{bytes_eq}
use Rattle.std.proofs.lemmas.List.{take-map, length-take}
use Rattle.std.proofs.lemmas.Bool.Decides.{nat_tests}
use Rattle.pl_frame.specs.declared.data_type.DataType.{DataType}
use Rattle.pl_frame.specs.declared.data_type.DataType.TheVariants as dtype
use Rattle.pl_frame.specs.declared.error.FaultKind.{FaultKind}
use Rattle.pl_frame.specs.declared.error.ComputeFault.TheVariants as compute_fault
use Rattle.pl_frame.specs.declared.error.PolarsError.{PolarsError}
use Rattle.pl_frame.specs.declared.error.PolarsError.TheVariants as error
use Rattle.pl_frame.specs.Categories.{with_text, dictionary_of}
use Rattle.pl_frame.specs.Columns.{text_in, is_enum, categories_of, dictionary}
use Rattle.pl_frame.specs.Frame.{Scalar, Number, ColumnValue}
use Rattle.pl_frame.specs.FrameParts.{sliced}
use Rattle.pl_frame.specs.RowIndex.{row_numbers}
use Rattle.pl_frame.specs.Schema.{Entry}
use Rattle.pl_options.specs.declared.read_options.CsvReadOptions.{CsvReadOptions}
use Rattle.pl_options.specs.declared.row_index.RowIndex.{RowIndex}
use Rattle.pl_cells.specs.Cells.{value_of}
use Rattle.pl_rows.specs.Cells.{RowRules, cell}
use Rattle.pl_rows.specs.Columns.{read_column, entries_in, frame_of_rows}
use Rattle.pl_rows.specs.Plan.{Columns}
use Rattle.pl_rows.specs.Ranges.{limited}
use Rattle.pl_cells.specs.Columns.{field_in}
use Rattle.pl_rows.specs.Rows.{first_fault, first_faulty}
use Rattle.pl_table.specs.Rows.{Row, rows}
use Rattle.pl_options.specs.FirstCause.{when, first_some}
use Rattle.pl_options.specs.Text.{marks_of, comment_of}
use Rattle.pl_infer.specs.Schemas.{is_categorical}
use Rattle.pl_read.specs.Options.{data_of, rules_of}
use Rattle.pl_read.specs.Projection.{projected}
use Rattle.pl_read.specs.Refusals.{numbers_past, codes_past, index_past, faulty_record, read_causes}
use Rattle.pl_read.specs.Rows.{columns_read, rows_in, data_columns, with_index}
use Rattle.pl_read.specs.Laws.{unlimited, LimitTakesFirstRows}
use Rattle.pl_read.proofs.CauseLaws.{first_some-late, first_some-front, first_some-rest, first_some-behind}

-- ---- a frame of fewer rows

-- the columns
columns-fewer : (rules : RowRules) (n : ℕ) (given : List Row) (columns : List (ℕ × Entry)) → frame_of_rows rules columns (take n given) ≡ sliced 0 n (frame_of_rows rules columns given)
columns-fewer rules n given [] = refl
columns-fewer rules n given (column ∷ columns) =
    let name : List ℕ = column.1.0 in
    let type : DataType = column.1.1 in
    let value : Row → Option Scalar = λ row. value_of (cell rules column.0 type (field_in row.fields column.0)) in
    ap (λ (values : List (Option Scalar)). record { name = name; dtype = type; values = values } ∷ frame_of_rows rules columns (take n given)) (sym (take-map value n given))
    ∙ ap (λ (others : List ColumnValue). record { name = name; dtype = type; values = take n (map value given) } ∷ others) (columns-fewer rules n given columns)

-- the numbers of the rows
numbers-fewer : {X : Type 0} (f : ℕ → X) (a n : ℕ) (given : List Row) → map f (range_with_len a (length (take n given))) ≡ take n (map f (range_with_len a (length given)))
numbers-fewer f a zero given = refl
numbers-fewer f a (suc n) [] = refl
numbers-fewer f a (suc n) (row ∷ given) = ap (λ l. f a ∷ l) (numbers-fewer f (a + 1) n given)

-- the columns behind their row index
frame-fewer : (index : Option RowIndex) (rules : RowRules) (n : ℕ) (given : List Row) (columns : List (ℕ × Entry))
    → with_index index (length (take n given)) (frame_of_rows rules columns (take n given)) ≡ sliced 0 n (with_index index (length given) (frame_of_rows rules columns given))
frame-fewer None rules n given columns = columns-fewer rules n given columns
frame-fewer (Some index) rules n given columns =
    ap (λ (values : List (Option Scalar)). record { name = index.name; dtype = dtype.UInt64; values = values } ∷ frame_of_rows rules columns (take n given))
    (numbers-fewer (λ k. Some (Number (pos k))) index.offset n given)
    ∙ ap (λ (others : List ColumnValue). record { name = index.name; dtype = dtype.UInt64; values = take n (row_numbers index.offset (length given)) } ∷ others) (columns-fewer rules n given columns)

-- ---- the causes against fewer rows

-- no fault among the first rows
sound-fewer : (rules : RowRules) (columns : Columns) (k n : ℕ) (given : List Row) → first_faulty rules columns k given ≡ None → first_faulty rules columns k (take n given) ≡ None
sound-fewer rules columns k zero given none = refl
sound-fewer rules columns k (suc n) [] none = refl
sound-fewer rules columns k (suc n) (row ∷ given) none = by (first_fault rules columns row) none (sound-fewer rules columns (k + 1) n given)
  where
    by : (found : Option (ℕ × FaultKind))
        → ◌≡◌ {A = Option (ℕ × (ℕ × FaultKind))} (elim found [ Some f ↦ Some (k, f) | None ↦ first_faulty rules columns (k + 1) given ]) None
        → (first_faulty rules columns (k + 1) given ≡ None → first_faulty rules columns (k + 1) (take n given) ≡ None)
        → ◌≡◌ {A = Option (ℕ × (ℕ × FaultKind))} (elim found [ Some f ↦ Some (k, f) | None ↦ first_faulty rules columns (k + 1) (take n given) ]) None
    by (Some f) none others = cc
    by None none others = others none

-- a refusal that is not there for a number is not there for a smaller one
when-less : (t : Bool) (limit a b : ℕ) (one other : PolarsError) → b ≤ a → when (t && nat_lt limit a) one ≡ None → when (t && nat_lt limit b) other ≡ None
when-less false limit a b one other less none = refl
when-less true limit a b one other less none = by (nat_lt limit a) refl none
  where
    by : (c : Bool) → nat_lt limit a ≡ c → when c one ≡ None → when (nat_lt limit b) other ≡ None
    by true e none = cc
    by false e none = let test : nat_lt limit b ≡ false = grind (arith, nat_tests) in rw test refl

-- the last number
pub numbers_past-fewer : (index : Option RowIndex) (a b : ℕ) → b ≤ a → numbers_past index a ≡ None → numbers_past index b ≡ None
numbers_past-fewer None a b less none = refl
numbers_past-fewer (Some index) a b less none =
    when-less true (2 ^ 64) (index.offset + a) (index.offset + b) (error.ComputeError (compute_fault.Index index.offset a)) (error.ComputeError (compute_fault.Index index.offset b)) (omega arith) none

-- one value more makes a dictionary no shorter
text-more : (texts : List (List ℕ)) (value : Option (List ℕ)) → length texts ≤ length (with_text texts value)
text-more texts None = omega arith
text-more texts (Some text) = by (list_any (bytes_eq text) texts)
  where
    by : (t : Bool) → length texts ≤ length (cond t texts (texts ++ text ∷ []))
    by true = omega arith
    by false = omega (arith, length-append texts (text ∷ []))

texts-more : (texts : List (List ℕ)) (values : List (Option (List ℕ))) → length texts ≤ length (fold with_text texts values)
texts-more texts [] = omega arith
texts-more texts (value ∷ values) = omega (arith, text-more texts value, texts-more (with_text texts value) values)

-- the dictionary of the first values is no longer
texts-fewer : (texts : List (List ℕ)) (n : ℕ) (values : List (Option (List ℕ))) → length (fold with_text texts (take n values)) ≤ length (fold with_text texts values)
texts-fewer texts zero values = texts-more texts values
texts-fewer texts (suc n) [] = omega arith
texts-fewer texts (suc n) (value ∷ values) = texts-fewer (with_text texts value) n values

dictionary-fewer : (type : DataType) (n : ℕ) (values : List (Option Scalar)) → length (dictionary type (take n values)) ≤ length (dictionary type values)
dictionary-fewer type n values = by (is_enum type)
  where
    by : (t : Bool) → length (cond t (categories_of type) (dictionary_of (map text_in (take n values)))) ≤ length (cond t (categories_of type) (dictionary_of (map text_in values)))
    by true = omega arith
    by false = subst (λ l. length (dictionary_of l) ≤ length (dictionary_of (map text_in values))) (take-map text_in n values) (texts-fewer [] n (map text_in values))

-- the last code of a column
codes_past-fewer : (rules : RowRules) (n : ℕ) (given : List Row) (column : ℕ × Entry) → codes_past (read_column rules given column) ≡ None → codes_past (read_column rules (take n given) column) ≡ None
codes_past-fewer rules n given column none =
    let type : DataType = column.1.1 in
    let value : Row → Option Scalar = λ row. value_of (cell rules column.0 type (field_in row.fields column.0)) in
    let all : ℕ = length (dictionary type (map value given)) in
    let some : ℕ = length (dictionary type (map value (take n given))) in
    let less : some ≤ all = subst (λ l. length (dictionary type l) ≤ all) (take-map value n given) (dictionary-fewer type n (map value given)) in
    when-less (is_categorical type) (2 ^ 32) all some (error.ComputeError (compute_fault.Index 0 all)) (error.ComputeError (compute_fault.Index 0 some)) less none

-- of any of the columns
all_codes-fewer : (rules : RowRules) (n : ℕ) (given : List Row) (columns : List (ℕ × Entry)) → first_some (map codes_past (frame_of_rows rules columns given)) ≡ None
    → first_some (map codes_past (frame_of_rows rules columns (take n given))) ≡ None
all_codes-fewer rules n given [] none = refl
all_codes-fewer rules n given (column ∷ columns) none =
    let first = codes_past (read_column rules given column) in
    let others = map codes_past (frame_of_rows rules columns given) in
    first_some-behind (codes_past (read_column rules (take n given) column)) (map codes_past (frame_of_rows rules columns (take n given)))
    (codes_past-fewer rules n given column (first_some-front first others none))
    ∙ all_codes-fewer rules n given columns (first_some-rest first others none)

index_past-fewer : (index : Option RowIndex) (rules : RowRules) (n : ℕ) (given : List Row) (columns : List (ℕ × Entry)) → index_past index (length given) (frame_of_rows rules columns given) ≡ None
    → index_past index (length (take n given)) (frame_of_rows rules columns (take n given)) ≡ None
index_past-fewer index rules n given columns none =
    let numbers = numbers_past index (length given) in
    let codes = map codes_past (frame_of_rows rules columns given) in
    first_some-behind (numbers_past index (length (take n given))) (map codes_past (frame_of_rows rules columns (take n given)))
    (numbers_past-fewer index (length given) (length (take n given)) (omega (arith, length-take n given)) (first_some-front numbers codes none))
    ∙ all_codes-fewer rules n given columns (first_some-rest numbers codes none)

-- ---- the law

-- the causes that stand before the rows
abbrev before_rows : CsvReadOptions → List Entry → List ℕ → Bool → List (Option PolarsError)
before_rows o schema input is_dialect = take 12 (read_causes o schema input is_dialect)

-- the causes that stand in the rows
abbrev in_rows : CsvReadOptions → List Entry → Option (List ℕ) → List (Option PolarsError)
in_rows o schema some =
    option_and_then (faulty_record o schema) some
    ∷ option_and_then (λ records. index_past o.row_index (length (rows_in o records)) (data_columns o schema records)) some
    ∷ []

rows-fewer : (o : CsvReadOptions) (n : ℕ) (records : List ℕ) → o.n_rows ≡ Some n → rows_in o records ≡ take n (rows_in (unlimited o) records)
rows-fewer o n records is = ap (λ limit. limited limit (rows (marks_of o.parse_options) (comment_of o.parse_options) records)) is

no-fault : (found : Option (ℕ × (ℕ × FaultKind))) → option_map (λ f. error.ComputeError (compute_fault.Record f.0 f.1.0 f.1.1)) found ≡ None → found ≡ None
no-fault None none = refl
no-fault (Some f) none = cc

-- where no cause stands in the rows, none stands in the first of them
in_rows-fewer : (o : CsvReadOptions) (n : ℕ) (schema : List Entry) (some : Option (List ℕ)) → o.n_rows ≡ Some n → first_some (in_rows (unlimited o) schema some) ≡ None → first_some (in_rows o schema some) ≡ None
in_rows-fewer o n schema None is none = refl
in_rows-fewer o n schema (Some records) is none =
    let rules : RowRules = rules_of o schema in
    let columns : Columns = columns_read o schema in
    let all : List Row = rows_in (unlimited o) records in
    let entries : List (ℕ × Entry) = entries_in schema (projected o schema) in
    let faulty : Option PolarsError = faulty_record (unlimited o) schema records in
    let past : Option PolarsError = index_past o.row_index (length all) (frame_of_rows rules entries all) in
    let fewer = rows-fewer o n records is in
    let sound : first_faulty rules columns 0 (take n all) ≡ None = sound-fewer rules columns 0 n all (no-fault (first_faulty rules columns 0 all) (first_some-front faulty (past ∷ []) none)) in
    let fits : index_past o.row_index (length (take n all)) (frame_of_rows rules entries (take n all)) ≡ None =
    index_past-fewer o.row_index rules n all entries (first_some-front past [] (first_some-rest faulty (past ∷ []) none)) in
    ap (λ given. first_some (
    option_map (λ f. error.ComputeError (compute_fault.Record f.0 f.1.0 f.1.1)) (first_faulty rules columns 0 given)
    ∷ index_past o.row_index (length given) (frame_of_rows rules entries given)
    ∷ []
    )) fewer
    ∙ first_some-behind (option_map (λ f. error.ComputeError (compute_fault.Record f.0 f.1.0 f.1.1)) (first_faulty rules columns 0 (take n all))) _
    (ap (option_map (λ f. error.ComputeError (compute_fault.Record f.0 f.1.0 f.1.1))) sound)
    ∙ first_some-behind (index_past o.row_index (length (take n all)) (frame_of_rows rules entries (take n all))) [] fits

-- several causes are none where the first of them is
none-front : (xs ys : List (Option PolarsError)) → first_some (xs ++ ys) ≡ None → first_some xs ≡ None
none-front [] ys none = refl
none-front (None ∷ xs) ys none = none-front xs ys none
none-front (Some x ∷ xs) ys none = cc

-- where the unlimited read succeeds, the limited one is its first rows
pub limit-first_rows : LimitTakesFirstRows
limit-first_rows o n schema input frame is (first, frame_is) =
    let records : List ℕ = unwrap_or (data_of o input) [] in
    let all : List Row = rows_in (unlimited o) records in
    let rules : RowRules = rules_of o schema in
    let entries : List (ℕ × Entry) = entries_in schema (projected o schema) in
    let before : List (Option PolarsError) = before_rows o schema input first.is_dialect in
    let early : first_some before ≡ None = none-front before (in_rows (unlimited o) schema (data_of o input)) (sym first.is) in
    let late : first_some (in_rows (unlimited o) schema (data_of o input)) ≡ None = sym (first_some-late before (in_rows (unlimited o) schema (data_of o input)) early) ∙ sym first.is in (
      record {
        is_dialect = first.is_dialect;
        tells = first.tells;
        is = sym (first_some-late before (in_rows o schema (data_of o input)) early ∙ in_rows-fewer o n schema (data_of o input) is late);
      },
      ap (sliced 0 n) frame_is
          ∙ sym (frame-fewer o.row_index rules n all entries)
          ∙ ap (λ given. with_index o.row_index (length given) (frame_of_rows rules entries given)) (sym (rows-fewer o n records is)),
    )
