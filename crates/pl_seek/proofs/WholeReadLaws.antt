-- A slice is a part of the frame of the whole read.
use Rattle.std.proofs.Common.{◌≡◌, ℕ, zero, suc, ◌+◌, ◌<◌, Bool, true, false, List, [], ◌∷◌, map, length, take, drop, Option, None, Some, refl, sym, ap, subst, ◌∙◌, arith, length-drop}
use Rattle.std.specs.Prelude.{◌||◌, is_none, is_some, pos, unwrap_or}
use Rattle.std.specs.Option.{option_map, option_and_then}
use Rattle.std.specs.List.{range_with_len}
use Rattle.std.proofs.lemmas.List.{take-map, drop-map, length-take}
use Rattle.pl_frame.specs.declared.data_type.DataType.{DataType}
use Rattle.pl_frame.specs.declared.data_type.DataType.TheVariants as dtype
use Rattle.pl_frame.specs.Frame.{Scalar, Number, ColumnValue}
use Rattle.pl_frame.specs.FrameParts.{sliced}
use Rattle.pl_frame.specs.RowIndex.{row_numbers}
use Rattle.pl_frame.specs.Schema.{Entry}
use Rattle.pl_frame.specs.declared.error.FaultKind.{FaultKind}
use Rattle.pl_frame.specs.declared.error.ComputeFault.TheVariants as compute_fault
use Rattle.pl_frame.specs.declared.error.PolarsError.TheVariants as error
use Rattle.pl_options.specs.FirstCause.{IsFirstCause}
use Rattle.pl_cells.specs.Cells.{value_of}
use Rattle.pl_cells.specs.Columns.{field_in}
use Rattle.pl_options.specs.declared.read_options.CsvReadOptions.{CsvReadOptions}
use Rattle.pl_options.specs.declared.row_index.RowIndex.{RowIndex}
use Rattle.pl_options.specs.Text.{marks_of, comment_of}
use Rattle.pl_rows.specs.Cells.{RowRules, cell}
use Rattle.pl_rows.specs.Columns.{entries_in, frame_of_rows}
use Rattle.pl_rows.specs.Plan.{Columns}
use Rattle.pl_rows.specs.Ranges.{limited}
use Rattle.pl_rows.specs.Rows.{first_fault, first_faulty}
use Rattle.pl_rows.proofs.RangeLaws.{rows-nil}
use Rattle.pl_table.specs.Rows.{Row, rows}
use Rattle.pl_read.specs.Batches.{index_behind}
use Rattle.pl_read.specs.Options.{rules_of, data_of}
use Rattle.pl_read.specs.Projection.{projected}
use Rattle.pl_read.specs.Reading.{frame_of}
use Rattle.pl_read.specs.Refusals.{faulty_record, numbers_past, codes_past, index_past, read_causes}
use Rattle.pl_read.specs.Rows.{columns_read, rows_in, data_columns, with_index}
use Rattle.pl_read.proofs.CauseLaws.{first_some-front}
use Rattle.pl_read.proofs.LimitLaws.{numbers_past-fewer}
use Rattle.pl_read.proofs.SelectionLaws.{each-none}
use Rattle.pl_read.specs.SettleGiven.{given_schema}
use Rattle.pl_seek.specs.Building.{is_wrong, asks_nothing}
use Rattle.pl_seek.specs.Parts.{fault_in_rows}
use Rattle.pl_seek.specs.Laws.{SlicesArePartsOfTheWholeRead}
use Rattle.pl_seek.proofs.BuildLaws.{settled-given}

-- the columns of a part of rows
columns-part : (rules : RowRules) (s n : ℕ) (given : List Row) (columns : List (ℕ × Entry)) → frame_of_rows rules columns (take n (drop s given)) ≡ sliced s n (frame_of_rows rules columns given)
columns-part rules s n given [] = refl
columns-part rules s n given (column ∷ columns) =
    let name : List ℕ = column.1.0 in
    let type : DataType = column.1.1 in
    let value : Row → Option Scalar = λ row. value_of (cell rules column.0 type (field_in row.fields column.0)) in
    ap (λ (values : List (Option Scalar)). record { name = name; dtype = type; values = values } ∷ frame_of_rows rules columns (take n (drop s given)))
    (sym (take-map value n (drop s given)) ∙ ap (take n) (sym (drop-map value s given)))
    ∙ ap (λ (others : List ColumnValue). record { name = name; dtype = type; values = take n (drop s (map value given)) } ∷ others) (columns-part rules s n given columns)

-- the numbers of a part of rows
numbers-first : {X : Type 0} (f : ℕ → X) (a n : ℕ) (given : List Row) → map f (range_with_len a (length (take n given))) ≡ take n (map f (range_with_len a (length given)))
numbers-first f a zero given = refl
numbers-first f a (suc n) [] = refl
numbers-first f a (suc n) (row ∷ given) = ap (λ l. f a ∷ l) (numbers-first f (a + 1) n given)

numbers-part : {X : Type 0} (f : ℕ → X) (a s n : ℕ) (given : List Row) → map f (range_with_len (a + s) (length (take n (drop s given)))) ≡ take n (drop s (map f (range_with_len a (length given))))
numbers-part f a zero n given = ap (λ k. map f (range_with_len k (length (take n given)))) (omega arith) ∙ numbers-first f a n given
numbers-part f a (suc s) zero [] = refl
numbers-part f a (suc s) (suc n) [] = refl
numbers-part f a (suc s) n (row ∷ given) = ap (λ k. map f (range_with_len k (length (take n (drop s given))))) (omega arith) ∙ numbers-part f (a + 1) s n given

-- the columns behind their row index
frame-part : (index : Option RowIndex) (rules : RowRules) (s n : ℕ) (given : List Row) (columns : List (ℕ × Entry))
    → with_index (index_behind s index) (length (take n (drop s given))) (frame_of_rows rules columns (take n (drop s given))) ≡ sliced s n (with_index index (length given) (frame_of_rows rules columns given))
frame-part None rules s n given columns = columns-part rules s n given columns
frame-part (Some index) rules s n given columns =
    ap (λ (values : List (Option Scalar)). record { name = index.name; dtype = dtype.UInt64; values = values } ∷ frame_of_rows rules columns (take n (drop s given)))
    (numbers-part (λ k. Some (Number (pos k))) index.offset s n given)
    ∙ ap (λ (others : List ColumnValue). record { name = index.name; dtype = dtype.UInt64; values = take n (drop s (row_numbers index.offset (length given))) } ∷ others) (columns-part rules s n given columns)

-- no limit of rows is given
unlimited : (o : CsvReadOptions) → is_wrong o ≡ false → o.n_rows ≡ None
unlimited o right = by (is_none o.schema) o.n_rows right
  where
    by : (t : Bool) (rows : Option ℕ) → (t || (is_some rows || asks_nothing o)) ≡ false → rows ≡ None
    by t None right = refl
    by true (Some n) right = absurd (cc)
    by false (Some n) right = absurd (cc)

-- ---- what stands against it

-- no fault among the first rows, nor among the last ones
sound-first : (rules : RowRules) (columns : Columns) (k j n : ℕ) (given : List Row) → first_faulty rules columns k given ≡ None → first_faulty rules columns j (take n given) ≡ None
sound-first rules columns k j zero given none = refl
sound-first rules columns k j (suc n) [] none = refl
sound-first rules columns k j (suc n) (row ∷ given) none = by (first_fault rules columns row) none (sound-first rules columns (k + 1) (j + 1) n given)
  where
    by : (found : Option (ℕ × FaultKind))
        → ◌≡◌ {A = Option (ℕ × (ℕ × FaultKind))} (elim found [ Some f ↦ Some (k, f) | None ↦ first_faulty rules columns (k + 1) given ]) None
        → (first_faulty rules columns (k + 1) given ≡ None → first_faulty rules columns (j + 1) (take n given) ≡ None)
        → ◌≡◌ {A = Option (ℕ × (ℕ × FaultKind))} (elim found [ Some f ↦ Some (j, f) | None ↦ first_faulty rules columns (j + 1) (take n given) ]) None
    by (Some f) none others = cc
    by None none others = others none

sound-part : (rules : RowRules) (columns : Columns) (k j s n : ℕ) (given : List Row) → first_faulty rules columns k given ≡ None → first_faulty rules columns j (take n (drop s given)) ≡ None
sound-part rules columns k j zero n given none = sound-first rules columns k j n given none
sound-part rules columns k j (suc s) zero [] none = refl
sound-part rules columns k j (suc s) (suc n) [] none = refl
sound-part rules columns k j (suc s) n (row ∷ given) none = by (first_fault rules columns row) none (sound-part rules columns (k + 1) j s n given)
  where
    by : (found : Option (ℕ × FaultKind))
        → ◌≡◌ {A = Option (ℕ × (ℕ × FaultKind))} (elim found [ Some f ↦ Some (k, f) | None ↦ first_faulty rules columns (k + 1) given ]) None
        → (first_faulty rules columns (k + 1) given ≡ None → first_faulty rules columns j (take n (drop s given)) ≡ None) → first_faulty rules columns j (take n (drop s given)) ≡ None
    by (Some f) none others = absurd (cc)
    by None none others = others none

unmapped : {X Y : Type 0} (f : X → Y) (x : Option X) → option_map f x ≡ None → x ≡ None
unmapped f None none = refl
unmapped f (Some x) none = cc

module _ (o : CsvReadOptions) (input : List ℕ) (free : o.n_rows ≡ None) (first : IsFirstCause (read_causes o (given_schema o) input) o.parse_options None) where
  abbrev all : List Row
  all = rows (marks_of o.parse_options) (comment_of o.parse_options) (unwrap_or (data_of o input) [])

  abbrev rules : RowRules
  rules = rules_of o (given_schema o)

  abbrev Sound : Option (List ℕ) → Type 0
  Sound found =
      let given = rows (marks_of o.parse_options) (comment_of o.parse_options) (unwrap_or found []) in
      (first_faulty rules (columns_read o (given_schema o)) 0 given ≡ None) × (0 < length given → numbers_past o.row_index (length given) ≡ None)

  all-sound : Sound (data_of o input)
  all-sound =
      let each = each-none (read_causes o (given_schema o) input first.is_dialect) (sym first.is) in
      by (data_of o input) each.1.1.1.1.1.1.1.1.1.1.1.1.0 each.1.1.1.1.1.1.1.1.1.1.1.1.1.0
    where
      by : (found : Option (List ℕ)) → option_and_then (faulty_record o (given_schema o)) found ≡ None
          → option_and_then (λ records. index_past o.row_index (length (rows_in o records)) (data_columns o (given_schema o) records)) found ≡ None → Sound found
      by None sound numbered =
          let nil = rows-nil (marks_of o.parse_options) (comment_of o.parse_options) in
          (ap (first_faulty rules (columns_read o (given_schema o)) 0) nil, λ some. absurd (omega (arith, some, ap length nil)))
      by (Some records) sound numbered =
          let given = rows (marks_of o.parse_options) (comment_of o.parse_options) records in
          let same : rows_in o records ≡ given = ap (λ limit. limited limit given) free in (
            sym (ap (first_faulty rules (columns_read o (given_schema o)) 0) same) ∙ unmapped (λ found. error.ComputeError (compute_fault.Record found.0 found.1.0 found.1.1)) (first_faulty rules (columns_read o (given_schema o)) 0 (rows_in o records)) sound,
            λ some.
                sym (ap (λ rs. numbers_past o.row_index (length rs)) same)
                ∙ first_some-front (numbers_past o.row_index (length (rows_in o records))) (map codes_past (data_columns o (given_schema o) records)) numbered,
          )

  module _ (start count : ℕ) where
    slice-sound : fault_in_rows o start (take count (drop start all)) ≡ None
    slice-sound =
        ap (option_map (λ found. error.ComputeError (compute_fault.Record found.0 found.1.0 found.1.1))) (sound-part rules (columns_read o (given_schema o)) 0 start start count all all-sound.0)

    slice-numbered : 0 < length (take count (drop start all)) → numbers_past o.row_index (start + length (take count (drop start all))) ≡ None
    slice-numbered some =
        let taken = length-take count (drop start all) in
        let left = length-drop start all in
        numbers_past-fewer o.row_index (length all) (start + length (take count (drop start all))) (omega (arith, some, taken, left)) (all-sound.1 (omega (arith, some, taken, left)))

pub slices-of-whole : SlicesArePartsOfTheWholeRead
slices-of-whole o input frame start count may read =
    let all = rows (marks_of o.parse_options) (comment_of o.parse_options) (unwrap_or (data_of o input) []) in
    let free = unlimited o may.0 in
    let first = subst (λ (schema : List Entry). IsFirstCause (read_causes o schema input) o.parse_options None) (settled-given o input may.0) read.0 in
    let same : frame ≡ with_index o.row_index (length all) (frame_of_rows (rules_of o (given_schema o)) (entries_in (given_schema o) (projected o (given_schema o))) all) =
    read.1 ∙ ap (λ schema. frame_of o schema input) (settled-given o input may.0)
    ∙ ap (λ limit. with_index o.row_index (length (limited limit all)) (frame_of_rows (rules_of o (given_schema o)) (entries_in (given_schema o) (projected o (given_schema o))) (limited limit all))) free in
    record {
      frame_is = frame-part o.row_index (rules_of o (given_schema o)) start count all (entries_in (given_schema o) (projected o (given_schema o))) ∙ ap (sliced start count) (sym same);
      sound = slice-sound o input free first start count;
      numbered = slice-numbered o input free first start count;
    }
