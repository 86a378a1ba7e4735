-- A slice of an input that has an index.
use Rattle.std.proofs.Common.{◌≡◌, ℕ, suc, zero, ◌+◌, ◌-◌, ◌%◌, ◌<◌, ◌≤◌, ◌⊎◌, ◌==◌, ◌&&◌, nat_lt, true, List, [], ◌∷◌, length, take, drop, Option, Some, None, refl, sym, ap, ◌∙◌, subst, arith, inl, inr}
use Rattle.std.specs.Prelude.{if◌then◌else◌, unwrap_or, Result, Ok, Err, OnOk}
use Rattle.std.specs.Option.{option_and_then}
use Rattle.std.proofs.lemmas.Bool.{lt-ltb}
use Rattle.std.proofs.lemmas.List.{drop_all, length-map}
use Rattle.pl_frame.specs.Dialect.{IsDialect}
use Rattle.pl_frame.specs.Frame.{ColumnValue, height_of}
use Rattle.pl_frame.specs.declared.error.PolarsError.{PolarsError}
use Rattle.pl_frame.specs.declared.error.PolarsError.TheVariants as error
use Rattle.pl_options.specs.declared.read_options.CsvReadOptions.{CsvReadOptions}
use Rattle.pl_options.specs.declared.row_index.RowIndex.{RowIndex}
use Rattle.pl_options.specs.FirstCause.{when}
use Rattle.pl_options.specs.Text.{marks_of, comment_of, skips_of}
use Rattle.pl_scan.proofs.StartLaws.{IsEndOf-data_left, IsEndOf-place}
use Rattle.pl_rows.proofs.RangeLaws.{rows-nil}
use Rattle.pl_rows.specs.Columns.{entries_in, frame_of_rows}
use Rattle.pl_table.specs.Rows.{Row, rows}
use Rattle.pl_read.specs.Batches.{index_behind}
use Rattle.pl_read.specs.Options.{keeps_ends, rules_of, data_of}
use Rattle.pl_read.specs.Projection.{projected}
use Rattle.pl_read.specs.Refusals.{index_past, nothing_read, causes_before_rows}
use Rattle.pl_read.specs.Rows.{with_index}
use Rattle.pl_read.specs.SettleGiven.{given_schema}
use Rattle.pl_read.proofs.CauseLaws.{first_some-one, first_some-behind, first_some-here}
use Rattle.pl_read.proofs.SelectionLaws.{each-none}
use Rattle.pl_seek.specs.Binding.{Binding}
use Rattle.pl_seek.specs.Building.{MayIndex, causes_before, index_in}
use Rattle.pl_seek.specs.PartSteps.{AreColumns}
use Rattle.pl_seek.specs.Parts.{rows_from, columns_of_rows, fault_in_rows, IsReadFault}
use Rattle.pl_seek.specs.Slices.{range_in, slice_rows, slice_cause, slice_frame}
use Rattle.pl_seek.specs.SliceSteps.{past_behind}
use Rattle.pl_seek.specs.declared.fault.SeekFault.{SeekFault}
use Rattle.pl_seek.specs.declared.fault.SeekFault.TheVariants as fault
use Rattle.pl_seek.proofs.PartLaws.{dialect-early, rows-fit}
use Rattle.pl_seek.proofs.SliceRowLaws.{gives}

-- ---- the data of an input

abbrev pub left : CsvReadOptions → List ℕ → List ℕ
left o input = unwrap_or (data_of o input) []

-- it is the last bytes of the input
left-placed : (o : CsvReadOptions) (input : List ℕ) → (length (left o input) ≤ length input) × (drop (length input - length (left o input)) input ≡ left o input)
left-placed o input = by (data_of o input) refl
  where
    by : (found : Option (List ℕ)) → data_of o input ≡ found → (length (unwrap_or found []) ≤ length input) × (drop (length input - length (unwrap_or found [])) input ≡ unwrap_or found [])
    by None is = (omega arith, drop_all (length input - 0) input (omega arith))
    by (Some records) is = IsEndOf-place input records (IsEndOf-data_left (skips_of o) (keeps_ends o) (marks_of o.parse_options) (comment_of o.parse_options) input records is)

module _ (o : CsvReadOptions) (input : List ℕ) (may : MayIndex o input) where
  dialect : IsDialect (marks_of o.parse_options) (comment_of o.parse_options)
  dialect = dialect-early o (causes_before_rows o (given_schema o) input) may.1

  -- a column is read, or there is no data
  reads : (0 < length (projected o (given_schema o))) ⊎ (left o input ≡ [])
  reads =
      let each = each-none (causes_before o input may.1.is_dialect) (sym may.1.is) in
      by (data_of o input) each.1.1.1.1.1.1.1.1.1.1.1.0
    where
      by_size : (n : ℕ) (records : List ℕ) → when (n == 0 && nat_lt 0 (length records)) error.EmptyProjection ≡ None → (0 < n) ⊎ (records ≡ [])
      by_size zero [] none = inr refl
      by_size zero (x ∷ xs) none = let test : nat_lt 0 (length (x ∷ xs)) ≡ true = lt-ltb 0 (length (x ∷ xs)) (omega arith) in let there = sym (ap (λ t. when t error.EmptyProjection) test) ∙ none in absurd (cc)
      by_size (suc n) records none = inl (omega arith)

      by : (found : Option (List ℕ)) → option_and_then (nothing_read o (given_schema o)) found ≡ None → (0 < length (projected o (given_schema o))) ⊎ (unwrap_or found [] ≡ [])
      by None none = inr refl
      by (Some records) none = by_size (length (projected o (given_schema o))) records none

  -- ---- its rows

  module _ (every : ℕ) (start count : ℕ) where
    -- what the range of a slice is, from groups of so many records
    pub record IsRange (range : ℕ × ℕ) : Type 0 where
      pub rising : range.0 ≤ range.1
      pub fits : range.1 ≤ length input
      pub rows_are : rows_from o (start % every) count (take (range.1 - range.0) (drop range.0 input)) ≡ slice_rows o input start count

    is-range : 0 < every → (range : ℕ × ℕ) → range ≡ range_in (index_in o every input) (length input) start count → IsRange range
    is-range some range is =
        let placed = left-placed o input in
        let found =
        gives (marks_of o.parse_options) (comment_of o.parse_options) dialect.distinct dialect.prefix input (left o input) placed.0 placed.1 every some start count (index_in o every input) refl refl refl in
        subst IsRange (sym is) (record { rising = found.rising; fits = found.fits; rows_are = found.rows_are })

    -- that of a binding
    pub range-at : (size : ℕ) (v : Binding) (range : ℕ × ℕ) → (every ≡ size) × (0 < every) → ◌≡◌ {A = Binding} (record { input = input; read = o; every = size }) v
        → range ≡ range_in (index_in v.read v.every v.input) (length v.input) start count → IsRange range
    range-at size v range is view range_is =
        is-range is.1 range
        (range_is ∙ sym (ap (λ (w : Binding). range_in (index_in w.read w.every w.input) (length w.input) start count) view) ∙ ap (λ e. range_in (index_in o e input) (length input) start count) (sym is.0))

  module _ (start count : ℕ) where
    pub given-fits : (bound : ℕ) → start < bound → length input < bound → start + length (slice_rows o input start count) < bound
    given-fits bound one all = rows-fit o start count bound (left o input) dialect.distinct one (omega (arith, (left-placed o input).0, all))

    none-given : left o input ≡ [] → slice_rows o input start count ≡ []
    none-given none =
        let nil = ap (rows (marks_of o.parse_options) (comment_of o.parse_options)) none ∙ rows-nil (marks_of o.parse_options) (comment_of o.parse_options) in
        ap (λ rs. take count (drop start rs)) nil ∙ ap (take count) (drop_all start [] (omega arith)) ∙ take-none count
      where
        take-none : (n : ℕ) → take {A = Row} n [] ≡ []
        take-none zero = refl
        take-none (suc n) = refl

    -- the columns have as many cells as there are rows
    pub given-height : height_of (columns_of_rows o (slice_rows o input start count)) ≡ length (slice_rows o input start count)
    given-height = by (projected o (given_schema o)) reads
      where
        by : (places : List ℕ) → (0 < length places) ⊎ (left o input ≡ [])
            → height_of (frame_of_rows (rules_of o (given_schema o)) (entries_in (given_schema o) places) (slice_rows o input start count)) ≡ length (slice_rows o input start count)
        by [] (inl some) = absurd (omega arith)
        by [] (inr none) = sym (ap length (none-given none))
        by (place ∷ places) _ = length-map (slice_rows o input start count) _

-- ---- what stands against it

module _ (o : CsvReadOptions) (start : ℕ) where
  -- the cause behind those of the rows
  abbrev past : List Row → Option PolarsError
  past given = if nat_lt 0 (length given) then index_past o.row_index (start + length given) (columns_of_rows o given) else None

  pub cause-behind : (given : List Row) → fault_in_rows o start given ≡ None → past given ≡ slice_cause o start given
  cause-behind given none = sym (first_some-behind (fault_in_rows o start given) (past given ∷ []) none ∙ first_some-one (past given))

  pub cause-first : (given : List Row) (refusal : SeekFault) → IsReadFault (fault_in_rows o start given) refusal → IsReadFault (slice_cause o start given) refusal
  cause-first given fault.Options is = is
  cause-first given (fault.Polars cause) is = first_some-here (fault_in_rows o start given) (past given ∷ []) cause is
  cause-first given fault.Format is = is
  cause-first given fault.Input is = is
  cause-first given fault.Settings is = is
  cause-first given (fault.Places number) is = is
  cause-first given fault.OutOfMemory is = tt

-- ---- what is answered

pub on-ok : {T E : Type 0} {P Q : Type 0} (r : Result T E) → (P → Q) → OnOk r P → OnOk r Q
on-ok (Ok x) f p = f p
on-ok (Err e) f p = tt

-- columns of rows that are those of a slice
module _ (o : CsvReadOptions) (start : ℕ) {given of_part : List Row} (same : of_part ≡ given) {columns : List ColumnValue} (are : AreColumns o of_part columns) (height : height_of (columns_of_rows o given) ≡ length given)
    {index : Option RowIndex} (index_is : index ≡ o.row_index) where
  columns-given : columns ≡ columns_of_rows o given
  columns-given = are.columns_are ∙ ap (columns_of_rows o) same

  pub height-given : height_of columns ≡ length given
  height-given = ap height_of columns-given ∙ height

  pub frame-given : with_index (index_behind start index) (height_of columns) columns ≡ slice_frame o start given
  frame-given = λ i. with_index (index_behind start (index_is i)) (height-given i) (columns-given i)

  pub past-given : fault_in_rows o start given ≡ None → past_behind index start columns ≡ slice_cause o start given
  past-given none =
      (λ i. if nat_lt 0 (height-given i) then index_past (index_is i) (start + height-given i) (columns-given i) else None) ∙ cause-behind o start given none
