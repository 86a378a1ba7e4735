-- What is written is read again.
use Rattle.std.proofs.Common.{◌≡◌, ◌≢◌, ℕ, zero, suc, ◌+◌, ◌^◌, ◌<◌, ◌≤◌, Bool, true, false, cond, not, ◌&&◌, ◌||◌, ◌==◌, nat_eq, nat_lt, nat_le, List, [], ◌∷◌, length, map, refl, sym, ◌∙◌, ap, subst, arith}
use Rattle.std.specs.Prelude.{Option, None, Some, Result, Ok, unwrap_or, filter, count_by, is_none}
use Rattle.std.specs.List.{AllByRecursion, range_with_len}
use Rattle.std.specs.Option.{option_map, option_and_then}
use Rattle.std.proofs.lemmas.Bool.Decides.{nat_tests}
use Rattle.std.proofs.lemmas.List.{length-map}
use Rattle.std.proofs.lemmas.List.FromFn.{length-range_with_len}
use Rattle.std.proofs.lemmas.List.Sums.{sum_by-cons}
use Rattle.pl_frame.specs.declared.data_type.DataType.{DataType}
use Rattle.pl_frame.specs.declared.data_type.DataType.TheVariants as dtype
use Rattle.pl_frame.specs.declared.error.PolarsError.{PolarsError}
use Rattle.pl_frame.specs.declared.error.PolarsError.TheVariants as error
use Rattle.pl_frame.specs.declared.error.ComputeFault.TheVariants as compute_fault
use Rattle.pl_frame.specs.declared.error.NoDataFault.TheVariants as no_data
use Rattle.pl_frame.specs.declared.error.OpFault.TheVariants as op_fault
use Rattle.pl_frame.specs.declared.error.NamePlace.TheVariants as name_place
use Rattle.pl_frame.specs.Columns.{dictionary}
use Rattle.pl_frame.specs.Frame.{ColumnValue, IsFrame, height_of}
use Rattle.pl_frame.specs.FrameParts.{schema_of}
use Rattle.pl_frame.specs.Schema.{Entry}
use Rattle.pl_text.specs.FrameText.{WriteOptions, written_null, row_lines, text_of_frame}
use Rattle.pl_frame.specs.Types.{is_readable}
use Rattle.pl_scan.specs.Start.{skips, data_left}
use Rattle.pl_cells.specs.InitBuffers.{entry_at}
use Rattle.pl_cells.specs.NullValues.{compiled_for, unknown_name}
use Rattle.pl_options.specs.declared.read_options.CsvReadOptions.{CsvReadOptions}
use Rattle.pl_options.specs.FirstCause.{when, first_some}
use Rattle.pl_infer.specs.Schemas.{unreadable, is_categorical}
use Rattle.pl_rows.specs.Columns.{entries_in, columns_in, frame_of_rows}
use Rattle.pl_rows.specs.Rows.{first_faulty}
use Rattle.pl_table.specs.Rows.{Row, ended_row}
use Rattle.pl_round_trip.specs.RoundTrip.{line_marks}
use Rattle.pl_round_trip.specs.Fits.{FitsColumn, Fits}
use Rattle.pl_round_trip.specs.Returning.{nulls_of, row_fields}
use Rattle.pl_round_trip.proofs.FitRowLaws.{fitting-rows}
use Rattle.pl_round_trip.proofs.HeadTextLaws.{data-returns}
use Rattle.pl_read.specs.CsvReader.{IsMeaning, AnswersUnlessFailed}
use Rattle.pl_read.specs.Options.{data_of, rules_of, settled_schema}
use Rattle.pl_read.specs.Projection.{times_asked, projected, doubled, greatest}
use Rattle.pl_read.specs.Reading.{IsRead}
use Rattle.pl_read.specs.Refusals.{is_zero, has_wrong_option, unknown, out_of_bounds, duplicate, nothing_read, faulty_record, codes_past, index_past, overrides, read_causes}
use Rattle.pl_read.specs.RoundTrip.{null_values_of, matching, ComesBack, ReturnsFrames}
use Rattle.pl_read.specs.Rows.{rows_in, data_columns}
use Rattle.pl_read.proofs.PlaceLaws.{find-range, first_unreadable-none}
use Rattle.pl_read.proofs.ReturningLaws.{all-at, there, entry-is, ReadsWritten, rows-sound, columns-return}
use Rattle.pl_read.proofs.SelectionLaws.{all-projected, none-first}

-- ---- all columns are asked once

-- a number below a range does not stand in it
times-below : (k a n : ℕ) → k < a → count_by (nat_eq k) (range_with_len a n) ≡ 0
times-below k a zero low = refl
times-below k a (suc n) low = rw (sum_by-cons (λ x. cond (nat_eq k x) 1 0) a (range_with_len (a + 1) n)) (by (nat_eq k a) other (times-below k (a + 1) n (omega arith)))
  where
    other : nat_eq k a ≡ false
    other = grind (arith, nat_tests, low)

    by : (t : Bool) → t ≡ false → count_by (nat_eq k) (range_with_len (a + 1) n) ≡ 0 → cond t 1 0 + count_by (nat_eq k) (range_with_len (a + 1) n) ≡ 0
    by false e none = omega arith
    by true e none = cc

-- any stands there once at most
times-once : (k a n : ℕ) → count_by (nat_eq k) (range_with_len a n) ≤ 1
times-once k a zero = omega arith
times-once k a (suc n) = rw (sum_by-cons (λ x. cond (nat_eq k x) 1 0) a (range_with_len (a + 1) n)) (by (nat_eq k a) refl (times-once k (a + 1) n))
  where
    by : (t : Bool) → nat_eq k a ≡ t → count_by (nat_eq k) (range_with_len (a + 1) n) ≤ 1 → cond t 1 0 + count_by (nat_eq k) (range_with_len (a + 1) n) ≤ 1
    by true e few = let same : k ≡ a = grind (arith, nat_tests, e) in omega (arith, times-below k (a + 1) n (omega arith))
    by false e few = omega arith

none-twice : (width : ℕ) → doubled (range_with_len 0 width) width ≡ None
none-twice width =
    find-range (λ place. nat_lt 1 (times_asked (range_with_len 0 width) place)) 0 width
    (λ k below. let few = times-once (0 + k) 0 width in grind (arith, nat_tests, few))

none-past : (width a n : ℕ) → a + n ≤ width → filter (nat_le width) (range_with_len a n) ≡ []
none-past width a zero fit = refl
none-past width a (suc n) fit =
    let below : nat_le width a ≡ false = grind (arith, nat_tests, fit) in
    ap (λ t. cond t (a ∷ filter (nat_le width) (range_with_len (a + 1) n)) (filter (nat_le width) (range_with_len (a + 1) n))) below ∙ none-past width (a + 1) n (omega arith)

-- ---- the types and the null texts

nulls-are : (null : List ℕ) (schema : List Entry) → option_map (λ values. compiled_for values schema) (null_values_of null) ≡ nulls_of null
nulls-are [] schema = refl
nulls-are (x ∷ null) schema = refl

all-known : (null : List ℕ) (schema : List Entry) → option_and_then (unknown_name schema) (null_values_of null) ≡ None
all-known [] schema = refl
all-known (x ∷ null) schema = refl

few-codes : (type : DataType) (n : ℕ) → (type ≡ dtype.Categorical → n ≤ 2 ^ 32) → (is_categorical type && nat_lt (2 ^ 32) n) ≡ false
few-codes dtype.Categorical n few = let bound = few refl in grind (arith, nat_tests, bound)
few-codes type n few = refl

codes-fit : (write : WriteOptions) (columns : List ColumnValue) → AllByRecursion (FitsColumn write) columns → first_some (map codes_past columns) ≡ None
codes-fit write [] all = refl
codes-fit write (column ∷ columns) all =
    let texts = length (dictionary column.dtype column.values) in
    ap (λ (t : Bool). first_some (when t (error.ComputeError (compute_fault.Index 0 texts)) ∷ map codes_past columns)) (few-codes column.dtype texts all.0.codes) ∙ codes-fit write columns all.1

-- ---- the read

module _ (read : CsvReadOptions) (write : WriteOptions) (columns : List ColumnValue) (frame : IsFrame columns) (fits : Fits write columns) where
  abbrev o : CsvReadOptions
  o = matching read write columns

  abbrev schema : List Entry
  schema = schema_of columns

  abbrev input : List ℕ
  input = text_of_frame write columns

  abbrev data_lines : List ℕ
  data_lines = row_lines write columns 0 (height_of columns)

  abbrev given : List Row
  given = map (λ row. ended_row (row_fields write columns (fitting-rows write columns frame fits).0 row)) (range_with_len 0 (height_of columns))

  width : length schema ≡ length columns
  width = length-map columns (λ (c : ColumnValue). (c.name, c.dtype))

  data-is : data_of o input ≡ Some data_lines
  data-is = ap (λ n. data_left (skips 0 0 write.include_header 0) (nat_le n 1) (line_marks write) None input) width ∙ data-returns write columns frame fits

  all-read : projected o schema ≡ range_with_len 0 (length schema)
  all-read = all-projected o schema

  rows-are : rows_in o data_lines ≡ given
  rows-are = (fitting-rows write columns frame fits).2

  reads : ReadsWritten (rules_of o schema) write
  reads = record { quote = refl; nulls = nulls-are (written_null write) schema; missing = refl }

  frame-is : data_columns o schema data_lines ≡ columns
  frame-is =
      ap (λ (places : List ℕ). frame_of_rows (rules_of o schema) (entries_in schema places) (rows_in o data_lines)) all-read
      ∙ ap (frame_of_rows (rules_of o schema) (entries_in schema (range_with_len 0 (length schema)))) rows-are
      ∙ columns-return (rules_of o schema) write columns (fitting-rows write columns frame fits).0 reads frame fits (fitting-rows write columns frame fits).1

  -- ---- no cause stands against it

  can-read : unreadable schema ≡ None
  can-read =
      ap (option_map (λ column. error.ComputeError (compute_fault.Dtype column)))
      (first_unreadable-none schema
      (λ k below. let found = there columns k (omega (arith, below, width)) in
      ap (λ (e : Entry). not (is_readable e.1)) (entry-is columns k found.0 found.1) ∙ ap not (all-at (FitsColumn write) columns k found.0 fits.each found.1).readable))

  known : unknown o schema ≡ None
  known = ap (λ (name : Option (List ℕ)). option_map error.ColumnNotFound (first_some (name ∷ None ∷ []))) (all-known (written_null write) schema)

  within : out_of_bounds o schema ≡ None
  within = ap (λ (places : List ℕ). option_map (λ place. error.OutOfBounds place (length schema)) (greatest places)) (none-past (length schema) 0 (length schema) (omega arith))

  once : duplicate o schema ≡ None
  once = ap (λ (place : Option ℕ). option_map (λ name. error.Duplicate name name_place.Projection) (first_some (option_map (λ p. (entry_at schema p).0) place ∷ None ∷ []))) (none-twice (length schema))

  some-read : nothing_read o schema data_lines ≡ None
  some-read =
      ap (λ (places : List ℕ). when (length places == 0 && nat_lt 0 (length data_lines)) error.EmptyProjection) all-read
      ∙ ap (λ n. when (n == 0 && nat_lt 0 (length data_lines)) error.EmptyProjection) (length-range_with_len 0 (length schema) ∙ width)
      ∙ by columns
    where
      by : (cs : List ColumnValue) → when (length cs == 0 && nat_lt 0 (length (row_lines write cs 0 (height_of cs)))) error.EmptyProjection ≡ None
      by [] = refl
      by (c ∷ cs) = let some : (length (c ∷ cs) == 0) ≡ false = grind (arith, nat_tests) in rw some refl

  sound : faulty_record o schema data_lines ≡ None
  sound =
      let told : Option _ → Option PolarsError = option_map (λ found. error.ComputeError (compute_fault.Record found.0 found.1.0 found.1.1)) in
      ap (λ (places : List ℕ). told (first_faulty (rules_of o schema) (columns_in schema places) 0 (rows_in o data_lines))) all-read
      ∙ ap (λ (rows : List Row). told (first_faulty (rules_of o schema) (columns_in schema (range_with_len 0 (length schema))) 0 rows)) rows-are
      ∙ ap told (rows-sound (rules_of o schema) write columns (fitting-rows write columns frame fits).0 reads frame fits (fitting-rows write columns frame fits).1 0 0 (height_of columns) (omega arith))

  numbered : index_past o.row_index (length (rows_in o data_lines)) (data_columns o schema data_lines) ≡ None
  numbered = ap (λ (cs : List ColumnValue). first_some (None ∷ map codes_past cs)) frame-is ∙ codes-fit write columns fits.each

  options-right : is_zero read.n_threads ≡ false → (read.chunk_size == 0) ≡ false → has_wrong_option o ≡ false
  options-right workers piece = ap (λ t. t || (read.chunk_size == 0 || false)) workers ∙ ap (λ t. t || false) piece

  few-overrides : overrides o schema ≡ None
  few-overrides =
      let few : nat_lt (length schema) 0 ≡ false = grind (arith, nat_tests) in
      ap (λ (t : Bool). when t (error.InvalidOperation (op_fault.Overrides 0 (length schema)))) few

  causes-none : is_zero read.n_threads ≡ false → (read.chunk_size == 0) ≡ false → first_some (read_causes o schema input true) ≡ None
  causes-none workers piece =
      none-first (read_causes o schema input true) (
        refl,
        (
          ap (λ (t : Bool). when t (error.InvalidOperation op_fault.Option)) (options-right workers piece),
          (
            ap (λ (t : Bool). when t (error.ComputeError compute_fault.Compressed)) fits.start.uncompressed,
            (
              refl,
              (
                refl,
                (
                  few-overrides,
                  (
                    can-read,
                    (
                      known,
                      (
                        ap (λ (d : Option (List ℕ)). when (is_none d) (error.NoData no_data.Skip)) data-is,
                        (
                          within,
                          (
                            once,
                            (
                              ap (option_and_then (nothing_read o schema)) data-is ∙ some-read,
                              (
                                ap (option_and_then (faulty_record o schema)) data-is ∙ sound,
                                (ap (option_and_then (λ records. index_past o.row_index (length (rows_in o records)) (data_columns o schema records))) data-is ∙ numbered, tt),
                              ),
                            ),
                          ),
                        ),
                      ),
                    ),
                  ),
                ),
              ),
            ),
          ),
        ),
      )

  is-read : is_zero read.n_threads ≡ false → (read.chunk_size == 0) ≡ false → IsRead o schema input columns
  is-read workers piece = (
    record { is_dialect = true; tells = fits.options.dialect; is = sym (causes-none workers piece) },
    sym (ap (λ (d : Option (List ℕ)). data_columns o schema (unwrap_or d [])) data-is ∙ frame-is),
  )

counted : (count : Option ℕ) → count ≢ Some 0 → is_zero count ≡ false
counted None some = refl
counted (Some zero) some = absurd (some refl)
counted (Some (suc n)) some = grind (arith, nat_tests)

pub frames-return : (read : CsvReadOptions) (write : WriteOptions) (columns : List ColumnValue) → ComesBack read write columns
    → IsRead read (settled_schema read (text_of_frame write columns)) (text_of_frame write columns) columns
frames-return read write columns back =
    let piece : (read.chunk_size == 0) ≡ false = grind (arith, nat_tests, back.matches.piece) in
    subst (λ (r : CsvReadOptions). IsRead r (settled_schema r (text_of_frame write columns)) (text_of_frame write columns) columns) (sym back.matches.settings)
    (is-read read write columns back.frame back.fits (counted read.n_threads back.matches.workers) piece)

-- so an answer that is complete is that frame
pub returns-frames : (read : CsvReadOptions) (told : Option (List ℕ)) (result : Result (List ColumnValue) PolarsError) (before now : ℕ)
    → ((input : List ℕ) (meaning : Result (List ColumnValue) PolarsError) → told ≡ Some input → IsMeaning read input meaning → AnswersUnlessFailed result meaning before now)
    → ReturnsFrames read told result before now
returns-frames read told result before now complete write columns back is = complete (text_of_frame write columns) (Ok columns) is (frames-return read write columns back)
