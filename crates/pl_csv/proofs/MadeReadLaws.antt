-- A made input has a reference read: no cause stands against it.
use Rattle.std.proofs.Common.{◌≡◌, ℕ, zero, suc, ◌+◌, ◌-◌, ◌<◌, ◌≤◌, true, false, List, [], ◌∷◌, ◌++◌, length, map, take, drop, Option, None, Some, refl, sym, ◌∙◌, ap, inr, arith}
use Rattle.std.specs.Prelude.{◌==◌, ◌||◌, is_none, sum_by}
use Rattle.std.specs.List.{AllByRecursion, filter_map, flat_map, range_with_len}
use Rattle.std.specs.Option.{option_map, option_and_then}
use Rattle.std.proofs.lemmas.Bool.Decides.{nat_tests}
use Rattle.pl_frame.specs.Dialect.{AreDistinct, IsDialect}
use Rattle.pl_frame.specs.declared.data_type.DataType.{DataType}
use Rattle.pl_frame.specs.declared.data_type.DataType.TheVariants as dtype
use Rattle.pl_frame.specs.declared.error.FaultKind.{FaultKind}
use Rattle.pl_frame.specs.declared.error.ComputeFault.TheVariants as compute_fault
use Rattle.pl_frame.specs.declared.error.NoDataFault.TheVariants as no_data
use Rattle.pl_frame.specs.declared.error.OpFault.TheVariants as op_fault
use Rattle.pl_frame.specs.declared.error.PolarsError.TheVariants as error
use Rattle.pl_scan.specs.Fields.{fields, extent}
use Rattle.pl_scan.specs.Start.{data_left}
use Rattle.pl_table.specs.Rows.{Row, rows, ended_row}
use Rattle.pl_cells.specs.Cells.{cell, fault_of}
use Rattle.pl_rows.specs.Cells.{RowRules}
use Rattle.pl_rows.specs.Plan.{Columns}
use Rattle.pl_rows.specs.Rows.{column_fault, first_fault, first_faulty, first_or}
use Rattle.pl_options.specs.FirstCause.{when, first_some}
use Rattle.pl_csv.specs.MadeInput.{made_names, made_fields, made_line, made_lines, made_input}
use Rattle.pl_csv.specs.Making.{made_schema, made_options, MadeInputIsRead}
use Rattle.pl_read.specs.Options.{data_of}
use Rattle.pl_read.specs.Reading.{frame_of}
use Rattle.pl_read.specs.Refusals.{has_wrong_option, nothing_read, faulty_record, index_past, read_causes}
use Rattle.pl_read.specs.Rows.{rows_in, data_columns}
use Rattle.pl_round_trip.specs.RoundTrip.{FieldsReturn, ValuesAreFields, RowsReturn, LinesReturn, IsLine, line_of}
use Rattle.pl_csv.proofs.MadeCellLaws.{comma_marks, plain_reading, never_null, IsSound, IsSoundRow, sound_row}

apart : AreDistinct comma_marks
apart = (λ e. omega (arith, e), (λ e. omega (arith, e), λ e. omega (arith, e)))

dialect : IsDialect comma_marks None
dialect = record {
  separator = (omega arith, λ e. omega (arith, e));
  line_end = omega arith;
  quote = (omega arith, λ e. omega (arith, e));
  distinct = apart;
  prefix = tt;
}

-- ---- the rows

-- the fields of so many rows from one on
abbrev pub rows_from : ℕ → ℕ → List (List (List ℕ))
rows_from from count = map made_fields (range_with_len from count)

line-of : (xs : List ℕ) → flat_map (λ row. made_line (made_fields row)) xs ≡ flat_map (line_of comma_marks) (map made_fields xs)
line-of [] = refl
line-of (x ∷ xs) = ap (λ l. made_line (made_fields x) ++ l) (line-of xs)

sound_line : (row : ℕ) → IsSoundRow row → IsLine comma_marks (made_fields row)
sound_line row sound = (omega arith, (sound.number.is_field, (sound.name.is_field, (sound.day.is_field, (sound.amount.is_field, tt)))))

-- ---- the first fault of a row

-- how a made input is read
abbrev pub made_rules : RowRules
made_rules = record { quote_char = Some 34; reading = plain_reading; nulls = None; truncate_ragged_lines = false }

abbrev pub made_columns : Columns
made_columns = record { read = (0, dtype.Int64) ∷ (1, dtype.String) ∷ (2, dtype.Date) ∷ (3, dtype.Decimal None (Some 2)) ∷ []; width = 4 }

-- a sound field has no fault
no_fault : (place : ℕ) (type : DataType) (text : List ℕ) → IsSound type text
    → elim (fault_of (cell plain_reading never_null (Some 34) type text)) as (λ x. Option (ℕ × FaultKind)) [ None ↦ None | Some kind ↦ Some (place, kind) ] ≡ None
no_fault place type text sound = ap (λ c. elim (fault_of c) as (λ x. Option (ℕ × FaultKind)) [ None ↦ None | Some kind ↦ Some (place, kind) ]) sound.is_cell

filter_map-none : {X Y : Type 0} (f : X → Option Y) (xs : List X) → AllByRecursion (λ x. f x ≡ None) xs → filter_map f xs ≡ []
filter_map-none f [] all = refl
filter_map-none f (x ∷ xs) all = rw all.0 (filter_map-none f xs all.1)

row_sound : (row : ℕ) → IsSoundRow row → first_fault made_rules made_columns (ended_row (made_fields row)) ≡ None
row_sound row sound =
    ap (first_or None)
    (filter_map-none (column_fault made_rules (made_fields row)) made_columns.read (
      no_fault 0 dtype.Int64 _ sound.number,
      (no_fault 1 dtype.String _ sound.name, (no_fault 2 dtype.Date _ sound.day, (no_fault 3 (dtype.Decimal None (Some 2)) _ sound.amount, tt))),
    ))

-- a row without a fault is passed
no_fault_here : (number : ℕ) (row : Row) (others : List Row) → first_fault made_rules made_columns row ≡ None → first_faulty made_rules made_columns number (row ∷ others) ≡ first_faulty made_rules made_columns (number + 1) others
no_fault_here number row others none =
    ap (λ found. elim found as (λ x. Option (ℕ × (ℕ × FaultKind))) [ Some f ↦ Some (number, f) | None ↦ first_faulty made_rules made_columns (number + 1) others ]) none

-- ---- the data

module _ (lines_return : LinesReturn) where
  header_fields : (n : ℕ) → fields comma_marks (made_input n) ≡ made_names
  header_fields n = lines_return comma_marks made_names (10 ∷ made_lines n) apart (omega arith) (inr (refl, refl), (inr (refl, refl), (inr (refl, refl), (inr (refl, refl), tt)))) (inr (made_lines n, refl))

  header_extent : (n : ℕ) → extent comma_marks (made_input n) ≡ 18
  header_extent n = ap (λ (fs : List (List ℕ)). sum_by length fs + (length fs - 1)) (header_fields n)

  -- the lines of the rows stand behind the header
  data_is : (n workers piece : ℕ) → data_of (made_options workers piece) (made_input n) ≡ Some (made_lines n)
  unfolding data_left
  data_is n workers piece = ap (λ k. Some (drop (length (take k (made_input n)) + 1) (made_input n))) (header_extent n)

-- ---- no cause

first_some-none : {X : Type 0} (causes : List (Option X)) → AllByRecursion (λ cause. cause ≡ None) causes → first_some causes ≡ None
first_some-none [] all = refl
first_some-none (cause ∷ causes) all = rw all.0 (first_some-none causes all.1)

right_options : (workers piece : ℕ) → 0 < workers → 0 < piece → has_wrong_option (made_options workers piece) ≡ false
right_options workers piece some more =
    let no_workers : (workers == 0) ≡ false = grind (arith, nat_tests) in
    let no_bytes : (piece == 0) ≡ false = grind (arith, nat_tests) in
    (λ i. no_workers i || (no_bytes i || false))

module _ (fields_return : FieldsReturn) (values_are : ValuesAreFields) (lines_return : LinesReturn) (rows_return : RowsReturn) where
  sound_lines : (from count : ℕ) → from + count ≤ 1000000 → AllByRecursion (IsLine comma_marks) (rows_from from count)
  sound_lines from zero few = tt
  sound_lines from (suc count) few = (sound_line from (sound_row fields_return values_are from (omega (arith, few))), sound_lines (from + 1) count (omega (arith, few)))

  rows_are : (n : ℕ) → n ≤ 1000000 → rows comma_marks None (made_lines n) ≡ map ended_row (rows_from 0 n)
  rows_are n few = ap (rows comma_marks None) (line-of (range_with_len 0 n)) ∙ rows_return comma_marks (rows_from 0 n) apart (sound_lines 0 n (omega (arith, few)))

  none_faulty : (number from count : ℕ) → from + count ≤ 1000000 → first_faulty made_rules made_columns number (map ended_row (rows_from from count)) ≡ None
  none_faulty number from zero few = refl
  none_faulty number from (suc count) few =
      no_fault_here number (ended_row (made_fields from)) (map ended_row (rows_from (from + 1) count)) (row_sound from (sound_row fields_return values_are from (omega (arith, few))))
      ∙ none_faulty (number + 1) (from + 1) count (omega (arith, few))

  no_causes : (n workers piece : ℕ) → n ≤ 1000000 → 0 < workers → 0 < piece → first_some (read_causes (made_options workers piece) made_schema (made_input n) true) ≡ None
  no_causes n workers piece few some more =
      let o = made_options workers piece in
      let data_there = data_is lines_return n workers piece in
      let faultless : faulty_record o made_schema (made_lines n) ≡ None =
      ap (λ given. option_map (λ (found : ℕ × (ℕ × FaultKind)). error.ComputeError (compute_fault.Record found.0 found.1.0 found.1.1)) (first_faulty made_rules made_columns 0 given)) (rows_are n few)
      ∙ ap (option_map (λ (found : ℕ × (ℕ × FaultKind)). error.ComputeError (compute_fault.Record found.0 found.1.0 found.1.1))) (none_faulty 0 0 n (omega (arith, few))) in
      first_some-none (read_causes o made_schema (made_input n) true) (
        refl,
        (
          ap (λ t. when t (error.InvalidOperation op_fault.Option)) (right_options workers piece some more),
          (
            refl,
            (
              refl,
              (
                refl,
                (
                  refl,
                  (
                    refl,
                    (
                      refl,
                      (
                        ap (λ d. when (is_none d) (error.NoData no_data.Skip)) data_there,
                        (
                          refl,
                          (
                            refl,
                            (
                              ap (option_and_then (nothing_read o made_schema)) data_there,
                              (
                                ap (option_and_then (faulty_record o made_schema)) data_there ∙ faultless,
                                (ap (option_and_then (λ records. index_past o.row_index (length (rows_in o records)) (data_columns o made_schema records))) data_there, tt),
                              ),
                            ),
                          ),
                        ),
                      ),
                    ),
                  ),
                ),
              ),
            ),
          ),
        ),
      )

  pub made_read : MadeInputIsRead
  made_read n workers piece few some more =
      (frame_of (made_options workers piece) made_schema (made_input n), (omega arith, (record { is_dialect = true; tells = dialect; is = sym (no_causes n workers piece few some more) }, refl)))
