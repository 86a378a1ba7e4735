-- What a limited read depends on.
use Rattle.std.proofs.Common.{◌≡◌, ℕ, zero, suc, ◌<◌, Bool, true, false, ◌&&◌, ◌==◌, List, [], ◌∷◌, ◌++◌, length, take, drop, refl, sym, ◌∙◌, ap, subst, arith, nat_lt, length-append}
use Rattle.std.specs.Prelude.{◌≢◌, ◌↔◌, Option, None, Some, IsSome, unwrap_or, is_none}
use Rattle.std.specs.Option.{option_map, option_and_then}
use Rattle.std.proofs.lemmas.Bool.Decides.{nat_tests}
use Rattle.std.proofs.lemmas.List.{take-append-le}
use Rattle.pl_frame.specs.declared.error.ComputeFault.TheVariants as compute_fault
use Rattle.pl_frame.specs.declared.error.NoDataFault.TheVariants as no_data
use Rattle.pl_frame.specs.declared.error.OpFault.TheVariants as op_fault
use Rattle.pl_frame.specs.declared.error.PolarsError.{PolarsError}
use Rattle.pl_frame.specs.declared.error.PolarsError.TheVariants as error
use Rattle.pl_frame.specs.Compression.{is_compressed}
use Rattle.pl_frame.specs.Dialect.{Marks, IsDialect}
use Rattle.pl_frame.specs.Frame.{ColumnValue}
use Rattle.pl_frame.specs.Schema.{Entry}
use Rattle.pl_options.specs.declared.read_options.CsvReadOptions.{CsvReadOptions}
use Rattle.pl_scan.specs.Laws.{IsEnded}
use Rattle.pl_scan.proofs.AppendLaws.{ended-front}
use Rattle.pl_scan.proofs.AppendStartLaws.{HaveEnds, data_left-append, ended-data}
use Rattle.pl_scan.proofs.StartLaws.{IsEndOf-data_left}
use Rattle.pl_rows.specs.Columns.{entries_in, frame_of_rows}
use Rattle.pl_rows.specs.Ranges.{limited}
use Rattle.pl_rows.specs.Rows.{first_faulty}
use Rattle.pl_table.specs.Rows.{Row, rows}
use Rattle.pl_table.proofs.PieceLaws.{rows-append}
use Rattle.pl_read.specs.Laws.{HoldsLines, behind_line, Decides, LimitedReadDependsOnPrefix}
use Rattle.pl_options.specs.FirstCause.{Tells, IsFirstCause, when, first_some}
use Rattle.pl_options.specs.Text.{marks_of, comment_of, skips_of}
use Rattle.pl_infer.specs.Schemas.{unreadable}
use Rattle.pl_read.specs.Options.{keeps_ends, data_of, rules_of}
use Rattle.pl_read.specs.Projection.{projected}
use Rattle.pl_read.specs.Reading.{IsRead, frame_of}
use Rattle.pl_infer.specs.Inference.{inference_of, empty, repeated}
use Rattle.pl_read.specs.Refusals.{unless_given, late_causes, overrides, unknown, out_of_bounds, duplicate, nothing_read, faulty_record, index_past, early_causes, read_causes}
use Rattle.pl_read.specs.Rows.{columns_read, rows_in, data_columns, with_index, data_frame}

-- ---- a text that decides

filled : (l : List ℕ) → l ≢ [] → 0 < length l
filled [] some = absurd (some refl)
filled (x ∷ l) some = omega arith

lines-end : (e n : ℕ) (b : List ℕ) → HoldsLines e n b → HaveEnds e n b
lines-end e zero b holds = tt
lines-end e (suc n) b holds = (filled (behind_line e b) holds.0, lines-end e n (behind_line e b) holds.1)

ended-records : (o : CsvReadOptions) (n : ℕ) (b : List ℕ) (decides : Decides o n b) → IsEnded o.parse_options.eol_char decides.records
ended-records o n b decides = subst (IsEnded o.parse_options.eol_char) (sym decides.line_end) (ended-front o.parse_options.eol_char (Some o.parse_options.eol_char) decides.front)

some-records : (o : CsvReadOptions) (n : ℕ) (b : List ℕ) (decides : Decides o n b) → 0 < length decides.records
some-records o n b decides =
    let last : List ℕ = o.parse_options.eol_char ∷ [] in
    omega (arith, ap length decides.line_end, length-append decides.front last)

-- its data
data-append : (o : CsvReadOptions) (n : ℕ) (b rest : List ℕ) → IsDialect (marks_of o.parse_options) (comment_of o.parse_options) → (decides : Decides o n b) → data_of o (b ++ rest) ≡ Some (decides.records ++ rest)
data-append o n b rest dialect decides =
    let e : ℕ = o.parse_options.eol_char in
    let some = some-records o n b decides in
    let place = IsEndOf-data_left (skips_of o) (keeps_ends o) (marks_of o.parse_options) (comment_of o.parse_options) b decides.records decides.start in
    data_left-append (skips_of o) (keeps_ends o) (marks_of o.parse_options) (comment_of o.parse_options) b decides.records rest dialect
    (ended-data e b decides.records place some (ended-records o n b decides)) (lines-end e o.skip_lines b decides.lines) decides.start some

-- its rows below the limit
rows-decided : (o : CsvReadOptions) (n : ℕ) (b rest : List ℕ) → o.n_rows ≡ Some n → IsDialect (marks_of o.parse_options) (comment_of o.parse_options) → (decides : Decides o n b)
    → rows_in o (decides.records ++ rest) ≡ rows_in o decides.records
rows-decided o n b rest is dialect decides =
    let m : Marks = marks_of o.parse_options in
    let comment : Option (List ℕ) = comment_of o.parse_options in
    let own : List Row = rows m comment decides.records in
    ap (λ limit. limited limit (rows m comment (decides.records ++ rest))) is
    ∙ ap (take n) (rows-append m comment decides.records rest dialect.distinct dialect.prefix (ended-records o n b decides) decides.closed)
    ∙ take-append-le n own (rows m comment rest) decides.enough
    ∙ sym (ap (λ limit. limited limit own) is)

-- ---- the causes

-- the causes against a read whose schema is given: whether the marks are a dialect, whether the input begins with the mark of a
-- compressed stream, and what is left as data
abbrev causes_by : CsvReadOptions → List Entry → Bool → Bool → Option (List ℕ) → List (Option PolarsError)
causes_by o schema is_dialect compressed some =
    early_causes o is_dialect ++ (when compressed (error.ComputeError compute_fault.Compressed)
    ∷ None
    ∷ None
    ∷ overrides o schema
    ∷ unreadable schema
    ∷ unknown o schema
    ∷ when (is_none some) (error.NoData no_data.Skip)
    ∷ out_of_bounds o schema
    ∷ duplicate o schema
    ∷ option_and_then (nothing_read o schema) some
    ∷ option_and_then (faulty_record o schema) some
    ∷ option_and_then (λ records. index_past o.row_index (length (rows_in o records)) (data_columns o schema records)) some
    ∷ [])

-- those where there is data, given whether it has bytes, and its rows
abbrev causes_in : CsvReadOptions → List Entry → Bool → Bool → Bool → List Row → List (Option PolarsError)
causes_in o schema is_dialect compressed some given =
    early_causes o is_dialect ++ (when compressed (error.ComputeError compute_fault.Compressed)
    ∷ None
    ∷ None
    ∷ overrides o schema
    ∷ unreadable schema
    ∷ unknown o schema
    ∷ None
    ∷ out_of_bounds o schema
    ∷ duplicate o schema
    ∷ when (length (projected o schema) == 0 && some) error.EmptyProjection
    ∷ option_map (λ found. error.ComputeError (compute_fault.Record found.0 found.1.0 found.1.1)) (first_faulty (rules_of o schema) (columns_read o schema) 0 given)
    ∷ index_past o.row_index (length given) (frame_of_rows (rules_of o schema) (entries_in schema (projected o schema)) given)
    ∷ [])

more-bytes : (records rest : List ℕ) → 0 < length records → nat_lt 0 (length (records ++ rest)) ≡ nat_lt 0 (length records)
more-bytes records rest some =
    let more : 0 < length (records ++ rest) = omega (arith, length-append records rest) in
    let now : nat_lt 0 (length records) ≡ true = grind (arith, nat_tests) in
    let long : nat_lt 0 (length (records ++ rest)) ≡ true = grind (arith, nat_tests) in
    long ∙ sym now

-- those of such a read
causes-given : (o : CsvReadOptions) (schema : List Entry) (input : List ℕ) (d : Bool) → IsSome o.schema → read_causes o schema input d ≡ causes_by o schema d (is_compressed input) (data_of o input)
causes-given o schema input d given = by o.schema refl given
  where
    by : (s : Option (List Entry)) → o.schema ≡ s → IsSome s → read_causes o schema input d ≡ causes_by o schema d (is_compressed input) (data_of o input)
    by None e some = absurd (cc)
    by (Some entries) e some =
        ap (λ (s : Option (List Entry)). early_causes o d ++ (when (is_compressed input) (error.ComputeError compute_fault.Compressed)
        ∷ unless_given s (empty (inference_of o) input)
        ∷ unless_given s (repeated schema)
        ∷ drop 3 (late_causes o schema input))) e

causes-decided : (o : CsvReadOptions) (n : ℕ) (schema : List Entry) (b rest : List ℕ) (d : Bool) → IsSome o.schema → o.n_rows ≡ Some n → IsDialect (marks_of o.parse_options) (comment_of o.parse_options) → Decides o n b
    → is_compressed (b ++ rest) ≡ is_compressed b → read_causes o schema (b ++ rest) d ≡ read_causes o schema b d
causes-decided o n schema b rest d given is dialect decides compressed =
    let records : List ℕ = decides.records in
    causes-given o schema (b ++ rest) d given
    ∙ ap (λ t. causes_by o schema d t (data_of o (b ++ rest))) compressed
    ∙ ap (causes_by o schema d (is_compressed b)) (data-append o n b rest dialect decides)
    ∙ ap (λ t. causes_in o schema d (is_compressed b) t (rows_in o (records ++ rest))) (more-bytes records rest (some-records o n b decides))
    ∙ ap (causes_in o schema d (is_compressed b) (nat_lt 0 (length records))) (rows-decided o n b rest is dialect decides)
    ∙ ap (causes_by o schema d (is_compressed b)) (sym decides.start)
    ∙ sym (causes-given o schema b d given)

frame-decided : (o : CsvReadOptions) (n : ℕ) (schema : List Entry) (b rest : List ℕ) → o.n_rows ≡ Some n → IsDialect (marks_of o.parse_options) (comment_of o.parse_options) → Decides o n b
    → frame_of o schema (b ++ rest) ≡ frame_of o schema b
frame-decided o n schema b rest is dialect decides =
    ap (λ (some : Option (List ℕ)). data_frame o schema (unwrap_or some [])) (data-append o n b rest dialect decides)
    ∙ ap (λ given. with_index o.row_index (length given) (frame_of_rows (rules_of o schema) (entries_in schema (projected o schema)) given)) (rows-decided o n b rest is dialect decides)
    ∙ ap (λ (some : Option (List ℕ)). data_frame o schema (unwrap_or some [])) (sym decides.start)

-- ---- the law

-- where a first cause is none, the marks are a dialect
dialect-read : (o : CsvReadOptions) (schema : List Entry) (input : List ℕ) → IsFirstCause (read_causes o schema input) o.parse_options None → IsDialect (marks_of o.parse_options) (comment_of o.parse_options)
dialect-read o schema input first = by first.is_dialect first.tells first.is
  where
    none_some : ◌≡◌ {A = Option PolarsError} None (Some (error.InvalidOperation op_fault.Dialect)) → ⊥
    none_some h = cc

    by : (d : Bool) → Tells d (IsDialect (marks_of o.parse_options) (comment_of o.parse_options)) → None ≡ first_some (read_causes o schema input d) → IsDialect (marks_of o.parse_options) (comment_of o.parse_options)
    by true tells is = tells
    by false tells is = absurd (none_some is)

-- a read of an input that begins with a text that decides it
pub limited-prefix : LimitedReadDependsOnPrefix
limited-prefix o n schema b rest given is decides compressed = (read, λ refusal. (forth (Some refusal), back (Some refusal)))
  where
    by : (d : Bool) → Tells d (IsDialect (marks_of o.parse_options) (comment_of o.parse_options)) → first_some (read_causes o schema (b ++ rest) d) ≡ first_some (read_causes o schema b d)
    by true dialect = ap first_some (causes-decided o n schema b rest true given is dialect decides compressed)
    by false other = refl

    forth : (first : Option PolarsError) → IsFirstCause (read_causes o schema b) o.parse_options first → IsFirstCause (read_causes o schema (b ++ rest)) o.parse_options first
    forth first cause = record { is_dialect = cause.is_dialect; tells = cause.tells; is = cause.is ∙ sym (by cause.is_dialect cause.tells) }

    back : (first : Option PolarsError) → IsFirstCause (read_causes o schema (b ++ rest)) o.parse_options first → IsFirstCause (read_causes o schema b) o.parse_options first
    back first cause = record { is_dialect = cause.is_dialect; tells = cause.tells; is = cause.is ∙ by cause.is_dialect cause.tells }

    read : (frame : List ColumnValue) → IsRead o schema b frame ↔ IsRead o schema (b ++ rest) frame
    read frame = (
      λ done. (forth None done.0, done.1 ∙ sym (frame-decided o n schema b rest is (dialect-read o schema b done.0) decides)),
      λ done. (back None done.0, done.1 ∙ frame-decided o n schema b rest is (dialect-read o schema (b ++ rest) done.0) decides),
    )
