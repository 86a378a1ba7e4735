-- What a front of an input tells of the rows, it tells of the whole.
use Rattle.std.proofs.Common.{◌≡◌, ℕ, zero, suc, ◌+◌, ◌<◌, ◌≤◌, Bool, true, ◌&&◌, ◌==◌, List, [], ◌∷◌, ◌++◌, length, get_or, drop, refl, sym, ◌∙◌, ap, subst, arith, nat_lt, length-append, length-drop, append_assoc}
use Rattle.std.specs.Prelude.{Option, None, Some, IsSome, unwrap_or, is_none}
use Rattle.std.specs.List.{last_or}
use Rattle.std.specs.Option.{option_and_then}
use Rattle.std.proofs.lemmas.Bool.Decides.{nat_tests}
use Rattle.std.proofs.lemmas.List.{drop-append-le}
use Rattle.pl_frame.specs.Compression.{is_compressed}
use Rattle.pl_frame.specs.Dialect.{IsDialect}
use Rattle.pl_frame.specs.Schema.{Entry}
use Rattle.pl_frame.specs.declared.error.ComputeFault.TheVariants as compute_fault
use Rattle.pl_frame.specs.declared.error.NoDataFault.TheVariants as no_data
use Rattle.pl_frame.specs.declared.error.PolarsError.{PolarsError}
use Rattle.pl_frame.specs.declared.error.PolarsError.TheVariants as error
use Rattle.pl_scan.specs.Laws.{IsEnded}
use Rattle.pl_scan.proofs.AppendStartLaws.{HaveEnds, data_left-append}
use Rattle.pl_options.specs.FirstCause.{when, first_some}
use Rattle.pl_options.specs.Text.{marks_of, comment_of, skips_of}
use Rattle.pl_options.specs.declared.read_options.CsvReadOptions.{CsvReadOptions}
use Rattle.pl_infer.specs.Inference.{inference_of, inferred, empty}
use Rattle.pl_infer.specs.Schemas.{unreadable}
use Rattle.pl_read.specs.Options.{keeps_ends, data_of, settled, settled_schema}
use Rattle.pl_read.specs.Preparing.{IsPrepared}
use Rattle.pl_read.specs.Projection.{projected}
use Rattle.pl_read.specs.Refusals.{unless_given, no_record, repeats, overrides, unknown, out_of_bounds, duplicate, nothing_read}
use Rattle.pl_read.specs.Steps.{opening_cause}
use Rattle.pl_read.specs.declared.preparing.Prepared.{Prepared}
use Rattle.pl_read.proofs.DataLaws.{may-dialect}
use Rattle.pl_read.specs.Ahead.{MayReadAhead, IsReadBy, IsReadAhead}

-- ---- the schema

-- one that is given is settled in one way, whatever the input
schema-ahead : (o : CsvReadOptions) (input other : List ℕ) → IsSome o.schema → settled_schema o input ≡ settled_schema o other
schema-ahead o input other given = by o.schema given
  where
    by : (s : Option (List Entry)) → IsSome s → settled o (unwrap_or s (inferred (inference_of o) input)) ≡ settled o (unwrap_or s (inferred (inference_of o) other))
    by None some = absurd (cc)
    by (Some entries) some = refl

-- and needs no record
record-ahead : (o : CsvReadOptions) (input : List ℕ) → IsSome o.schema → no_record o input ≡ None
record-ahead o input given = by o.schema given
  where
    by : (s : Option (List Entry)) → IsSome s → unless_given s (empty (inference_of o) input) ≡ None
    by None some = absurd (cc)
    by (Some entries) some = refl

-- ---- the data

-- a text ends with its last byte
pub ended-last : (e : ℕ) (before : Option ℕ) (b : List ℕ) (k : ℕ) → k + 1 ≡ length b → get_or b k 0 ≡ e → last_or before b ≡ Some e
ended-last e before [] k last is = absurd (omega arith)
ended-last e before (x ∷ []) zero last is = ap (λ (y : ℕ). Some y) is
ended-last e before (x ∷ []) (suc k) last is = absurd (omega arith)
ended-last e before (x ∷ y ∷ b) zero last is = absurd (omega arith)
ended-last e before (x ∷ y ∷ b) (suc k) last is = ended-last e (Some x) (y ∷ b) k (omega arith) is

-- it begins where that of the front does
data-ahead : (o : CsvReadOptions) (first rest : List ℕ) (start : ℕ) → IsDialect (marks_of o.parse_options) (comment_of o.parse_options) → o.skip_lines ≡ 0 → IsEnded o.parse_options.eol_char first
    → start < length first → data_of o first ≡ Some (drop start first) → data_of o (first ++ rest) ≡ Some (drop start first ++ rest)
data-ahead o first rest start dialect lines ended inside is =
    data_left-append (skips_of o) (keeps_ends o) (marks_of o.parse_options) (comment_of o.parse_options) first (drop start first) rest dialect ended
    (subst (λ n. HaveEnds o.parse_options.eol_char n first) (sym lines) tt) is (omega (arith, length-drop start first))

-- where it has bytes, it has some with more behind it
more-bytes : (records rest : List ℕ) → 0 < length records → nat_lt 0 (length (records ++ rest)) ≡ nat_lt 0 (length records)
more-bytes records rest some =
    let more : 0 < length (records ++ rest) = omega (arith, length-append records rest) in
    let now : nat_lt 0 (length records) ≡ true = grind (arith, nat_tests) in
    let long : nat_lt 0 (length (records ++ rest)) ≡ true = grind (arith, nat_tests) in
    long ∙ sym now

-- and whether columns are read of it is told
nothing-ahead : (o : CsvReadOptions) (schema : List Entry) (records rest : List ℕ) → 0 < length records → nothing_read o schema (records ++ rest) ≡ nothing_read o schema records
nothing-ahead o schema records rest some = ap (λ t. when (length (projected o schema) == 0 && t) error.EmptyProjection) (more-bytes records rest some)

-- ---- the causes before those of the rows

-- four bytes tell whether a text is compressed
compressed-ahead : (first rest : List ℕ) → 4 ≤ length first → is_compressed (first ++ rest) ≡ is_compressed first
compressed-ahead [] rest long = absurd (omega arith)
compressed-ahead (a ∷ []) rest long = absurd (omega arith)
compressed-ahead (a ∷ b ∷ []) rest long = absurd (omega arith)
compressed-ahead (a ∷ b ∷ c ∷ []) rest long = absurd (omega arith)
compressed-ahead (a ∷ b ∷ c ∷ d ∷ more) rest long = refl

-- these causes, given whether the input is compressed, and what is left as data
abbrev opening_by : CsvReadOptions → List Entry → Bool → Option PolarsError → Option (List ℕ) → Option PolarsError
opening_by o schema compressed record_cause some =
    first_some (when compressed (error.ComputeError compute_fault.Compressed)
    ∷ record_cause
    ∷ repeats o schema
    ∷ overrides o schema
    ∷ unreadable schema
    ∷ unknown o schema
    ∷ when (is_none some) (error.NoData no_data.Skip)
    ∷ out_of_bounds o schema
    ∷ duplicate o schema
    ∷ option_and_then (nothing_read o schema) some
    ∷ [])

-- those where there is data, given whether it is read
abbrev opening_in : CsvReadOptions → List Entry → Bool → Option PolarsError → Option PolarsError
opening_in o schema compressed nothing =
    first_some (when compressed (error.ComputeError compute_fault.Compressed)
    ∷ None
    ∷ repeats o schema
    ∷ overrides o schema
    ∷ unreadable schema
    ∷ unknown o schema
    ∷ None
    ∷ out_of_bounds o schema
    ∷ duplicate o schema
    ∷ nothing
    ∷ [])

-- where a schema is given and there is data, they are these
opening-data : (o : CsvReadOptions) (schema : List Entry) (input records : List ℕ) → IsSome o.schema → data_of o input ≡ Some records
    → opening_cause o schema input ≡ opening_in o schema (is_compressed input) (nothing_read o schema records)
opening-data o schema input records given is =
    ap (λ cause. opening_by o schema (is_compressed input) cause (data_of o input)) (record-ahead o input given) ∙ ap (opening_by o schema (is_compressed input) None) is

-- with more behind the front they are those of the front
opening-ahead : (o : CsvReadOptions) (schema : List Entry) (first records rest : List ℕ) → IsSome o.schema → 4 ≤ length first → 0 < length records → data_of o first ≡ Some records → data_of o (first ++ rest) ≡ Some (records ++ rest)
    → opening_cause o schema (first ++ rest) ≡ opening_cause o schema first
opening-ahead o schema first records rest given long some is more =
    opening-data o schema (first ++ rest) (records ++ rest) given more
    ∙ ap (λ t. opening_in o schema t (nothing_read o schema (records ++ rest))) (compressed-ahead first rest long)
    ∙ ap (opening_in o schema (is_compressed first)) (nothing-ahead o schema records rest some)
    ∙ sym (opening-data o schema first records given is)

-- ---- the law

-- what was prepared for the front is prepared for the whole
prepared-ahead : (o : CsvReadOptions) (schema : List Entry) (first rest : List ℕ) (prepared : Prepared) → prepared.start < length first → IsPrepared o schema first prepared
    → data_of o (first ++ rest) ≡ Some (drop prepared.start first ++ rest) → IsPrepared o schema (first ++ rest) prepared
prepared-ahead o schema first rest prepared inside is more =
    let start = prepared.start in
    let records : drop start (first ++ rest) ≡ drop start first ++ rest = drop-append-le start first rest (omega arith) in
    record {
      schema_is = is.schema_is;
      readable = is.readable;
      nulls_are = is.nulls_are;
      places_are = is.places_are;
      free = is.free;
      within = omega (arith, length-append first rest);
      data_is = more ∙ ap (λ (l : List ℕ). Some l) (sym records);
      some = ap (nothing_read o schema) records ∙ nothing-ahead o schema (drop start first) rest (omega (arith, length-drop start first)) ∙ is.some;
    }

-- A front that ends with a line end, within which the rows begin, tells what the rows of an input are read by.
pub read-ahead : (o : CsvReadOptions) (first : List ℕ) (prepared : Prepared) → MayReadAhead o → 4 ≤ length first → IsEnded o.parse_options.eol_char first → prepared.start < length first
    → IsPrepared o (settled_schema o first) first prepared → opening_cause o (settled_schema o first) first ≡ None → IsReadAhead o first prepared
read-ahead o first prepared may long ended inside is sound = record {
  within = omega arith;
  is = λ rest.
      let same = schema-ahead o first (first ++ rest) may.given in
      let schema = settled_schema o first in
      let some : 0 < length (drop prepared.start first) = omega (arith, length-drop prepared.start first) in
      let more = data-ahead o first rest prepared.start (may-dialect o may.allowed) may.lines ended inside is.data_is in
      record {
        is = subst (λ s. IsPrepared o s (first ++ rest) prepared) same (prepared-ahead o schema first rest prepared inside is more);
        sound = subst (λ s. opening_cause o s (first ++ rest) ≡ None) same (opening-ahead o schema first (drop prepared.start first) rest may.given long some is.data_is more ∙ sound);
      };
}

-- what tells the records of an input tells them of one behind it
pub IsReadAhead-longer : (o : CsvReadOptions) (first more longer : List ℕ) (prepared : Prepared) → longer ≡ first ++ more → IsReadAhead o first prepared → IsReadAhead o longer prepared
IsReadAhead-longer o first more longer prepared is ahead =
    subst (λ text. IsReadAhead o text prepared) (sym is) (record {
      within = omega (arith, ahead.within, length-append first more);
      is = λ rest. subst (λ input. IsReadBy o input prepared) (sym (append_assoc first more rest)) (ahead.is (more ++ rest));
    })
