-- The settled schema, and what stands against it.
use Rattle.std.proofs.Common.{◌≡◌, ℕ, zero, suc, ◌<◌, ◌≤◌, List, [], ◌∷◌, ◌++◌, length, take, get_or, refl, sym, ◌∙◌, ap, subst, inr, arith, nat_lt, true, false}
use Rattle.std.specs.Prelude.{Option, None, Some, Result, Ok, Err, IfOk, OnOk, IfErr, IsOkUnless, slice_get, unwrap_or}
use Rattle.std.specs.Option.{option_map, option_and_then}
use Rattle.std.proofs.lemmas.Bool.{lt-ltb, le-ltb}
use Rattle.pl_frame.specs.declared.data_type.DataType.{DataType}
use Rattle.pl_frame.specs.declared.error.PolarsError.TheVariants as error
use Rattle.pl_frame.specs.declared.error.ComputeFault.TheVariants as compute_fault
use Rattle.pl_frame.specs.declared.error.OpFault.TheVariants as op_fault
use Rattle.pl_frame.specs.Compression.{is_compressed}
use Rattle.pl_frame.specs.declared.error.NamePlace.TheVariants as name_place
use Rattle.pl_frame.specs.declared.error.PolarsError.{PolarsError}
use Rattle.pl_frame.specs.Names.{repeated_name}
use Rattle.pl_frame.specs.Schema.{Entry, names_in, with_type_at}
use Rattle.pl_options.specs.FirstCause.{when, first_some, IsFault}
use Rattle.pl_infer.specs.Inference.{inference_of, inferred, inference_causes, empty, repeated}
use Rattle.pl_options.specs.declared.read_options.CsvReadOptions.{CsvReadOptions}
use Rattle.pl_infer.specs.Schemas.{unreadable}
use Rattle.pl_read.specs.Options.{with_types, schema_of, settled, settled_schema, data_of}
use Rattle.pl_read.specs.Refusals.{unless_given, no_record, repeats, overrides, faulty_record, index_past, plan_causes, causes_before_rows, row_causes}
use Rattle.pl_read.specs.Rows.{rows_in, data_columns}
use Rattle.pl_read.specs.Steps.{late_cause, schema_cause, types_cause, settling_cause, settled_cause, opening_cause, data_cause}
use Rattle.pl_read.proofs.CauseLaws.{first_some-one, first_some-behind, first_some-here, first_some-late, fault-early, fault-behind}

-- behind the first entry
type_at-behind : (entry : Entry) (entries : List Entry) (i : ℕ) (type : DataType) → with_type_at (entry ∷ entries) (suc i) type ≡ entry ∷ with_type_at entries i type
type_at-behind entry entries i type = by (slice_get entries i) refl
  where
    by : (o : Option Entry) → slice_get entries i ≡ o → with_type_at (entry ∷ entries) (suc i) type ≡ entry ∷ with_type_at entries i type
    by None e = rw e refl
    by (Some found) e = rw e refl

-- one type more
pub types-more : (types : List DataType) (schema : List Entry) (i : ℕ) (d : DataType) → i < length types
    → with_types (take (suc i) types) schema ≡ with_type_at (with_types (take i types) schema) i (get_or types i d)
types-more [] schema i d l = absurd (omega arith)
types-more (type ∷ types) [] zero d l = refl
types-more (type ∷ types) [] (suc i) d l = refl
types-more (type ∷ types) (entry ∷ schema) zero d l = refl
types-more (type ∷ types) (entry ∷ schema) (suc i) d l =
    ap (λ es. (entry.0, type) ∷ es) (types-more types schema i d (omega arith)) ∙ sym (type_at-behind (entry.0, type) (with_types (take i types) schema) i (get_or types i d))

-- a schema has as many columns as before
pub length-with_types : (types : List DataType) (schema : List Entry) → length (with_types types schema) ≡ length schema
length-with_types [] schema = refl
length-with_types (type ∷ types) [] = refl
length-with_types (type ∷ types) (entry ∷ schema) = omega (arith, length-with_types types schema)

-- more types than columns
pub types-overrides : (o : CsvReadOptions) (given : List Entry) → length given < length (unwrap_or o.dtype_overwrite [])
    → types_cause o given ≡ Some (error.InvalidOperation (op_fault.Overrides (length (unwrap_or o.dtype_overwrite [])) (length given)))
types-overrides o given more =
    let types = unwrap_or o.dtype_overwrite [] in
    let same : length (settled o given) ≡ length given = length-with_types types given in
    let test : nat_lt (length given) (length types) ≡ true = lt-ltb (length given) (length types) more in
    let is : overrides o (settled o given) ≡ Some (error.InvalidOperation (op_fault.Overrides (length types) (length given))) = rw (same, test) refl in
    first_some-here (overrides o (settled o given)) (unreadable (settled o given) ∷ []) _ is

-- no more types than columns
pub types-few : (o : CsvReadOptions) (given : List Entry) → length (unwrap_or o.dtype_overwrite []) ≤ length given → types_cause o given ≡ unreadable (settled o given)
types-few o given few =
    let types = unwrap_or o.dtype_overwrite [] in
    let same : length (settled o given) ≡ length given = length-with_types types given in
    let test : nat_lt (length given) (length types) ≡ false = le-ltb (length given) (length types) few in
    let none : overrides o (settled o given) ≡ None = rw (same, test) refl in
    first_some-behind (overrides o (settled o given)) (unreadable (settled o given) ∷ []) none ∙ first_some-one (unreadable (settled o given))

-- ---- the schema before its types are settled

-- one that is given
pub schema-given : (o : CsvReadOptions) (input : List ℕ) (given : List Entry) → o.schema ≡ Some given → schema_of o input ≡ given
schema-given o input given is = ap (λ (s : Option (List Entry)). unwrap_or s (inferred (inference_of o) input)) is

pub cause-given : (o : CsvReadOptions) (input : List ℕ) (given : List Entry) → o.schema ≡ Some given → schema_cause o input ≡ None
cause-given o input given is =
    ap (λ (s : Option (List Entry)). first_some (unless_given s (empty (inference_of o) input) ∷ unless_given s (repeated (schema_of o input)) ∷ [])) is

-- a copy of it, or want of memory
pub copy-schema : (o : CsvReadOptions) (input : List ℕ) (given : List Entry) (result : Result (List Entry) PolarsError) → o.schema ≡ Some given → IfOk result (λ copy. copy ≡ given) → IfOk result (λ schema. schema ≡ schema_of o input)
copy-schema o input given (Ok copy) is same = same ∙ sym (schema-given o input given is)
copy-schema o input given (Err fault) is same = tt

pub copy-sound : (o : CsvReadOptions) (input : List ℕ) (given : List Entry) (result : Result (List Entry) PolarsError) → o.schema ≡ Some given → OnOk result (schema_cause o input ≡ None)
copy-sound o input given (Ok copy) is = cause-given o input given is
copy-sound o input given (Err fault) is = tt

pub copy-refused : (cause : Option PolarsError) (result : Result (List Entry) PolarsError) → IsOkUnless result error.OutOfMemory → IfErr result (IsFault cause)
copy-refused cause (Ok copy) wanting = tt
copy-refused cause (Err fault) wanting = inr wanting

-- or none
pub schema-inferred : (o : CsvReadOptions) (input : List ℕ) → o.schema ≡ None → schema_of o input ≡ inferred (inference_of o) input
schema-inferred o input is = ap (λ (s : Option (List Entry)). unwrap_or s (inferred (inference_of o) input)) is

pub cause-inferred : (o : CsvReadOptions) (input : List ℕ) → o.schema ≡ None → schema_cause o input ≡ first_some (inference_causes (inference_of o) input)
cause-inferred o input is =
    ap (λ (s : Option (List Entry)). first_some (unless_given s (empty (inference_of o) input) ∷ unless_given s (repeated (schema_of o input)) ∷ [])) is
    ∙ ap (λ (schema : List Entry). first_some (empty (inference_of o) input ∷ repeated schema ∷ [])) (schema-inferred o input is)

-- ---- all of it

-- other types leave the names
names-settled : (types : List DataType) (schema : List Entry) → names_in (with_types types schema) ≡ names_in schema
names-settled [] schema = refl
names-settled (type ∷ types) [] = refl
names-settled (type ∷ types) (entry ∷ schema) = ap (λ names. entry.0 ∷ names) (names-settled types schema)

repeats-settled : (o : CsvReadOptions) (schema : List Entry) → repeats o (settled o schema) ≡ repeats o schema
repeats-settled o schema =
    ap (λ (names : List (List ℕ)). unless_given o.schema (option_map (λ (name : List ℕ). error.Duplicate name name_place.Schema) (repeated_name names)))
    (names-settled (unwrap_or o.dtype_overwrite []) schema)

front-settled : (o : CsvReadOptions) (input : List ℕ) → first_some (no_record o input ∷ repeats o (settled_schema o input) ∷ []) ≡ schema_cause o input
front-settled o input = ap (λ (cause : Option PolarsError). first_some (no_record o input ∷ cause ∷ [])) (repeats-settled o (schema_of o input))

-- a fault of the schema before its types are settled
pub settling-early : (o : CsvReadOptions) (input : List ℕ) (fault : PolarsError) → IsFault (schema_cause o input) fault → IsFault (settling_cause o input) fault
settling-early o input fault is =
    let schema : List Entry = settled_schema o input in
    fault-early (no_record o input ∷ repeats o schema ∷ []) (overrides o schema ∷ unreadable schema ∷ []) fault
    (subst (λ (cause : Option PolarsError). IsFault cause fault) (sym (front-settled o input)) is)

-- where there is none
pub settling-late : (o : CsvReadOptions) (input : List ℕ) (given : List Entry) → given ≡ schema_of o input → schema_cause o input ≡ None → types_cause o given ≡ settling_cause o input
settling-late o input given is none =
    let schema : List Entry = settled_schema o input in
    ap (types_cause o) is
    ∙ sym (first_some-late (no_record o input ∷ repeats o schema ∷ []) (overrides o schema ∷ unreadable schema ∷ []) (front-settled o input ∙ none))

-- ---- all causes behind the options

-- a fault of the settled schema
pub opening-early : (o : CsvReadOptions) (input : List ℕ) (fault : PolarsError) → is_compressed input ≡ false → IsFault (settling_cause o input) fault → IsFault (opening_cause o (settled_schema o input) input) fault
opening-early o input fault plain is =
    let schema : List Entry = settled_schema o input in
    let front : List (Option PolarsError) = no_record o input ∷ repeats o schema ∷ overrides o schema ∷ unreadable schema ∷ [] in
    let behind : List (Option PolarsError) = plan_causes o schema input in
    fault-behind (when (is_compressed input) (error.ComputeError compute_fault.Compressed)) (front ++ behind) fault
    (ap (λ t. when t (error.ComputeError compute_fault.Compressed)) plain) (fault-early front behind fault is)

-- where there is none
pub opening-settled : (o : CsvReadOptions) (input : List ℕ) (given : List Entry) → given ≡ settled_schema o input → is_compressed input ≡ false → settling_cause o input ≡ None
    → settled_cause o given input ≡ opening_cause o (settled_schema o input) input
opening-settled o input given is plain none =
    let schema : List Entry = settled_schema o input in
    let front : List (Option PolarsError) = no_record o input ∷ repeats o schema ∷ overrides o schema ∷ unreadable schema ∷ [] in
    let behind : List (Option PolarsError) = plan_causes o schema input in
    ap (λ (s : List Entry). settled_cause o s input) is
    ∙ sym (first_some-behind (when (is_compressed input) (error.ComputeError compute_fault.Compressed)) (front ++ behind)
    (ap (λ t. when t (error.ComputeError compute_fault.Compressed)) plain) ∙ first_some-late front behind none)

-- a fault that stands before the rows
pub late-opening : (o : CsvReadOptions) (schema : List Entry) (input : List ℕ) (fault : PolarsError) → IsFault (opening_cause o schema input) fault → IsFault (late_cause o schema input) fault
late-opening o schema input fault is = fault-early (causes_before_rows o schema input) (row_causes o schema input) fault is

-- where there is none, it is the first against the data
pub late-data : (o : CsvReadOptions) (schema : List Entry) (input records : List ℕ) → opening_cause o schema input ≡ None → data_of o input ≡ Some records → late_cause o schema input ≡ data_cause o schema records
late-data o schema input records none is =
    first_some-late (causes_before_rows o schema input) (row_causes o schema input) none
    ∙ ap (λ (some : Option (List ℕ)). first_some (
    option_and_then (faulty_record o schema) some ∷ option_and_then (λ records. index_past o.row_index (length (rows_in o records)) (data_columns o schema records)) some ∷ []
    )) is
