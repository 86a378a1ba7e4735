-- Inputs whose inferred schema has no column.
use Rattle.std.proofs.Common.{◌≡◌, ℕ, Bool, true, false, ◌&&◌, List, [], ◌∷◌, ◌++◌, map, length, refl, sym, ◌∙◌, ap, arith}
use Rattle.std.specs.Prelude.{Option, None, Some, is_none, unwrap_or}
use Rattle.std.specs.Option.{option_map_or}
use Rattle.std.proofs.lemmas.List.FromFn.{length-map-range_with_len}
use Rattle.std.proofs.lemmas.List.{length-map}
use Rattle.pl_frame.specs.declared.data_type.DataType.{DataType}
use Rattle.pl_frame.specs.declared.error.NoDataFault.TheVariants as no_data
use Rattle.pl_frame.specs.declared.error.PolarsError.TheVariants as error
use Rattle.pl_frame.specs.Dialect.{Marks}
use Rattle.pl_frame.specs.Frame.{ColumnValue}
use Rattle.pl_frame.specs.Schema.{Entry}
use Rattle.pl_scan.specs.Fields.{fields}
use Rattle.pl_scan.proofs.ItemLaws.{fields-some}
use Rattle.pl_options.specs.declared.read_options.CsvReadOptions.{CsvReadOptions}
use Rattle.pl_options.specs.FirstCause.{when}
use Rattle.pl_options.specs.Text.{marks_of}
use Rattle.pl_infer.specs.Header.{field_name, apart_behind, column_names}
use Rattle.pl_infer.specs.Inference.{Inference, inference_of, first_record, names_of, data_in, types_of_names, overwritten_columns, inferred, empty}
use Rattle.pl_read.specs.Laws.{SchemaIsEmptyWithoutRecord}
use Rattle.pl_read.specs.Options.{schema_of, settled_schema}
use Rattle.pl_read.specs.Reading.{IsRead}
use Rattle.pl_read.specs.Refusals.{unless_given, no_record, read_causes}
use Rattle.pl_read.proofs.SelectionLaws.{each-none}
use Rattle.pl_read.proofs.SettlingLaws.{length-with_types, schema-inferred}

-- a list of no length
none-there : {X : Type 0} (xs : List X) → length xs ≡ 0 → xs ≡ []
none-there [] e = refl
none-there (x ∷ xs) e = absurd (omega arith)

length-apart : (before names : List (List ℕ)) → length (apart_behind before names) ≡ length names
length-apart before [] = refl
length-apart before (name ∷ names) = omega (arith, length-apart (before ++ name ∷ []) names)

-- a record has a name for each of its fields
length-names : (has_header : Bool) (m : Marks) (b : List ℕ) → length (column_names has_header m b) ≡ length (fields m b)
length-names true m b = length-apart [] (map (field_name m.quote) (fields m b)) ∙ length-map (fields m b) (field_name m.quote)
length-names false m b = length-map-range_with_len _ 1 (length (fields m b))

length-columns : (other : List Entry) (names : List (List ℕ)) (types : List DataType) → length (overwritten_columns other names types) ≡ length names
length-columns other names types = length-map-range_with_len _ 0 (length names)

-- there are names exactly where there is a record
names-none : (i : Inference) (record_there : Option (List ℕ)) → length (option_map_or (column_names i.skips.has_header (marks_of i.parse)) record_there []) ≡ 0 → record_there ≡ None
names-none i None e = refl
names-none i (Some b) e =
    let some = fields-some (marks_of i.parse) b in
    let none : length (fields (marks_of i.parse) b) ≡ 0 = sym (length-names i.skips.has_header (marks_of i.parse) b) ∙ e in
    let one : length (fields (marks_of i.parse) b) ≡ length (some.0 ∷ some.1) = ap length some.2 in
    absurd (omega (arith, none, one))

record-none : (i : Inference) (record_there : Option (List ℕ)) → record_there ≡ None → length (option_map_or (column_names i.skips.has_header (marks_of i.parse)) record_there []) ≡ 0
record-none i record_there e = ap (λ (r : Option (List ℕ)). length (option_map_or (column_names i.skips.has_header (marks_of i.parse)) r [])) e

-- as many columns as names
length-inferred : (i : Inference) (input : List ℕ) → length (inferred i input) ≡ length (names_of i input)
unfolding inferred
length-inferred i input = length-columns i.overwrite (names_of i input) (types_of_names i (names_of i input) (data_in i input))

length-settled : (o : CsvReadOptions) (input : List ℕ) → o.schema ≡ None → length (settled_schema o input) ≡ length (names_of (inference_of o) input)
length-settled o input none =
    length-with_types (unwrap_or o.dtype_overwrite []) (schema_of o input) ∙ ap length (schema-inferred o input none) ∙ length-inferred (inference_of o) input

-- where there is no record, and that is not refused, no refusal was asked
not-raised : (record_there : Option (List ℕ)) (raised : Bool) → record_there ≡ None → when (is_none record_there && raised) (error.NoData no_data.Empty) ≡ None → raised ≡ false
not-raised None false e none = refl
not-raised None true e none = cc
not-raised (Some b) raised e none = absurd (cc)

-- where an input has a read, it is not refused for want of a record
no_record-none : (o : CsvReadOptions) (input : List ℕ) (frame : List ColumnValue) → IsRead o (settled_schema o input) input frame → no_record o input ≡ None
no_record-none o input frame (first, frame_is) = (each-none (read_causes o (settled_schema o input) input first.is_dialect) (sym first.is)).1.1.1.0

pub schema-empty : SchemaIsEmptyWithoutRecord
schema-empty o input frame none read = (forth, λ both. none-there (settled_schema o input) (length-settled o input none ∙ record-none (inference_of o) (first_record (inference_of o) input) both.0))
  where
    kept : empty (inference_of o) input ≡ None
    kept = ap (λ (s : Option (List Entry)). unless_given s (empty (inference_of o) input)) (sym none) ∙ no_record-none o input frame read

    forth : settled_schema o input ≡ [] → (first_record (inference_of o) input ≡ None) × (o.raise_if_empty ≡ false)
    forth e =
        let gone : first_record (inference_of o) input ≡ None =
        names-none (inference_of o) (first_record (inference_of o) input) (sym (length-settled o input none) ∙ ap length e) in
        (gone, not-raised (first_record (inference_of o) input) o.raise_if_empty gone kept)
