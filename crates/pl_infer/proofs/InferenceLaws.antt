-- The columns that are inferred, and the causes against them.
use Rattle.std.proofs.Common.{◌≡◌, ℕ, ◌+◌, ◌<◌, Bool, true, false, List, [], ◌∷◌, ◌++◌, length, map, take, position, get_or, refl, sym, ◌∙◌, ap, arith}
use Rattle.std.specs.Prelude.{Option, None, Some, is_some, slice_index_or}
use Rattle.std.specs.List.{range_with_len, list_any}
use Rattle.std.specs.Option.{option_map, option_copied}
use Rattle.std.specs.Str.{bytes_eq}
use Rattle.std.proofs.lemmas.List.{take-map, get_or_default, get_or-map}
use Rattle.std.proofs.lemmas.Slice.Eq.{bytes_eq-Decides}
use Rattle.std.proofs.lemmas.List.FromFn.{map-range_with_len_more, length-map-range_with_len}
use Rattle.pl_frame.specs.declared.data_type.DataType.{DataType}
use Rattle.pl_frame.specs.declared.data_type.DataType.TheVariants as dtype
use Rattle.pl_frame.specs.declared.error.PolarsError.{PolarsError}
use Rattle.pl_frame.specs.Dialect.{Marks}
use Rattle.pl_frame.specs.Names.{is_repeat}
use Rattle.pl_frame.specs.Schema.{Entry, names_in, place_of}
use Rattle.pl_frame.proofs.CategoryLaws.{known}
use Rattle.pl_frame.proofs.SchemaLaws.{none_passes}
use Rattle.pl_scan.specs.Dialect as scan
use Rattle.pl_scan.specs.Items.{items}
use Rattle.pl_cells.specs.NullValues.{compiled_under, means_null}
use Rattle.pl_cells.specs.declared.null_values.NullValuesCompiled.{NullValuesCompiled}
use Rattle.pl_options.specs.FirstCause.{first_some}
use Rattle.pl_options.specs.Text.{marks_of, comment_of}
use Rattle.pl_infer.specs.Evidence.{sampled, column_type}
use Rattle.pl_infer.specs.Sample.{has_long_text}
use Rattle.pl_infer.specs.SampleSteps.{column_types, have_long_text, sample_in}
use Rattle.pl_infer.specs.declared.evidence.EvidenceRules.{EvidenceRules}
use Rattle.pl_infer.specs.declared.inference_result.SchemaInferenceResult.{SchemaInferenceResult}
use Rattle.pl_infer.specs.Inference.{Inference, inferred, overwritten, overwritten_at, types_of_names, has_long_texts, names_of, data_in, sample_of, sampled_bytes, workers_left, overwritten_columns, inference_result}

-- ---- columns

-- one column more
pub overwritten-more : (other : List Entry) (names : List (List ℕ)) (types : List DataType) (k : ℕ) (made : List Entry) (name : List ℕ) (type : DataType)
    → k < length names → k < length types → name ≡ get_or names k name → type ≡ get_or types k type
    → made ≡ map (overwritten_at other names types) (range_with_len 0 k)
    → made ++ overwritten other (length names) k (name, type) ∷ [] ≡ map (overwritten_at other names types) (range_with_len 0 (k + 1))
overwritten-more other names types k made name type few fits name_is type_is so_far =
    ap (λ n. made ++ overwritten other (length names) k (n, type) ∷ []) (name_is ∙ get_or_default names k name [] few)
    ∙ ap (λ t. made ++ overwritten other (length names) k (get_or names k [], t) ∷ []) (type_is ∙ get_or_default types k type dtype.String fits)
    ∙ ap (λ l. l ++ overwritten_at other names types k ∷ []) so_far
    ∙ sym (map-range_with_len_more (overwritten_at other names types) 0 k k (omega arith))

turned : (a b : List ℕ) → bytes_eq a b ≡ bytes_eq b a
turned a b = by (bytes_eq a b) (bytes_eq b a) refl refl
  where
    by : (s t : Bool) → bytes_eq a b ≡ s → bytes_eq b a ≡ t → s ≡ t
    by true true e f = refl
    by false false e f = refl
    by true false e f = sym ((bytes_eq-Decides b a).1 (sym ((bytes_eq-Decides a b).0 e))) ∙ f
    by false true e f = sym e ∙ (bytes_eq-Decides a b).1 (sym ((bytes_eq-Decides b a).0 f))

any-turned : (name : List ℕ) (names : List (List ℕ)) → list_any (bytes_eq name) names ≡ list_any (λ other. bytes_eq other name) names
any-turned name [] = refl
any-turned name (other ∷ names) = rw (turned name other, any-turned name names) refl

-- a name has a place among names if it is one of them
stands : (name : List ℕ) (names : List (List ℕ)) (found : Option ℕ) → position (bytes_eq name) names ≡ found → list_any (λ other. bytes_eq other name) names ≡ is_some found
stands name names None e = sym (any-turned name names) ∙ none_passes (bytes_eq name) names e
stands name names (Some k) e = sym (any-turned name names) ∙ known names name k e

-- the name at a place is that of the column there
pub name-there : (columns : List Entry) (k : ℕ) (column : Entry) → k < length columns → column ≡ get_or columns k column → slice_index_or (names_in columns) k [] ≡ column.0
name-there columns k column few at = get_or-map (λ (entry : Entry). entry.0) columns k column [] few ∙ ap (λ (entry : Entry). entry.0) (sym at)

-- the name of a column stands before it if it has a place among the columns there
pub repeat-found : (columns : List Entry) (k : ℕ) (column : Entry) (found : Option ℕ) → k < length columns → column ≡ get_or columns k column
    → found ≡ place_of column.0 (take k columns) → is_repeat (names_in columns) k ≡ is_some found
repeat-found columns k column found few at is =
    ap (λ n. list_any (λ other. bytes_eq other n) (take k (names_in columns))) (name-there columns k column few at)
    ∙ ap (list_any (λ other. bytes_eq other column.0)) (take-map (λ (entry : Entry). entry.0) k columns)
    ∙ stands column.0 (names_in (take k columns)) found (sym is)

-- ---- the sample

module _ (i : Inference) (rules : EvidenceRules) (names : List (List ℕ)) (records : List ℕ)
    (marks : scan.marks_of rules.dialect ≡ marks_of i.parse) (comment : scan.comment_of rules.dialect ≡ comment_of i.parse)
    (nulls : option_copied rules.null_values ≡ option_map (λ values. compiled_under values names) i.parse.null_values) (dates : rules.dates ≡ i.parse.try_parse_dates) where
  -- the types by rules are those of the names
  pub types-by : column_types rules (length names) (sample_in rules i.limit records) ≡ types_of_names i names records
  types-by =
      let by : Bool → Option NullValuesCompiled → Marks → Option (List ℕ) → List DataType =
      λ d n m c. map (λ column. column_type d (means_null n column) m (sampled i.limit (items m c records)) column) (range_with_len 0 (length names)) in
      ap (λ d. by d (option_copied rules.null_values) (scan.marks_of rules.dialect) (scan.comment_of rules.dialect)) dates
      ∙ ap (λ n. by i.parse.try_parse_dates n (scan.marks_of rules.dialect) (scan.comment_of rules.dialect)) nulls
      ∙ ap (λ m. by i.parse.try_parse_dates (option_map (λ values. compiled_under values names) i.parse.null_values) m (scan.comment_of rules.dialect)) marks
      ∙ ap (by i.parse.try_parse_dates (option_map (λ values. compiled_under values names) i.parse.null_values) (marks_of i.parse)) comment

  -- and so is whether a column has a long text
  pub long-by : have_long_text rules (length names) (sample_in rules i.limit records) ≡ has_long_texts i names records
  long-by =
      let by : Bool → Option NullValuesCompiled → Marks → Option (List ℕ) → Bool =
      λ d n m c. list_any (λ column. has_long_text d (means_null n column) m (sampled i.limit (items m c records)) column) (range_with_len 0 (length names)) in
      ap (λ d. by d (option_copied rules.null_values) (scan.marks_of rules.dialect) (scan.comment_of rules.dialect)) dates
      ∙ ap (λ n. by i.parse.try_parse_dates n (scan.marks_of rules.dialect) (scan.comment_of rules.dialect)) nulls
      ∙ ap (λ m. by i.parse.try_parse_dates (option_map (λ values. compiled_under values names) i.parse.null_values) m (scan.comment_of rules.dialect)) marks
      ∙ ap (by i.parse.try_parse_dates (option_map (λ values. compiled_under values names) i.parse.null_values) (marks_of i.parse)) comment

-- ---- the schema

-- the columns of the names and the types of an input
pub columns-are : (i : Inference) (input : List ℕ) (names : List (List ℕ)) (types : List DataType) (records : List ℕ) → names ≡ names_of i input → records ≡ data_in i input → types ≡ types_of_names i names records
    → overwritten_columns i.overwrite names types ≡ inferred i input
unfolding inferred
columns-are i input names types records names_are records_are types_are =
    ap (overwritten_columns i.overwrite names) types_are
    ∙ ap (λ left. overwritten_columns i.overwrite names (types_of_names i names left)) records_are
    ∙ ap (λ ns. overwritten_columns i.overwrite ns (types_of_names i ns (data_in i input))) names_are

-- there are as many types as names
pub length-types : (i : Inference) (names : List (List ℕ)) (records : List ℕ) → length (types_of_names i names records) ≡ length names
length-types i names records = length-map-range_with_len _ 0 (length names)

-- what inference gives, part by part
pub result-is : (i : Inference) (asked : Option ℕ) (input : List ℕ) (schema : List Entry) (items bytes : ℕ) (long : Bool)
    → schema ≡ inferred i input → items ≡ length (sample_of i (data_in i input)) → bytes ≡ sampled_bytes i input → long ≡ has_long_texts i (names_of i input) (data_in i input)
    → ◌≡◌ {A = SchemaInferenceResult} (record { inferred_schema = schema; rows_read = items; bytes_read = bytes; bytes_total = length input; n_threads = workers_left asked long }) (inference_result i asked input)
result-is i asked input schema items bytes long schema_is items_are bytes_are long_is = rw (schema_is, items_are, bytes_are, long_is) refl

-- ---- causes

first_some-one : (x : Option PolarsError) → first_some (x ∷ []) ≡ x
first_some-one None = refl
first_some-one (Some x) = refl
