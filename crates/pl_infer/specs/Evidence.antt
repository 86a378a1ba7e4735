-- What the fields of sampled items say of the types of their columns (docs/types.md, "Inference").
use Rattle.std.specs.Prelude.{ℕ, Bool, ◌||◌, ◌==◌, if◌then◌else◌, List, length, take, Option, None, Some, slice_get}
use Rattle.std.specs.List.{filter_map}
use Rattle.std.specs.Option.{option_and_then}
use Rattle.pl_frame.specs.declared.data_type.DataType.{DataType}
use Rattle.pl_frame.specs.declared.data_type.DataType.TheVariants as dtype
use Rattle.pl_frame.specs.Dialect.{Marks}
use Rattle.pl_cells.specs.NullTest.{NullTest, null_test}
use Rattle.pl_cells.specs.Quoting.{strip, quote_of, is_well_quoted, inside}
use Rattle.pl_scan.specs.Fields.{fields}
use Rattle.pl_scan.specs.Items.{ItemText, record_text}
use Rattle.pl_infer.specs.FieldTypes.{inferred_type, agreed_type}

-- the type that a field gives which is neither empty nor null, given the quote that it begins with: a string where it is not
-- well quoted, and else that of its plain text or of what stands between its quotes
abbrev pub shown_type : Bool → Option ℕ → List ℕ → DataType
shown_type dates None text = inferred_type dates text
shown_type dates (Some q) text = if is_well_quoted q text then inferred_type dates (inside text) else dtype.String

-- the evidence that a field gives of the type of its column: none where it is empty or means null
abbrev pub evidence_of : Bool → NullTest → Option ℕ → List ℕ → Option DataType
evidence_of dates is_null quote field =
    let text = strip field in
    let begins = quote_of quote field in
    if length text == 0 || null_test is_null begins text then None else Some (shown_type dates begins text)

-- the evidence that a record gives of a column: none where it has no such field
abbrev pub evidence_at : Bool → NullTest → Marks → ℕ → List ℕ → Option DataType
evidence_at dates is_null m column record_bytes = option_and_then (evidence_of dates is_null m.quote) (slice_get (fields m record_bytes) column)

-- the items of which types are inferred: the first so many, or all; comments and blank records count
abbrev pub sampled : Option ℕ → List ItemText → List ItemText
sampled None given = given
sampled (Some n) given = take n given

-- the type of a column by the records of a sample
abbrev pub column_type : Bool → NullTest → Marks → List ItemText → ℕ → DataType
column_type dates is_null m sample column = agreed_type (filter_map (evidence_at dates is_null m column) (filter_map record_text sample))
