-- What the steps of going through a sample do to what is known of its columns.
use Rattle.std.specs.Prelude.{ℕ, ◌+◌, ◌-◌, Bool, true, false, nat_lt, ◌||◌, if◌then◌else◌, List, [], ◌∷◌, map, Option, None, Some}
use Rattle.std.specs.List.{fold, list_any, range_with_len}
use Rattle.std.specs.Option.{option_copied}
use Rattle.pl_frame.specs.declared.data_type.DataType.{DataType}
use Rattle.pl_frame.specs.declared.data_type.DataType.TheVariants as dtype
use Rattle.pl_frame.specs.Equal.{types_equal}
use Rattle.pl_cells.specs.NullTest.{NullTest}
use Rattle.pl_cells.specs.NullValues.{means_null}
use Rattle.pl_scan.specs.Dialect.{marks_of, comment_of}
use Rattle.pl_scan.specs.Fields.{marked_fields}
use Rattle.pl_scan.specs.Items.{ItemText, CommentText, RecordText, items}
use Rattle.pl_infer.specs.declared.evidence.EvidenceRules.{EvidenceRules}
use Rattle.pl_infer.specs.declared.evidence.ShownTypes.{ShownTypes}
use Rattle.pl_infer.specs.declared.evidence.ShownTypes.TheVariants as shown
use Rattle.pl_infer.specs.declared.evidence.Seen.{Seen}
use Rattle.pl_infer.specs.Evidence.{evidence_of, sampled, column_type}
use Rattle.pl_infer.specs.Sample.{is_long_text, has_long_text}

-- which texts mean null in a column
abbrev pub null_test_in : EvidenceRules → ℕ → NullTest
null_test_in rules column = means_null (option_copied rules.null_values) column

-- types with one more
abbrev pub with_type : ShownTypes → DataType → ShownTypes
with_type shown.Nothing type = shown.One type
with_type (shown.One first) type = if types_equal first type then shown.One first else shown.Several
with_type shown.Several type = shown.Several

-- types with what a field shows
abbrev pub with_evidence : ShownTypes → Option DataType → ShownTypes
with_evidence types None = types
with_evidence types (Some type) = with_type types type

-- what is known of a column with one field more
abbrev pub with_field : EvidenceRules → ℕ → Seen → List ℕ → Seen
with_field rules column seen field =
    let evidence = evidence_of rules.dates (null_test_in rules column) rules.dialect.quote_char field in
    record { types = with_evidence seen.types evidence; has_long_text = seen.has_long_text || is_long_text (marks_of rules.dialect) evidence field }

-- what is known of columns, from a number on, with a field more of each, as far as there are fields
abbrev pub with_fields : EvidenceRules → ℕ → List (List ℕ × Bool) → List Seen → List Seen
with_fields rules column [] columns = columns
with_fields rules column (field ∷ others) [] = []
with_fields rules column (field ∷ others) (seen ∷ columns) = with_field rules column seen field.0 ∷ with_fields rules (column + 1) others columns

-- what is known of columns with one record more
abbrev pub with_record : EvidenceRules → List Seen → List ℕ → List Seen
with_record rules columns record_bytes = with_fields rules 0 (marked_fields (marks_of rules.dialect) record_bytes) columns

-- what is known of columns with these records
abbrev pub with_records : EvidenceRules → List Seen → List (List ℕ) → List Seen
with_records rules columns given = fold (with_record rules) columns given

-- what is known of columns with one item more, of which a comment shows nothing
abbrev pub with_item : EvidenceRules → List Seen → ItemText → List Seen
with_item rules columns (CommentText b) = columns
with_item rules columns (RecordText b) = with_record rules columns b

-- the sample of a text
abbrev pub sample_in : EvidenceRules → Option ℕ → List ℕ → List ItemText
sample_in rules limit b = sampled limit (items (marks_of rules.dialect) (comment_of rules.dialect) b)

-- the types of so many columns by a sample
abbrev pub column_types : EvidenceRules → ℕ → List ItemText → List DataType
column_types rules width sample =
    map (λ column. column_type rules.dates (null_test_in rules column) (marks_of rules.dialect) sample column) (range_with_len 0 width)

-- one of so many columns has a long text in a sample
abbrev pub have_long_text : EvidenceRules → ℕ → List ItemText → Bool
have_long_text rules width sample =
    list_any (λ column. has_long_text rules.dates (null_test_in rules column) (marks_of rules.dialect) sample column) (range_with_len 0 width)

-- another item is sampled, where so many may follow
abbrev pub may_go_on : Option ℕ → Bool
may_go_on None = true
may_go_on (Some left) = nat_lt 0 left

-- how many items may follow the next
abbrev pub one_less : Option ℕ → Option ℕ
one_less None = None
one_less (Some left) = Some (left - 1)

-- what is known of a column before its first field
abbrev pub nothing_seen : Seen
nothing_seen = record { types = shown.Nothing; has_long_text = false }

-- what is known of so many columns then
abbrev pub unseen : ℕ → List Seen
unseen width = map (λ column. nothing_seen) (range_with_len 0 width)

-- the type of a column of which these types were seen
abbrev pub type_seen : ShownTypes → DataType
type_seen (shown.One type) = type
type_seen _ = dtype.String
