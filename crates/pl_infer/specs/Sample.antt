-- The sample that types are inferred from: its fields column by column, its extent, and its long texts (docs/types.md, "Inference").
use Rattle.std.specs.Prelude.{ℕ, ◌-◌, Bool, true, false, ◌&&◌, ◌==◌, nat_lt, List, [], ◌∷◌, length, take, count_by, Option, Some, is_some, slice_get}
use Rattle.std.specs.List.{filter_map, list_any}
use Rattle.pl_frame.specs.declared.data_type.DataType.{DataType}
use Rattle.pl_frame.specs.declared.data_type.DataType.TheVariants as dtype
use Rattle.pl_frame.specs.Dialect.{Marks}
use Rattle.pl_cells.specs.NullTest.{NullTest}
use Rattle.pl_cells.specs.Quoting.{quote_of}
use Rattle.pl_scan.specs.Fields.{fields}
use Rattle.pl_scan.specs.Items.{ItemText, items_behind, record_text}
use Rattle.pl_infer.specs.Evidence.{evidence_of}

-- the fields of a column in records
abbrev pub column_fields : Marks → ℕ → List (List ℕ) → List (List ℕ)
column_fields m column given = filter_map (λ record_bytes. slice_get (fields m record_bytes) column) given

-- the evidence is that of a string
abbrev pub shows_string : Option DataType → Bool
shows_string (Some dtype.String) = true
shows_string _ = false

-- a field is a long text, given its evidence: it is quoted, shows a string, and has more than eight line ends
abbrev pub is_long_text : Marks → Option DataType → List ℕ → Bool
is_long_text m shown field = is_some (quote_of m.quote field) && shows_string shown && nat_lt 8 (count_by (λ x. x == m.line_end) field)

-- a field of a column is a long text
abbrev pub is_long_field : Bool → NullTest → Marks → List ℕ → Bool
is_long_field dates is_null m field = is_long_text m (evidence_of dates is_null m.quote field) field

-- a column has a long text in a sample
abbrev pub has_long_text : Bool → NullTest → Marks → List ItemText → ℕ → Bool
has_long_text dates is_null m sample column = list_any (is_long_field dates is_null m) (column_fields m column (filter_map record_text sample))

-- what stands behind the last of these items, or the whole text where there are none
abbrev pub left_behind : List ℕ → List (ItemText × List ℕ) → List ℕ
left_behind b [] = b
left_behind b (part ∷ parts) = left_behind part.1 parts

-- how many bytes stand before the place just behind the last of the first so many items of a text; 0 where there are none
abbrev pub bytes_of_items : Marks → Option (List ℕ) → ℕ → List ℕ → ℕ
bytes_of_items m comment count b = length b - length (left_behind b (take count (items_behind m comment b)))
