-- The columns of parts.
use Rattle.std.proofs.Common.{◌≡◌, ◌≢◌, ℕ, zero, suc, ◌+◌, ◌<◌, Bool, true, false, not, ◌||◌, List, [], ◌∷◌, ◌++◌, map, length, get_or, replicate, Option, Some, None, refl, sym, ◌∙◌, ap, subst, arith, AllPairs, take, drop, min, ◌-◌}
use Rattle.std.specs.Option.{option_map}
use Rattle.std.specs.Prelude.{IsSome, slice_index_or}
use Rattle.std.specs.Cmp.Lexicographic.{pointwise, pointwise_decides, bytes_decides}
use Rattle.std.specs.List.{list_any}
use Rattle.std.specs.Str.{bytes_eq}
use Rattle.std.proofs.lemmas.List.{append-nil, map-append, length-append, length-take, length-drop, length-replicate}
use Rattle.std.proofs.lemmas.List.FromFn.{length-map-range_with_len}
use Rattle.pl_frame.specs.Columns.{text_cells}
use Rattle.pl_frame.specs.Frame.{Scalar, ColumnValue, Letters, IsFrame, HaveHeight, height_of, names_of}
use Rattle.pl_frame.specs.FrameParts.{empty_columns, stacked, sliced, schema_of, HaveSameColumns, with_values}
use Rattle.pl_frame.specs.RowIndex.{row_index_column}
use Rattle.pl_frame.specs.Names.{first_repeat, repeated_name}
use Rattle.pl_frame.specs.Schema.{Entry}
use Rattle.pl_frame.specs.declared.data_type.DataType.TheVariants as dtype
use Rattle.pl_frame.proofs.FramePartLaws.{frame_stacked}
use Rattle.pl_frame.proofs.NameLaws.{distinct_from_first_repeat}
use Rattle.pl_frame.proofs.SchemaLaws.{none_passes}
use Rattle.pl_cells.specs.InitBuffers.{entry_at}
use Rattle.pl_options.specs.declared.read_options.CsvReadOptions.{CsvReadOptions}
use Rattle.pl_options.specs.declared.row_index.RowIndex.{RowIndex}
use Rattle.pl_rows.specs.Cells.{RowRules}
use Rattle.pl_rows.specs.Columns.{entries_in, frame_of_rows}
use Rattle.pl_table.specs.Rows.{Row}
use Rattle.pl_infer.specs.Inference.{inference_of, inferred}
use Rattle.pl_read.specs.Options.{data_of, rules_of, settled, settled_schema}
use Rattle.pl_read.specs.Projection.{projected}
use Rattle.pl_read.specs.Reading.{frame_of}
use Rattle.pl_read.specs.Batches.{index_behind}
use Rattle.pl_read.specs.Rows.{rows_in, with_index}
use Rattle.pl_read.specs.SettleGiven.{given_schema}
use Rattle.std.specs.Prelude.{unwrap_or}
use Rattle.pl_multi.specs.Parts.{value_names, partition_names, first_other, index_name, entries_read, column_names}
use Rattle.pl_multi.specs.Scan.{part_options, value_columns, with_part_values, part_rows, no_rows, rows_from}
use Rattle.pl_multi.specs.Joining.{HasFreeName}
use Rattle.pl_multi.specs.declared.part.Part.{Part}

-- ---- names and types

schema-columns : (rules : RowRules) (schema : List Entry) (places : List ℕ) (given : List Row) → schema_of (frame_of_rows rules (entries_in schema places) given) ≡ map (entry_at schema) places
schema-columns rules schema [] given = refl
schema-columns rules schema (place ∷ places) given = ap (λ (l : List Entry). entry_at schema place ∷ l) (schema-columns rules schema places given)

schema-empty : (entries : List Entry) → schema_of (empty_columns entries) ≡ entries
schema-empty [] = refl
schema-empty (entry ∷ entries) = ap (λ (l : List Entry). entry ∷ l) (schema-empty entries)

abbrev text_entries : List (List ℕ) → List Entry
text_entries names = map (λ name. (name, dtype.String)) names

schema-values : (rows : ℕ) (values : List (List ℕ × List ℕ)) → schema_of (value_columns rows values) ≡ text_entries (map (λ value. value.0) values)
schema-values rows [] = refl
schema-values rows (value ∷ values) = ap (λ (l : List Entry). (value.0, dtype.String) ∷ l) (schema-values rows values)

-- the rows of a part have the columns of the answer
pub same-part : (o : CsvReadOptions) (parts : List Part) (wanted : Option ℕ) (part : Part) (bytes : List ℕ) → value_names part ≡ partition_names parts
    → HaveSameColumns (no_rows o parts) (part_rows (part_options o wanted) (given_schema o) (part, bytes))
same-part o parts wanted part bytes names =
    let schema = given_schema o in
    let options = part_options o wanted in
    let read : List ColumnValue = frame_of options schema bytes in
    let records = unwrap_or (data_of options bytes) [] in
    let columns : schema_of read ≡ entries_read o schema = schema-columns (rules_of options schema) schema (projected o schema) (rows_in options records) in
    schema-empty (entries_read o schema ++ text_entries (partition_names parts))
    ∙ sym (map-append (λ (column : ColumnValue). (column.name, column.dtype)) read (value_columns (height_of read) part.values)
    ∙ (λ i. columns i ++ schema-values (height_of read) part.values i)
    ∙ ap (λ l. entries_read o schema ++ text_entries l) names)

pub none-or : (b c : Bool) → (b || c) ≡ false → (b ≡ false) × (c ≡ false)
none-or false c e = (refl, e)
none-or true c e = absurd (cc)

any-none : {X : Type 0} (p : X → Bool) (xs : List X) (k : ℕ) (x : X) → list_any p xs ≡ false → k < length xs → x ≡ get_or xs k x → p x ≡ false
any-none p [] k x none l at = absurd (omega arith)
any-none p (y ∷ ys) zero x none l at = ap p at ∙ (none-or (p y) (list_any p ys) none).0
any-none p (y ∷ ys) (suc k) x none l at = any-none p ys k x (none-or (p y) (list_any p ys) none).1 (omega arith) at

not-false : (b : Bool) → not b ≡ false → b ≡ true
not-false true e = refl
not-false false e = absurd (cc)

pub names-decided : (names others : List (List ℕ)) → (pointwise bytes_eq names others ≡ true → names ≡ others) × (names ≡ others → pointwise bytes_eq names others ≡ true)
names-decided = pointwise_decides bytes_decides

-- each part has the names of the first, where none has others
pub same-names : (parts : List Part) (place : ℕ) (part : Part) → first_other parts ≡ None → place < length parts → part ≡ get_or parts place part → value_names part ≡ partition_names parts
same-names parts place part none within at =
    let differs = λ (part : Part). not (pointwise bytes_eq (value_names part) (partition_names parts)) in
    (names-decided (value_names part) (partition_names parts)).0
    (not-false _ (any-none differs parts place part (none_passes differs parts none) within at))

-- ---- heights

values-height : (rows : ℕ) (values : List (List ℕ × List ℕ)) → HaveHeight rows (value_columns rows values)
values-height rows [] = tt
values-height rows (value ∷ values) = (search (length-replicate), values-height rows values)

both-height : (n : ℕ) (columns others : List ColumnValue) → HaveHeight n columns → HaveHeight n others → HaveHeight n (columns ++ others)
both-height n [] others h k = k
both-height n (column ∷ columns) others h k = (h.0, both-height n columns others h.1 k)

-- columns with the values of a part behind have one height
pub part-height : (part : Part) (columns : List ColumnValue) → HaveHeight (height_of columns) columns → HaveHeight (height_of (with_part_values part columns)) (with_part_values part columns)
part-height part [] h = by part.values
  where
    by : (values : List (List ℕ × List ℕ)) → HaveHeight (height_of (value_columns 0 values)) (value_columns 0 values)
    by [] = tt
    by (value ∷ values) = values-height 0 (value ∷ values)
part-height part (column ∷ columns) h = both-height (length column.values) (column ∷ columns) (value_columns (length column.values) part.values) h (values-height (length column.values) part.values)

pub names-schema : (columns others : List ColumnValue) → HaveSameColumns columns others → names_of columns ≡ names_of others
names-schema [] [] e = refl
names-schema [] (o ∷ os) e = absurd (cc)
names-schema (c ∷ cs) [] e = absurd (cc)
names-schema (c ∷ cs) (o ∷ os) e =
    let mine : Entry = (c.name, c.dtype) in
    let its : Entry = (o.name, o.dtype) in
    let first : mine ≡ its = cc in
    let rest : schema_of cs ≡ schema_of os = cc in
    (λ i. (first i).0 ∷ names-schema cs os rest i)

-- columns of a frame with others behind
pub frame-behind : (columns others : List ColumnValue) → HaveSameColumns columns others → IsFrame columns → HaveHeight (height_of others) others → IsFrame (stacked columns others)
frame-behind columns others same frame height =
    frame_stacked columns others _ refl same frame record { one_height = height; distinct = subst (AllPairs (λ a b. a ≢ b)) (names-schema columns others same) frame.distinct }

pub height-behind : (columns others : List ColumnValue) → HaveSameColumns columns others → height_of (stacked columns others) ≡ height_of columns + height_of others
height-behind [] [] e = refl
height-behind [] (o ∷ os) e = absurd (cc)
height-behind (c ∷ cs) [] e = absurd (cc)
height-behind (c ∷ cs) (o ∷ os) e = length-append c.values o.values

pub same-behind : (columns others : List ColumnValue) → HaveSameColumns columns others → HaveSameColumns columns (stacked columns others)
same-behind [] others e = refl
same-behind (c ∷ cs) [] e = absurd (cc)
same-behind (c ∷ cs) (o ∷ os) e =
    let rest : schema_of cs ≡ schema_of os = cc in
    ap (λ (l : List Entry). (c.name, c.dtype) ∷ l) (same-behind cs os rest)

-- ---- names that stand once

names-empty : (entries : List Entry) → names_of (empty_columns entries) ≡ map (λ entry. entry.0) entries
names-empty [] = refl
names-empty (entry ∷ entries) = ap (λ l. entry.0 ∷ l) (names-empty entries)

names-text : (names : List (List ℕ)) → map (λ (entry : Entry). entry.0) (text_entries names) ≡ names
names-text [] = refl
names-text (name ∷ names) = ap (λ l. name ∷ l) (names-text names)

empty-height : (entries : List Entry) → HaveHeight 0 (empty_columns entries)
empty-height [] = tt
empty-height (entry ∷ entries) = (refl, empty-height entries)

no-height : (entries : List Entry) → height_of (empty_columns entries) ≡ 0
no-height [] = refl
no-height (entry ∷ entries) = refl

pub height-none : (o : CsvReadOptions) (parts : List Part) → height_of (no_rows o parts) ≡ 0
height-none o parts = no-height (entries_read o (given_schema o) ++ text_entries (partition_names parts))

names-none : (o : CsvReadOptions) (parts : List Part) → names_of (no_rows o parts) ≡ map (λ entry. entry.0) (entries_read o (given_schema o)) ++ partition_names parts
names-none o parts =
    names-empty (entries_read o (given_schema o) ++ text_entries (partition_names parts))
    ∙ map-append (λ (entry : Entry). entry.0) (entries_read o (given_schema o)) (text_entries (partition_names parts))
    ∙ ap (λ l. map (λ (entry : Entry). entry.0) (entries_read o (given_schema o)) ++ l) (names-text (partition_names parts))

all-behind : (R : List ℕ → List ℕ → Type 0) (x : List ℕ) (xs : List (List ℕ)) → AllPairs R (x ∷ xs) → AllPairs R xs
all-behind R x xs all = λ i j d l k. all (suc i) (suc j) d (omega (arith, l)) (omega (arith, k))

all-names : (index : Option RowIndex) (names : List (List ℕ)) → AllPairs (λ a b. a ≢ b) (index_name index ++ names) → AllPairs (λ a b. a ≢ b) names
all-names None names all = all
all-names (Some index) names all = all-behind (λ a b. a ≢ b) index.name names all

no-repeat : (names : List (List ℕ)) → repeated_name names ≡ None → first_repeat names ≡ None
no-repeat names e = by (first_repeat names) refl
  where
    by : (place : Option ℕ) → first_repeat names ≡ place → first_repeat names ≡ None
    by None is = is
    by (Some place) is = absurd (cc)

-- the columns without rows, where no name stands twice
pub free-none : (o : CsvReadOptions) (parts : List Part) → repeated_name (column_names o (given_schema o) parts) ≡ None → HasFreeName o.row_index (no_rows o parts)
free-none o parts e =
    subst (λ l. AllPairs (λ a b. a ≢ b) (index_name o.row_index ++ l)) (sym (names-none o parts))
    (distinct_from_first_repeat (column_names o (given_schema o) parts) (no-repeat (column_names o (given_schema o) parts) e))

pub level : (n : ℕ) (columns : List ColumnValue) → HaveHeight n columns → HaveHeight (height_of columns) columns
level n [] h = tt
level n (column ∷ columns) h = subst (λ m. HaveHeight m (column ∷ columns)) (sym h.0) h

pub frame-none : (o : CsvReadOptions) (parts : List Part) → HasFreeName o.row_index (no_rows o parts) → IsFrame (no_rows o parts)
frame-none o parts free = record {
  one_height = level 0 (no_rows o parts) (empty-height (entries_read o (given_schema o) ++ text_entries (partition_names parts)));
  distinct = all-names o.row_index (names_of (no_rows o parts)) free;
}

-- the same of other columns of the same names
pub free-same : (index : Option RowIndex) (columns others : List ColumnValue) → HasFreeName index columns → HaveSameColumns columns others → HasFreeName index others
free-same index columns others free same = subst (λ l. AllPairs (λ a b. a ≢ b) (index_name index ++ l)) (names-schema columns others same) free

-- ---- rows from one on

same-sliced : (start count : ℕ) (columns : List ColumnValue) → HaveSameColumns columns (sliced start count columns)
same-sliced start count [] = refl
same-sliced start count (column ∷ columns) = ap (λ (l : List Entry). (column.name, column.dtype) ∷ l) (same-sliced start count columns)

pub free-sliced : (index : Option RowIndex) (start : ℕ) (columns : List ColumnValue) → HasFreeName index columns → HasFreeName index (rows_from start columns)
free-sliced index start columns free = free-same index columns (rows_from start columns) free (same-sliced start (height_of columns) columns)

take-all : {X : Type 0} (xs : List X) (n : ℕ) → length xs ≡ n → take n xs ≡ xs
take-all [] zero e = refl
take-all [] (suc n) e = refl
take-all (x ∷ xs) zero e = absurd (omega arith)
take-all {X} (x ∷ xs) (suc n) e = ap (λ (l : List X). x ∷ l) (take-all xs n (omega arith))

all-sliced : (n : ℕ) (columns : List ColumnValue) → HaveHeight n columns → columns ≡ sliced 0 n columns
all-sliced n [] h = refl
all-sliced n (column ∷ columns) h = (λ i. with_values column (sym (take-all column.values n h.0) i) ∷ all-sliced n columns h.1 i)

-- from the first row on they are all
pub rows-all : (columns : List ColumnValue) → IsFrame columns → columns ≡ rows_from 0 columns
rows-all columns frame = all-sliced (height_of columns) columns frame.one_height

-- how many they are
pub rows-height : (start : ℕ) (columns : List ColumnValue) → height_of (rows_from start columns) ≡ height_of columns - start
rows-height start [] = omega arith
rows-height start (column ∷ columns) =
    length-take (length column.values) (drop start column.values) ∙ ap (min (length column.values)) (length-drop start column.values) ∙ omega arith

-- ---- behind a row index

pub frame-indexed : (index : Option RowIndex) (columns : List ColumnValue) (before : ℕ) → HasFreeName index columns → IsFrame columns → IsFrame (with_index (index_behind before index) (height_of columns) columns)
frame-indexed None columns before free frame = frame
frame-indexed (Some index) columns before free frame = record {
  one_height = (refl, subst (λ n. HaveHeight n columns) (sym (length-map-range_with_len _ (index.offset + before) (height_of columns))) frame.one_height);
  distinct = free;
}

-- without rows any numbers are the same
pub numbers-none : (index : Option RowIndex) (before start : ℕ) (columns : List ColumnValue) → height_of columns ≡ 0
    → with_index (index_behind before index) (height_of columns) columns ≡ with_index (index_behind start index) (height_of columns) columns
numbers-none None before start columns none = refl
numbers-none (Some index) before start columns none =
    ap (λ n. row_index_column index.name (index.offset + before) n ∷ columns) none ∙ sym (ap (λ n. row_index_column index.name (index.offset + start) n ∷ columns) none)

-- ---- a value in each row

pub cells-repeated : (rows : ℕ) (text : List ℕ) → text_cells (replicate rows (Some text)) ≡ replicate rows (Some (Letters text))
cells-repeated zero text = refl
cells-repeated (suc rows) text = ap (λ (l : List (Option Scalar)). Some (Letters text) ∷ l) (cells-repeated rows text)

pub settled-given : (o : CsvReadOptions) (input : List ℕ) → IsSome o.schema → settled_schema o input ≡ given_schema o
settled-given o input given = by o.schema refl
  where
    by : (schema : Option (List Entry)) → o.schema ≡ schema → settled_schema o input ≡ given_schema o
    by None e = let none : IsSome {T = List Entry} None = subst IsSome e given in absurd (cc)
    by (Some schema) e = ap (λ s. settled o (unwrap_or s (inferred (inference_of o) input))) e ∙ sym (ap (λ s. settled o (unwrap_or s [])) e)

-- ---- names that were collected

map-same : (xs : List (List ℕ)) → map (λ (x : List ℕ). x) xs ≡ xs
map-same [] = refl
map-same (x ∷ xs) = ap (λ (l : List (List ℕ)). x ∷ l) (map-same xs)

pub none-repeated : (names seen all : List (List ℕ)) → None ≡ first_repeat (map (λ (x : List ℕ). x) seen) → seen ≡ names → names ≡ all → repeated_name all ≡ None
none-repeated names seen all first same are =
    let none : first_repeat all ≡ None = ap first_repeat (sym (map-same seen ∙ same ∙ are)) ∙ sym first in
    ap (option_map (λ place. slice_index_or all place [])) none

-- ---- columns that were changed in place

pub length-same : (columns others : List ColumnValue) → HaveSameColumns columns others → length columns ≡ length others
length-same [] [] e = refl
length-same [] (o ∷ os) e = absurd (cc)
length-same (c ∷ cs) [] e = absurd (cc)
length-same (c ∷ cs) (o ∷ os) e = let rest : schema_of cs ≡ schema_of os = cc in ap suc (length-same cs os rest)

none-left : {X : Type 0} (xs : List X) (n : ℕ) → length xs ≡ n → drop n xs ≡ []
none-left [] zero e = refl
none-left [] (suc n) e = refl
none-left (x ∷ xs) zero e = absurd (omega arith)
none-left (x ∷ xs) (suc n) e = none-left xs n (omega arith)

pub written-back : {X : Type 0} (old new : List X) (n : ℕ) → length old ≡ length new → n ≡ length old → take n (new ++ drop (length new) old) ≡ new
written-back old new n same whole =
    ap (λ l. take n (new ++ l)) (none-left old (length new) same) ∙ ap (take n) (append-nil new) ∙ take-all new n (omega (arith, same, whole))
