-- What is read of data.
use Rattle.std.proofs.Common.{◌≡◌, ℕ, zero, suc, ◌+◌, ◌<◌, Bool, true, false, not, ◌&&◌, ◌||◌, ◌==◌, List, [], ◌∷◌, map, length, get_or, refl, sym, ◌∙◌, ap, subst, arith, nat_lt}
use Rattle.std.specs.Prelude.{◌≢◌, ◌⊎◌, Option, None, Some, AllPairs, slice_index}
use Rattle.std.specs.List.{range_with_len, list_any, All}
use Rattle.std.specs.Option.{option_map, option_copied}
use Rattle.std.specs.Str.{bytes_eq}
use Rattle.std.specs.Cmp.Lexicographic.{bytes_decides}
use Rattle.std.proofs.lemmas.Bool.{lt-ltb}
use Rattle.std.proofs.lemmas.Bool.Decides.{nat_tests}
use Rattle.std.proofs.lemmas.List.{length-map, get_or-map}
use Rattle.std.proofs.lemmas.List.Folds.{list_any_at}
use Rattle.std.proofs.lemmas.List.FromFn.{length-range_with_len, get_or-range_with_len, length-map-range_with_len}
use Rattle.std.proofs.lemmas.List.Kept.{AllPairs-filter, AllPairs-cons}
use Rattle.pl_frame.specs.declared.error.FaultKind.{FaultKind}
use Rattle.pl_frame.specs.declared.error.ComputeFault.TheVariants as compute_fault
use Rattle.pl_frame.specs.declared.error.PolarsError.{PolarsError}
use Rattle.pl_frame.specs.declared.error.PolarsError.TheVariants as error
use Rattle.pl_frame.specs.Frame.{ColumnValue, IsFrame, HaveHeight, height_of, names_of}
use Rattle.pl_frame.specs.Schema.{Entry, HaveDistinctNames, names_in}
use Rattle.pl_frame.specs.declared.error.OpFault.TheVariants as op_fault
use Rattle.pl_frame.specs.Dialect.{IsDialect}
use Rattle.std.specs.Borrow.{Bor}
use Rattle.pl_cells.specs.declared.null_values.NullValues.{NullValues}
use Rattle.pl_cells.specs.declared.null_values.NullValues.TheVariants as null
use Rattle.pl_cells.specs.declared.null_values.NullValuesCompiled.{NullValuesCompiled}
use Rattle.pl_cells.specs.NullValues.{compiled_for, text_under, HaveTexts, HasColumns}
use Rattle.pl_scan.specs.Dialect as scan
use Rattle.pl_frame.specs.Types.{is_readable}
use Rattle.pl_cells.specs.InitBuffers.{entry_at}
use Rattle.pl_cells.specs.InitBuffers as cells
use Rattle.pl_options.specs.declared.read_options.CsvReadOptions.{CsvReadOptions}
use Rattle.pl_options.specs.declared.row_index.RowIndex.{RowIndex}
use Rattle.pl_rows.specs.declared.columns.RangeColumns.{RangeColumns}
use Rattle.pl_rows.specs.declared.plan.RangePlan.{RangePlan}
use Rattle.pl_rows.specs.declared.range.RangeEnd.{RangeEnd}
use Rattle.pl_rows.specs.declared.range.RangeEnd.TheVariants as end
use Rattle.pl_rows.specs.Cells.{RowRules}
use Rattle.pl_rows.specs.Columns.{entries_in, columns_in, frame_of_rows}
use Rattle.pl_rows.specs.Plan.{rules_of as plan_rules}
use Rattle.pl_rows.specs.Ranges.{limited, judged_rows, has_unjudged, sound_rows, range_end, range_frame, IsRangeRead}
use Rattle.pl_rows.specs.Rows.{first_faulty}
use Rattle.pl_table.specs.Rows.{Row, rows}
use Rattle.pl_rows.proofs.FrameLaws.{IsFrame-rows}
use Rattle.pl_rows.proofs.RangeLaws.{rows-nil}
use Rattle.pl_rows.proofs.WholeLaws.{judged-last, sound-all, none-first, fault-first}
use Rattle.pl_options.specs.FirstCause.{when, first_some, Tells}
use Rattle.pl_options.specs.Text.{marks_of, comment_of}
use Rattle.pl_infer.specs.Schemas.{first_unreadable_column}
use Rattle.pl_read.specs.Options.{rules_of}
use Rattle.pl_read.specs.Projection.{projected, has_projected, taken_name}
use Rattle.pl_read.specs.Refusals.{is_zero, has_wrong_option, early_causes, nothing_read, faulty_record, index_past}
use Rattle.pl_read.specs.Rows.{columns_read, rows_in, data_columns, with_index, data_frame}
use Rattle.pl_read.specs.Steps.{data_cause, IsPlanOf, MayRead}
use Rattle.pl_read.proofs.PlaceLaws.{readable_at}
use Rattle.pl_read.proofs.ProjectionLaws.{taken}
use Rattle.pl_read.proofs.CauseLaws.{first_some-one, first_some-behind, first_some-here}

-- ---- what a plan reads

-- the rows of a plan are those of the data
pub rows-are : (plan : RangePlan) (o : CsvReadOptions) (schema : List Entry) (records : List ℕ) → IsPlanOf plan o schema → judged_rows plan records ≡ rows_in o records
rows-are plan o schema records is =
    judged-last plan records is.is_last
    ∙ ap (λ n. limited n (rows (scan.marks_of plan.dialect) (scan.comment_of plan.dialect) records)) is.limit_is
    ∙ ap (λ m. limited o.n_rows (rows m (scan.comment_of plan.dialect) records)) is.marks_are
    ∙ ap (λ p. limited o.n_rows (rows (marks_of o.parse_options) p records)) is.comment_is

-- the first faulty row of a plan is that of the data
pub faulty-is : (plan : RangePlan) (o : CsvReadOptions) (schema : List Entry) (records : List ℕ) → IsPlanOf plan o schema
    → first_faulty (plan_rules plan) (columns_in schema plan.projection.places.now) 0 (judged_rows plan records) ≡ first_faulty (rules_of o schema) (columns_read o schema) 0 (rows_in o records)
faulty-is plan o schema records is =
    ap (λ r. first_faulty r (columns_in schema plan.projection.places.now) 0 (judged_rows plan records)) is.rules_are
    ∙ ap (λ p. first_faulty (rules_of o schema) (columns_in schema p) 0 (judged_rows plan records)) is.places_are
    ∙ ap (first_faulty (rules_of o schema) (columns_read o schema) 0) (rows-are plan o schema records is)

-- where the range ends at a fault, that is the first cause against the data
pub fault-at : (plan : RangePlan) (o : CsvReadOptions) (schema : List Entry) (records : List ℕ) (row column : ℕ) (kind : FaultKind)
    → IsPlanOf plan o schema → range_end plan (columns_in schema plan.projection.places.now) records ≡ end.Fault row column kind
    → data_cause o schema records ≡ Some (error.ComputeError (compute_fault.Record row column kind))
fault-at plan o schema records row column kind is ended =
    let found : first_faulty (rules_of o schema) (columns_read o schema) 0 (rows_in o records) ≡ Some (row, (column, kind)) =
    sym (faulty-is plan o schema records is) ∙ fault-first _ (has_unjudged plan records) row column kind (sym ended) in
    first_some-here (faulty_record o schema records) _ _ (ap (option_map (λ found. error.ComputeError (compute_fault.Record found.0 found.1.0 found.1.1))) found)

-- else no row has a fault
pub no-fault-at : (plan : RangePlan) (o : CsvReadOptions) (schema : List Entry) (records : List ℕ) (e : RangeEnd) → IsPlanOf plan o schema → e ≡ range_end plan (columns_in schema plan.projection.places.now) records
    → (e ≡ end.Closed) ⊎ (e ≡ end.Open) → first_faulty (rules_of o schema) (columns_read o schema) 0 (rows_in o records) ≡ None
no-fault-at plan o schema records e is end_is ended = sym (faulty-is plan o schema records is) ∙ none-first _ (has_unjudged plan records) e end_is ended

-- and the columns are those of all rows
pub columns-at : (plan : RangePlan) (o : CsvReadOptions) (schema : List Entry) (records : List ℕ) (e : RangeEnd) → IsPlanOf plan o schema → e ≡ range_end plan (columns_in schema plan.projection.places.now) records
    → (e ≡ end.Closed) ⊎ (e ≡ end.Open) → range_frame plan schema records ≡ data_columns o schema records
columns-at plan o schema records e is end_is ended =
    ap (λ r. frame_of_rows r (entries_in schema plan.projection.places.now) (sound_rows r (columns_in schema plan.projection.places.now) (judged_rows plan records))) is.rules_are
    ∙ ap (λ p. frame_of_rows (rules_of o schema) (entries_in schema p) (sound_rows (rules_of o schema) (columns_in schema p) (judged_rows plan records))) is.places_are
    ∙ ap (λ rs. frame_of_rows (rules_of o schema) (entries_in schema (projected o schema)) (sound_rows (rules_of o schema) (columns_read o schema) rs)) (rows-are plan o schema records is)
    ∙ ap (frame_of_rows (rules_of o schema) (entries_in schema (projected o schema))) (sound-all (rules_of o schema) (columns_read o schema) 0 (rows_in o records) (no-fault-at plan o schema records e is end_is ended))

-- the same of a range that was read
pub faulty-cause : (plan : RangePlan) (o : CsvReadOptions) (schema : List Entry) (records : List ℕ) (read : RangeColumns) (row column : ℕ) (kind : FaultKind)
    → IsPlanOf plan o schema → IsRangeRead plan schema records read → read.end ≡ end.Fault row column kind
    → data_cause o schema records ≡ Some (error.ComputeError (compute_fault.Record row column kind))
faulty-cause plan o schema records read row column kind is range ended = fault-at plan o schema records row column kind is (sym range.end_is ∙ ended)

pub no-fault : (plan : RangePlan) (o : CsvReadOptions) (schema : List Entry) (records : List ℕ) (read : RangeColumns) → IsPlanOf plan o schema → IsRangeRead plan schema records read
    → (read.end ≡ end.Closed) ⊎ (read.end ≡ end.Open) → first_faulty (rules_of o schema) (columns_read o schema) 0 (rows_in o records) ≡ None
no-fault plan o schema records read is range ended = no-fault-at plan o schema records read.end is range.end_is ended

pub columns-are : (plan : RangePlan) (o : CsvReadOptions) (schema : List Entry) (records : List ℕ) (read : RangeColumns) → IsPlanOf plan o schema → IsRangeRead plan schema records read
    → (read.end ≡ end.Closed) ⊎ (read.end ≡ end.Open) → read.columns.items ≡ data_columns o schema records
columns-are plan o schema records read is range ended = range.columns ∙ columns-at plan o schema records read.end is range.end_is ended

-- ---- how many rows

limited-none : {X : Type 0} (limit : Option ℕ) → limited {X = X} limit [] ≡ []
limited-none None = refl
limited-none (Some zero) = refl
limited-none (Some (suc n)) = refl

length-none : (limit : Option ℕ) → length (limited {X = Row} limit []) ≡ 0
length-none limit = ap length (limited-none limit)

-- where no column is read, there are no records
no-records : (count : ℕ) (records : List ℕ) → count ≡ 0 → when (count == 0 && nat_lt 0 (length records)) error.EmptyProjection ≡ None → records ≡ []
no-records count [] e none = refl
no-records count (x ∷ xs) e none = absurd (some_none (ap (λ n. when (n == 0 && nat_lt 0 (length (x ∷ xs))) error.EmptyProjection) (sym e) ∙ none))
  where
    some_none : when (0 == 0 && nat_lt 0 (length (x ∷ xs))) error.EmptyProjection ≡ None → ⊥
    some_none h = let test : nat_lt 0 (length (x ∷ xs)) ≡ true = lt-ltb 0 (length (x ∷ xs)) (omega arith) in let there : ◌≡◌ {A = Option PolarsError} (Some error.EmptyProjection) None = sym (ap (λ t. when t error.EmptyProjection) test) ∙ h in cc

-- the columns have as many rows as there are
pub height-is : (o : CsvReadOptions) (schema : List Entry) (records : List ℕ) → nothing_read o schema records ≡ None → height_of (data_columns o schema records) ≡ length (rows_in o records)
height-is o schema records none = by (projected o schema) refl
  where
    by : (places : List ℕ) → projected o schema ≡ places → height_of (data_columns o schema records) ≡ length (rows_in o records)
    by [] e =
        let gone : records ≡ [] = no-records (length (projected o schema)) records (ap length e) none in
        ap (λ p. height_of (frame_of_rows (rules_of o schema) (entries_in schema p) (rows_in o records))) e
        ∙ sym (ap (λ r. length (rows_in o r)) gone ∙ ap (λ rs. length (limited o.n_rows rs)) (rows-nil (marks_of o.parse_options) (comment_of o.parse_options)) ∙ length-none o.n_rows)
    by (place ∷ places) e =
        ap (λ p. height_of (frame_of_rows (rules_of o schema) (entries_in schema p) (rows_in o records))) e ∙ length-map (rows_in o records) _

-- ---- the names

-- the names of the columns that are read
names-read : (rules : RowRules) (given : List Row) (schema : List Entry) (places : List ℕ) → names_of (frame_of_rows rules (entries_in schema places) given) ≡ map (λ place. (entry_at schema place).0) places
names-read rules given schema [] = refl
names-read rules given schema (place ∷ places) = ap (λ l. (entry_at schema place).0 ∷ l) (names-read rules given schema places)

pub names-entries : (schema : List Entry) (places : List ℕ) → names_in (map (λ (column : ℕ × Entry). column.1) (entries_in schema places)) ≡ map (λ place. (entry_at schema place).0) places
names-entries schema [] = refl
names-entries schema (place ∷ places) = ap (λ l. (entry_at schema place).0 ∷ l) (names-entries schema places)

pub name-at : (schema : List Entry) (k : ℕ) (d : List ℕ) → k < length schema → (entry_at schema k).0 ≡ get_or (names_in schema) k d
name-at [] k d l = absurd (omega arith)
name-at (entry ∷ schema) zero d l = refl
name-at (entry ∷ schema) (suc k) d l = name-at schema k d (omega arith)

from_zero : (i : ℕ) → 0 + i ≡ i
from_zero i = omega arith

-- the names at different places of a schema differ
apart-all : (schema : List Entry) → HaveDistinctNames schema → AllPairs (λ a b. (entry_at schema a).0 ≢ (entry_at schema b).0) (range_with_len 0 (length schema))
apart-all schema distinct i j d below within e =
    let size = length-range_with_len 0 (length schema) in
    let far : j < length schema = omega (arith, within, size) in
    let near : i < length schema = omega (arith, below, far) in
    let here : get_or (range_with_len 0 (length schema)) i d ≡ i = get_or-range_with_len 0 (length schema) i d near ∙ from_zero i in
    let there : get_or (range_with_len 0 (length schema)) j d ≡ j = get_or-range_with_len 0 (length schema) j d far ∙ from_zero j in
    let same : (entry_at schema i).0 ≡ (entry_at schema j).0 = ap (λ k. (entry_at schema k).0) (sym here) ∙ e ∙ ap (λ k. (entry_at schema k).0) there in
    distinct i j [] below (omega (arith, far, length-map schema (λ (entry : Entry). entry.0))) (sym (name-at schema i [] near) ∙ same ∙ name-at schema j [] far)

-- pairs of what is made of elements
pub pairs-map : {X : Type 0} (f : ℕ → X) (R : X → X → Type 0) (xs : List ℕ) → AllPairs (λ a b. R (f a) (f b)) xs → AllPairs R (map f xs)
pairs-map f R xs all i j d below within =
    let far : j < length xs = omega (arith, within, length-map xs f) in
    let near : i < length xs = omega (arith, below, far) in
    subst (λ y. R y (get_or (map f xs) j d)) (sym (get_or-map f xs i 0 d near)) (subst (λ y. R (f (get_or xs i 0)) y) (sym (get_or-map f xs j 0 d far)) (all i j 0 below far))

-- the names of the columns that are read are distinct
names-distinct : (o : CsvReadOptions) (schema : List Entry) → HaveDistinctNames schema → AllPairs (λ a b. a ≢ b) (map (λ place. (entry_at schema place).0) (projected o schema))
names-distinct o schema distinct =
    pairs-map (λ place. (entry_at schema place).0) (λ a b. a ≢ b) (projected o schema)
    (AllPairs-filter (λ a b. (entry_at schema a).0 ≢ (entry_at schema b).0) _ (range_with_len 0 (length schema)) (apart-all schema distinct))

-- the columns that are read are a frame
pub IsFrame-columns : (o : CsvReadOptions) (schema : List Entry) (records : List ℕ) → HaveDistinctNames schema → IsFrame (data_columns o schema records)
IsFrame-columns o schema records distinct =
    IsFrame-rows (rules_of o schema) (rows_in o records) (entries_in schema (projected o schema))
    (subst (AllPairs (λ a b. a ≢ b)) (sym (names-entries schema (projected o schema))) (names-distinct o schema distinct))

-- ---- the row index

-- a name that no column has
unlike : (f : ℕ → List ℕ) (name : List ℕ) (places : List ℕ) → list_any (λ place. bytes_eq name (f place)) places ≡ false → All (λ other. name ≢ other) (map f places)
unlike f name places none k d within e =
    let far : k < length places = omega (arith, within, length-map places f) in
    let same : name ≡ f (get_or places k 0) = e ∙ get_or-map f places k 0 d far in
    let there = list_any_at (λ place. bytes_eq name (f place)) places k 0 far ((bytes_decides name (f (get_or places k 0))).1 same) in
    absurd (no_both (list_any (λ place. bytes_eq name (f place)) places) none there)
  where
    no_both : (b : Bool) → b ≡ false → b ≡ true → ⊥
    no_both b f t = cc

-- the row index has the name of no column that is read
free-name : (o : CsvReadOptions) (schema : List Entry) (index : RowIndex) → o.row_index ≡ Some index → taken_name o schema ≡ None → has_projected o schema index.name ≡ false
free-name o schema index is free = by (has_projected o schema index.name) refl
  where
    by : (b : Bool) → has_projected o schema index.name ≡ b → has_projected o schema index.name ≡ false
    by false e = e
    by true e = absurd (some_none (sym (taken o schema index (projected o schema) true is refl e) ∙ free))
      where
        some_none : ◌≡◌ {A = Option (List ℕ)} (Some index.name) None → ⊥
        some_none h = cc

-- behind the row index they are one as well
pub IsFrame-indexed : (o : CsvReadOptions) (schema : List Entry) (records : List ℕ) → HaveDistinctNames schema → taken_name o schema ≡ None
    → IsFrame (with_index o.row_index (height_of (data_columns o schema records)) (data_columns o schema records))
IsFrame-indexed o schema records distinct free = by o.row_index refl
  where
    columns : List ColumnValue
    columns = data_columns o schema records

    by : (index : Option RowIndex) → o.row_index ≡ index → IsFrame (with_index o.row_index (height_of columns) columns)
    by None e = subst (λ i. IsFrame (with_index i (height_of columns) columns)) (sym e) (IsFrame-columns o schema records distinct)
    by (Some index) e = subst (λ i. IsFrame (with_index i (height_of columns) columns)) (sym e) (record {
      one_height = (refl, subst (λ n. HaveHeight n columns) (sym (length-map-range_with_len _ index.offset (height_of columns))) (IsFrame-columns o schema records distinct).one_height);
      distinct = subst (λ names. AllPairs (λ a b. a ≢ b) (index.name ∷ names)) (sym (names-read (rules_of o schema) (rows_in o records) schema (projected o schema)))
          (AllPairs-cons (λ a b. a ≢ b) index.name (map (λ place. (entry_at schema place).0) (projected o schema))
          (unlike (λ place. (entry_at schema place).0) index.name (projected o schema) (free-name o schema index e free)) (names-distinct o schema distinct));
    })

-- ---- the first cause against data

-- where no row has a fault
pub data_cause-index : (plan : RangePlan) (o : CsvReadOptions) (schema : List Entry) (records : List ℕ) (read : RangeColumns) → IsPlanOf plan o schema → IsRangeRead plan schema records read
    → (read.end ≡ end.Closed) ⊎ (read.end ≡ end.Open) → nothing_read o schema records ≡ None
    → index_past o.row_index (height_of read.columns.items) read.columns.items ≡ data_cause o schema records
data_cause-index plan o schema records read is range ended some =
    let columns = columns-are plan o schema records read is range ended in
    let sound : faulty_record o schema records ≡ None = ap (option_map (λ found. error.ComputeError (compute_fault.Record found.0 found.1.0 found.1.1))) (no-fault plan o schema records read is range ended) in
    ap (λ c. index_past o.row_index (height_of c) c) columns
    ∙ ap (λ n. index_past o.row_index n (data_columns o schema records)) (height-is o schema records some)
    ∙ sym (first_some-behind (faulty_record o schema records) _ sound ∙ first_some-one _)

-- the frame
pub data_frame-is : (plan : RangePlan) (o : CsvReadOptions) (schema : List Entry) (records : List ℕ) (read : RangeColumns) → IsPlanOf plan o schema → IsRangeRead plan schema records read
    → (read.end ≡ end.Closed) ⊎ (read.end ≡ end.Open) → nothing_read o schema records ≡ None
    → with_index o.row_index (height_of read.columns.items) read.columns.items ≡ data_frame o schema records
data_frame-is plan o schema records read is range ended some =
    ap (λ c. with_index o.row_index (height_of c) c) (columns-are plan o schema records read is range ended)
    ∙ ap (λ n. with_index o.row_index n (data_columns o schema records)) (height-is o schema records some)

-- where all types can be read, those of the columns that are read can
pub readable-places : (schema : List Entry) (places : List ℕ) → first_unreadable_column schema ≡ None → ((k : ℕ) → k < length places → slice_index places k < length schema) → cells.first_unreadable schema places ≡ None
readable-places schema [] readable below = refl
readable-places schema (place ∷ places) readable below =
    let here : not (is_readable (entry_at schema place).1) ≡ false = readable_at schema place readable (below 0 (omega arith)) in
    rw here (readable-places schema places readable (λ k l. below (suc k) (omega (arith, l))))

-- ---- when data can be read

none_some : (cause : PolarsError) → ◌≡◌ {A = Option PolarsError} None (Some cause) → ⊥
none_some cause h = cc

-- the options of a read that may be: its marks and its comment prefix are a dialect
pub may-dialect : (o : CsvReadOptions) → MayRead o → IsDialect (marks_of o.parse_options) (comment_of o.parse_options)
may-dialect o may = by may.is_dialect refl
  where
    by : (b : Bool) → may.is_dialect ≡ b → IsDialect (marks_of o.parse_options) (comment_of o.parse_options)
    by true e = subst (λ b. Tells b (IsDialect (marks_of o.parse_options) (comment_of o.parse_options))) e may.tells
    by false e = absurd (none_some _ (may.is ∙ ap (λ b. first_some (early_causes o b)) e))

-- and its pieces have bytes
pub may-pieces : (o : CsvReadOptions) → MayRead o → 0 < o.chunk_size
may-pieces o may = by may.is_dialect (o.chunk_size == 0) refl refl
  where
    others : Bool
    others = (nat_lt 0 o.skip_lines && nat_lt 0 o.skip_rows) || nat_lt 0 (length o.fields_to_cast)

    any_or : (t : Bool) → (t || true) ≡ true
    any_or true = refl
    any_or false = refl

    by : (b c : Bool) → may.is_dialect ≡ b → (o.chunk_size == 0) ≡ c → 0 < o.chunk_size
    by b false e some = grind (arith, nat_tests)
    by true true e zero_is =
        let wrong : has_wrong_option o ≡ true = ap (λ c. is_zero o.n_threads || (c || others)) zero_is ∙ any_or (is_zero o.n_threads) in
        absurd (none_some _ (may.is ∙ ap (λ b. first_some (early_causes o b)) e ∙ ap (λ t. first_some (when t (error.InvalidOperation op_fault.Option) ∷ [])) wrong))
    by false true e zero_is = absurd (none_some _ (may.is ∙ ap (λ b. first_some (early_causes o b)) e))

-- compiled null values have a text for each column
pub texts-compiled : (nulls : Option (Bor NullValuesCompiled)) (values : Option NullValues) (schema : List Entry) → option_copied nulls ≡ option_map (λ v. compiled_for v schema) values → HaveTexts nulls (length schema)
texts-compiled None values schema e = tt
texts-compiled (Some nulls) None schema e = absurd (some_none nulls.now e)
  where
    some_none : (n : NullValuesCompiled) → ◌≡◌ {A = Option NullValuesCompiled} (Some n) None → ⊥
    some_none n h = cc
texts-compiled (Some nulls) (Some values) schema e = subst (λ n. HasColumns n (length schema)) (sym (same nulls.now (compiled_for values schema) e)) (has values)
  where
    same : (a b : NullValuesCompiled) → ◌≡◌ {A = Option NullValuesCompiled} (Some a) (Some b) → a ≡ b
    same a b h = cc

    has : (values : NullValues) → HasColumns (compiled_for values schema) (length schema)
    has (null.AllColumnsSingle text) = tt
    has (null.AllColumns texts) = tt
    has (null.Named entries) = omega (arith, length-map (names_in schema) (text_under [] entries), length-map schema (λ (entry : Entry). entry.0))
