-- What is read of the rows behind others.
use Rattle.std.proofs.Common.{◌≡◌, ℕ, zero, suc, ◌+◌, ◌<◌, ◌≤◌, Bool, true, false, ◌&&◌, ◌==◌, nat_lt, List, [], ◌∷◌, ◌++◌, length, refl, sym, ◌∙◌, ap, subst, inl, inr, arith}
use Rattle.std.specs.Prelude.{◌⊎◌, if◌then◌else◌, Option, None, Some}
use Rattle.std.specs.List.{filter_map}
use Rattle.std.specs.Option.{option_map, option_map_or, option_and_then}
use Rattle.std.proofs.lemmas.Bool.{lt-ltb}
use Rattle.std.proofs.lemmas.Bool.Decides.{nat_tests}
use Rattle.std.proofs.lemmas.List.{length-map, length-take}
use Rattle.pl_frame.specs.declared.error.FaultKind.{FaultKind}
use Rattle.pl_frame.specs.declared.error.PolarsError.TheVariants as error
use Rattle.pl_frame.specs.Dialect.{Marks}
use Rattle.pl_frame.specs.Frame.{IsFrame, height_of}
use Rattle.pl_frame.specs.Schema.{Entry, HaveDistinctNames}
use Rattle.pl_scan.specs.Items.{items_behind}
use Rattle.pl_scan.proofs.ItemLaws.{length-items}
use Rattle.pl_table.specs.Rows.{Row, row_of, rows}
use Rattle.pl_options.specs.declared.read_options.CsvReadOptions.{CsvReadOptions}
use Rattle.pl_options.specs.declared.row_index.RowIndex.{RowIndex}
use Rattle.pl_options.specs.Text.{marks_of, comment_of}
use Rattle.pl_rows.specs.declared.columns.RangeColumns.{RangeColumns}
use Rattle.pl_rows.specs.declared.plan.RangePlan.{RangePlan}
use Rattle.pl_rows.specs.declared.range.RangeEnd.TheVariants as end
use Rattle.pl_rows.specs.Cells.{RowRules}
use Rattle.pl_rows.specs.Columns.{entries_in, frame_of_rows}
use Rattle.pl_rows.specs.Pieces.{left_limit, plan_behind}
use Rattle.pl_rows.specs.Plan.{Columns}
use Rattle.pl_rows.specs.declared.range.RangeEnd.{RangeEnd}
use Rattle.pl_rows.specs.Ranges.{limited, has_unjudged, end_of, IsRangeRead}
use Rattle.pl_rows.specs.Rows.{first_fault, first_faulty}
use Rattle.pl_rows.proofs.RangeLaws.{first_faulty-more, first_faulty-here}
use Rattle.pl_rows.proofs.WholeLaws.{fault-first}
use Rattle.pl_options.specs.FirstCause.{when}
use Rattle.pl_read.specs.Batches.{rows_behind, index_behind, frame_behind}
use Rattle.pl_read.specs.NextFrames.{options_behind}
use Rattle.pl_read.specs.Options.{rules_of}
use Rattle.pl_read.specs.Projection.{projected, has_projected, taken_name}
use Rattle.pl_read.specs.Rows.{columns_read, with_index}
use Rattle.pl_read.specs.Steps.{IsPlanOf, CanReadData}
use Rattle.pl_read.proofs.DataLaws.{faulty-is, no-fault, columns-are, height-is, IsFrame-indexed}

-- ---- how many rows

few-mapped : {X Y : Type 0} (f : X → Option Y) (xs : List X) → length (filter_map f xs) ≤ length xs
few-mapped f [] = omega arith
few-mapped {Y = Y} f (x ∷ xs) = by (f x) refl (few-mapped f xs)
  where
    by : (o : Option Y) → f x ≡ o → length (filter_map f xs) ≤ length xs → length (filter_map f (x ∷ xs)) ≤ length (x ∷ xs)
    by None e deeper = rw e (omega (arith, deeper))
    by (Some y) e deeper = rw e (omega (arith, deeper))

-- at most as many as the text has bytes
pub few-rows : (m : Marks) (comment : Option (List ℕ)) (b : List ℕ) → length (rows m comment b) ≤ length b
few-rows m comment b =
    let counted = few-mapped (row_of m) (items_behind m comment b) in
    omega (arith, counted, length-items m comment b, length-map (items_behind m comment b) (λ part. part.0))

few-limited : {X : Type 0} (limit : Option ℕ) (xs : List X) → length (limited limit xs) ≤ length xs
few-limited None xs = omega arith
few-limited (Some n) xs = omega (arith, length-take n xs)

pub few-behind : (o : CsvReadOptions) (before : ℕ) (text : List ℕ) → length (rows_behind o before text) ≤ length text
few-behind o before text =
    let m = marks_of o.parse_options in
    let comment = comment_of o.parse_options in
    omega (arith, few-limited (left_limit o.n_rows before) (rows m comment text), few-rows m comment text)

-- ---- the first faulty row, counted from a number on

-- a row with its number that many later
abbrev later : ℕ → Option (ℕ × (ℕ × FaultKind)) → Option (ℕ × (ℕ × FaultKind))
later before found = option_map (λ f. (before + f.0, f.1)) found

faulty-later : (rules : RowRules) (columns : Columns) (before k : ℕ) (given : List Row) → first_faulty rules columns (before + k) given ≡ later before (first_faulty rules columns k given)
faulty-later rules columns before k [] = refl
faulty-later rules columns before k (row ∷ others) = by (first_fault rules columns row) refl (faulty-later rules columns before (k + 1) others)
  where
    by : (found : Option (ℕ × FaultKind)) → first_fault rules columns row ≡ found → first_faulty rules columns (before + (k + 1)) others ≡ later before (first_faulty rules columns (k + 1) others)
        → first_faulty rules columns (before + k) (row ∷ others) ≡ later before (first_faulty rules columns k (row ∷ others))
    by None e deeper =
        let same : before + k + 1 ≡ before + (k + 1) = omega arith in
        first_faulty-more rules columns (before + k) row others e
        ∙ ap (λ j. first_faulty rules columns j others) same
        ∙ deeper
        ∙ ap (later before) (sym (first_faulty-more rules columns k row others e))
    by (Some found) e deeper = first_faulty-here rules columns (before + k) row others found e ∙ ap (later before) (sym (first_faulty-here rules columns k row others found e))

-- the first faulty row of rows behind so many others
pub faulty-behind : (rules : RowRules) (columns : Columns) (before : ℕ) (given : List Row) (found : Option (ℕ × (ℕ × FaultKind))) → first_faulty rules columns 0 given ≡ found
    → first_faulty rules columns before given ≡ later before found
faulty-behind rules columns before given found is =
    let zero_more : before ≡ before + 0 = omega arith in
    ap (λ j. first_faulty rules columns j given) zero_more ∙ faulty-later rules columns before 0 given ∙ ap (later before) is

first-number : (a b : ℕ) (f g : ℕ × FaultKind) → ◌≡◌ {A = Option (ℕ × (ℕ × FaultKind))} (Some (a, f)) (Some (b, g)) → a ≡ b
first-number a b f g h = ap (λ o. option_map_or (λ (first : ℕ × (ℕ × FaultKind)). first.0) o 0) h

-- it is one of them
pub faulty-inside : (rules : RowRules) (columns : Columns) (k : ℕ) (given : List Row) (row : ℕ) (fault : ℕ × FaultKind) → first_faulty rules columns k given ≡ Some (row, fault) → row < k + length given
faulty-inside rules columns k [] row fault is = absurd (cc)
faulty-inside rules columns k (first ∷ others) row fault is = by (first_fault rules columns first) refl (faulty-inside rules columns (k + 1) others row fault) is
  where
    by : (found : Option (ℕ × FaultKind)) → first_fault rules columns first ≡ found → (first_faulty rules columns (k + 1) others ≡ Some (row, fault) → row < k + 1 + length others)
        → first_faulty rules columns k (first ∷ others) ≡ Some (row, fault) → row < k + length (first ∷ others)
    by None e deeper is = omega (arith, deeper (sym (first_faulty-more rules columns k first others e) ∙ is))
    by (Some found) e deeper is = let same : k ≡ row = first-number k row found fault (sym (first_faulty-here rules columns k first others found e) ∙ is) in omega arith

-- of rows and others behind them, where none of the first has a fault
pub faulty-append : (rules : RowRules) (columns : Columns) (k : ℕ) (xs ys : List Row) → first_faulty rules columns k xs ≡ None → first_faulty rules columns k (xs ++ ys) ≡ first_faulty rules columns (k + length xs) ys
faulty-append rules columns k [] ys none = let same : k ≡ k + 0 = omega arith in ap (λ j. first_faulty rules columns j ys) same
faulty-append rules columns k (row ∷ xs) ys none = by (first_fault rules columns row) refl (faulty-append rules columns (k + 1) xs ys)
  where
    by : (found : Option (ℕ × FaultKind)) → first_fault rules columns row ≡ found
        → (first_faulty rules columns (k + 1) xs ≡ None → first_faulty rules columns (k + 1) (xs ++ ys) ≡ first_faulty rules columns (k + 1 + length xs) ys)
        → first_faulty rules columns k (row ∷ xs ++ ys) ≡ first_faulty rules columns (k + length (row ∷ xs)) ys
    by None e deeper =
        let next : k + 1 + length xs ≡ k + length (row ∷ xs) = omega arith in
        first_faulty-more rules columns k row (xs ++ ys) e ∙ deeper (sym (first_faulty-more rules columns k row xs e) ∙ none) ∙ ap (λ j. first_faulty rules columns j ys) next
    by (Some found) e deeper = let here = sym (first_faulty-here rules columns k row xs found e) ∙ none in absurd (cc)

-- and where one of them has
pub faulty-front : (rules : RowRules) (columns : Columns) (k : ℕ) (xs ys : List Row) (first : ℕ × (ℕ × FaultKind)) → first_faulty rules columns k xs ≡ Some first → first_faulty rules columns k (xs ++ ys) ≡ Some first
faulty-front rules columns k [] ys first is = absurd (cc)
faulty-front rules columns k (row ∷ xs) ys first is = by (first_fault rules columns row) refl (faulty-front rules columns (k + 1) xs ys first)
  where
    by : (found : Option (ℕ × FaultKind)) → first_fault rules columns row ≡ found
        → (first_faulty rules columns (k + 1) xs ≡ Some first → first_faulty rules columns (k + 1) (xs ++ ys) ≡ Some first)
        → first_faulty rules columns k (row ∷ xs ++ ys) ≡ Some first
    by None e deeper = first_faulty-more rules columns k row (xs ++ ys) e ∙ deeper (sym (first_faulty-more rules columns k row xs e) ∙ is)
    by (Some found) e deeper = first_faulty-here rules columns k row (xs ++ ys) found e ∙ sym (first_faulty-here rules columns k row xs found e) ∙ is

-- where none of all has a fault, none of the first has
pub faulty-none : (rules : RowRules) (columns : Columns) (k : ℕ) (xs ys : List Row) → first_faulty rules columns k (xs ++ ys) ≡ None → first_faulty rules columns k xs ≡ None
faulty-none rules columns k xs ys none = by (first_faulty rules columns k xs) refl
  where
    by : (found : Option (ℕ × (ℕ × FaultKind))) → first_faulty rules columns k xs ≡ found → first_faulty rules columns k xs ≡ None
    by None e = e
    by (Some first) e = let here = sym (faulty-front rules columns k xs ys first e) ∙ none in absurd (cc)

-- and none of them has one, whatever they are counted from
pub faulty-none_from : (rules : RowRules) (columns : Columns) (before : ℕ) (given : List Row) → first_faulty rules columns before given ≡ None → first_faulty rules columns 0 given ≡ None
faulty-none_from rules columns before given none = by (first_faulty rules columns 0 given) refl
  where
    by : (found : Option (ℕ × (ℕ × FaultKind))) → first_faulty rules columns 0 given ≡ found → first_faulty rules columns 0 given ≡ None
    by None e = e
    by (Some first) e = let here = sym (faulty-behind rules columns before given (Some first) e) ∙ none in absurd (cc)

-- ---- a plan, behind so many rows

-- a row index is free of the names whatever its numbers begin with
free-index : (o : CsvReadOptions) (schema : List Entry) (before : ℕ) (index : Option RowIndex) → option_and_then (λ (i : RowIndex). if has_projected o schema i.name then Some i.name else None) index ≡ None
    → option_and_then (λ (i : RowIndex). if has_projected o schema i.name then Some i.name else None) (index_behind before index) ≡ None
free-index o schema before None free = refl
free-index o schema before (Some index) free = free

-- options by the limit behind so many rows, and numbers behind so many
abbrev pub options_at : CsvReadOptions → ℕ → ℕ → CsvReadOptions
options_at o rows before = record o { n_rows = left_limit o.n_rows rows; row_index = index_behind before o.row_index }

plan_is-behind : (plan : RangePlan) (o : CsvReadOptions) (schema : List Entry) (before : ℕ) → IsPlanOf plan o schema → IsPlanOf (plan_behind plan before plan.last) (options_behind o before) schema
plan_is-behind plan o schema before is = record {
  marks_are = is.marks_are;
  comment_is = is.comment_is;
  rules_are = is.rules_are;
  places_are = is.places_are;
  width_is = is.width_is;
  limit_is = ap (λ limit. left_limit limit before) is.limit_is;
  is_last = is.is_last;
}

-- where columns are read, nothing stands against any text
some-any : (count : ℕ) (rest text : List ℕ) → 0 < length rest → when (count == 0 && nat_lt 0 (length rest)) error.EmptyProjection ≡ None → when (count == 0 && nat_lt 0 (length text)) error.EmptyProjection ≡ None
some-any zero rest text some none =
    let test : nat_lt 0 (length rest) ≡ true = lt-ltb 0 (length rest) some in
    let there = sym (ap (λ t. when t error.EmptyProjection) test) ∙ none in
    absurd (cc)
some-any (suc count) rest text some none =
    let test : (suc count == 0) ≡ false = grind (arith, nat_tests) in
    ap (λ t. when (t && nat_lt 0 (length text)) error.EmptyProjection) test

-- a plan that can read some data can read the rows of any text behind others
pub CanReadData-behind : (plan p : RangePlan) (o : CsvReadOptions) (schema : List Entry) (rest text : List ℕ) (before : ℕ) → p ≡ plan_behind plan before plan.last → 0 < length rest → CanReadData plan o schema rest
    → CanReadData p (options_behind o before) schema text
CanReadData-behind plan p o schema rest text before is some can = subst (λ q. CanReadData q (options_behind o before) schema text) (sym is) (record {
  plan_is = plan_is-behind plan o schema before can.plan_is;
  dialect = can.dialect;
  pieces = can.pieces;
  readable = can.readable;
  texts = can.texts;
  distinct = can.distinct;
  free = free-index o schema before o.row_index can.free;
  some = some-any (length (projected o schema)) rest text some can.some;
})

-- ---- the rows of a text behind others

-- the first faulty row, where the reading ended at one
pub found-fault : (p : RangePlan) (o : CsvReadOptions) (schema : List Entry) (rows : ℕ) (text : List ℕ) (read : RangeColumns) (row column : ℕ) (kind : FaultKind)
    → IsPlanOf p (options_behind o rows) schema → IsRangeRead p schema text read → read.end ≡ end.Fault row column kind
    → first_faulty (rules_of o schema) (columns_read o schema) 0 (rows_behind o rows text) ≡ Some (row, (column, kind))
found-fault p o schema rows text read row column kind is range ended =
    sym (faulty-is p (options_behind o rows) schema text is) ∙ fault-first _ (has_unjudged p text) row column kind (sym ended ∙ range.end_is)

-- what is known of a text of whose rows none has a fault
pub record IsSound (o : CsvReadOptions) (schema : List Entry) (rows : ℕ) (text : List ℕ) (read : RangeColumns) : Type 0 where
  pub columns : read.columns.items ≡ frame_of_rows (rules_of o schema) (entries_in schema (projected o schema)) (rows_behind o rows text)
  pub height : height_of read.columns.items ≡ length (rows_behind o rows text)
  pub sound : first_faulty (rules_of o schema) (columns_read o schema) 0 (rows_behind o rows text) ≡ None

pub IsSound-read : (p : RangePlan) (o : CsvReadOptions) (schema : List Entry) (rows : ℕ) (text : List ℕ) (read : RangeColumns) → CanReadData p (options_behind o rows) schema text
    → IsRangeRead p schema text read → (read.end ≡ end.Closed) ⊎ (read.end ≡ end.Open) → IsSound o schema rows text read
IsSound-read p o schema rows text read can range ended =
    let later = options_behind o rows in
    let columns = columns-are p later schema text read can.plan_is range ended in
    record {
      columns = columns;
      height = ap height_of columns ∙ height-is later schema text can.some;
      sound = no-fault p later schema text read can.plan_is range ended;
    }

ended-whole : (u : Bool) → (end_of None u ≡ end.Closed) ⊎ (end_of None u ≡ end.Open)
ended-whole true = inr refl
ended-whole false = inl refl

whole-end : (e : RangeEnd) (u : Bool) → e ≡ end_of None u → (e ≡ end.Closed) ⊎ (e ≡ end.Open)
whole-end e u is = elim (ended-whole u) [ inl closed ↦ inl (is ∙ closed) | inr unclosed ↦ inr (is ∙ unclosed) ]

pub IsSound-told : (p : RangePlan) (o : CsvReadOptions) (schema : List Entry) (rows : ℕ) (text : List ℕ) (read : RangeColumns) → CanReadData p (options_behind o rows) schema text
    → IsRangeRead p schema text read → first_faulty (rules_of o schema) (columns_read o schema) 0 (rows_behind o rows text) ≡ None → IsSound o schema rows text read
IsSound-told p o schema rows text read can range sound =
    let none = faulty-is p (options_behind o rows) schema text can.plan_is ∙ sound in
    IsSound-read p o schema rows text read can range (whole-end read.end (has_unjudged p text) (range.end_is ∙ ap (λ f. end_of f (has_unjudged p text)) none))

-- with a row index its columns are a frame
pub frame-fits : (o : CsvReadOptions) (schema : List Entry) (rows before : ℕ) (text : List ℕ) (read : RangeColumns) (index : Option RowIndex) → IsSound o schema rows text read → HaveDistinctNames schema → taken_name (options_behind o rows) schema ≡ None
    → index ≡ o.row_index → IsFrame (with_index (index_behind before index) (height_of read.columns.items) read.columns.items)
frame-fits o schema rows before text read index is distinct free index_is =
    subst (λ i. IsFrame (with_index (index_behind before i) (height_of read.columns.items) read.columns.items)) (sym index_is)
    (subst (λ given. IsFrame (with_index (index_behind before o.row_index) (height_of given) given)) (sym is.columns) (IsFrame-indexed (options_at o rows before) schema text distinct (free-back o.row_index free)))
  where
    free-back : (i : Option RowIndex) → option_and_then (λ (j : RowIndex). if has_projected o schema j.name then Some j.name else None) (index_behind rows i) ≡ None
        → option_and_then (λ (j : RowIndex). if has_projected o schema j.name then Some j.name else None) (index_behind before i) ≡ None
    free-back None none = refl
    free-back (Some j) none = none

-- which is that of its rows
pub frame-is : (o : CsvReadOptions) (schema : List Entry) (rows before : ℕ) (text : List ℕ) (read : RangeColumns) (index : Option RowIndex) → IsSound o schema rows text read → index ≡ o.row_index
    → with_index (index_behind before index) (height_of read.columns.items) read.columns.items ≡ frame_behind o schema before (rows_behind o rows text)
frame-is o schema rows before text read index is index_is =
    ap (λ i. with_index (index_behind before i) (height_of read.columns.items) read.columns.items) index_is
    ∙ ap (λ n. with_index (index_behind before o.row_index) n read.columns.items) is.height
    ∙ ap (with_index (index_behind before o.row_index) (length (rows_behind o rows text))) is.columns
