-- What a read of some columns gives.
use Rattle.std.proofs.Common.{◌≡◌, ℕ, zero, suc, ◌+◌, ◌<◌, ◌≤◌, Bool, true, false, cond, not, ◌&&◌, ◌||◌, ◌==◌, List, [], ◌∷◌, ◌++◌, map, length, get_or, refl, sym, ◌∙◌, ap, arith, nat_eq, nat_lt, nat_le}
use Rattle.std.specs.Prelude.{◌≢◌, Option, None, Some, filter, count_by, unwrap_or, slice_get, option_to_list}
use Rattle.std.specs.List.{range_with_len, list_any, filter_map, cons_option}
use Rattle.std.specs.Option.{option_map, option_and_then}
use Rattle.std.specs.Str.{bytes_eq}
use Rattle.std.proofs.lemmas.List.FromFn.{length-range_with_len, get_or-range_with_len, length-map-range_with_len}
use Rattle.std.proofs.lemmas.List.Sums.{sum_by-cons}
use Rattle.std.proofs.lemmas.Bool.Decides.{nat_tests}
use Rattle.pl_frame.specs.declared.error.ComputeFault.TheVariants as compute_fault
use Rattle.pl_frame.specs.declared.error.FaultKind.{FaultKind}
use Rattle.pl_frame.specs.declared.error.NamePlace.TheVariants as name_place
use Rattle.pl_frame.specs.declared.error.PolarsError.{PolarsError}
use Rattle.pl_frame.specs.declared.error.PolarsError.TheVariants as error
use Rattle.pl_frame.specs.Frame.{ColumnValue}
use Rattle.pl_frame.specs.FrameParts.{columns_at}
use Rattle.pl_frame.specs.RowIndex.{row_index_column}
use Rattle.pl_frame.specs.Schema.{Entry}
use Rattle.pl_cells.specs.InitBuffers.{entry_at}
use Rattle.pl_cells.specs.NullValues.{unknown_name}
use Rattle.pl_options.specs.declared.read_options.CsvReadOptions.{CsvReadOptions}
use Rattle.pl_options.specs.declared.row_index.RowIndex.{RowIndex}
use Rattle.pl_rows.specs.Cells.{RowRules}
use Rattle.pl_rows.specs.Columns.{read_column, entries_in, columns_in, frame_of_rows}
use Rattle.pl_rows.specs.Plan.{Columns}
use Rattle.pl_rows.specs.Rows.{column_fault, excess_fault, passes_excess, first_or, first_fault, first_faulty}
use Rattle.pl_table.specs.Rows.{Row}
use Rattle.pl_read.specs.Laws.{unprojected, selected, ProjectionSelects}
use Rattle.pl_options.specs.FirstCause.{when, first_some}
use Rattle.pl_read.specs.Options.{data_of, rules_of}
use Rattle.pl_read.specs.Projection.{times_asked, asked, projected, unknown_column, doubled, doubled_name, has_projected, taken_name}
use Rattle.pl_read.specs.Refusals.{unknown, out_of_bounds, duplicate, nothing_read, faulty_record, numbers_past, codes_past, index_past, read_causes}
use Rattle.pl_read.specs.Rows.{rows_in, data_columns, with_index}
use Rattle.pl_read.proofs.CauseLaws.{first_some-one, first_some-behind, first_some-front, first_some-rest}
use Rattle.pl_read.proofs.ProjectionLaws.{greatest-none, asked-below, none-passing}

-- ---- which places are read

-- a number of a range stands in it
times-some : (k a n : ℕ) → a ≤ k → k < a + n → 0 < count_by (nat_eq k) (range_with_len a n)
times-some k a zero low high = absurd (omega arith)
times-some k a (suc n) low high = rw (sum_by-cons (λ x. cond (nat_eq k x) 1 0) a (range_with_len (a + 1) n)) (by (nat_eq k a) refl (times-some k (a + 1) n))
  where
    by : (t : Bool) → nat_eq k a ≡ t → (a + 1 ≤ k → k < a + 1 + n → 0 < count_by (nat_eq k) (range_with_len (a + 1) n)) → 0 < cond t 1 0 + count_by (nat_eq k) (range_with_len (a + 1) n)
    by true e later = omega arith
    by false e later =
        let above : a + 1 ≤ k = grind (arith, nat_tests) in
        let rest : 0 < count_by (nat_eq k) (range_with_len (a + 1) n) = later above (omega arith) in
        omega arith

-- where each number of a range passes, all of it is kept
filter-all : (p : ℕ → Bool) (a n : ℕ) → ((k : ℕ) → a ≤ k → k < a + n → p k ≡ true) → filter p (range_with_len a n) ≡ range_with_len a n
filter-all p a zero each = refl
filter-all p a (suc n) each =
    ap (λ t. cond t (a ∷ filter p (range_with_len (a + 1) n)) (filter p (range_with_len (a + 1) n))) (each a (omega arith) (omega arith))
    ∙ ap (λ l. a ∷ l) (filter-all p (a + 1) n (λ k low high. each k (omega arith) (omega arith)))

positive : (n : ℕ) → 0 < n → nat_lt 0 n ≡ true
positive n h = grind (arith, nat_tests)

-- where all columns are asked, all are read
pub all-projected : (o : CsvReadOptions) (schema : List Entry) → projected (unprojected o) schema ≡ range_with_len 0 (length schema)
all-projected o schema =
    filter-all (λ place. nat_lt 0 (times_asked (range_with_len 0 (length schema)) place)) 0 (length schema)
    (λ k low high. positive (times_asked (range_with_len 0 (length schema)) k) (times-some k 0 (length schema) low high))

-- where some place is asked and all are within, some is read
some-projected : (places : List ℕ) (width : ℕ) → places ≢ [] → filter (nat_le width) places ≡ []
    → filter (λ place. nat_lt 0 (times_asked places place)) (range_with_len 0 width) ≢ []
some-projected [] width some within none = some refl
some-projected (place ∷ places) width some within none =
    let below : place < width = asked-below (place ∷ places) width 0 within (omega arith) in
    let size = length-range_with_len 0 width in
    let test : ℕ → Bool = λ k. nat_lt 0 (times_asked (place ∷ places) k) in
    let same : 0 + place ≡ place = omega arith in
    let there : get_or (range_with_len 0 width) place 0 ≡ place = get_or-range_with_len 0 width place 0 below ∙ same in
    let unasked : test place ≡ false = ap test (sym there) ∙ none-passing test (range_with_len 0 width) place 0 none (omega arith) in
    let equal : nat_eq place place ≡ true = grind (arith, nat_tests) in
    let often : times_asked (place ∷ places) place ≡ 1 + times_asked places place =
    sum_by-cons (λ x. cond (nat_eq place x) 1 0) place places ∙ ap (λ t. cond t 1 0 + times_asked places place) equal in
    let is_asked : test place ≡ true = positive (times_asked (place ∷ places) place) (omega arith) in
    clash (test place) unasked is_asked
  where
    clash : (t : Bool) → t ≡ false → t ≡ true → ⊥
    clash t unset set = cc

-- ---- what is none of all is none of some

module _ {X Y Z : Type 0} where
  -- nothing that elements give
  filter_map-kept : (h : Y → Option Z) (g : X → Y) (p : X → Bool) (xs : List X) → filter_map h (map g xs) ≡ [] → filter_map h (map g (filter p xs)) ≡ []
  filter_map-kept h g p [] none = refl
  filter_map-kept h g p (x ∷ xs) none = by (h (g x)) refl none (filter_map-kept h g p xs) (p x)
    where
      by : (found : Option Z) → h (g x) ≡ found → cons_option found (filter_map h (map g xs)) ≡ [] → (filter_map h (map g xs) ≡ [] → filter_map h (map g (filter p xs)) ≡ [])
          → (t : Bool) → filter_map h (map g (cond t (x ∷ filter p xs) (filter p xs))) ≡ []
      by (Some z) e none later t = cc
      by None e none later true = ap (λ found. cons_option found (filter_map h (map g (filter p xs)))) e ∙ later none
      by None e none later false = later none

-- no element that passes
list_any-kept : {X : Type 0} (test p : X → Bool) (xs : List X) → list_any test xs ≡ false → list_any test (filter p xs) ≡ false
list_any-kept test p [] none = refl
list_any-kept test p (x ∷ xs) none = by (test x) refl none (list_any-kept test p xs) (p x)
  where
    by : (c : Bool) → test x ≡ c → (c || list_any test xs) ≡ false → (list_any test xs ≡ false → list_any test (filter p xs) ≡ false) → (t : Bool) → list_any test (cond t (x ∷ filter p xs) (filter p xs)) ≡ false
    by true e none later t = cc
    by false e none later true = ap (λ c. c || list_any test (filter p xs)) e ∙ later none
    by false e none later false = later none

first_or-parts : {X : Type 0} (x : Option X) (xs : List X) → first_or x xs ≡ None → (xs ≡ []) × (x ≡ None)
first_or-parts x [] none = (refl, none)
first_or-parts x (y ∷ ys) none = cc

-- ---- the faults of a row

-- more fields than columns are a fault of some columns only where they are one of all
excess-kept : (passed : Bool) (width all some : ℕ) (row : Row) → all ≡ width → excess_fault (passed || not (all == width)) width row ≡ None → excess_fault (passed || not (some == width)) width row ≡ None
excess-kept true width all some row e none = refl
excess-kept false width all some row e none = by (some == width)
  where
    whole : (all == width) ≡ true
    whole = grind (arith, nat_tests)

    by : (t : Bool) → excess_fault (not t) width row ≡ None
    by true = ap (λ t. excess_fault (not t) width row) (sym whole) ∙ none
    by false = refl

first_fault-kept : (rules : RowRules) (schema : List Entry) (p : ℕ → Bool) (row : Row) → first_fault rules (columns_in schema (range_with_len 0 (length schema))) row ≡ None
    → first_fault rules (columns_in schema (filter p (range_with_len 0 (length schema)))) row ≡ None
first_fault-kept rules schema p row none =
    let width : ℕ = length schema in
    let all : Columns = columns_in schema (range_with_len 0 width) in
    let some : Columns = columns_in schema (filter p (range_with_len 0 width)) in
    let parts = first_or-parts (excess_fault (passes_excess rules all) width row) (filter_map (column_fault rules row.fields) all.read) none in
    let cells : filter_map (column_fault rules row.fields) some.read ≡ [] = filter_map-kept (column_fault rules row.fields) (λ place. (place, (entry_at schema place).1)) p (range_with_len 0 width) parts.0 in
    ap (first_or (excess_fault (passes_excess rules some) width row)) cells
    ∙ excess-kept rules.truncate_ragged_lines width (length all.read) (length some.read) row (length-map-range_with_len (λ place. (place, (entry_at schema place).1)) 0 width) parts.1

first_faulty-kept : (rules : RowRules) (schema : List Entry) (p : ℕ → Bool) (number : ℕ) (given : List Row) → first_faulty rules (columns_in schema (range_with_len 0 (length schema))) number given ≡ None
    → first_faulty rules (columns_in schema (filter p (range_with_len 0 (length schema)))) number given ≡ None
first_faulty-kept rules schema p number [] none = refl
first_faulty-kept rules schema p number (row ∷ given) none =
    by (first_fault rules all row) refl none (first_faulty-kept rules schema p (number + 1) given)
  where
    all : Columns
    all = columns_in schema (range_with_len 0 (length schema))

    some : Columns
    some = columns_in schema (filter p (range_with_len 0 (length schema)))

    next : (found : Option (ℕ × FaultKind)) → found ≡ None
        → ◌≡◌ {A = Option (ℕ × (ℕ × FaultKind))} (elim found [ Some f ↦ Some (number, f) | None ↦ first_faulty rules some (number + 1) given ]) (first_faulty rules some (number + 1) given)
    next found e = rw e refl

    by : (found : Option (ℕ × FaultKind)) → first_fault rules all row ≡ found
        → ◌≡◌ {A = Option (ℕ × (ℕ × FaultKind))} (elim found [ Some f ↦ Some (number, f) | None ↦ first_faulty rules all (number + 1) given ]) None
        → (first_faulty rules all (number + 1) given ≡ None → first_faulty rules some (number + 1) given ≡ None)
        → first_faulty rules some number (row ∷ given) ≡ None
    by (Some f) e none later = cc
    by None e none later = next (first_fault rules some row) (first_fault-kept rules schema p row e) ∙ later none

-- ---- the codes

codes-kept : (rules : RowRules) (given : List Row) (schema : List Entry) (p : ℕ → Bool) (places : List ℕ) → first_some (map codes_past (frame_of_rows rules (entries_in schema places) given)) ≡ None
    → first_some (map codes_past (frame_of_rows rules (entries_in schema (filter p places)) given)) ≡ None
codes-kept rules given schema p [] none = refl
codes-kept rules given schema p (place ∷ places) none =
    let first = codes_past (read_column rules given (place, entry_at schema place)) in
    let others = map codes_past (frame_of_rows rules (entries_in schema places) given) in
    by (first_some-front first others none) (codes-kept rules given schema p places (first_some-rest first others none)) (p place)
  where
    by : codes_past (read_column rules given (place, entry_at schema place)) ≡ None
        → first_some (map codes_past (frame_of_rows rules (entries_in schema (filter p places)) given)) ≡ None
        → (t : Bool) → first_some (map codes_past (frame_of_rows rules (entries_in schema (cond t (place ∷ filter p places) (filter p places))) given)) ≡ None
    by here later true = first_some-behind (codes_past (read_column rules given (place, entry_at schema place))) (map codes_past (frame_of_rows rules (entries_in schema (filter p places)) given)) here ∙ later
    by here later false = later

index_past-kept : (index : Option RowIndex) (rules : RowRules) (given : List Row) (schema : List Entry) (p : ℕ → Bool) (places : List ℕ)
    → index_past index (length given) (frame_of_rows rules (entries_in schema places) given) ≡ None → index_past index (length given) (frame_of_rows rules (entries_in schema (filter p places)) given) ≡ None
index_past-kept index rules given schema p places none =
    let numbers = numbers_past index (length given) in
    let codes = map codes_past (frame_of_rows rules (entries_in schema places) given) in
    first_some-behind numbers (map codes_past (frame_of_rows rules (entries_in schema (filter p places)) given)) (first_some-front numbers codes none)
    ∙ codes-kept rules given schema p places (first_some-rest numbers codes none)

-- ---- the columns

-- what is made of a number of a range
slice_get-range : {X : Type 0} (h : ℕ → X) (a n k : ℕ) → k < n → slice_get (map h (range_with_len a n)) k ≡ Some (h (a + k))
slice_get-range h a zero k l = absurd (omega arith)
slice_get-range h a (suc n) zero l = let same : a ≡ a + 0 = omega arith in ap (λ j. Some (h j)) same
slice_get-range h a (suc n) (suc k) l = let same : a + 1 + k ≡ a + suc k = omega arith in slice_get-range h (a + 1) n k (omega arith) ∙ ap (λ j. Some (h j)) same

columns_at-kept : (h : ℕ → ColumnValue) (width : ℕ) (p : ℕ → Bool) (a n : ℕ) → a + n ≤ width → columns_at (filter p (range_with_len a n)) (map h (range_with_len 0 width)) ≡ map h (filter p (range_with_len a n))
columns_at-kept h width p a zero l = refl
columns_at-kept h width p a (suc n) l = by (p a) (columns_at-kept h width p (a + 1) n (omega arith))
  where
    here : slice_get (map h (range_with_len 0 width)) a ≡ Some (h a)
    here = let same : 0 + a ≡ a = omega arith in slice_get-range h 0 width a (omega arith) ∙ ap (λ j. Some (h j)) same

    by : (t : Bool) → columns_at (filter p (range_with_len (a + 1) n)) (map h (range_with_len 0 width)) ≡ map h (filter p (range_with_len (a + 1) n))
        → columns_at (cond t (a ∷ filter p (range_with_len (a + 1) n)) (filter p (range_with_len (a + 1) n))) (map h (range_with_len 0 width))
        ≡ map h (cond t (a ∷ filter p (range_with_len (a + 1) n)) (filter p (range_with_len (a + 1) n)))
    by true later = ap (λ found. option_to_list found ++ columns_at (filter p (range_with_len (a + 1) n)) (map h (range_with_len 0 width))) here ∙ ap (λ l. h a ∷ l) later
    by false later = later

pub frame-places : (rules : RowRules) (given : List Row) (schema : List Entry) (places : List ℕ) → frame_of_rows rules (entries_in schema places) given ≡ map (λ place. read_column rules given (place, entry_at schema place)) places
frame-places rules given schema [] = refl
frame-places rules given schema (place ∷ places) = ap (λ l. read_column rules given (place, entry_at schema place) ∷ l) (frame-places rules given schema places)

columns-kept : (rules : RowRules) (given : List Row) (schema : List Entry) (p : ℕ → Bool) → columns_at (filter p (range_with_len 0 (length schema))) (frame_of_rows rules (entries_in schema (range_with_len 0 (length schema))) given)
    ≡ frame_of_rows rules (entries_in schema (filter p (range_with_len 0 (length schema)))) given
columns-kept rules given schema p =
    let width : ℕ = length schema in
    let some : List ℕ = filter p (range_with_len 0 width) in
    ap (columns_at some) (frame-places rules given schema (range_with_len 0 width))
    ∙ columns_at-kept (λ place. read_column rules given (place, entry_at schema place)) width p 0 width (omega arith)
    ∙ sym (frame-places rules given schema some)

frame-kept : (index : Option RowIndex) (rules : RowRules) (given : List Row) (schema : List Entry) (p : ℕ → Bool)
    → selected index (filter p (range_with_len 0 (length schema))) (with_index index (length given) (frame_of_rows rules (entries_in schema (range_with_len 0 (length schema))) given))
    ≡ with_index index (length given) (frame_of_rows rules (entries_in schema (filter p (range_with_len 0 (length schema)))) given)
frame-kept None rules given schema p = columns-kept rules given schema p
frame-kept (Some index) rules given schema p = ap (λ l. row_index_column index.name index.offset (length given) ∷ l) (columns-kept rules given schema p)

-- ---- the law

-- none of several causes is there
abbrev pub AreNone : List (Option PolarsError) → Type 0
AreNone [] = Unit {0}
AreNone (x ∷ xs) = (x ≡ None) × AreNone xs

pub each-none : (xs : List (Option PolarsError)) → first_some xs ≡ None → AreNone xs
each-none [] none = tt
each-none (x ∷ xs) none = (first_some-front x xs none, each-none xs (first_some-rest x xs none))

pub none-first : (xs : List (Option PolarsError)) → AreNone xs → first_some xs ≡ None
none-first [] none = refl
none-first (x ∷ xs) none = first_some-behind x xs none.0 ∙ none-first xs none.1

unmapped : {X Y : Type 0} (f : X → Y) (x : Option X) → option_map f x ≡ None → x ≡ None
unmapped f None none = refl
unmapped f (Some x) none = cc

unknown-kept : (o : CsvReadOptions) (schema : List Entry) → unknown_column o schema ≡ None → unknown (unprojected o) schema ≡ None → unknown o schema ≡ None
unknown-kept o schema known none =
    let null : Option (List ℕ) = option_and_then (unknown_name schema) o.parse_options.null_values in
    let texts : null ≡ None = first_some-front null (None ∷ []) (unmapped error.ColumnNotFound (first_some (null ∷ None ∷ [])) none) in
    ap (option_map error.ColumnNotFound) (first_some-behind null (unknown_column o schema ∷ []) texts ∙ first_some-one (unknown_column o schema) ∙ known)

taken-kept : (index : Option RowIndex) (all some : List ℕ → Bool) → ((name : List ℕ) → all name ≡ false → some name ≡ false)
    → option_and_then (λ (i : RowIndex). cond (all i.name) (Some i.name) None) index ≡ None → option_and_then (λ (i : RowIndex). cond (some i.name) (Some i.name) None) index ≡ None
taken-kept None all some fewer none = refl
taken-kept (Some index) all some fewer none = by (all index.name) refl none
  where
    by : (t : Bool) → all index.name ≡ t → cond t (Some index.name) None ≡ None → cond (some index.name) (Some index.name) None ≡ None
    by true e none = cc
    by false e none = ap (λ t. cond t (Some index.name) None) (fewer index.name e)

duplicate-kept : (o : CsvReadOptions) (schema : List Entry) → doubled (asked o schema) (length schema) ≡ None → duplicate (unprojected o) schema ≡ None → duplicate o schema ≡ None
duplicate-kept o schema once none =
    let twice : List ℕ → PolarsError = λ name. error.Duplicate name name_place.Projection in
    let width : ℕ = length schema in
    let all : CsvReadOptions = unprojected o in
    let before : first_some (doubled_name all schema ∷ taken_name all schema ∷ []) ≡ None = unmapped twice (first_some (doubled_name all schema ∷ taken_name all schema ∷ [])) none in
    let free : taken_name all schema ≡ None = first_some-front (taken_name all schema) [] (first_some-rest (doubled_name all schema) (taken_name all schema ∷ []) before) in
    let fewer : (name : List ℕ) → has_projected all schema name ≡ false → has_projected o schema name ≡ false =
    λ name absent. list_any-kept (λ place. bytes_eq name (entry_at schema place).0) (λ place. nat_lt 0 (times_asked (asked o schema) place)) (range_with_len 0 width)
    (ap (list_any (λ place. bytes_eq name (entry_at schema place).0)) (sym (all-projected o schema)) ∙ absent) in
    ap (option_map twice) (first_some-behind (doubled_name o schema) (taken_name o schema ∷ []) (ap (option_map (λ place. (entry_at schema place).0)) once)
    ∙ first_some-one (taken_name o schema) ∙ taken-kept o.row_index (has_projected all schema) (has_projected o schema) fewer free)

something-read : (o : CsvReadOptions) (schema : List Entry) (some : Option (List ℕ)) → projected o schema ≢ [] → option_and_then (nothing_read o schema) some ≡ None
something-read o schema None full = refl
something-read o schema (Some records) full = by (projected o schema) refl
  where
    by : (places : List ℕ) → projected o schema ≡ places → when (length places == 0 && nat_lt 0 (length records)) error.EmptyProjection ≡ None
    by [] e = absurd (full e)
    by (place ∷ places) e = let test : (length (place ∷ places) == 0) ≡ false = grind (arith, nat_tests) in rw test refl

faulty-kept : (o : CsvReadOptions) (schema : List Entry) (some : Option (List ℕ)) → option_and_then (faulty_record (unprojected o) schema) some ≡ None → option_and_then (faulty_record o schema) some ≡ None
faulty-kept o schema None none = refl
faulty-kept o schema (Some records) none =
    let found : (ℕ × (ℕ × FaultKind)) → PolarsError = λ f. error.ComputeError (compute_fault.Record f.0 f.1.0 f.1.1) in
    let rules : RowRules = rules_of o schema in
    let given : List Row = rows_in o records in
    let all = unmapped found (first_faulty rules (columns_in schema (projected (unprojected o) schema)) 0 given) none in
    let sound : first_faulty rules (columns_in schema (range_with_len 0 (length schema))) 0 given ≡ None = ap (λ places. first_faulty rules (columns_in schema places) 0 given) (sym (all-projected o schema)) ∙ all in
    ap (option_map found) (first_faulty-kept rules schema (λ place. nat_lt 0 (times_asked (asked o schema) place)) 0 given sound)

index-kept : (o : CsvReadOptions) (schema : List Entry) (some : Option (List ℕ))
    → option_and_then (λ records. index_past o.row_index (length (rows_in o records)) (data_columns (unprojected o) schema records)) some ≡ None
    → option_and_then (λ records. index_past o.row_index (length (rows_in o records)) (data_columns o schema records)) some ≡ None
index-kept o schema None none = refl
index-kept o schema (Some records) none =
    let rules : RowRules = rules_of o schema in
    let given : List Row = rows_in o records in
    index_past-kept o.row_index rules given schema (λ place. nat_lt 0 (times_asked (asked o schema) place)) (range_with_len 0 (length schema))
    (ap (λ places. index_past o.row_index (length given) (frame_of_rows rules (entries_in schema places) given)) (sym (all-projected o schema)) ∙ none)

-- where the read of all columns succeeds, one of some of them gives these
pub projection-selects : ProjectionSelects
projection-selects o schema input frame is (first, frame_is) =
    let records : List ℕ = unwrap_or (data_of o input) [] in
    let given : List Row = rows_in o records in
    let rules : RowRules = rules_of o schema in
    let causes = each-none (read_causes (unprojected o) schema input first.is_dialect) (sym first.is) in
    let late = causes.1.1 in
    let types = late.1.1.1 in
    let within : out_of_bounds o schema ≡ None = ap (option_map (λ place. error.OutOfBounds place (length schema))) is.within in
    let full : projected o schema ≢ [] = some-projected (asked o schema) (length schema) is.some (greatest-none (filter (nat_le (length schema)) (asked o schema)) is.within) in (
      record {
        is_dialect = first.is_dialect;
        tells = first.tells;
        is = sym (none-first (read_causes o schema input first.is_dialect) (
          causes.0,
          (causes.1.0, (late.0, (late.1.0, (late.1.1.0, (types.0, (types.1.0, (unknown-kept o schema is.known types.1.1.0, (types.1.1.1.0, (within, (duplicate-kept o schema is.once types.1.1.1.1.1.0, (something-read o schema (data_of o input) full, (faulty-kept o schema (data_of o input) types.1.1.1.1.1.1.1.0, (index-kept o schema (data_of o input) types.1.1.1.1.1.1.1.1.0, tt))))))))))))),
        ));
      },
      ap (selected o.row_index (projected o schema)) (frame_is ∙ ap (λ places. with_index o.row_index (length given) (frame_of_rows rules (entries_in schema places) given)) (all-projected o schema))
          ∙ frame-kept o.row_index rules given schema (λ place. nat_lt 0 (times_asked (asked o schema) place)),
    )
