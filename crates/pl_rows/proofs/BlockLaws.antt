-- Rows of a block, many at once.
use Rattle.std.proofs.Common.{◌≡◌, ℕ, zero, suc, ◌+◌, ◌-◌, ◌<◌, ◌≤◌, Bool, true, false, cond, not, ◌||◌, ltb, List, [], ◌∷◌, ◌++◌, map, length, take, drop, set, refl, sym, ◌∙◌, ap, subst, append-nil, append_assoc, arith, length-drop, length-append}
use Rattle.std.specs.Borrow.{Bor}
use Rattle.std.specs.Prelude.{Option, None, Some, is_some, filter}
use Rattle.std.specs.Option.{option_copied}
use Rattle.std.specs.List.{filter_map, cons_option, list_any, AllByRecursion}
use Rattle.std.proofs.lemmas.Bool.Decides.{nat_tests}
use Rattle.std.proofs.lemmas.List.{length-take-le, length-map, drop-drop, drop_all, take_all, take_more, take_more_set, drop-set-lt, take-append-drop}
use Rattle.pl_frame.specs.declared.data_type.DataType.{DataType}
use Rattle.pl_frame.specs.declared.error.FaultKind.{FaultKind}
use Rattle.pl_scan.specs.declared.comment.CommentPrefix.{CommentPrefix}
use Rattle.pl_scan.specs.declared.dialect.Dialect.{Dialect}
use Rattle.pl_scan.specs.Closing.{have_open_end}
use Rattle.pl_scan.specs.Comment.{prefix_of}
use Rattle.pl_scan.specs.Dialect.{marks_of, comment_of}
use Rattle.pl_cells.specs.BufferValue.{BufferValue, reading_of, reading_with, with_more}
use Rattle.pl_cells.specs.Cells.{Cell, value_of}
use Rattle.pl_cells.specs.Columns.{AreSound, field_in}
use Rattle.pl_cells.specs.Columns as cells
use Rattle.pl_cells.specs.declared.utf8.CsvEncoding.{CsvEncoding}
use Rattle.pl_cells.specs.declared.null_values.NullValuesCompiled.{NullValuesCompiled}
use Rattle.pl_cells.specs.declared.null_values.NullValuesCompiled.TheVariants as compiled
use Rattle.pl_cells.specs.NullValues.{HaveTexts, HasColumns, means_null}
use Rattle.pl_table.specs.Tables.{Cut, cut_text, fields_of, AreClosed}
use Rattle.pl_rows.specs.declared.plan.RangePlan.{RangePlan}
use Rattle.pl_rows.specs.Blocks.{left_below, within_limit, rows_left, HasReadRows, HasAddedColumn, HaveAllColumns, HaveAllRows, HasReadBlock}
use Rattle.pl_rows.specs.Cells.{RowRules, cell}
use Rattle.pl_rows.specs.Columns.{column_cells, with_columns}
use Rattle.pl_rows.specs.Plan.{Columns, CanRead, FollowsRules, rules_of, plan_columns, state_types}
use Rattle.pl_rows.specs.Ranges.{is_judged, sound_rows}
use Rattle.pl_rows.specs.Rows.{column_fault, first_fault, first_faulty, first_or, excess_fault, passes_excess}
use Rattle.pl_table.specs.Rows.{Row, rows, ended_row, table_rows}
use Rattle.pl_rows.specs.Steps.{without_last, cut_back, passes_more}
use Rattle.pl_rows.proofs.ColumnLaws.{with_columns-more, with_columns-append, without_last-with_columns}
use Rattle.pl_rows.proofs.ExcessLaws.{excess_fault-none}
use Rattle.pl_rows.proofs.PlanLaws.{plan_columns-more}
use Rattle.pl_rows.proofs.RangeLaws.{filter-kept, sound_rows-more, first_faulty-more}
use Rattle.pl_rows.proofs.RowLaws.{IsAt, cell_faults, here_places, here_before, head_before, passes-is}

-- ---- lists of which each element is so

pub All-two : {X : Type 0} (P Q R : X → Type 0) → ((x : X) → P x → Q x → R x) → (xs : List X) → AllByRecursion P xs → AllByRecursion Q xs → AllByRecursion R xs
All-two P Q R both [] ps qs = tt
All-two P Q R both (x ∷ xs) ps qs = (both x ps.0 qs.0, All-two P Q R both xs ps.1 qs.1)

pub All-each : {X : Type 0} (P : X → Type 0) → ((x : X) → P x) → (xs : List X) → AllByRecursion P xs
All-each P each [] = tt
All-each P each (x ∷ xs) = (each x, All-each P each xs)

pub All-one : {X : Type 0} (P Q : X → Type 0) → ((x : X) → P x → Q x) → (xs : List X) → AllByRecursion P xs → AllByRecursion Q xs
All-one P Q one [] ps = tt
All-one P Q one (x ∷ xs) ps = (one x ps.0, All-one P Q one xs ps.1)

pub All-take : {X : Type 0} (P : X → Type 0) (n : ℕ) (xs : List X) → AllByRecursion P xs → AllByRecursion P (take n xs)
All-take P zero xs ps = tt
All-take P (suc n) [] ps = tt
All-take P (suc n) (x ∷ xs) ps = (ps.0, All-take P n xs ps.1)

pub All-map : {X Y : Type 0} (P : Y → Type 0) (f : X → Y) (xs : List X) → AllByRecursion (λ x. P (f x)) xs → AllByRecursion P (map f xs)
All-map P f [] ps = tt
All-map P f (x ∷ xs) ps = (ps.0, All-map P f xs ps.1)

pub take-map : {X Y : Type 0} (f : X → Y) (n : ℕ) (xs : List X) → take n (map f xs) ≡ map f (take n xs)
take-map f zero xs = refl
take-map f (suc n) [] = refl
take-map f (suc n) (x ∷ xs) = ap (λ l. f x ∷ l) (take-map f n xs)

-- ---- column by column

-- what a loop over the columns of rows has done where it comes to a column
pub record HaveReadColumns (plan : RangePlan) (given : List Row) (i : ℕ) (before now : List BufferValue) : Type 0 where
  pub front : take i now ≡ with_columns (rules_of plan) given (take i plan.projection.places.now) (take i before)
  pub rest : drop i now ≡ drop i before
  pub sound : AllByRecursion (λ row. cell_faults (rules_of plan) row.fields plan.projection.places.now (state_types before)
      ≡ cell_faults (rules_of plan) row.fields (drop i plan.projection.places.now) (state_types (drop i before))) given

pub HaveReadColumns-start : (plan : RangePlan) (given : List Row) (before : List BufferValue) → HaveReadColumns plan given 0 before before
HaveReadColumns-start plan given before = record {
  front = refl;
  rest = refl;
  sound = All-each (λ row. cell_faults (rules_of plan) row.fields plan.projection.places.now (state_types before) ≡ cell_faults (rules_of plan) row.fields plan.projection.places.now (state_types before)) (λ row. refl) given;
}

-- a column more was read without a fault
pub HaveReadColumns-more : (plan : RangePlan) (given : List Row) (before now : List BufferValue) (i place : ℕ) (old new : BufferValue)
    → HaveReadColumns plan given i before now → IsAt plan before now i place old → HasAddedColumn plan place given old new
    → HaveReadColumns plan given (i + 1) before (set now i new)
HaveReadColumns-more plan given before now i place old new read at one =
    let rules = rules_of plan in
    let places = plan.projection.places.now in
    let there = here_before plan before now i place old at read.rest in
    let within : i < length before = omega (arith, at.inside, at.same) in
    let within_places : i < length places = omega (arith, at.count) in
    let head = head_before before i old within there in
    record {
      front =
          take_more_set now i new at.inside
          ∙ ap (λ l. l ++ new ∷ []) read.front
          ∙ ap (λ b. with_columns rules given (take i places) (take i before) ++ b ∷ []) one.added
          ∙ sym (with_columns-more rules given (take i places) (take i before) place old (length-take-le i places (omega arith) ∙ sym (length-take-le i before (omega arith))))
          ∙ ap (λ p. with_columns rules given (take i places ++ p ∷ []) (take i before ++ old ∷ [])) at.place_is
          ∙ ap (λ ps. with_columns rules given ps (take i before ++ old ∷ [])) (sym (take_more places i 0 within_places))
          ∙ ap (λ bs. with_columns rules given (take (i + 1) places) bs) (sym (take_more before i old within ∙ ap (λ o. take i before ++ o ∷ []) head));
      rest = drop-set-lt (i + 1) now i new (omega arith) ∙ sym (drop-drop 1 i now) ∙ ap (drop 1) read.rest ∙ drop-drop 1 i before;
      sound = All-two
          (λ row. cell_faults rules row.fields places (state_types before) ≡ cell_faults rules row.fields (drop i places) (state_types (drop i before)))
          (λ row. column_fault rules row.fields (place, old.dtype) ≡ None)
          (λ row. cell_faults rules row.fields places (state_types before) ≡ cell_faults rules row.fields (drop (i + 1) places) (state_types (drop (i + 1) before)))
          (λ row so_far none.
          so_far
          ∙ ap (λ ps. cell_faults rules row.fields ps (state_types (drop i before))) (here_places plan before now i place old at)
          ∙ ap (λ bs. cell_faults rules row.fields (place ∷ drop (i + 1) places) (state_types bs)) there
          ∙ ap (λ o. cons_option o (cell_faults rules row.fields (drop (i + 1) places) (state_types (drop (i + 1) before)))) none) given read.sound one.sound;
    }

-- all columns were read
pub HaveReadColumns-all : (plan : RangePlan) (given : List Row) (before now : List BufferValue) (i : ℕ)
    → HaveReadColumns plan given i before now → length now ≤ i → length before ≤ i → length plan.projection.places.now ≡ length before
    → HaveAllColumns plan given before now
HaveReadColumns-all plan given before now i read all all_before count =
    let rules = rules_of plan in
    let places = plan.projection.places.now in
    let all_places : length places ≤ i = omega arith in
    let none : drop i places ≡ [] = drop_all i places all_places in
    record {
      added =
          sym (take_all i now all) ∙ read.front
          ∙ ap (λ ps. with_columns rules given ps (take i before)) (take_all i places all_places)
          ∙ ap (with_columns rules given places) (take_all i before all_before);
      sound = All-one
          (λ row. cell_faults rules row.fields places (state_types before) ≡ cell_faults rules row.fields (drop i places) (state_types (drop i before)))
          (λ row. cell_faults rules row.fields places (state_types before) ≡ [])
          (λ row so_far. so_far ∙ ap (λ ps. cell_faults rules row.fields ps (state_types (drop i before))) none) given read.sound;
    }

-- the cells of the first columns are taken back
pub HaveReadColumns-back : (plan : RangePlan) (given : List Row) (n i : ℕ) (before now : List BufferValue) → length given ≡ n → i ≤ length before → length plan.projection.places.now ≡ length before
    → HaveReadColumns plan given i before now → cut_back i n now ≡ before
HaveReadColumns-back plan given n i before now many few count read =
    let places = plan.projection.places.now in
    let same : length (take i places) ≡ length (take i before) = length-take-le i places (omega arith) ∙ sym (length-take-le i before few) in
    ap (λ l. map (without_last n) l ++ drop i now) read.front
    ∙ ap (λ l. l ++ drop i now) (without_last-with_columns (rules_of plan) given n (take i places) (take i before) many same)
    ∙ ap (λ l. take i before ++ l) read.rest
    ∙ take-append-drop i before

-- ---- more fields than columns

not_more : (passed : Bool) (n : ℕ) (row : Row) → length row.fields ≤ n → excess_fault passed n row ≡ None
not_more true n row few = refl
not_more false n row few = excess_fault-none n row (drop_all n row.fields few)

-- where no cell of the rows has a fault, and none has more fields than may be, the rows have none
pub HaveAllRows-columns : (plan : RangePlan) (given : List Row) (before now : List BufferValue) → length plan.projection.places.now ≡ length before → HaveAllColumns plan given before now
    → ((passes_more plan ≡ false) → AllByRecursion (λ row. length row.fields ≤ plan.projection.width) given) → HaveAllRows plan given before now
HaveAllRows-columns plan given before now count read few = record { added = read.added; whole = by (passes_more plan) refl }
  where
    rules : RowRules
    rules = rules_of plan

    columns : Columns
    columns = plan_columns plan before

    ends : Row → Option (ℕ × FaultKind)
    ends row = excess_fault (passes_excess rules columns) columns.width row

    by : (t : Bool) → passes_more plan ≡ t → AllByRecursion (λ row. first_fault (rules_of plan) (plan_columns plan before) row ≡ None) given
    by true is = All-one (λ row. filter_map (column_fault rules row.fields) columns.read ≡ []) (λ row. first_fault rules columns row ≡ None)
        (λ row sound. ap (first_or (ends row)) sound ∙ ap (λ t. excess_fault t plan.projection.width row) (passes-is plan before count ∙ is)) given read.sound
    by false is = All-two (λ row. filter_map (column_fault rules row.fields) columns.read ≡ []) (λ row. length row.fields ≤ plan.projection.width) (λ row. first_fault rules columns row ≡ None)
        (λ row sound narrow. ap (first_or (ends row)) sound ∙ not_more (passes_excess rules columns) plan.projection.width row narrow) given read.sound (few is)

-- ---- rows that are judged and have no fault, at the front of others

pub filter-front : {X : Type 0} (p : X → Bool) (xs others : List X) → AllByRecursion (λ x. p x ≡ true) xs → filter p (xs ++ others) ≡ xs ++ filter p others
filter-front p [] others all = refl
filter-front p (x ∷ xs) others all = filter-kept p x (xs ++ others) all.0 ∙ ap (λ l. x ∷ l) (filter-front p xs others all.1)

pub any-front : {X : Type 0} (p : X → Bool) (xs others : List X) → AllByRecursion (λ x. p x ≡ true) xs → list_any (λ x. not (p x)) (xs ++ others) ≡ list_any (λ x. not (p x)) others
any-front p [] others all = refl
any-front p (x ∷ xs) others all = ap (λ t. not t || list_any (λ y. not (p y)) (xs ++ others)) all.0 ∙ any-front p xs others all.1

pub sound-front : (rules : RowRules) (columns : Columns) (given others : List Row) → AllByRecursion (λ row. first_fault rules columns row ≡ None) given
    → sound_rows rules columns (given ++ others) ≡ given ++ sound_rows rules columns others
sound-front rules columns [] others all = refl
sound-front rules columns (row ∷ given) others all = sound_rows-more rules columns row (given ++ others) all.0 ∙ ap (λ l. row ∷ l) (sound-front rules columns given others all.1)

pub faulty-front : (rules : RowRules) (columns : Columns) (n : ℕ) (given others : List Row) → AllByRecursion (λ row. first_fault rules columns row ≡ None) given
    → first_faulty rules columns n (given ++ others) ≡ first_faulty rules columns (n + length given) others
faulty-front rules columns n [] others all = let same : n ≡ n + 0 = omega arith in ap (λ k. first_faulty rules columns k others) same
faulty-front rules columns n (row ∷ given) others all =
    let same : n + 1 + length given ≡ n + suc (length given) = omega arith in
    first_faulty-more rules columns n row (given ++ others) all.0 ∙ faulty-front rules columns (n + 1) given others all.1 ∙ ap (λ k. first_faulty rules columns k others) same

-- ---- the rows of a block that are below the limit

pub within-le : (limit : Option ℕ) (n count : ℕ) → within_limit limit n count ≤ count
within-le None n count = omega arith
within-le (Some limit) n count = by (ltb count (limit - n)) refl
  where
    by : (t : Bool) → ltb count (limit - n) ≡ t → cond t count (limit - n) ≤ count
    by true e = omega arith
    by false e = grind (arith, nat_tests)

take-none : {X : Type 0} (xs : List X) → take 0 xs ≡ []
take-none xs = refl

take-front : {X : Type 0} (k : ℕ) (xs others : List X) → k ≤ length xs → take k (xs ++ others) ≡ take k xs
take-front zero xs others few = refl
take-front (suc k) [] others few = absurd (omega arith)
take-front (suc k) (x ∷ xs) others few = ap (λ l. x ∷ l) (take-front k xs others (omega arith))

pub take-past : {X : Type 0} (k : ℕ) (xs others : List X) → length xs ≤ k → take k (xs ++ others) ≡ xs ++ take (k - length xs) others
take-past k [] others many = let same : k ≡ k - 0 = omega arith in ap (λ j. take j others) same
take-past zero (x ∷ xs) others many = absurd (omega arith)
take-past (suc k) (x ∷ xs) others many =
    let same : k - length xs ≡ suc k - suc (length xs) = omega arith in
    ap (λ l. x ∷ l) (take-past k xs others (omega arith) ∙ ap (λ j. xs ++ take j others) same)

left_below-front : {X : Type 0} (limit : Option ℕ) (n : ℕ) (xs others : List X)
    → left_below limit n (xs ++ others) ≡ take (within_limit limit n (length xs)) xs ++ left_below limit (n + within_limit limit n (length xs)) others
left_below-front None n xs others = ap (λ l. l ++ others) (sym (take_all (length xs) xs (omega arith)))
left_below-front (Some limit) n xs others = by (ltb (length xs) (limit - n)) refl
  where
    by : (t : Bool) → ltb (length xs) (limit - n) ≡ t
        → take (limit - n) (xs ++ others) ≡ take (cond t (length xs) (limit - n)) xs ++ take (limit - (n + cond t (length xs) (limit - n))) others
    by true e =
        let many : length xs ≤ limit - n = grind (arith, nat_tests) in
        let same : limit - n - length xs ≡ limit - (n + length xs) = omega arith in
        take-past (limit - n) xs others many ∙ ap (λ j. xs ++ take j others) same ∙ ap (λ l. l ++ take (limit - (n + length xs)) others) (sym (take_all (length xs) xs (omega arith)))
    by false e =
        let few : limit - n ≤ length xs = grind (arith, nat_tests) in
        let none : limit - (n + (limit - n)) ≡ 0 = omega arith in
        take-front (limit - n) xs others few ∙ sym (append-nil (take (limit - n) xs)) ∙ ap (λ j. take (limit - n) xs ++ take j others) (sym none)

drop-front : {X : Type 0} (k : ℕ) (xs others : List X) → k ≤ length xs → drop k (xs ++ others) ≡ drop k xs ++ others
drop-front zero xs others few = refl
drop-front (suc k) [] others few = absurd (omega arith)
drop-front (suc k) (x ∷ xs) others few = drop-front k xs others (omega arith)

-- rows at the front of what is left were read, as far as the limit goes
pub HasReadRows-rows : (plan : RangePlan) (range : List ℕ) (before now after : List BufferValue) (left rest : List ℕ) (n taken : ℕ) (found : List Row)
    → CanRead plan before → HasReadRows plan range before now left n
    → rows (marks_of plan.dialect) (comment_of plan.dialect) left ≡ found ++ rows (marks_of plan.dialect) (comment_of plan.dialect) rest
    → taken ≡ within_limit plan.limit n (length found) → AllByRecursion (λ row. is_judged plan row ≡ true) found → HaveAllRows plan (take taken found) now after
    → HasReadRows plan range before after rest (n + taken)
HasReadRows-rows plan range before now after left rest n taken found can read front count all_judged one =
    let m = marks_of plan.dialect in
    let rules = rules_of plan in
    let columns = plan_columns plan before in
    let places = plan.projection.places.now in
    let given = take taken found in
    let others = rows_left plan (n + taken) rest in
    let left_rows : rows_left plan n left ≡ given ++ others =
    ap (left_below plan.limit n) front ∙ left_below-front plan.limit n found (rows m (comment_of plan.dialect) rest)
    ∙ ap (λ k. take k found ++ left_below plan.limit (n + k) (rows m (comment_of plan.dialect) rest)) (sym count) in
    let some : taken ≤ length found = let few = within-le plan.limit n (length found) in omega (arith, count) in
    let many : length given ≡ taken = length-take-le taken found some in
    let judged = All-take (λ row. is_judged plan row ≡ true) taken found all_judged in
    let same = plan_columns-more plan read.done before now read.filled can in
    let whole : AllByRecursion (λ row. first_fault rules columns row ≡ None) given = subst (λ c. AllByRecursion (λ row. first_fault rules c row ≡ None) given) same one.whole in
    let kept : filter (is_judged plan) (rows_left plan n left) ≡ given ++ filter (is_judged plan) others = ap (filter (is_judged plan)) left_rows ∙ filter-front (is_judged plan) given others judged in
    record {
      done = read.done ++ given;
      count = omega (arith, read.count, many, length-append read.done given);
      filled = one.added ∙ ap (with_columns rules given places) read.filled ∙ with_columns-append rules read.done given places before;
      sound =
          read.sound ∙ ap (λ rs. read.done ++ sound_rows rules columns rs) kept
          ∙ ap (λ rs. read.done ++ rs) (sound-front rules columns given (filter (is_judged plan) others) whole)
          ∙ sym (append_assoc read.done given (sound_rows rules columns (filter (is_judged plan) others)));
      faulty =
          read.faulty ∙ ap (first_faulty rules columns n) kept ∙ faulty-front rules columns n given (filter (is_judged plan) others) whole
          ∙ ap (λ k. first_faulty rules columns (n + k) (filter (is_judged plan) others)) many;
      unjudged = read.unjudged ∙ ap (list_any (λ r. not (is_judged plan r))) left_rows ∙ any-front (is_judged plan) given others judged;
      few = omega (arith, read.few, some, ap length front, length-append found (rows m (comment_of plan.dialect) rest));
    }

-- the rows of a block were read
HasReadRows-block : (plan : RangePlan) (range : List ℕ) (before now after : List BufferValue) (left block behind rest : List ℕ) (n taken size : ℕ)
    → CanRead plan before → comment_of plan.dialect ≡ None → HasReadRows plan range before now left n → left ≡ block ++ behind
    → HasReadBlock plan n block taken size now after → rest ≡ drop size left → HasReadRows plan range before after rest (n + taken)
HasReadRows-block plan range before now after left block behind rest n taken size can plain read left_is one rest_is =
    let m = marks_of plan.dialect in
    let there : rest ≡ drop size block ++ behind = rest_is ∙ ap (drop size) left_is ∙ drop-front size block behind one.inside in
    let front : rows m (comment_of plan.dialect) left ≡ one.found ++ rows m (comment_of plan.dialect) rest =
    ap (λ l. rows m (comment_of plan.dialect) l) left_is ∙ ap (λ o. rows m o (block ++ behind)) plain ∙ one.cut behind
    ∙ ap (λ o. one.found ++ rows m o (drop size block ++ behind)) (sym plain) ∙ ap (λ l. one.found ++ rows m (comment_of plan.dialect) l) (sym there) in
    HasReadRows-rows plan range before now after left rest n taken one.found can read front one.count one.judged one.read

-- ---- the records of a table

pub length-table_rows : (n : ℕ) (text : List ℕ) (table : List (List Cut)) → n ≤ length table → length (take n (table_rows text table)) ≡ n
length-table_rows n text table few =
    let all : length (table_rows text table) ≡ length table = length-map (fields_of text table) ended_row ∙ length-map table (λ cuts. map (cut_text text) cuts) in
    length-take-le n (table_rows text table) (omega arith)

pub narrow-rows : (n width : ℕ) (text : List ℕ) (table : List (List Cut)) → AllByRecursion (λ cuts. length cuts ≤ width) (take n table)
    → AllByRecursion (λ row. length row.fields ≤ width) (take n (table_rows text table))
narrow-rows n width text table few =
    subst (AllByRecursion (λ row. length row.fields ≤ width)) (sym (take-map ended_row n (fields_of text table) ∙ ap (map ended_row) (take-map (λ cuts. map (cut_text text) cuts) n table)))
    (All-map (λ row. length row.fields ≤ width) ended_row (map (λ cuts. map (cut_text text) cuts) (take n table))
    (All-map (λ fields. length fields ≤ width) (λ cuts. map (cut_text text) cuts) (take n table)
    (All-one (λ cuts. length cuts ≤ width) (λ cuts. length (map (cut_text text) cuts) ≤ width) (λ cuts h. let same = length-map cuts (cut_text text) in omega arith) (take n table) few)))

or_true : (t : Bool) → (t || true) ≡ true
or_true true = refl
or_true false = refl

pub judged-closed : (plan : RangePlan) (records : List (List (List ℕ))) → AreClosed (marks_of plan.dialect) records → AllByRecursion (λ row. is_judged plan row ≡ true) (map ended_row records)
judged-closed plan records closed =
    All-map (λ row. is_judged plan row ≡ true) ended_row records
    (All-one (λ fields. have_open_end (marks_of plan.dialect) fields ≡ false) (λ fields. is_judged plan (ended_row fields) ≡ true) (λ fields e. ap (λ t. plan.last || not t) e ∙ or_true plan.last) records closed)

-- fewer columns have their null texts as well
pub HaveTexts-below : (nulls : Option (Bor NullValuesCompiled)) (n k : ℕ) → k ≤ n → HaveTexts nulls n → HaveTexts nulls k
HaveTexts-below None n k less have = tt
HaveTexts-below (Some nulls) n k less have = by nulls.now have
  where
    by : (given : NullValuesCompiled) → HasColumns given n → HasColumns given k
    by (compiled.AllColumnsSingle text) has = tt
    by (compiled.AllColumns texts) has = tt
    by (compiled.Columns lists) has = omega (arith, has)

-- ---- a block of what is left of a range

pub no_comment : (d : Dialect) → is_some d.comment_prefix ≡ false → comment_of d ≡ None
no_comment d e = by d.comment_prefix e
  where
    by : (o : Option (Bor CommentPrefix)) → is_some o ≡ false → prefix_of o ≡ None
    by None e = refl
    by (Some prefix) e = cc

pub HasReadRows-front : (plan : RangePlan) (range : List ℕ) (before now after : List BufferValue) (left : List ℕ) (n k taken size : ℕ)
    → CanRead plan before → comment_of plan.dialect ≡ None → HasReadRows plan range before now left n → HasReadBlock plan n (take k left) taken size now after
    → HasReadRows plan range before after (take (length left - size) (drop size left)) (n + taken)
HasReadRows-front plan range before now after left n k taken size can plain read one =
    HasReadRows-block plan range before now after left (take k left) (drop k left) (take (length left - size) (drop size left)) n taken size can plain read (sym (take-append-drop k left)) one
    (take_all (length left - size) (drop size left) (omega (arith, length-drop size left)))

-- ---- the cells of a column of records, as those of rows

module _ (rules : RowRules) (column : ℕ) (type : DataType) where
  values-are : (records : List (List (List ℕ)))
      → map value_of (cells.column_cells rules.reading (means_null rules.nulls column) rules.quote_char type column records) ≡ column_cells rules (map ended_row records) (column, type)
  values-are [] = refl
  values-are (fields ∷ records) = ap (λ l. value_of (cell rules column type (field_in fields column)) ∷ l) (values-are records)

  sound-are : (records : List (List (List ℕ))) → AreSound (cells.column_cells rules.reading (means_null rules.nulls column) rules.quote_char type column records)
      → AllByRecursion (λ row. column_fault rules row.fields (column, type) ≡ None) (map ended_row records)
  sound-are [] sound = tt
  sound-are (fields ∷ records) sound = (ap told sound.0, sound-are records sound.1)
    where
      told : Option FaultKind → Option (ℕ × FaultKind)
      told o = elim o as (λ _. Option (ℕ × FaultKind)) [ None ↦ None | Some kind ↦ Some (column, kind) ]

-- the cells of a column were added, by the rules of a plan
pub HasAddedColumn-cells : (plan : RangePlan) (column n : ℕ) (text : List ℕ) (table : List (List Cut)) (old new : BufferValue) → FollowsRules (rules_of plan) old
    → new ≡ with_more old (map value_of (cells.column_cells (reading_of old plan.options.missing_is_null plan.options.ignore_errors) (means_null (option_copied plan.options.null_values) column) plan.dialect.quote_char old.dtype column (take n (fields_of text table))))
    → AreSound (cells.column_cells (reading_of old plan.options.missing_is_null plan.options.ignore_errors) (means_null (option_copied plan.options.null_values) column) plan.dialect.quote_char old.dtype column (take n (fields_of text table)))
    → HasAddedColumn plan column (take n (table_rows text table)) old new
HasAddedColumn-cells plan column n text table old new follow added sound =
    let rules = rules_of plan in
    let records = take n (fields_of text table) in
    let rows_are : take n (table_rows text table) ≡ map ended_row records = take-map ended_row n (fields_of text table) in
    let given : CsvEncoding → List Cell = λ e. cells.column_cells (reading_with e plan.options.missing_is_null plan.options.ignore_errors) (means_null rules.nulls column) rules.quote_char old.dtype column records in
    record {
      added =
          added ∙ ap (λ e. with_more old (map value_of (given e))) follow.1 ∙ ap (with_more old) (values-are rules column old.dtype records)
          ∙ ap (λ rs. with_more old (column_cells rules rs (column, old.dtype))) (sym rows_are);
      sound = subst (AllByRecursion (λ row. column_fault rules row.fields (column, old.dtype) ≡ None)) (sym rows_are)
          (sound-are rules column old.dtype records (subst (λ e. AreSound (given e)) follow.1 sound));
    }
