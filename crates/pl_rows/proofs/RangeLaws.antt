-- The rows of a range, one after another.
use Rattle.std.proofs.Common.{◌≡◌, ℕ, zero, suc, ◌+◌, ◌-◌, ◌<◌, ◌≤◌, Bool, true, false, cond, not, ◌||◌, ◌==◌, List, [], ◌∷◌, ◌++◌, length, take, drop, refl, sym, ◌∙◌, ap, append_assoc, append-nil, arith, length-drop, length-append}
use Rattle.std.specs.Prelude.{Option, None, Some, filter, take_while, is_none}
use Rattle.std.specs.List.{filter_map, cons_option, prefix_len, list_any}
use Rattle.std.proofs.lemmas.Bool.Decides.{nat_tests}
use Rattle.std.proofs.lemmas.List.{length-take-le, drop-drop}
use Rattle.std.proofs.lemmas.List.Folds.{length-prefix_len}
use Rattle.std.proofs.lemmas.List.Sums.{take_while-cons}
use Rattle.pl_frame.specs.declared.error.FaultKind.{FaultKind}
use Rattle.pl_frame.specs.Dialect.{Marks, AreDistinct}
use Rattle.pl_scan.specs.Closing.{have_open_end}
use Rattle.pl_scan.specs.Comment.{is_comment}
use Rattle.pl_scan.specs.Dialect.{marks_of, comment_of}
use Rattle.pl_scan.specs.Fields.{fields, extent}
use Rattle.pl_scan.specs.Items.{ItemText, CommentText, RecordText, text_of}
use Rattle.pl_scan.proofs.ItemLaws.{IsRecordAt-extent, items_behind-nil, items_behind-step}
use Rattle.pl_scan.proofs.RecordLaws.{fields-text, have_open_end-closed}
use Rattle.pl_cells.specs.BufferValue.{BufferValue}
use Rattle.pl_rows.specs.declared.plan.RangePlan.{RangePlan}
use Rattle.pl_rows.specs.declared.range.RangeEnd.TheVariants as end
use Rattle.pl_rows.specs.Cells.{RowRules}
use Rattle.pl_rows.specs.Columns.{with_columns}
use Rattle.pl_rows.specs.Plan.{Columns, CanRead, plan_columns, rules_of}
use Rattle.pl_rows.specs.Ranges.{limited, rows_of, is_judged, has_unjudged, end_of, sound_rows, rows_read}
use Rattle.pl_rows.specs.Rows.{first_fault, first_faulty}
use Rattle.pl_table.specs.Rows.{Row, row_at, row_of, rows}
use Rattle.pl_rows.specs.Steps.{is_below, HasReadRow, cut_back}
use Rattle.pl_rows.specs.Blocks.{left_below, rows_left, HasReadRows, HasReadRange}
use Rattle.pl_rows.proofs.ColumnLaws.{with_columns-none, with_columns-append}
use Rattle.pl_rows.proofs.PlanLaws.{plan_columns-more}
use Rattle.pl_rows.proofs.RowLaws.{rows-back}

-- the item at the front, by whether a comment begins there
abbrev item_by : Bool → Marks → List ℕ → ItemText
item_by t m b = cond t (CommentText (take_while (λ x. not (x == m.line_end)) b)) (RecordText (take (extent m b) b))

pub rows-nil : (m : Marks) (comment : Option (List ℕ)) → rows m comment [] ≡ []
rows-nil m comment = ap (filter_map (row_of m)) (items_behind-nil m comment)

-- where no comment begins, the first row is that of the record at the front
pub rows-step : (m : Marks) (comment : Option (List ℕ)) (b : List ℕ) → AreDistinct m → 0 < length b → is_comment comment b ≡ false
    → rows m comment b ≡ row_at m b ∷ rows m comment (drop (extent m b + 1) b)
rows-step m comment b distinct some plain =
    let size : length (take (extent m b) b) ≡ extent m b = length-take-le (extent m b) b (IsRecordAt-extent m b).fits in
    ap (filter_map (row_of m)) (items_behind-step m comment b some)
    ∙ ap (λ t. cons_option (row_of m (item_by t m b, drop (length (text_of (item_by t m b))) b)) (rows m comment (drop (length (text_of (item_by t m b)) + 1) b))) plain
    ∙ ap (λ k. cons_option (row_of m (RecordText (take (extent m b) b), drop k b)) (rows m comment (drop (k + 1) b))) size
    ∙ ap (λ fs. record { fields = fs; is_end = length (drop (extent m b) b) == 0 } ∷ rows m comment (drop (extent m b + 1) b)) (fields-text m b distinct)

-- a comment gives no row
pub rows-comment : (m : Marks) (comment : Option (List ℕ)) (b : List ℕ) → 0 < length b → is_comment comment b ≡ true
    → rows m comment b ≡ rows m comment (drop (prefix_len (λ x. not (x == m.line_end)) b + 1) b)
rows-comment m comment b some starts =
    ap (filter_map (row_of m)) (items_behind-step m comment b some)
    ∙ ap (λ t. cons_option (row_of m (item_by t m b, drop (length (text_of (item_by t m b))) b)) (rows m comment (drop (length (text_of (item_by t m b)) + 1) b))) starts
    ∙ ap (λ k. rows m comment (drop (k + 1) b)) (length-prefix_len (λ x. not (x == m.line_end)) b)

-- each row has a byte at least
pub few_rows : (m : Marks) (comment : Option (List ℕ)) → AreDistinct m → (n : ℕ) (b : List ℕ) → length b ≤ n → length (rows m comment b) ≤ length b
few_rows m comment distinct n [] few = omega (arith, ap length (rows-nil m comment))
few_rows m comment distinct zero (x ∷ b) few = absurd (omega arith)
few_rows m comment distinct (suc n) (x ∷ b) few = by (is_comment comment (x ∷ b)) refl (λ k. few_rows m comment distinct n (drop (k + 1) (x ∷ b)) (omega (arith, length-drop (k + 1) (x ∷ b))))
  where
    by : (t : Bool) → is_comment comment (x ∷ b) ≡ t → ((k : ℕ) → length (rows m comment (drop (k + 1) (x ∷ b))) ≤ length (drop (k + 1) (x ∷ b))) → length (rows m comment (x ∷ b)) ≤ length (x ∷ b)
    by true starts others =
        let k = prefix_len (λ y. not (y == m.line_end)) (x ∷ b) in
        omega (arith, length-drop (k + 1) (x ∷ b), others k, ap length (rows-comment m comment (x ∷ b) (omega arith) starts))
    by false plain others =
        let k = extent m (x ∷ b) in
        omega (arith, length-drop (k + 1) (x ∷ b), others k, ap length (rows-step m comment (x ∷ b) distinct (omega arith) plain))

-- ---- the rows that are left below the limit

pub left_below-start : {X : Type 0} (limit : Option ℕ) (xs : List X) → left_below limit 0 xs ≡ limited limit xs
left_below-start None xs = refl
left_below-start (Some limit) xs = let same : limit - 0 ≡ limit = omega arith in ap (λ k. take k xs) same

left_below-nil : {X : Type 0} (limit : Option ℕ) (n : ℕ) → left_below {X = X} limit n [] ≡ []
left_below-nil None n = refl
left_below-nil (Some limit) n = by (limit - n)
  where
    by : {X : Type 0} (k : ℕ) → take {A = X} k [] ≡ []
    by zero = refl
    by (suc k) = refl

left_below-more : {X : Type 0} (limit : Option ℕ) (n : ℕ) (x : X) (xs : List X) → is_below limit n ≡ true → left_below limit n (x ∷ xs) ≡ x ∷ left_below limit (n + 1) xs
left_below-more None n x xs below = refl
left_below-more (Some limit) n x xs below =
    let less : n < limit = grind (arith, nat_tests) in
    let more : limit - n ≡ suc (limit - (n + 1)) = omega arith in
    ap (λ k. take k (x ∷ xs)) more

-- ---- judged and sound rows, one after another

pub filter-kept : {X : Type 0} (p : X → Bool) (x : X) (xs : List X) → p x ≡ true → filter p (x ∷ xs) ≡ x ∷ filter p xs
filter-kept p x xs e = ap (λ t. cond t (x ∷ filter p xs) (filter p xs)) e

pub filter-left_out : {X : Type 0} (p : X → Bool) (x : X) (xs : List X) → p x ≡ false → filter p (x ∷ xs) ≡ filter p xs
filter-left_out p x xs e = ap (λ t. cond t (x ∷ filter p xs) (filter p xs)) e

pub sound_rows-more : (rules : RowRules) (columns : Columns) (row : Row) (others : List Row) → first_fault rules columns row ≡ None
    → sound_rows rules columns (row ∷ others) ≡ row ∷ sound_rows rules columns others
sound_rows-more rules columns row others e =
    take_while-cons (λ r. is_none (first_fault rules columns r)) row others
    ∙ ap (λ o. cond (is_none o) (row ∷ sound_rows rules columns others) []) e

sound_rows-fault : (rules : RowRules) (columns : Columns) (row : Row) (others : List Row) (found : ℕ × FaultKind) → first_fault rules columns row ≡ Some found
    → sound_rows rules columns (row ∷ others) ≡ []
sound_rows-fault rules columns row others found e =
    take_while-cons (λ r. is_none (first_fault rules columns r)) row others
    ∙ ap (λ o. cond (is_none o) (row ∷ sound_rows rules columns others) []) e

pub first_faulty-more : (rules : RowRules) (columns : Columns) (n : ℕ) (row : Row) (others : List Row) → first_fault rules columns row ≡ None
    → first_faulty rules columns n (row ∷ others) ≡ first_faulty rules columns (n + 1) others
first_faulty-more rules columns n row others e = rw (e, first_faulty) refl

pub first_faulty-here : (rules : RowRules) (columns : Columns) (n : ℕ) (row : Row) (others : List Row) (found : ℕ × FaultKind) → first_fault rules columns row ≡ Some found
    → first_faulty rules columns n (row ∷ others) ≡ Some (n, found)
first_faulty-here rules columns n row others found e = rw (e, first_faulty) refl

pub HasReadRows-start : (plan : RangePlan) (range : List ℕ) (before : List BufferValue) → CanRead plan before → HasReadRows plan range before before range 0
HasReadRows-start plan range before can =
    let m = marks_of plan.dialect in
    let given = rows m (comment_of plan.dialect) range in
    let same : rows_of plan range ≡ rows_left plan 0 range = sym (left_below-start plan.limit given) in
    record {
      done = [];
      count = refl;
      filled = sym (with_columns-none (rules_of plan) plan.projection.places.now before can.count);
      sound = ap (λ rs. sound_rows (rules_of plan) (plan_columns plan before) (filter (is_judged plan) rs)) same;
      faulty = ap (λ rs. first_faulty (rules_of plan) (plan_columns plan before) 0 (filter (is_judged plan) rs)) same;
      unjudged = ap (list_any (λ row. not (is_judged plan row))) same;
      few = let all = few_rows m (comment_of plan.dialect) can.apart (length range) range (omega arith) in omega (arith, all);
    }

-- where the loop comes to a row
pub record IsAtRow (plan : RangePlan) (left : List ℕ) (n : ℕ) : Type 0 where
  pub some : 0 < length left
  pub below : is_below plan.limit n ≡ true
  pub plain : is_comment (comment_of plan.dialect) left ≡ false

-- the rows that are left there
rows_left-step : (plan : RangePlan) (left : List ℕ) (n : ℕ) → AreDistinct (marks_of plan.dialect) → IsAtRow plan left n
    → rows_left plan n left ≡ row_at (marks_of plan.dialect) left ∷ rows_left plan (n + 1) (drop (extent (marks_of plan.dialect) left + 1) left)
rows_left-step plan left n apart at =
    let m = marks_of plan.dialect in
    let others = rows m (comment_of plan.dialect) (drop (extent m left + 1) left) in
    ap (left_below plan.limit n) (rows-step m (comment_of plan.dialect) left apart at.some at.plain) ∙ left_below-more plan.limit n (row_at m left) others at.below

pub HasReadRows-more : (plan : RangePlan) (range : List ℕ) (before now after : List BufferValue) (left behind rest : List ℕ) (n : ℕ) → CanRead plan before → IsAtRow plan left n
    → HasReadRows plan range before now left n → HasReadRow plan left now after behind → rest ≡ drop 1 behind → HasReadRows plan range before after rest (n + 1)
HasReadRows-more plan range before now after left behind rest n can at read one rest_is =
    let m = marks_of plan.dialect in
    let rules = rules_of plan in
    let columns = plan_columns plan before in
    let row = row_at m left in
    let places = plan.projection.places.now in
    let there : rest ≡ drop (extent m left + 1) left = rest_is ∙ ap (drop 1) one.behind_is ∙ drop-drop 1 (extent m left) left in
    let step : rows_left plan n left ≡ row ∷ rows_left plan (n + 1) rest = rows_left-step plan left n can.apart at ∙ ap (λ r. row ∷ rows_left plan (n + 1) r) (sym there) in
    let others = rows_left plan (n + 1) rest in
    let kept : filter (is_judged plan) (rows_left plan n left) ≡ row ∷ filter (is_judged plan) others = ap (filter (is_judged plan)) step ∙ filter-kept (is_judged plan) row others one.judged in
    let whole : first_fault rules columns row ≡ None = sym (ap (λ c. first_fault rules c row) (plan_columns-more plan read.done before now read.filled can)) ∙ one.whole in
    record {
      done = read.done ++ row ∷ [];
      count = omega (arith, read.count, length-append read.done (row ∷ []));
      filled = one.added ∙ ap (with_columns rules (row ∷ []) places) read.filled ∙ with_columns-append rules read.done (row ∷ []) places before;
      sound =
          read.sound ∙ ap (λ rs. read.done ++ sound_rows rules columns rs) kept
          ∙ ap (λ rs. read.done ++ rs) (sound_rows-more rules columns row (filter (is_judged plan) others) whole)
          ∙ sym (append_assoc read.done (row ∷ []) (sound_rows rules columns (filter (is_judged plan) others)));
      faulty = read.faulty ∙ ap (first_faulty rules columns n) kept ∙ first_faulty-more rules columns n row (filter (is_judged plan) others) whole;
      unjudged =
          read.unjudged ∙ ap (list_any (λ r. not (is_judged plan r))) step
          ∙ ap (λ t. not t || list_any (λ r. not (is_judged plan r)) others) one.judged;
      few = omega (arith, read.few, ap length (rows-step m (comment_of plan.dialect) left can.apart at.some at.plain ∙ ap (λ r. row ∷ rows m (comment_of plan.dialect) r) (sym there)));
    }

-- a comment adds nothing
pub HasReadRows-comment : (plan : RangePlan) (range : List ℕ) (before now : List BufferValue) (left rest : List ℕ) (n : ℕ) → 0 < length left
    → is_comment (comment_of plan.dialect) left ≡ true → HasReadRows plan range before now left n
    → rest ≡ drop (prefix_len (λ x. not (x == (marks_of plan.dialect).line_end)) left + 1) left → HasReadRows plan range before now rest n
HasReadRows-comment plan range before now left rest n some starts read rest_is =
    let m = marks_of plan.dialect in
    let rules = rules_of plan in
    let columns = plan_columns plan before in
    let same : rows_left plan n left ≡ rows_left plan n rest =
    ap (left_below plan.limit n) (rows-comment m (comment_of plan.dialect) left some starts ∙ sym (ap (rows m (comment_of plan.dialect)) rest_is)) in
    record {
      done = read.done;
      count = read.count;
      filled = read.filled;
      sound = read.sound ∙ ap (λ rs. read.done ++ sound_rows rules columns (filter (is_judged plan) rs)) same;
      faulty = read.faulty ∙ ap (λ rs. first_faulty rules columns n (filter (is_judged plan) rs)) same;
      unjudged = read.unjudged ∙ ap (list_any (λ r. not (is_judged plan r))) same;
      few = omega (arith, read.few, ap length (rows-comment m (comment_of plan.dialect) left some starts ∙ sym (ap (rows m (comment_of plan.dialect)) rest_is)));
    }

-- where no judged row without a fault is left, all that is read was
range_read : (plan : RangePlan) (range : List ℕ) (before now after : List BufferValue) (left : List ℕ) (n : ℕ) (first : Option (ℕ × (ℕ × FaultKind))) (unjudged : Bool)
    → HasReadRows plan range before now left n → after ≡ now
    → sound_rows (rules_of plan) (plan_columns plan before) (filter (is_judged plan) (rows_left plan n left)) ≡ []
    → first_faulty (rules_of plan) (plan_columns plan before) n (filter (is_judged plan) (rows_left plan n left)) ≡ first
    → list_any (λ row. not (is_judged plan row)) (rows_left plan n left) ≡ unjudged
    → HasReadRange plan range before after (end_of first unjudged) n
range_read plan range before now after left n first unjudged read kept none is any =
    let all : rows_read plan (plan_columns plan before) range ≡ read.done = read.sound ∙ ap (λ rs. read.done ++ rs) none ∙ append-nil read.done in
    record {
      end_is = sym (ap (λ f. end_of f (has_unjudged plan range)) (read.faulty ∙ is) ∙ ap (end_of first) (read.unjudged ∙ any));
      added = kept ∙ read.filled ∙ ap (λ rs. with_columns (rules_of plan) rs plan.projection.places.now before) (sym all);
      count = sym (ap length all ∙ read.count);
    }

-- no row is left
pub HasReadRange-closed : (plan : RangePlan) (range : List ℕ) (before now : List BufferValue) (left : List ℕ) (n : ℕ) → HasReadRows plan range before now left n
    → rows_left plan n left ≡ [] → HasReadRange plan range before now end.Closed n
HasReadRange-closed plan range before now left n read empty =
    let rules = rules_of plan in
    let columns = plan_columns plan before in
    range_read plan range before now now left n None false read refl
    (ap (λ rs. sound_rows rules columns (filter (is_judged plan) rs)) empty)
    (ap (λ rs. first_faulty rules columns n (filter (is_judged plan) rs)) empty)
    (ap (list_any (λ row. not (is_judged plan row))) empty)

pub rows_left-none : (plan : RangePlan) (n : ℕ) (left : List ℕ) → left ≡ [] → rows_left plan n left ≡ []
rows_left-none plan n left empty =
    let m = marks_of plan.dialect in
    ap (λ l. rows_left plan n l) empty ∙ ap (left_below plan.limit n) (rows-nil m (comment_of plan.dialect)) ∙ left_below-nil plan.limit n

-- the row at the front has a fault
pub HasReadRange-fault : (plan : RangePlan) (range : List ℕ) (before now after : List BufferValue) (left : List ℕ) (n column : ℕ) (kind : FaultKind) → CanRead plan before → IsAtRow plan left n
    → HasReadRows plan range before now left n → is_judged plan (row_at (marks_of plan.dialect) left) ≡ true
    → first_fault (rules_of plan) (plan_columns plan now) (row_at (marks_of plan.dialect) left) ≡ Some (column, kind) → after ≡ now
    → HasReadRange plan range before after (end.Fault n column kind) n
HasReadRange-fault plan range before now after left n column kind can at read judged wrong kept =
    let m = marks_of plan.dialect in
    let rules = rules_of plan in
    let columns = plan_columns plan before in
    let row = row_at m left in
    let others = rows_left plan (n + 1) (drop (extent m left + 1) left) in
    let step = rows_left-step plan left n can.apart at in
    let here = ap (filter (is_judged plan)) step ∙ filter-kept (is_judged plan) row others judged in
    let fails : first_fault rules columns row ≡ Some (column, kind) = sym (ap (λ c. first_fault rules c row) (plan_columns-more plan read.done before now read.filled can)) ∙ wrong in
    range_read plan range before now after left n (Some (n, (column, kind))) _ read kept
    (ap (sound_rows rules columns) here ∙ sound_rows-fault rules columns row (filter (is_judged plan) others) (column, kind) fails)
    (ap (first_faulty rules columns n) here ∙ first_faulty-here rules columns n row (filter (is_judged plan) others) (column, kind) fails)
    refl

any_or : (t : Bool) → (t || true) ≡ true
any_or true = refl
any_or false = refl

-- a row that is not judged is the last one
not_judged-end : (plan : RangePlan) (left : List ℕ) → AreDistinct (marks_of plan.dialect) → is_judged plan (row_at (marks_of plan.dialect) left) ≡ false
    → drop (extent (marks_of plan.dialect) left) left ≡ []
not_judged-end plan left apart passed = by (drop (extent (marks_of plan.dialect) left) left) refl
  where
    by : (behind : List ℕ) → drop (extent (marks_of plan.dialect) left) left ≡ behind → drop (extent (marks_of plan.dialect) left) left ≡ []
    by [] is = is
    by (x ∷ others) is =
        let m = marks_of plan.dialect in
        let closed : have_open_end m (fields m left) ≡ false = have_open_end-closed m left x others apart is in
        let judged : is_judged plan (row_at m left) ≡ true = ap (λ t. plan.last || not t) closed ∙ any_or plan.last in
        absurd (cc)

pub not_true : (t : Bool) → true ≡ not t → t ≡ false
not_true true e = cc
not_true false e = refl

pub not_false : (t : Bool) → false ≡ not t → t ≡ true
not_false true e = refl
not_false false e = cc

-- a row with something behind it is judged
pub judged-behind : (plan : RangePlan) (left behind : List ℕ) → AreDistinct (marks_of plan.dialect) → behind ≡ drop (extent (marks_of plan.dialect) left) left → 0 < length behind
    → is_judged plan (row_at (marks_of plan.dialect) left) ≡ true
judged-behind plan left behind apart is some = by (is_judged plan (row_at (marks_of plan.dialect) left)) refl
  where
    by : (t : Bool) → is_judged plan (row_at (marks_of plan.dialect) left) ≡ t → is_judged plan (row_at (marks_of plan.dialect) left) ≡ true
    by true e = e
    by false e = absurd (omega (arith, ap length is, ap length (not_judged-end plan left apart e)))

-- the row at the front is not judged
pub HasReadRange-open : (plan : RangePlan) (range : List ℕ) (before now after : List BufferValue) (left : List ℕ) (n : ℕ) → CanRead plan before → IsAtRow plan left n
    → HasReadRows plan range before now left n → is_judged plan (row_at (marks_of plan.dialect) left) ≡ false → after ≡ now → HasReadRange plan range before after end.Open n
HasReadRange-open plan range before now after left n can at read passed kept =
    let m = marks_of plan.dialect in
    let rules = rules_of plan in
    let columns = plan_columns plan before in
    let row = row_at m left in
    let gone : drop (extent m left + 1) left ≡ [] = sym (drop-drop 1 (extent m left) left) ∙ ap (drop 1) (not_judged-end plan left can.apart passed) in
    let step : rows_left plan n left ≡ row ∷ [] = rows_left-step plan left n can.apart at ∙ ap (λ rs. row ∷ rs) (rows_left-none plan (n + 1) _ gone) in
    let none : filter (is_judged plan) (rows_left plan n left) ≡ [] = ap (filter (is_judged plan)) step ∙ filter-left_out (is_judged plan) row [] passed in
    range_read plan range before now after left n None true read kept
    (ap (sound_rows rules columns) none)
    (ap (first_faulty rules columns n) none)
    (ap (list_any (λ r. not (is_judged plan r))) step ∙ ap (λ t. not t || false) passed)

-- all rows are taken back
pub HasReadRows-back : (plan : RangePlan) (range : List ℕ) (before now after : List BufferValue) (left : List ℕ) (n k : ℕ) → CanRead plan before → HasReadRows plan range before now left n
    → after ≡ now → length after ≤ k → cut_back k n after ≡ before
HasReadRows-back plan range before now after left n k can read kept all =
    rows-back plan read.done k n before after read.count all can.count (kept ∙ read.filled)
