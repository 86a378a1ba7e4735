-- A piece of a text, read into buffers.
use Rattle.std.proofs.Common.{◌≡◌, ℕ, ◌+◌, ◌-◌, ◌<◌, ◌≤◌, Bool, true, false, not, ◌||◌, ◌&&◌, ◌==◌, List, [], ◌∷◌, length, take, refl, sym, ◌∙◌, ap, subst, inl, inr, eqb-true, arith}
use Rattle.std.specs.Prelude.{Option, None, Some, filter}
use Rattle.std.specs.List.{list_any, last_or, AllByRecursion}
use Rattle.std.specs.Option.{option_map_or}
use Rattle.std.proofs.lemmas.Bool.{cases_lt}
use Rattle.std.proofs.lemmas.Bool.Decides.{nat_tests}
use Rattle.std.proofs.lemmas.List.{length-take-le, take_all}
use Rattle.pl_frame.specs.declared.error.FaultKind.{FaultKind}
use Rattle.pl_frame.specs.Dialect.{AreDistinct}
use Rattle.pl_scan.specs.Closing.{have_open_end, ends_open}
use Rattle.pl_scan.specs.Dialect.{marks_of, comment_of}
use Rattle.pl_scan.specs.Laws.{IsEnded}
use Rattle.pl_cells.specs.BufferValue.{BufferValue}
use Rattle.pl_rows.specs.declared.plan.RangePlan.{RangePlan}
use Rattle.pl_rows.specs.declared.range.RangeEnd.{RangeEnd}
use Rattle.pl_rows.specs.declared.range.RangeEnd.TheVariants as end
use Rattle.pl_rows.specs.Blocks.{left_below, HasReadRange, HaveAllRows}
use Rattle.pl_rows.specs.Cells.{RowRules}
use Rattle.pl_rows.specs.Columns.{with_columns}
use Rattle.pl_rows.specs.Pieces.{is_ended, is_closed, plan_behind, end_behind, IsWholePiece, HasReadPiece, IsPieceRead}
use Rattle.pl_rows.specs.Plan.{Columns, CanRead, rules_of, plan_columns}
use Rattle.pl_rows.specs.Ranges.{limited, rows_of, is_judged, judged_rows, has_unjudged, end_of, sound_rows, rows_read}
use Rattle.pl_rows.specs.Rows.{first_fault, first_faulty}
use Rattle.pl_rows.specs.Steps.{is_below, cut_back}
use Rattle.pl_table.specs.Rows.{Row, rows}
use Rattle.pl_rows.proofs.OpenLaws.{is_open_row, unjudged, open_rows, unjudged-open}
use Rattle.pl_rows.proofs.RangeLaws.{filter-kept, filter-left_out, first_faulty-more, first_faulty-here}
use Rattle.pl_rows.proofs.RowLaws.{rows-back}
use Rattle.pl_rows.proofs.WholeLaws.{sound-all}

-- ---- a limit of rows

-- fewer than the limit are all
limited-all : {X : Type 0} (limit : Option ℕ) (xs : List X) → is_below limit (length (limited limit xs)) ≡ true → limited limit xs ≡ xs
limited-all None xs below = refl
limited-all (Some most) xs below = elim (cases_lt (length xs) most) [
  | inl few ↦ take_all most xs (omega arith)
  | inr many ↦
      let all : length (take most xs) ≡ most = length-take-le most xs many in
      let less : length (take most xs) < most = grind (arith, nat_tests) in
      absurd (omega arith)
]

-- and so are these
limited-below : {X : Type 0} (limit : Option ℕ) (xs : List X) → is_below limit (length xs) ≡ true → limited limit xs ≡ xs
limited-below None xs below = refl
limited-below (Some most) xs below = take_all most xs (let few : length xs < most = grind (arith, nat_tests) in omega arith)

-- ---- rows that are all judged, and have no fault

or_true : (t : Bool) → (t || true) ≡ true
or_true true = refl
or_true false = refl

-- rows none of which is open are judged in any range
pub closed-judged : (plan : RangePlan) (given : List Row) → list_any (is_open_row (marks_of plan.dialect)) given ≡ false → AllByRecursion (λ row. is_judged plan row ≡ true) given
closed-judged plan [] none = tt
closed-judged plan (row ∷ others) none = by (have_open_end (marks_of plan.dialect) row.fields) refl (λ e. closed-judged plan others e)
  where
    by : (t : Bool) → have_open_end (marks_of plan.dialect) row.fields ≡ t
        → (list_any (is_open_row (marks_of plan.dialect)) others ≡ false → AllByRecursion (λ r. is_judged plan r ≡ true) others)
        → AllByRecursion (λ r. is_judged plan r ≡ true) (row ∷ others)
    by true e deeper = let first = ap (λ t. t || list_any (is_open_row (marks_of plan.dialect)) others) e in absurd (cc)
    by false e deeper =
        let first = ap (λ t. t || list_any (is_open_row (marks_of plan.dialect)) others) e in
        (ap (λ t. plan.last || not t) e ∙ or_true plan.last, deeper (sym first ∙ none))

-- a filter that passes all
pub filter-all : {X : Type 0} (p : X → Bool) (xs : List X) → list_any (λ x. not (p x)) xs ≡ false → filter p xs ≡ xs
filter-all p [] none = refl
filter-all p (x ∷ xs) none = by (p x) refl (λ e. filter-all p xs e)
  where
    by : (t : Bool) → p x ≡ t → (list_any (λ y. not (p y)) xs ≡ false → filter p xs ≡ xs) → filter p (x ∷ xs) ≡ x ∷ xs
    by true e deeper =
        let first = ap (λ t. not t || list_any (λ y. not (p y)) xs) e in
        filter-kept p x xs e ∙ ap (λ l. x ∷ l) (deeper (sym first ∙ none))
    by false e deeper = let first = ap (λ t. not t || list_any (λ y. not (p y)) xs) e in absurd (cc)

-- where no row is the first faulty one, none has a fault
none-faulty : (rules : RowRules) (columns : Columns) (k : ℕ) (given : List Row) → first_faulty rules columns k given ≡ None → AllByRecursion (λ row. first_fault rules columns row ≡ None) given
none-faulty rules columns k [] none = tt
none-faulty rules columns k (row ∷ others) none = by (first_fault rules columns row) refl (λ e. none-faulty rules columns (k + 1) others e)
  where
    by : (o : Option (ℕ × FaultKind)) → first_fault rules columns row ≡ o
        → (first_faulty rules columns (k + 1) others ≡ None → AllByRecursion (λ r. first_fault rules columns r ≡ None) others)
        → AllByRecursion (λ r. first_fault rules columns r ≡ None) (row ∷ others)
    by None e deeper = (e, deeper (sym (first_faulty-more rules columns k row others e) ∙ none))
    by (Some found) e deeper = let here = first_faulty-here rules columns k row others found e in absurd (cc)

-- a closed end comes where no row has a fault and none is not judged
closed_end : (first : Option (ℕ × (ℕ × FaultKind))) (u : Bool) → end_of first u ≡ end.Closed → (first ≡ None) × (u ≡ false)
closed_end (Some found) u e = cc
closed_end None true e = cc
closed_end None false e = (refl, refl)

-- a range that was read to its end has all of its rows in the buffers, and none has a fault
closed-whole : (plan : RangePlan) (range : List ℕ) (before now : List BufferValue) (given : RangeEnd) (n : ℕ) → HasReadRange plan range before now given n → given ≡ end.Closed
    → (has_unjudged plan range ≡ false) × (n ≡ length (rows_of plan range)) × HaveAllRows plan (rows_of plan range) before now
closed-whole plan range before now given n read is =
    let rules = rules_of plan in
    let columns = plan_columns plan before in
    let parts = closed_end (first_faulty rules columns 0 (judged_rows plan range)) (has_unjudged plan range) (sym read.end_is ∙ is) in
    let all : judged_rows plan range ≡ rows_of plan range = filter-all (is_judged plan) (rows_of plan range) parts.1 in
    let none : first_faulty rules columns 0 (rows_of plan range) ≡ None = ap (first_faulty rules columns 0) (sym all) ∙ parts.0 in
    let rows_are : rows_read plan columns range ≡ rows_of plan range = ap (sound_rows rules columns) all ∙ sound-all rules columns 0 (rows_of plan range) none in (
      parts.1,
      read.count ∙ ap length rows_are,
      record { added = read.added ∙ ap (λ rs. with_columns rules rs plan.projection.places.now before) rows_are; whole = none-faulty rules columns 0 (rows_of plan range) none },
    )

-- the rows of a range that was read are taken back
pub HasReadRange-back : (plan : RangePlan) (range : List ℕ) (before now : List BufferValue) (given : RangeEnd) (n k : ℕ) → CanRead plan before → HasReadRange plan range before now given n
    → length now ≤ k → cut_back k n now ≡ before
HasReadRange-back plan range before now given n k can read all =
    rows-back plan (rows_read plan (plan_columns plan before) range) k n before now (sym read.count) all can.count read.added

-- ---- a piece that ends where an item does

both-true : (a b : Bool) → (a && b) ≡ true → (a ≡ true) × (b ≡ true)
both-true true true e = (refl, refl)
both-true true false e = absurd (cc)
both-true false b e = absurd (cc)

closed-is : (given : RangeEnd) → is_closed given ≡ true → given ≡ end.Closed
closed-is end.Closed h = refl
closed-is end.Open h = absurd (cc)
closed-is (end.Fault row column kind) h = absurd (cc)

some-last : (xs : List ℕ) (x : ℕ) → (k : ℕ) × (last_or (Some x) xs ≡ Some k)
some-last [] x = (x, refl)
some-last (y ∷ ys) x = some-last ys y

IsEnded-told : (e : ℕ) (text : List ℕ) → is_ended e text ≡ true → IsEnded e text
IsEnded-told e [] told = refl
IsEnded-told e (x ∷ xs) told =
    let last = some-last xs x in
    let same : (last.0 == e) ≡ true = sym (ap (λ o. option_map_or (λ (k : ℕ). k == e) o true) last.1) ∙ told in
    last.1 ∙ ap (λ k. Some k) (eqb-true _ _ same)

is_ended-so : (e : ℕ) (text : List ℕ) → IsEnded e text → is_ended e text ≡ true
is_ended-so e [] ended = refl
is_ended-so e (x ∷ xs) ended =
    let same : (e == e) ≡ true = grind (arith, nat_tests) in
    ap (λ o. option_map_or (λ (k : ℕ). k == e) o true) ended ∙ same

-- a piece whose last byte is a line end, that was read behind all of its rows, which are fewer than the limit
pub piece-read : (plan : RangePlan) (piece : List ℕ) (before now : List BufferValue) (given : RangeEnd) (n : ℕ) → AreDistinct (marks_of plan.dialect) → plan.last ≡ false
    → HasReadRange plan piece before now given n → is_ended plan.dialect.eol_char piece ≡ true → (is_closed given && is_below plan.limit n) ≡ true → HasReadPiece plan piece before now n
piece-read plan piece before now given n apart last read ended told =
    let m = marks_of plan.dialect in
    let given_rows = rows m (comment_of plan.dialect) piece in
    let parts = both-true (is_closed given) (is_below plan.limit n) told in
    let whole = closed-whole plan piece before now given n read (closed-is given parts.0) in
    let all : rows_of plan piece ≡ given_rows = limited-all plan.limit given_rows (ap (is_below plan.limit) (sym whole.1) ∙ parts.1) in
    let shut : ends_open m (comment_of plan.dialect) piece ≡ false =
    open_rows m (comment_of plan.dialect) piece apart ∙ sym (unjudged-open m given_rows) ∙ ap (λ t. list_any (unjudged t m) given_rows) (sym last) ∙ ap (list_any (unjudged plan.last m)) (sym all) ∙ whole.0 in
    record {
      whole = record {
        ends = record { ended = IsEnded-told plan.dialect.eol_char piece ended; closed = shut };
        sound = subst (λ rs. AllByRecursion (λ row. first_fault (rules_of plan) (plan_columns plan before) row ≡ None) rs) all whole.2.whole;
        few = ap (is_below plan.limit) (ap length (sym all) ∙ sym whole.1) ∙ parts.1;
      };
      added = whole.2.added ∙ ap (λ rs. with_columns (rules_of plan) rs plan.projection.places.now before) all;
      count = whole.1 ∙ ap length all;
    }

-- rows without a fault have no first one
no-fault : (rules : RowRules) (columns : Columns) (k : ℕ) (given : List Row) → AllByRecursion (λ row. first_fault rules columns row ≡ None) given → first_faulty rules columns k given ≡ None
no-fault rules columns k [] all = refl
no-fault rules columns k (row ∷ others) all = first_faulty-more rules columns k row others all.0 ∙ no-fault rules columns (k + 1) others all.1

-- a whole piece is read behind all of its rows, which are fewer than the limit
pub whole-read : (plan : RangePlan) (piece : List ℕ) (before now : List BufferValue) (given : RangeEnd) (n : ℕ) → AreDistinct (marks_of plan.dialect) → plan.last ≡ false
    → HasReadRange plan piece before now given n → IsWholePiece plan (plan_columns plan before) piece → (is_closed given && is_below plan.limit n) ≡ true
whole-read plan piece before now given n apart last read whole =
    let m = marks_of plan.dialect in
    let rules = rules_of plan in
    let columns = plan_columns plan before in
    let given_rows = rows m (comment_of plan.dialect) piece in
    let all : rows_of plan piece ≡ given_rows = limited-below plan.limit given_rows whole.few in
    let none : has_unjudged plan piece ≡ false =
    ap (list_any (unjudged plan.last m)) all ∙ ap (λ t. list_any (unjudged t m) given_rows) last ∙ unjudged-open m given_rows ∙ sym (open_rows m (comment_of plan.dialect) piece apart) ∙ whole.ends.closed in
    let judged : judged_rows plan piece ≡ given_rows = filter-all (is_judged plan) (rows_of plan piece) none ∙ all in
    let first : first_faulty rules columns 0 (judged_rows plan piece) ≡ None = ap (first_faulty rules columns 0) judged ∙ no-fault rules columns 0 given_rows whole.sound in
    let closed : given ≡ end.Closed = read.end_is ∙ ap (λ f. end_of f (has_unjudged plan piece)) first ∙ ap (end_of None) none in
    let count : n ≡ length given_rows = read.count ∙ ap length (sound-all rules columns 0 (judged_rows plan piece) first ∙ judged) in
    ap (λ e. is_closed e && is_below plan.limit n) closed ∙ ap (is_below plan.limit) count ∙ whole.few

-- a text whose last byte is none does not end where an item does
pub not-ended : (plan : RangePlan) (columns : Columns) (piece : List ℕ) → is_ended plan.dialect.eol_char piece ≡ false → IsWholePiece plan columns piece → ⊥
not-ended plan columns piece none whole =
    let ended = is_ended-so plan.dialect.eol_char piece whole.ends.ended in
    cc

-- where no number of rows is told, none were read
pub IsPieceRead-none : (plan : RangePlan) (piece : List ℕ) (before now : List BufferValue) (told : Option ℕ) → ((n : ℕ) → told ≡ Some n → ⊥) → IsPieceRead plan piece before now told
    → IsPieceRead plan piece before now None
IsPieceRead-none plan piece before now None none read = read
IsPieceRead-none plan piece before now (Some n) none read = absurd (none n refl)

-- the rows of a piece that was read are taken back
pub HasReadPiece-back : (plan : RangePlan) (piece : List ℕ) (before now : List BufferValue) (n k : ℕ) → CanRead plan before → HasReadPiece plan piece before now n → length now ≤ k → cut_back k n now ≡ before
HasReadPiece-back plan piece before now n k can read all =
    rows-back plan (rows (marks_of plan.dialect) (comment_of plan.dialect) piece) k n before now (sym read.count) all can.count read.added

-- a plan that can read can do so behind rows
pub CanRead-behind : (plan : RangePlan) (n : ℕ) (last : Bool) (buffers : List BufferValue) → CanRead plan buffers → CanRead (plan_behind plan n last) buffers
CanRead-behind plan n last buffers can = record { apart = can.apart; rising = can.rising; count = can.count; rules = can.rules; texts = can.texts }

-- ---- the number of a faulty row

-- the first faulty row, counted from a number on
pub faulty-behind : (rules : RowRules) (columns : Columns) (n k : ℕ) (given : List Row) (u : Bool)
    → end_of (first_faulty rules columns (n + k) given) u ≡ end_behind n (end_of (first_faulty rules columns k given) u)
faulty-behind rules columns n k [] true = refl
faulty-behind rules columns n k [] false = refl
faulty-behind rules columns n k (row ∷ others) u = by (first_fault rules columns row) refl (faulty-behind rules columns n (k + 1) others u)
  where
    by : (o : Option (ℕ × FaultKind)) → first_fault rules columns row ≡ o
        → end_of (first_faulty rules columns (n + (k + 1)) others) u ≡ end_behind n (end_of (first_faulty rules columns (k + 1) others) u)
        → end_of (first_faulty rules columns (n + k) (row ∷ others)) u ≡ end_behind n (end_of (first_faulty rules columns k (row ∷ others)) u)
    by None e deeper =
        let same : n + k + 1 ≡ n + (k + 1) = omega arith in
        ap (λ f. end_of f u) (first_faulty-more rules columns (n + k) row others e)
        ∙ ap (λ j. end_of (first_faulty rules columns j others) u) same
        ∙ deeper
        ∙ ap (λ f. end_behind n (end_of f u)) (sym (first_faulty-more rules columns k row others e))
    by (Some found) e deeper =
        ap (λ f. end_of f u) (first_faulty-here rules columns (n + k) row others found e)
        ∙ ap (λ f. end_behind n (end_of f u)) (sym (first_faulty-here rules columns k row others found e))

pub few_filtered : {X : Type 0} (p : X → Bool) (xs : List X) → length (filter p xs) ≤ length xs
few_filtered p [] = omega arith
few_filtered p (x ∷ xs) = by (p x) refl (few_filtered p xs)
  where
    by : (t : Bool) → p x ≡ t → length (filter p xs) ≤ length xs → length (filter p (x ∷ xs)) ≤ length (x ∷ xs)
    by true e deeper = omega (arith, ap length (filter-kept p x xs e))
    by false e deeper = omega (arith, ap length (filter-left_out p x xs e))

pub few_limited : {X : Type 0} (limit : Option ℕ) (n : ℕ) (xs : List X) → length (left_below limit n xs) ≤ length xs
few_limited None n xs = omega arith
few_limited (Some most) n xs = elim (cases_lt (length xs) (most - n)) [
  | inl few ↦ omega (arith, ap length (take_all (most - n) xs (omega arith)))
  | inr many ↦ omega (arith, length-take-le (most - n) xs many)
]

-- a fault is that of a row
abbrev pub IsInside : ℕ → ℕ → RangeEnd → Type 0
IsInside k count end.Closed = Unit {0}
IsInside k count end.Open = Unit {0}
IsInside k count (end.Fault row column kind) = row < k + count

pub faulty-inside : (rules : RowRules) (columns : Columns) (k : ℕ) (given : List Row) (u : Bool) → IsInside k (length given) (end_of (first_faulty rules columns k given) u)
faulty-inside rules columns k [] true = tt
faulty-inside rules columns k [] false = tt
faulty-inside rules columns k (row ∷ others) u = by (first_fault rules columns row) refl (faulty-inside rules columns (k + 1) others u)
  where
    wider : (e : RangeEnd) → IsInside (k + 1) (length others) e → IsInside k (length (row ∷ others)) e
    wider end.Closed inside = tt
    wider end.Open inside = tt
    wider (end.Fault r column kind) inside = omega (arith, inside)

    by : (o : Option (ℕ × FaultKind)) → first_fault rules columns row ≡ o → IsInside (k + 1) (length others) (end_of (first_faulty rules columns (k + 1) others) u)
        → IsInside k (length (row ∷ others)) (end_of (first_faulty rules columns k (row ∷ others)) u)
    by None e deeper =
        subst (λ f. IsInside k (length (row ∷ others)) (end_of f u)) (sym (first_faulty-more rules columns k row others e))
        (wider (end_of (first_faulty rules columns (k + 1) others) u) deeper)
    by (Some found) e deeper =
        let here : found_row k < k + length (row ∷ others) = omega arith in
        subst (λ f. IsInside k (length (row ∷ others)) (end_of f u)) (sym (first_faulty-here rules columns k row others found e)) here
      where
        found_row : ℕ → ℕ
        found_row j = j
