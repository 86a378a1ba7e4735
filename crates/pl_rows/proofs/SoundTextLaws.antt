-- Texts that end where an item does, one behind the other.
use Rattle.std.proofs.Common.{◌≡◌, ℕ, ◌+◌, ◌-◌, ◌<◌, ◌≤◌, ◌^◌, Bool, true, false, not, List, [], ◌∷◌, ◌++◌, map, length, refl, sym, ◌∙◌, ap, subst, arith, length-append}
use Rattle.std.specs.Prelude.{Option, None, Some, IfSome, filter}
use Rattle.std.specs.List.{last_or, list_any, AllByRecursion}
use Rattle.std.proofs.lemmas.List.{map-append}
use Rattle.pl_frame.specs.Dialect.{Marks, AreDistinct, IsCommentPrefix, IsDialect}
use Rattle.pl_frame.specs.Frame.{Scalar, ColumnValue, HaveHeight}
use Rattle.pl_frame.specs.FrameParts.{schema_of, HaveSameColumns, stacked}
use Rattle.pl_frame.specs.Schema.{Entry}
use Rattle.pl_scan.specs.Closing.{is_open_item, ends_open}
use Rattle.pl_scan.specs.Dialect.{marks_of, comment_of}
use Rattle.pl_scan.specs.declared.dialect.Dialect.{Dialect}
use Rattle.pl_scan.specs.Items.{items}
use Rattle.pl_scan.specs.Laws.{IsEnded}
use Rattle.pl_scan.proofs.AppendLaws.{closing_items}
use Rattle.pl_scan.proofs.ItemLaws.{items-nil}
use Rattle.pl_cells.specs.BufferValue.{BufferValue}
use Rattle.pl_cells.specs.InitBuffers.{empty_buffers}
use Rattle.pl_rows.specs.declared.plan.RangePlan.{RangePlan}
use Rattle.pl_rows.specs.declared.range.RangeEnd.{RangeEnd}
use Rattle.pl_rows.specs.declared.range.RangeEnd.TheVariants as end
use Rattle.pl_rows.specs.declared.whole_pieces.PieceFrame.{PieceFrame}
use Rattle.pl_rows.specs.Cells.{RowRules}
use Rattle.pl_rows.specs.Columns.{read_column, entries_in, columns_in, columns_of, frame_of_rows, with_columns}
use Rattle.pl_rows.specs.Pieces.{EndsItem, left_limit, plan_behind, end_behind, IsRowFit, IsWholePiece, HasReadPiece}
use Rattle.pl_rows.specs.Plan.{Columns, rules_of, plan_columns}
use Rattle.pl_rows.specs.Ranges.{limited, rows_of, is_judged, judged_rows, has_unjudged, end_of, range_end, rows_read, sound_rows, range_frame}
use Rattle.pl_rows.specs.Rows.{first_fault, first_faulty}
use Rattle.pl_rows.specs.Steps.{is_below}
use Rattle.pl_rows.specs.WholePieces.{IsSoundText, text_frame, IsPieceFrame, IsPieceFound}
use Rattle.pl_table.specs.Rows.{Row, rows}
use Rattle.pl_table.proofs.PieceLaws.{rows-append}
use Rattle.pl_rows.proofs.BlockLaws.{filter-front, any-front, sound-front, faulty-front, take-past}
use Rattle.pl_rows.proofs.FrameLaws.{columns_of-rows, have_height, plan_columns-empty}
use Rattle.pl_rows.proofs.OpenLaws.{open_rows}
use Rattle.pl_rows.proofs.PieceLaws.{closed-judged, faulty-behind, few_filtered, few_limited, IsInside, faulty-inside}
use Rattle.pl_rows.proofs.RangeLaws.{rows-nil, few_rows, left_below-start}

-- ---- texts that end where an item does

last-append : {X : Type 0} (o : Option X) (a b : List X) → last_or o (a ++ b) ≡ last_or (last_or o a) b
last-append o [] b = refl
last-append o (x ∷ a) b = last-append (Some x) a b

pub ended-append : (e : ℕ) (a b : List ℕ) → IsEnded e a → IsEnded e b → IsEnded e (a ++ b)
ended-append e a b first second = last-append (Some e) a b ∙ ap (λ o. last_or o b) first ∙ second

last-either : {X : Type 0} (f : Option X → Bool) (o p : Option X) (xs : List X) → f o ≡ false → f (last_or p xs) ≡ false → f (last_or o xs) ≡ false
last-either f o p [] first second = first
last-either f o p (x ∷ xs) first second = second

pub closed-append : (m : Marks) (comment : Option (List ℕ)) (a b : List ℕ) → AreDistinct m → IsCommentPrefix m.line_end comment → IsEnded m.line_end a → ends_open m comment a ≡ false → ends_open m comment b ≡ false
    → ends_open m comment (a ++ b) ≡ false
closed-append m comment a b distinct free ended first second =
    ap (λ l. is_open_item m (last_or None l)) (closing_items m comment a b distinct free ended first)
    ∙ ap (is_open_item m) (last-append None (items m comment a) (items m comment b))
    ∙ last-either (is_open_item m) (last_or None (items m comment a)) None (items m comment b) first second

-- no text does
pub EndsItem-nil : (dialect : Dialect) → EndsItem dialect []
EndsItem-nil dialect = record { ended = refl; closed = ap (λ l. is_open_item (marks_of dialect) (last_or None l)) (items-nil (marks_of dialect) (comment_of dialect)) }

-- and so do two, one behind the other
pub EndsItem-append : (dialect : Dialect) (a b : List ℕ) → IsDialect (marks_of dialect) (comment_of dialect) → EndsItem dialect a → EndsItem dialect b → EndsItem dialect (a ++ b)
EndsItem-append dialect a b apart first second = record {
  ended = ended-append dialect.eol_char a b first.ended second.ended;
  closed = closed-append (marks_of dialect) (comment_of dialect) a b apart.distinct apart.prefix first.ended first.closed second.closed;
}

-- the rows of a text with one before it
pub rows-behind : (dialect : Dialect) (a b : List ℕ) → IsDialect (marks_of dialect) (comment_of dialect) → EndsItem dialect a
    → rows (marks_of dialect) (comment_of dialect) (a ++ b) ≡ rows (marks_of dialect) (comment_of dialect) a ++ rows (marks_of dialect) (comment_of dialect) b
rows-behind dialect a b apart ends = rows-append (marks_of dialect) (comment_of dialect) a b apart.distinct apart.prefix ends.ended ends.closed

-- ---- columns of rows, one behind the other

pub columns-stacked : (rules : RowRules) (columns : List (ℕ × Entry)) (xs ys : List Row) → stacked (frame_of_rows rules columns xs) (frame_of_rows rules columns ys) ≡ frame_of_rows rules columns (xs ++ ys)
columns-stacked rules [] xs ys = refl
columns-stacked rules (column ∷ columns) xs ys =
    ap (λ (values : List (Option Scalar)). record { name = column.1.0; dtype = column.1.1; values = values } ∷ stacked (frame_of_rows rules columns xs) (frame_of_rows rules columns ys))
    (sym (map-append _ xs ys))
    ∙ ap (λ (others : List ColumnValue). read_column rules (xs ++ ys) column ∷ others) (columns-stacked rules columns xs ys)

-- the names and the types of columns of rows
schema-rows : (rules : RowRules) (given : List Row) (columns : List (ℕ × Entry)) → schema_of (frame_of_rows rules columns given) ≡ map (λ column. column.1) columns
schema-rows rules given [] = refl
schema-rows rules given (column ∷ columns) = ap (λ (others : List Entry). column.1 ∷ others) (schema-rows rules given columns)

pub same-rows : (rules : RowRules) (columns : List (ℕ × Entry)) (xs ys : List Row) → HaveSameColumns (frame_of_rows rules columns xs) (frame_of_rows rules columns ys)
same-rows rules columns xs ys = schema-rows rules xs columns ∙ sym (schema-rows rules ys columns)

-- ---- sound texts

all-append : {X : Type 0} (P : X → Type 0) (xs ys : List X) → AllByRecursion P xs → AllByRecursion P ys → AllByRecursion P (xs ++ ys)
all-append P [] ys first second = second
all-append P (x ∷ xs) ys first second = (first.0, all-append P xs ys first.1 second)

pub IsSoundText-nil : (plan : RangePlan) (schema : List Entry) → IsSoundText plan schema []
IsSoundText-nil plan schema = record {
  ends = EndsItem-nil plan.dialect;
  sound = subst (AllByRecursion (λ row. first_fault (rules_of plan) (columns_in schema plan.projection.places.now) row ≡ None)) (sym (rows-nil (marks_of plan.dialect) (comment_of plan.dialect))) tt;
}

pub IsSoundText-append : (plan : RangePlan) (schema : List Entry) (a b : List ℕ) → IsDialect (marks_of plan.dialect) (comment_of plan.dialect) → IsSoundText plan schema a → IsSoundText plan schema b
    → IsSoundText plan schema (a ++ b)
IsSoundText-append plan schema a b apart first second =
    let m = marks_of plan.dialect in
    let comment = comment_of plan.dialect in
    let P : Row → Type 0 = λ row. first_fault (rules_of plan) (columns_in schema plan.projection.places.now) row ≡ None in
    record {
      ends = EndsItem-append plan.dialect a b apart first.ends second.ends;
      sound = subst (AllByRecursion P) (sym (rows-behind plan.dialect a b apart first.ends)) (all-append P (rows m comment a) (rows m comment b) first.sound second.sound);
    }

pub text_frame-append : (plan : RangePlan) (schema : List Entry) (a b : List ℕ) → IsDialect (marks_of plan.dialect) (comment_of plan.dialect) → EndsItem plan.dialect a
    → stacked (text_frame plan schema a) (text_frame plan schema b) ≡ text_frame plan schema (a ++ b)
text_frame-append plan schema a b apart ends =
    let m = marks_of plan.dialect in
    let comment = comment_of plan.dialect in
    let columns = entries_in schema plan.projection.places.now in
    columns-stacked (rules_of plan) columns (rows m comment a) (rows m comment b)
    ∙ ap (frame_of_rows (rules_of plan) columns) (sym (rows-behind plan.dialect a b apart ends))

pub height-text : (plan : RangePlan) (schema : List Entry) (text : List ℕ) → HaveHeight (length (rows (marks_of plan.dialect) (comment_of plan.dialect) text)) (text_frame plan schema text)
height-text plan schema text = have_height (rules_of plan) (rows (marks_of plan.dialect) (comment_of plan.dialect) text) (entries_in schema plan.projection.places.now)

pub same-columns : (plan : RangePlan) (schema : List Entry) (a b : List ℕ) → HaveSameColumns (text_frame plan schema a) (text_frame plan schema b)
same-columns plan schema a b =
    let m = marks_of plan.dialect in
    let comment = comment_of plan.dialect in
    same-rows (rules_of plan) (entries_in schema plan.projection.places.now) (rows m comment a) (rows m comment b)

pub same-columns-range : (plan : RangePlan) (schema : List Entry) (a b : List ℕ) → HaveSameColumns (text_frame plan schema a) (range_frame plan schema b)
same-columns-range plan schema a b =
    let places = plan.projection.places.now in
    same-rows (rules_of plan) (entries_in schema places) (rows (marks_of plan.dialect) (comment_of plan.dialect) a) (rows_read plan (columns_in schema places) b)

-- ---- a range with a sound text at its front

-- a limit is no less than so many
abbrev pub IsWithin : Option ℕ → ℕ → Type 0
IsWithin limit n = IfSome limit (λ most. n ≤ most)

-- those of two lists below a limit that is no less than the first
limited-behind : {X : Type 0} (limit : Option ℕ) (xs ys : List X) → IsWithin limit (length xs) → limited limit (xs ++ ys) ≡ xs ++ limited (left_limit limit (length xs)) ys
limited-behind None xs ys few = refl
limited-behind (Some most) xs ys few = take-past most xs ys few

-- the rows of the range
rows_of-behind : (plan : RangePlan) (front rest : List ℕ) → IsDialect (marks_of plan.dialect) (comment_of plan.dialect) → EndsItem plan.dialect front
    → IsWithin plan.limit (length (rows (marks_of plan.dialect) (comment_of plan.dialect) front))
    → rows_of plan (front ++ rest) ≡ rows (marks_of plan.dialect) (comment_of plan.dialect) front ++ rows_of (plan_behind plan (length (rows (marks_of plan.dialect) (comment_of plan.dialect) front)) plan.last) rest
rows_of-behind plan front rest apart ends few =
    let m = marks_of plan.dialect in
    let comment = comment_of plan.dialect in
    ap (limited plan.limit) (rows-behind plan.dialect front rest apart ends) ∙ limited-behind plan.limit (rows m comment front) (rows m comment rest) few

-- what is read of the range, and where it ends
pub range-after : (plan : RangePlan) (schema : List Entry) (front rest : List ℕ) → IsDialect (marks_of plan.dialect) (comment_of plan.dialect) → IsSoundText plan schema front
    → IsWithin plan.limit (length (rows (marks_of plan.dialect) (comment_of plan.dialect) front))
    → (range_frame plan schema (front ++ rest)
    ≡ stacked (text_frame plan schema front) (range_frame (plan_behind plan (length (rows (marks_of plan.dialect) (comment_of plan.dialect) front)) plan.last) schema rest))
    × (range_end plan (columns_in schema plan.projection.places.now) (front ++ rest)
    ≡ end_behind (length (rows (marks_of plan.dialect) (comment_of plan.dialect) front))
    (range_end (plan_behind plan (length (rows (marks_of plan.dialect) (comment_of plan.dialect) front)) plan.last) (columns_in schema plan.projection.places.now) rest))
range-after plan schema front rest apart sound few =
    let rules = rules_of plan in
    let m = marks_of plan.dialect in
    let columns = columns_in schema plan.projection.places.now in
    let entries = entries_in schema plan.projection.places.now in
    let first = rows m (comment_of plan.dialect) front in
    let n = length first in
    let p = plan_behind plan n plan.last in
    let others = judged_rows p rest in
    let all = rows_of-behind plan front rest apart sound.ends few in
    let each : AllByRecursion (λ row. is_judged plan row ≡ true) first = closed-judged plan first (sym (open_rows m (comment_of plan.dialect) front apart.distinct) ∙ sound.ends.closed) in
    let judged : judged_rows plan (front ++ rest) ≡ first ++ others = ap (filter (is_judged plan)) all ∙ filter-front (is_judged plan) first (rows_of p rest) each in
    let same : has_unjudged plan (front ++ rest) ≡ has_unjudged p rest = ap (list_any (λ row. not (is_judged plan row))) all ∙ any-front (is_judged plan) first (rows_of p rest) each in
    let count : 0 + n ≡ n + 0 = omega arith in (
      ap (λ given. frame_of_rows rules entries (sound_rows rules columns given)) judged
          ∙ ap (frame_of_rows rules entries) (sound-front rules columns first others sound.sound)
          ∙ sym (columns-stacked rules entries first (sound_rows rules columns others)),
      ap (λ given. end_of (first_faulty rules columns 0 given) (has_unjudged plan (front ++ rest))) judged
          ∙ ap (λ u. end_of (first_faulty rules columns 0 (first ++ others)) u) same
          ∙ ap (λ f. end_of f (has_unjudged p rest)) (faulty-front rules columns 0 first others sound.sound)
          ∙ ap (λ k. end_of (first_faulty rules columns k others) (has_unjudged p rest)) count
          ∙ faulty-behind rules columns n 0 others (has_unjudged p rest),
    )

-- the same where there is no limit
pub range-behind : (plan : RangePlan) (schema : List Entry) (front rest : List ℕ) → plan.limit ≡ None → plan.last ≡ true → IsDialect (marks_of plan.dialect) (comment_of plan.dialect) → IsSoundText plan schema front
    → (range_frame plan schema (front ++ rest) ≡ stacked (text_frame plan schema front) (range_frame plan schema rest))
    × (range_end plan (columns_in schema plan.projection.places.now) (front ++ rest)
    ≡ end_behind (length (rows (marks_of plan.dialect) (comment_of plan.dialect) front)) (range_end plan (columns_in schema plan.projection.places.now) rest))
range-behind plan schema front rest all last apart sound =
    let n = length (rows (marks_of plan.dialect) (comment_of plan.dialect) front) in
    let both = range-after plan schema front rest apart sound (subst (λ limit. IsWithin limit n) (sym all) tt) in
    let same : plan_behind plan n plan.last ≡ plan = ap (λ limit. record plan { limit = limit }) (ap (λ limit. left_limit limit n) all ∙ sym all) in (
      both.0 ∙ ap (λ p. stacked (text_frame plan schema front) (range_frame p schema rest)) same,
      both.1 ∙ ap (λ p. end_behind n (range_end p (columns_in schema plan.projection.places.now) rest)) same,
    )

-- the row of a fault that is one of so many
fits-inside : (n k : ℕ) (e : RangeEnd) → IsInside 0 k e → n + k < 2 ^ 64 → IsRowFit n e
fits-inside n k end.Closed inside few = tt
fits-inside n k end.Open inside few = tt
fits-inside n k (end.Fault row column kind) inside few = omega (arith, inside)

-- the number of a row with a fault behind the rows of another text is a number of 64 bits, where both texts together are so long
pub row-fits : (plan : RangePlan) (columns : Columns) (front rest : List ℕ) → AreDistinct (marks_of plan.dialect) → length (front ++ rest) < 2 ^ 64
    → IsRowFit (length (rows (marks_of plan.dialect) (comment_of plan.dialect) front)) (range_end plan columns rest)
row-fits plan columns front rest apart small =
    let m = marks_of plan.dialect in
    let comment = comment_of plan.dialect in
    let judged = judged_rows plan rest in
    let all = rows m comment rest in
    let before : length (rows m comment front) ≤ length front = few_rows m comment apart (length front) front (omega arith) in
    let behind : length all ≤ length rest = few_rows m comment apart (length rest) rest (omega arith) in
    let fewer : length (rows_of plan rest) ≤ length all = omega (arith, ap length (left_below-start plan.limit all), few_limited plan.limit 0 all) in
    let least : length judged ≤ length (rows_of plan rest) = few_filtered (is_judged plan) (rows_of plan rest) in
    let few : length (rows m comment front) + length judged < 2 ^ 64 = omega (arith, small, length-append front rest) in
    fits-inside (length (rows m comment front)) (length judged) (range_end plan columns rest) (faulty-inside (rules_of plan) columns 0 judged (has_unjudged plan rest)) few

-- ---- a piece that was read into empty buffers

left_limit-zero : (limit : Option ℕ) → left_limit limit 0 ≡ limit
left_limit-zero None = refl
left_limit-zero (Some most) = let same : most - 0 ≡ most = omega arith in ap (λ k. Some k) same

pub IsPieceFound-read : (plan : RangePlan) (schema : List Entry) (text : List ℕ) (before now : List BufferValue) (n : ℕ) (read : PieceFrame)
    → before ≡ empty_buffers plan.dialect.quote_char plan.options.encoding schema plan.projection.places.now → plan.projection.width ≡ length schema
    → HasReadPiece (plan_behind plan 0 false) text before now n → read.columns.items ≡ columns_of now → read.rows ≡ n → IsPieceFound plan schema text (Some read)
IsPieceFound-read plan schema text before now n read is width found columns_are count =
    let rules = rules_of plan in
    let places = plan.projection.places.now in
    let given = rows (marks_of plan.dialect) (comment_of plan.dialect) text in
    let many : read.rows ≡ length given = count ∙ found.count in (
      record {
        sound = record {
          ends = record { ended = found.whole.ends.ended; closed = found.whole.ends.closed };
          sound = subst (λ columns. AllByRecursion (λ row. first_fault rules columns row ≡ None) given) (plan_columns-empty plan schema before is width) found.whole.sound;
        };
        columns_are = columns_are ∙ ap columns_of found.added ∙ ap (λ b. columns_of (with_columns rules given places b)) is ∙ columns_of-rows rules given schema places;
        count = many;
      },
      ap (is_below plan.limit) many ∙ ap (λ limit. is_below limit (length given)) (sym (left_limit-zero plan.limit)) ∙ found.whole.few,
    )

-- a piece that is not whole is no sound text, or has as many rows as the limit
pub IsPieceFound-none : (plan : RangePlan) (schema : List Entry) (text : List ℕ) (before : List BufferValue)
    → before ≡ empty_buffers plan.dialect.quote_char plan.options.encoding schema plan.projection.places.now → plan.projection.width ≡ length schema
    → (IsWholePiece (plan_behind plan 0 false) (plan_columns (plan_behind plan 0 false) before) text → ⊥) → IsPieceFound plan schema text None
IsPieceFound-none plan schema text before is width none = λ sound. by sound (is_below plan.limit (length (rows (marks_of plan.dialect) (comment_of plan.dialect) text))) refl
  where
    given : List Row
    given = rows (marks_of plan.dialect) (comment_of plan.dialect) text

    by : IsSoundText plan schema text → (t : Bool) → is_below plan.limit (length (rows (marks_of plan.dialect) (comment_of plan.dialect) text)) ≡ t
        → is_below plan.limit (length (rows (marks_of plan.dialect) (comment_of plan.dialect) text)) ≡ false
    by sound true few = absurd (none (record {
      ends = record { ended = sound.ends.ended; closed = sound.ends.closed };
      sound = subst (λ columns. AllByRecursion (λ row. first_fault (rules_of plan) columns row ≡ None) given) (sym (plan_columns-empty plan schema before is width)) sound.sound;
      few = ap (λ limit. is_below limit (length given)) (left_limit-zero plan.limit) ∙ few;
    }))
    by sound false few = few

-- the columns of a piece, if it has any, are what is meant
pub found-meant : (plan : RangePlan) (schema : List Entry) (text : List ℕ) (found : Option PieceFrame) (reads : List ℕ → PieceFrame → Type 0) → ((read : PieceFrame) → IsPieceFrame plan schema text read → reads text read)
    → IsPieceFound plan schema text found → IfSome found (reads text)
found-meant plan schema text None reads meant found = tt
found-meant plan schema text (Some read) reads meant found = meant read found.0
