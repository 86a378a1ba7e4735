-- The first rows of data, read and printed.
use Rattle.std.proofs.Common.{◌≡◌, ℕ, true, not, ◌+◌, ◌-◌, ◌<◌, ◌≤◌, ◌^◌, List, [], ◌++◌, length, Global, take, drop, map, refl, sym, ◌∙◌, ap, subst, arith, length-append, append_assoc}
use Rattle.std.specs.Prelude.{Option, None, Some, IfSome, filter, Result, Ok, Err, IfOk}
use Rattle.std.specs.Cow.{cow_slice_items}
use Rattle.std.specs.declared.borrow.CowSlice.{CowSlice}
use Rattle.std.specs.List.{concat, list_any}
use Rattle.std.proofs.lemmas.List.{take-append-drop, take-append-le, take_all, take_rest}
use Rattle.pl_frame.specs.Dialect.{IsDialect}
use Rattle.pl_frame.specs.Frame.{height_of}
use Rattle.pl_frame.specs.FrameParts.{stacked}
use Rattle.pl_frame.specs.Schema.{Entry}
use Rattle.pl_text.specs.FrameText.{WriteOptions}
use Rattle.pl_scan.specs.Dialect.{marks_of, comment_of}
use Rattle.pl_table.specs.Rows.{Row, rows}
use Rattle.pl_rows.specs.declared.columns.RangeColumns.{RangeColumns}
use Rattle.pl_rows.specs.declared.plan.RangePlan.{RangePlan}
use Rattle.pl_rows.specs.Columns.{columns_in, entries_in, frame_of_rows}
use Rattle.pl_rows.specs.Pieces.{end_behind, plan_behind, IsRowFit}
use Rattle.pl_rows.specs.Plan.{rules_of}
use Rattle.pl_rows.specs.Ranges.{limited, rows_of, is_judged, end_of, range_end, range_frame, rows_read, sound_rows, IsRangeRead}
use Rattle.pl_rows.specs.Rows.{first_faulty}
use Rattle.pl_rows.specs.WholePieces.{IsSoundText, text_frame}
use Rattle.pl_rows.proofs.RangeLaws.{few_rows}
use Rattle.pl_rows.proofs.SoundTextLaws.{rows-behind, range-after, same-rows, row-fits}
use Rattle.pl_write.specs.Batches.{all_lines}
use Rattle.pl_write.proofs.StackLaws.{lines-stacked}
use Rattle.pl_verbatim.specs.PrintedTexts.{CanPrint, IsTextPrinted, IsFrontPrinted}
use Rattle.pl_verbatim.proofs.PrintingLaws.{level-text}
use Rattle.pl_regions.specs.Limits.{without_limit, HasRows, IsDecidedBy}
use Rattle.pl_regions.specs.Printing.{IsLeftBehind, IsPrinted, IsPrintedFront}
use Rattle.pl_regions.proofs.PrintingLaws.{left-behind, text-high}
use Rattle.pl_regions.proofs.RegionLaws.{unread}
use Rattle.pl_regions.specs.declared.front.Front.{Front}
use Rattle.pl_regions.specs.declared.printing.PrintedRows.{PrintedRows}

-- ---- a front of a front

-- the front of a text is one of the text with more behind it
pub front-longer : (plan : RangePlan) (schema : List Entry) (o : WriteOptions) (text rest : List ℕ) (end n : ℕ) (lines : List ℕ) → IsFrontPrinted plan schema o text end n lines
    → IsFrontPrinted plan schema o (text ++ rest) end n lines
front-longer plan schema o text rest end n lines is = record {
  within = omega (arith, is.within, length-append text rest);
  front = subst (λ t. IsTextPrinted plan schema o t n lines) (sym (take-append-le end text rest is.within)) is.front;
}

-- so is that of the first bytes of a text
pub front-of-first : (plan : RangePlan) (schema : List Entry) (o : WriteOptions) (text : List ℕ) (len end n : ℕ) (lines : List ℕ) → IsFrontPrinted plan schema o (take len text) end n lines
    → IsFrontPrinted plan schema o text end n lines
front-of-first plan schema o text len end n lines is =
    subst (λ t. IsFrontPrinted plan schema o t end n lines) (take-append-drop len text) (front-longer plan schema o (take len text) (drop len text) end n lines is)

-- two fronts, the second of what the first leaves
pub front-joined : (plan : RangePlan) (schema : List Entry) (o : WriteOptions) (text : List ℕ) (first next joined : Front) → IsDialect (marks_of plan.dialect) (comment_of plan.dialect) → length text < 2 ^ 64
    → IsPrintedFront plan schema o text first → IsPrintedFront plan schema o (take (length text - first.end) (drop first.end text)) next
    → joined.end ≡ first.end + next.end → joined.rows ≡ first.rows + next.rows → joined.lines.items ≡ first.lines.items ++ next.lines.items → IsPrintedFront plan schema o text joined
front-joined plan schema o text first next joined dialect small is more end_is rows_are lines_are =
    let left = take (length text - first.end) (drop first.end text) in
    let behind : IsLeftBehind plan schema o text first left = record { small = small; printed = is; left_is = take_rest text first.end } in
    let both = left-behind plan schema o text left first next joined dialect behind more end_is rows_are lines_are in
    both.printed

-- where they were joined
pub joined-front : {E : Type 0} (result : Result Front E) (plan : RangePlan) (schema : List Entry) (o : WriteOptions) (text : List ℕ) (first next : Front) → IsDialect (marks_of plan.dialect) (comment_of plan.dialect) → length text < 2 ^ 64
    → IsPrintedFront plan schema o text first → IsPrintedFront plan schema o (take (length text - first.end) (drop first.end text)) next
    → IfOk result (λ joined. joined.end ≡ first.end + next.end) → IfOk result (λ joined. joined.rows ≡ first.rows + next.rows) → IfOk result (λ joined. joined.lines.items ≡ first.lines.items ++ next.lines.items)
    → IfOk result (IsPrintedFront plan schema o text)
joined-front (Ok joined) plan schema o text first next dialect small is more end_is rows_are lines_are = front-joined plan schema o text first next joined dialect small is more end_is rows_are lines_are
joined-front (Err fault) plan schema o text first next dialect small is more end_is rows_are lines_are = tt

-- of nothing all is left
pub nothing-printed : (plan : RangePlan) (schema : List Entry) (o : WriteOptions) (records : List ℕ) (front : Front) → length records < 2 ^ 64 → front.end ≡ 0 → front.rows ≡ 0 → front.lines.items ≡ []
    → IsLeftBehind plan schema o records front records
nothing-printed plan schema o records front small end rows lines = record {
  small = small;
  printed = unread plan schema o records front.end front.rows _ end rows (ap (λ (l : List (CowSlice ℕ Global)). concat (map cow_slice_items l)) lines);
  left_is = sym (ap (λ (k : ℕ). drop k records) end);
}

-- ---- what is left behind a front, read up to the limit

-- the text of a front, under the limit
sound-first : (plan : RangePlan) (schema : List Entry) (text : List ℕ) → IsSoundText (without_limit plan) schema text → IsSoundText plan schema text
sound-first plan schema text is = record { ends = is.ends; sound = is.sound }

-- its rows are no more than the limit
few-first : (plan : RangePlan) (schema : List Entry) (o : WriteOptions) (records left : List ℕ) (front : Front) → IsLeftBehind (without_limit plan) schema o records front left → IfSome plan.limit (λ limit. front.rows ≤ limit)
    → IfSome plan.limit (λ limit. length (rows (marks_of plan.dialect) (comment_of plan.dialect) (take front.end records)) ≤ limit)
few-first plan schema o records left front is few = subst (λ (n : ℕ). IfSome plan.limit (λ limit. n ≤ limit)) is.printed.front.count_is few

-- where all ends
pub first-end : (plan : RangePlan) (schema : List Entry) (o : WriteOptions) (records left : List ℕ) (front : Front) (read : RangeColumns) → CanPrint (without_limit plan) schema → plan.last ≡ true
    → IsLeftBehind (without_limit plan) schema o records front left → IfSome plan.limit (λ limit. front.rows ≤ limit) → IsRangeRead (plan_behind plan front.rows true) schema left read
    → end_behind front.rows read.end ≡ range_end plan (columns_in schema plan.projection.places.now) records
first-end plan schema o records left front read can last is few range =
    let columns = columns_in schema plan.projection.places.now in
    let text = take front.end records in
    let rest = drop front.end records in
    let n = length (rows (marks_of plan.dialect) (comment_of plan.dialect) text) in
    let both = range-after plan schema text rest can.dialect (sound-first plan schema text is.printed.front.sound) (few-first plan schema o records left front is few) in
    ap (end_behind front.rows) (range.end_is ∙ ap (range_end (plan_behind plan front.rows true) columns) is.left_is)
    ∙ ap (λ (k : ℕ). end_behind k (range_end (plan_behind plan k true) columns rest)) is.printed.front.count_is
    ∙ ap (λ t. end_behind n (range_end (plan_behind plan n t) columns rest)) (sym last)
    ∙ sym both.1
    ∙ ap (range_end plan columns) (take-append-drop front.end records)

-- the columns that are left
first-columns : (plan : RangePlan) (schema : List Entry) (o : WriteOptions) (records left : List ℕ) (front : Front) (read : RangeColumns) → plan.last ≡ true
    → IsLeftBehind (without_limit plan) schema o records front left → IsRangeRead (plan_behind plan front.rows true) schema left read
    → read.columns.items ≡ range_frame (plan_behind plan (length (rows (marks_of plan.dialect) (comment_of plan.dialect) (take front.end records))) plan.last) schema (drop front.end records)
first-columns plan schema o records left front read last is range =
    let rest = drop front.end records in
    let n = length (rows (marks_of plan.dialect) (comment_of plan.dialect) (take front.end records)) in
    range.columns
    ∙ ap (range_frame (plan_behind plan front.rows true) schema) is.left_is
    ∙ ap (λ (k : ℕ). range_frame (plan_behind plan k true) schema rest) is.printed.front.count_is
    ∙ ap (λ t. range_frame (plan_behind plan n t) schema rest) (sym last)

-- all lines
pub first-lines : (plan : RangePlan) (schema : List Entry) (o : WriteOptions) (records left : List ℕ) (front : Front) (read : RangeColumns) → CanPrint (without_limit plan) schema → plan.last ≡ true
    → IsLeftBehind (without_limit plan) schema o records front left → IfSome plan.limit (λ limit. front.rows ≤ limit) → IsRangeRead (plan_behind plan front.rows true) schema left read
    → concat (map cow_slice_items front.lines.items) ++ all_lines o read.columns.items ≡ all_lines o (range_frame plan schema records)
first-lines plan schema o records left front read can last is few range =
    let places = plan.projection.places.now in
    let text = take front.end records in
    let rest = drop front.end records in
    let n = length (rows (marks_of plan.dialect) (comment_of plan.dialect) text) in
    let p = plan_behind plan n plan.last in
    let both = range-after plan schema text rest can.dialect (sound-first plan schema text is.printed.front.sound) (few-first plan schema o records left front is few) in
    let columns_are = first-columns plan schema o records left front read last is range in
    let same = same-rows (rules_of plan) (entries_in schema places) (rows (marks_of plan.dialect) (comment_of plan.dialect) text) (rows_read p (columns_in schema places) rest) in
    (λ j. is.printed.front.lines_are j ++ all_lines o (columns_are j))
    ∙ sym (lines-stacked o (text_frame plan schema text) (range_frame p schema rest) same (level-text plan schema text))
    ∙ ap (all_lines o) (sym both.0 ∙ ap (range_frame plan schema) (take-append-drop front.end records))

-- all rows
pub first-high : (plan : RangePlan) (schema : List Entry) (o : WriteOptions) (records left : List ℕ) (front : Front) (read : RangeColumns) → CanPrint (without_limit plan) schema → plan.last ≡ true
    → IsLeftBehind (without_limit plan) schema o records front left → IfSome plan.limit (λ limit. front.rows ≤ limit) → IsRangeRead (plan_behind plan front.rows true) schema left read
    → height_of (range_frame plan schema records) ≤ front.rows + height_of read.columns.items
first-high plan schema o records left front read can last is few range =
    let text = take front.end records in
    let rest = drop front.end records in
    let n = length (rows (marks_of plan.dialect) (comment_of plan.dialect) text) in
    let p = plan_behind plan n plan.last in
    let both = range-after plan schema text rest can.dialect (sound-first plan schema text is.printed.front.sound) (few-first plan schema o records left front is few) in
    let columns_are : read.columns.items ≡ range_frame p schema rest = first-columns plan schema o records left front read last is range in
    let frame : range_frame plan schema records ≡ stacked (text_frame plan schema text) (range_frame p schema rest) = ap (range_frame plan schema) (sym (take-append-drop front.end records)) ∙ both.0 in
    omega (arith, ap height_of frame, ap height_of columns_are, text-high (without_limit plan) schema o text front.rows _ (range_frame p schema rest) is.printed.front)

-- the number of a row that has a fault is one of 64 bits
pub first-fits : (plan : RangePlan) (schema : List Entry) (o : WriteOptions) (records left : List ℕ) (front : Front) (read : RangeColumns) → CanPrint (without_limit plan) schema
    → IsLeftBehind (without_limit plan) schema o records front left → IsRangeRead (plan_behind plan front.rows true) schema left read → IsRowFit front.rows read.end
first-fits plan schema o records left front read can is range =
    let columns = columns_in schema plan.projection.places.now in
    let p = plan_behind plan front.rows true in
    let rest = drop front.end records in
    let whole : length (take front.end records ++ rest) < 2 ^ 64 = subst (λ l. length l < 2 ^ 64) (sym (take-append-drop front.end records)) is.small in
    subst (IsRowFit front.rows) (sym (range.end_is ∙ ap (range_end p columns) is.left_is))
    (subst (λ (k : ℕ). IsRowFit k (range_end p columns rest)) (sym is.printed.front.count_is) (row-fits p columns (take front.end records) rest can.dialect.distinct whole))

-- ---- a limit that is not reached

limited-all : {X : Type 0} (limit : Option ℕ) (xs : List X) → IfSome limit (λ most. length xs ≤ most) → limited limit xs ≡ xs
limited-all None xs few = refl
limited-all (Some most) xs few = take_all most xs few

few-rows : (plan : RangePlan) (records : List ℕ) (limit : Option ℕ) → IsDialect (marks_of plan.dialect) (comment_of plan.dialect) → IfSome limit (λ most. length records ≤ most)
    → IfSome limit (λ most. length (rows (marks_of plan.dialect) (comment_of plan.dialect) records) ≤ most)
few-rows plan records None dialect few = tt
few-rows plan records (Some most) dialect few = omega (arith, few, few_rows (marks_of plan.dialect) (comment_of plan.dialect) dialect.distinct (length records) records (omega arith))

-- data of the same rows has the same lines
printed-by-rows : (plan : RangePlan) (schema : List Entry) (o : WriteOptions) (text records : List ℕ) (printed : PrintedRows) → rows_of plan records ≡ rows_of plan text
    → IsPrinted plan schema o text printed → IsPrinted plan schema o records printed
printed-by-rows plan schema o text records printed same is =
    let places = plan.projection.places.now in
    let columns = columns_in schema places in
    let rules = rules_of plan in
    let same_end : range_end plan columns records ≡ range_end plan columns text =
    ap (λ (given : List Row). end_of (first_faulty rules columns 0 (filter (is_judged plan) given)) (list_any (λ row. not (is_judged plan row)) given)) same in
    let same_frame : range_frame plan schema records ≡ range_frame plan schema text =
    ap (λ (given : List Row). frame_of_rows rules (entries_in schema places) (sound_rows rules columns (filter (is_judged plan) given))) same in
    record {
      end_is = is.end_is ∙ sym same_end;
      lines_are = λ sound. is.lines_are sound ∙ ap (all_lines o) (sym same_frame);
      rows_are = λ sound. omega (arith, is.rows_are sound, ap height_of same_frame);
    }

-- A limit that is at least the number of bytes is not reached, since there are no more rows than bytes.
pub all-printed : (plan : RangePlan) (schema : List Entry) (o : WriteOptions) (records : List ℕ) (printed : PrintedRows) → IsDialect (marks_of plan.dialect) (comment_of plan.dialect) → IfSome plan.limit (λ limit. length records ≤ limit)
    → IsPrinted (without_limit plan) schema o records printed → IsPrinted plan schema o records printed
all-printed plan schema o records printed dialect few is =
    let places = plan.projection.places.now in
    let columns = columns_in schema places in
    let rules = rules_of plan in
    let all = limited-all plan.limit (rows (marks_of plan.dialect) (comment_of plan.dialect) records) (few-rows plan records plan.limit dialect few) in
    let same_end : range_end plan columns records ≡ range_end (without_limit plan) columns records =
    ap (λ (given : List Row). end_of (first_faulty rules columns 0 (filter (is_judged plan) given)) (list_any (λ row. not (is_judged plan row)) given)) all in
    let same_frame : range_frame plan schema records ≡ range_frame (without_limit plan) schema records =
    ap (λ (given : List Row). frame_of_rows rules (entries_in schema places) (sound_rows rules columns (filter (is_judged plan) given))) all in
    record {
      end_is = is.end_is ∙ sym same_end;
      lines_are = λ sound. is.lines_are sound ∙ ap (all_lines o) (sym same_frame);
      rows_are = λ sound. omega (arith, is.rows_are sound, ap height_of same_frame);
    }

-- ---- a limit that a text reaches

-- the first of two lists has as many as are wanted
limited-front : {X : Type 0} (limit : Option ℕ) (number : ℕ) (xs ys : List X) → limit ≡ Some number → number ≤ length xs → limited limit (xs ++ ys) ≡ take number xs
limited-front limit number xs ys is enough = ap (λ l. limited l (xs ++ ys)) is ∙ take-append-le number xs ys enough

-- The first rows of a text that has as many are those of the text with more behind it.
first-rows : (plan : RangePlan) (schema : List Entry) (o : WriteOptions) (text rest : List ℕ) (number : ℕ) → IsDialect (marks_of plan.dialect) (comment_of plan.dialect) → plan.limit ≡ Some number
    → HasRows (without_limit plan) schema o text number → rows_of plan (text ++ rest) ≡ rows_of plan text
first-rows plan schema o text rest number apart is many =
    let m = marks_of plan.dialect in
    let comment = comment_of plan.dialect in
    let front = take many.end text in
    let behind = drop many.end text in
    let ends = many.front.front.sound.ends in
    let count_is : many.rows ≡ length (rows m comment front) = many.front.front.count_is in
    let enough : number ≤ length (rows m comment front) = omega (arith, many.enough, count_is) in
    let of : (more : List ℕ) → rows_of plan (front ++ more) ≡ take number (rows m comment front) =
    λ more. ap (limited plan.limit) (rows-behind plan.dialect front more apart ends) ∙ limited-front plan.limit number (rows m comment front) (rows m comment more) is enough in
    ap (λ (t : List ℕ). rows_of plan (t ++ rest)) (sym (take-append-drop many.end text))
    ∙ ap (rows_of plan) (append_assoc front behind rest)
    ∙ of (behind ++ rest)
    ∙ sym (of behind)
    ∙ ap (rows_of plan) (take-append-drop many.end text)

-- so what is printed of it is printed of that too
pub decided : (plan : RangePlan) (schema : List Entry) (o : WriteOptions) (records text rest : List ℕ) (number : ℕ) → IsDialect (marks_of plan.dialect) (comment_of plan.dialect) → plan.limit ≡ Some number
    → HasRows (without_limit plan) schema o text number → records ≡ text ++ rest → IsDecidedBy plan schema o records text
decided plan schema o records text rest number apart is many whole = λ printed printed_is.
    printed-by-rows plan schema o text records printed (ap (rows_of plan) whole ∙ first-rows plan schema o text rest number apart is many) printed_is

-- ---- no limit

-- a plan that has none is the same without one
pub same-plan : (plan : RangePlan) → plan.limit ≡ None → without_limit plan ≡ plan
same-plan plan none = ap (λ limit. record plan { limit = limit }) (sym none)

-- what holds of a success holds by what it gives
pub if_ok : {A E : Type 0} (r : Result A E) (P Q : A → Type 0) → ((a : A) → P a → Q a) → IfOk r P → IfOk r Q
if_ok (Ok a) P Q gives holds = gives a holds
if_ok (Err e) P Q gives holds = tt
