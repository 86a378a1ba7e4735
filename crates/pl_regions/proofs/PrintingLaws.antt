-- All rows of data, read and printed.
use Rattle.std.proofs.Common.{◌≡◌, ℕ, true, not, None, ◌+◌, ◌<◌, ◌≤◌, ◌^◌, List, [], ◌∷◌, ◌++◌, length, get_or, take, drop, map, sym, ◌∙◌, ap, subst, arith}
use Rattle.std.specs.Cow.{cow_slice_items}
use Rattle.std.specs.List.{concat, list_any}
use Rattle.std.specs.Prelude.{filter}
use Rattle.std.proofs.lemmas.List.{append-nil, length-append, take-append-drop, drop-drop, drop_more}
use Rattle.pl_frame.specs.Dialect.{IsDialect}
use Rattle.pl_frame.specs.Frame.{ColumnValue, HaveHeight, height_of}
use Rattle.pl_frame.specs.FrameParts.{stacked}
use Rattle.pl_frame.specs.Schema.{Entry}
use Rattle.pl_text.specs.FrameText.{WriteOptions}
use Rattle.pl_scan.specs.Dialect.{marks_of, comment_of}
use Rattle.pl_scan.specs.LineCuts.{RiseTo}
use Rattle.pl_rows.specs.declared.columns.RangeColumns.{RangeColumns}
use Rattle.pl_rows.specs.declared.plan.RangePlan.{RangePlan}
use Rattle.pl_rows.specs.Columns.{columns_in, entries_in, frame_of_rows}
use Rattle.pl_rows.specs.Pieces.{end_behind, IsRowFit}
use Rattle.pl_rows.specs.Plan.{Columns, rules_of}
use Rattle.pl_rows.specs.Ranges.{limited, rows_of, is_judged, end_of, sound_rows, range_end, range_frame, rows_read, IsRangeRead}
use Rattle.pl_rows.specs.Rows.{first_faulty}
use Rattle.pl_rows.specs.declared.range.RangeEnd.TheVariants as end
use Rattle.pl_rows.proofs.RangeLaws.{rows-nil}
use Rattle.pl_table.specs.Rows.{Row, rows}
use Rattle.pl_rows.specs.WholePieces.{text_frame}
use Rattle.pl_rows.proofs.FrameLaws.{have_height}
use Rattle.pl_rows.proofs.SoundTextLaws.{height-text, range-behind, same-columns-range, row-fits}
use Rattle.pl_write.specs.Batches.{all_lines}
use Rattle.pl_write.proofs.StackLaws.{lines-stacked}
use Rattle.pl_verbatim.specs.PrintedTexts.{CanPrint, IsFrontPrinted, IsTextPrinted}
use Rattle.pl_verbatim.proofs.PrintingLaws.{level, level-text, IsTextPrinted-nil}
use Rattle.pl_regions.proofs.RegionLaws.{front-behind, lines-joined, few-printed}
use Rattle.pl_regions.specs.Printing.{IsLeftBehind, IsPrinted, IsPrintedFront}
use Rattle.pl_regions.specs.declared.front.Front.{Front}
use Rattle.pl_regions.specs.declared.printing.PrintedRows.{PrintedRows}

-- ---- texts between places

-- places that rise to the end of a text are within it
rise-within : (size from : ℕ) (ends : List ℕ) → RiseTo size from ends → from ≤ size
rise-within size from [] is = omega (arith, is)
rise-within size from (end ∷ ends) is = let more = rise-within size end ends is.1 in omega (arith, is.0, more)

-- the next place, and those behind it
pub record IsNextEnd (size from end : ℕ) (ends : List ℕ) : Type 0 where
  pub order : from ≤ end
  pub within : end ≤ size
  pub rise : RiseTo size end ends

pub next-end : (size from k end : ℕ) (ends : List ℕ) → k < length ends → end ≡ get_or ends k 0 → RiseTo size from (drop k ends) → IsNextEnd size from end (drop (k + 1) ends)
next-end size from k end ends inside is rise =
    let here = subst (RiseTo size from) (drop_more ends k 0 inside) rise in
    subst (λ (e : ℕ). IsNextEnd size from e (drop (k + 1) ends)) (sym is) (record { order = omega (arith, here.0); within = rise-within size (get_or ends k 0) (drop (k + 1) ends) here.1; rise = here.1 })

-- ---- fronts

-- both fronts have fewer rows than numbers of 64 bits count
pub rows-fit : (plan : RangePlan) (schema : List Entry) (o : WriteOptions) (records left : List ℕ) (first next : Front) → IsDialect (marks_of plan.dialect) (comment_of plan.dialect)
    → IsLeftBehind plan schema o records first left → IsPrintedFront plan schema o left next → first.rows + next.rows < 2 ^ 64
rows-fit plan schema o records left first next apart is more =
    let lines = concat (map cow_slice_items first.lines.items) ++ concat (map cow_slice_items next.lines.items) in
    let both =
    front-behind plan schema o records first.end first.rows next.end next.rows (concat (map cow_slice_items first.lines.items)) (concat (map cow_slice_items next.lines.items)) apart is.printed
    (subst (λ t. IsFrontPrinted plan schema o t next.end next.rows (concat (map cow_slice_items next.lines.items))) is.left_is more) in
    omega (arith, few-printed plan schema o records (first.end + next.end) (first.rows + next.rows) lines apart both, is.small)

-- what is left of data behind its front, and then behind the front of that
pub left-behind : (plan : RangePlan) (schema : List Entry) (o : WriteOptions) (records left : List ℕ) (first next joined : Front) → IsDialect (marks_of plan.dialect) (comment_of plan.dialect)
    → IsLeftBehind plan schema o records first left → IsPrintedFront plan schema o left next
    → joined.end ≡ first.end + next.end → joined.rows ≡ first.rows + next.rows → joined.lines.items ≡ first.lines.items ++ next.lines.items
    → IsLeftBehind plan schema o records joined (drop next.end left)
left-behind plan schema o records left first next joined apart is more end rows lines =
    let both =
    front-behind plan schema o records first.end first.rows next.end next.rows (concat (map cow_slice_items first.lines.items)) (concat (map cow_slice_items next.lines.items)) apart is.printed
    (subst (λ t. IsFrontPrinted plan schema o t next.end next.rows (concat (map cow_slice_items next.lines.items))) is.left_is more) in
    record {
      small = is.small;
      printed =
          subst (λ e. IsFrontPrinted plan schema o records e joined.rows (concat (map cow_slice_items joined.lines.items))) (sym end)
          (subst (λ n. IsFrontPrinted plan schema o records (first.end + next.end) n (concat (map cow_slice_items joined.lines.items))) (sym rows)
          (subst (IsFrontPrinted plan schema o records (first.end + next.end) (first.rows + next.rows)) (sym (lines-joined cow_slice_items first.lines.items next.lines.items joined.lines.items lines)) both));
      left_is = ap (drop next.end) is.left_is ∙ drop-drop next.end first.end records ∙ ap (λ k. drop k records) (sym end);
    }

-- ---- what is left, read as one range

-- where all ends
pub whole-end : (plan : RangePlan) (schema : List Entry) (o : WriteOptions) (records left : List ℕ) (front : Front) (read : RangeColumns) → CanPrint plan schema → plan.last ≡ true
    → IsLeftBehind plan schema o records front left → IsRangeRead plan schema left read → end_behind front.rows read.end ≡ range_end plan (columns_in schema plan.projection.places.now) records
whole-end plan schema o records left front read can last is range =
    let columns = columns_in schema plan.projection.places.now in
    let rest = drop front.end records in
    let both = range-behind plan schema (take front.end records) rest can.unlimited last can.dialect is.printed.front.sound in
    ap (end_behind front.rows) (range.end_is ∙ ap (range_end plan columns) is.left_is)
    ∙ ap (λ k. end_behind k (range_end plan columns rest)) is.printed.front.count_is
    ∙ sym both.1
    ∙ ap (range_end plan columns) (take-append-drop front.end records)

-- all lines
pub whole-lines : (plan : RangePlan) (schema : List Entry) (o : WriteOptions) (records left : List ℕ) (front : Front) (read : RangeColumns) → CanPrint plan schema → plan.last ≡ true
    → IsLeftBehind plan schema o records front left → IsRangeRead plan schema left read
    → concat (map cow_slice_items front.lines.items) ++ all_lines o read.columns.items ≡ all_lines o (range_frame plan schema records)
whole-lines plan schema o records left front read can last is range =
    let text = take front.end records in
    let rest = drop front.end records in
    let both = range-behind plan schema text rest can.unlimited last can.dialect is.printed.front.sound in
    let columns_are : read.columns.items ≡ range_frame plan schema rest = range.columns ∙ ap (range_frame plan schema) is.left_is in
    (λ j. is.printed.front.lines_are j ++ all_lines o (columns_are j))
    ∙ sym (lines-stacked o (text_frame plan schema text) (range_frame plan schema rest) (same-columns-range plan schema text rest) (level-text plan schema text))
    ∙ ap (all_lines o) (sym both.0 ∙ ap (range_frame plan schema) (take-append-drop front.end records))

-- ---- how many rows

-- columns have no more rows than their height says
height-most : (n : ℕ) (columns : List ColumnValue) → HaveHeight n columns → height_of columns ≤ n
height-most n [] have = omega arith
height-most n (c ∷ cs) have = omega (arith, have.0)

stacked-high : (columns others : List ColumnValue) → height_of (stacked columns others) ≤ height_of columns + height_of others
stacked-high [] others = omega arith
stacked-high (c ∷ cs) [] = omega arith
stacked-high (c ∷ cs) (d ∷ ds) = omega (arith, length-append c.values d.values)

-- the rows of a text that was printed, and of columns behind it
pub text-high : (plan : RangePlan) (schema : List Entry) (o : WriteOptions) (text : List ℕ) (count : ℕ) (lines : List ℕ) (rest : List ColumnValue) → IsTextPrinted plan schema o text count lines
    → height_of (stacked (text_frame plan schema text) rest) ≤ count + height_of rest
text-high plan schema o text count lines rest is =
    omega (arith, stacked-high (text_frame plan schema text) rest, height-most _ (text_frame plan schema text) (height-text plan schema text), is.count_is)

-- all rows
pub whole-rows : (plan : RangePlan) (schema : List Entry) (o : WriteOptions) (records left : List ℕ) (front : Front) (read : RangeColumns) → CanPrint plan schema → plan.last ≡ true
    → IsLeftBehind plan schema o records front left → IsRangeRead plan schema left read → height_of (range_frame plan schema records) ≤ front.rows + height_of read.columns.items
whole-rows plan schema o records left front read can last is range =
    let text = take front.end records in
    let rest = drop front.end records in
    let both = range-behind plan schema text rest can.unlimited last can.dialect is.printed.front.sound in
    let columns_are : read.columns.items ≡ range_frame plan schema rest = range.columns ∙ ap (range_frame plan schema) is.left_is in
    let frame : range_frame plan schema records ≡ stacked (text_frame plan schema text) (range_frame plan schema rest) = ap (range_frame plan schema) (sym (take-append-drop front.end records)) ∙ both.0 in
    omega (arith, ap height_of frame, ap height_of columns_are, text-high plan schema o text front.rows _ (range_frame plan schema rest) is.printed.front)

-- ---- no bytes

-- a range without bytes has no rows
no-rows : (plan : RangePlan) → plan.limit ≡ None → rows_of plan [] ≡ []
no-rows plan unlimited =
    let m = marks_of plan.dialect in
    let comment = comment_of plan.dialect in
    ap (λ limit. limited limit (rows m comment [])) unlimited ∙ rows-nil m comment

-- so it is closed
none-end : (plan : RangePlan) (columns : Columns) → plan.limit ≡ None → range_end plan columns [] ≡ end.Closed
none-end plan columns unlimited =
    ap (λ (given : List Row). end_of (first_faulty (rules_of plan) columns 0 (filter (is_judged plan) given)) (list_any (λ row. not (is_judged plan row)) given)) (no-rows plan unlimited)

-- and has no lines
none-lines : (plan : RangePlan) (schema : List Entry) (o : WriteOptions) → plan.limit ≡ None → all_lines o (range_frame plan schema []) ≡ []
none-lines plan schema o unlimited =
    let rules = rules_of plan in
    let places = plan.projection.places.now in
    let entries = entries_in schema places in
    ap (λ (given : List Row). all_lines o (frame_of_rows rules entries (sound_rows rules (columns_in schema places) (filter (is_judged plan) given)))) (no-rows plan unlimited)
    ∙ ap (λ (given : List Row). all_lines o (frame_of_rows rules entries given)) (sym (rows-nil (marks_of plan.dialect) (comment_of plan.dialect)))
    ∙ sym (IsTextPrinted-nil plan schema o).lines_are

none-high : (plan : RangePlan) (schema : List Entry) → plan.limit ≡ None → height_of (range_frame plan schema []) ≤ 0
none-high plan schema unlimited =
    let rules = rules_of plan in
    let places = plan.projection.places.now in
    let entries = entries_in schema places in
    let same = ap (λ (given : List Row). height_of (frame_of_rows rules entries (sound_rows rules (columns_in schema places) (filter (is_judged plan) given)))) (no-rows plan unlimited) in
    omega (arith, same, height-most 0 (frame_of_rows rules entries []) (have_height rules [] entries))

-- where nothing is left behind a front, that is all
pub none-left : (plan : RangePlan) (schema : List Entry) (o : WriteOptions) (records : List ℕ) (front : Front) (printed : PrintedRows) → CanPrint plan schema → plan.last ≡ true
    → IsLeftBehind plan schema o records front [] → printed.end ≡ end.Closed → printed.lines.items ≡ front.lines.items → printed.rows ≡ front.rows → IsPrinted plan schema o records printed
none-left plan schema o records front printed can last is closed same rows =
    let columns = columns_in schema plan.projection.places.now in
    let text = take front.end records in
    let rest = drop front.end records in
    let both = range-behind plan schema text rest can.unlimited last can.dialect is.printed.front.sound in
    let none : all_lines o (range_frame plan schema rest) ≡ [] = ap (λ (t : List ℕ). all_lines o (range_frame plan schema t)) (sym is.left_is) ∙ none-lines plan schema o can.unlimited in
    record {
      end_is = closed
          ∙ ap (end_behind front.rows) (sym (none-end plan columns can.unlimited) ∙ ap (range_end plan columns) is.left_is)
          ∙ ap (λ k. end_behind k (range_end plan columns rest)) is.printed.front.count_is
          ∙ sym both.1
          ∙ ap (range_end plan columns) (take-append-drop front.end records);
      lines_are = λ sound.
          ap (λ lines. concat (map cow_slice_items lines)) same
          ∙ is.printed.front.lines_are
          ∙ sym (append-nil (all_lines o (text_frame plan schema text)))
          ∙ ap (λ (l : List ℕ). all_lines o (text_frame plan schema text) ++ l) (sym none)
          ∙ sym (lines-stacked o (text_frame plan schema text) (range_frame plan schema rest) (same-columns-range plan schema text rest) (level-text plan schema text))
          ∙ ap (all_lines o) (sym both.0 ∙ ap (range_frame plan schema) (take-append-drop front.end records));
      rows_are = λ sound.
          let frame : range_frame plan schema records ≡ stacked (text_frame plan schema text) (range_frame plan schema rest) = ap (range_frame plan schema) (sym (take-append-drop front.end records)) ∙ both.0 in
          let empty : height_of (range_frame plan schema rest) ≡ height_of (range_frame plan schema []) = ap (λ (t : List ℕ). height_of (range_frame plan schema t)) (sym is.left_is) in
          omega (arith, rows, ap height_of frame, empty, none-high plan schema can.unlimited, text-high plan schema o text front.rows _ (range_frame plan schema rest) is.printed.front);
    }

-- the number of a row that has a fault is one of 64 bits
pub fault-fits : (plan : RangePlan) (schema : List Entry) (o : WriteOptions) (records left : List ℕ) (front : Front) (read : RangeColumns) → CanPrint plan schema
    → IsLeftBehind plan schema o records front left → IsRangeRead plan schema left read → IsRowFit front.rows read.end
fault-fits plan schema o records left front read can is range =
    let columns = columns_in schema plan.projection.places.now in
    let rest = drop front.end records in
    let whole : length (take front.end records ++ rest) < 2 ^ 64 = subst (λ l. length l < 2 ^ 64) (sym (take-append-drop front.end records)) is.small in
    subst (IsRowFit front.rows) (sym (range.end_is ∙ ap (range_end plan columns) is.left_is))
    (subst (λ k. IsRowFit k (range_end plan columns rest)) (sym is.printed.front.count_is) (row-fits plan columns (take front.end records) rest can.dialect.distinct whole))

-- those of a range have one
pub level-frame : (plan : RangePlan) (schema : List Entry) (range : List ℕ) → HaveHeight (height_of (range_frame plan schema range)) (range_frame plan schema range)
level-frame plan schema range =
    let places = plan.projection.places.now in
    level _ (range_frame plan schema range) (have_height (rules_of plan) (rows_read plan (columns_in schema places) range) (entries_in schema places))

pub level-range : (plan : RangePlan) (schema : List Entry) (range : List ℕ) (read : RangeColumns) → IsRangeRead plan schema range read → HaveHeight (height_of read.columns.items) read.columns.items
level-range plan schema range read is = subst (λ columns. HaveHeight (height_of columns) columns) (sym is.columns) (level-frame plan schema range)
