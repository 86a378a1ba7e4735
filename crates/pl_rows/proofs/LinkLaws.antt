-- Columns of pieces that follow one another, linked.
use Rattle.std.proofs.Common.{◌≡◌, ℕ, ◌+◌, ◌-◌, ◌<◌, ◌≤◌, ◌^◌, true, List, [], ◌∷◌, ◌++◌, map, length, take, drop, refl, sym, ◌∙◌, ap, subst, arith, length-append}
use Rattle.std.specs.Prelude.{Option, None, Some, slice_range}
use Rattle.std.proofs.lemmas.Bool.Decides.{nat_tests}
use Rattle.std.proofs.lemmas.List.{take-append-drop}
use Rattle.std.proofs.Math.Seq.{take-add}
use Rattle.pl_frame.specs.Dialect.{IsDialect}
use Rattle.pl_frame.specs.Frame.{ColumnValue}
use Rattle.pl_frame.specs.FrameParts.{empty_columns, stacked, HaveSameColumns}
use Rattle.pl_frame.specs.Schema.{Entry}
use Rattle.pl_scan.specs.Dialect.{marks_of, comment_of}
use Rattle.pl_cells.specs.InitBuffers.{entry_at}
use Rattle.pl_rows.specs.declared.columns.RangeColumns.{RangeColumns}
use Rattle.pl_rows.specs.declared.plan.RangePlan.{RangePlan}
use Rattle.pl_rows.specs.declared.whole_pieces.PieceFrame.{PieceFrame}
use Rattle.pl_rows.specs.Cells.{RowRules}
use Rattle.pl_rows.specs.Columns.{columns_in, entries_in, frame_of_rows}
use Rattle.pl_rows.specs.Pieces.{plan_behind, end_behind, IsRowFit}
use Rattle.pl_rows.specs.Plan.{rules_of}
use Rattle.pl_rows.specs.Ranges.{range_end, range_frame, IsRangeRead}
use Rattle.pl_rows.specs.Steps.{is_below}
use Rattle.pl_rows.specs.WholePieces.{IsSoundText, text_frame, IsPieceFrame, IsFrontLinked}
use Rattle.pl_table.specs.Rows.{rows}
use Rattle.pl_rows.proofs.RangeLaws.{rows-nil}
use Rattle.pl_rows.proofs.SoundTextLaws.{IsWithin, IsSoundText-nil, IsSoundText-append, text_frame-append, rows-behind, same-columns, same-columns-range, range-after, row-fits}

-- ---- no piece

-- the columns of no rows
columns-none : (rules : RowRules) (schema : List Entry) (places : List ℕ) → empty_columns (map (entry_at schema) places) ≡ frame_of_rows rules (entries_in schema places) []
columns-none rules schema [] = refl
columns-none rules schema (place ∷ places) = ap (λ l. record { name = (entry_at schema place).0; dtype = (entry_at schema place).1; values = [] } ∷ l) (columns-none rules schema places)

none-within : (limit : Option ℕ) → IsWithin limit 0
none-within None = tt
none-within (Some most) = omega arith

pub IsFrontLinked-none : (plan : RangePlan) (schema : List Entry) (range : List ℕ) (columns : List ColumnValue) → columns ≡ empty_columns (map (entry_at schema) plan.projection.places.now)
    → IsFrontLinked plan schema range columns 0 0
IsFrontLinked-none plan schema range columns is =
    let none = rows-nil (marks_of plan.dialect) (comment_of plan.dialect) in
    record {
      within = omega arith;
      sound = IsSoundText-nil plan schema;
      columns_are = is ∙ columns-none (rules_of plan) schema plan.projection.places.now ∙ ap (frame_of_rows (rules_of plan) (entries_in schema plan.projection.places.now)) (sym none);
      count_is = ap length (sym none);
      few = none-within plan.limit;
    }

-- ---- a piece more

-- the text of pieces up to a place, and of one behind them
text-more : (range text : List ℕ) (end to : ℕ) → end ≤ to → text ≡ slice_range range end to → take to range ≡ take end range ++ text
text-more range text end to rise is =
    let size = to - end in
    let there : to ≡ end + size = omega arith in
    ap (λ k. take k range) there ∙ take-add end size range ∙ ap (λ t. take end range ++ t) (sym is)

-- it has the columns of those
pub piece-columns : (plan : RangePlan) (schema : List Entry) (range text : List ℕ) (columns : List ColumnValue) (read : PieceFrame) (count end : ℕ)
    → IsFrontLinked plan schema range columns count end → IsPieceFrame plan schema text read → HaveSameColumns columns read.columns.items
piece-columns plan schema range text columns read count end front piece =
    subst (λ c. HaveSameColumns c read.columns.items) (sym front.columns_are)
    (subst (HaveSameColumns (text_frame plan schema (take end range))) (sym piece.columns_are) (same-columns plan schema (take end range) text))

below-within : (limit : Option ℕ) (n : ℕ) → is_below limit n ≡ true → IsWithin limit n
below-within None n below = tt
below-within (Some most) n below = let less : n < most = grind (arith, nat_tests) in omega arith

pub IsFrontLinked-more : (plan : RangePlan) (schema : List Entry) (range text : List ℕ) (columns : List ColumnValue) (read : PieceFrame) (count end from to more : ℕ)
    → IsDialect (marks_of plan.dialect) (comment_of plan.dialect) → IsFrontLinked plan schema range columns count end → IsPieceFrame plan schema text read
    → text ≡ slice_range range from to → from ≡ end → end ≤ to → to ≤ length range → more ≡ count + read.rows → is_below plan.limit more ≡ true
    → IsFrontLinked plan schema range (stacked columns read.columns.items) more to
IsFrontLinked-more plan schema range text columns read count end from to more dialect front piece text_is from_is rise within sum below =
    let m = marks_of plan.dialect in
    let comment = comment_of plan.dialect in
    let first = take end range in
    let all : take to range ≡ first ++ text = text-more range text end to rise (text_is ∙ ap (λ k. slice_range range k to) from_is) in
    let counted : length (rows m comment (first ++ text)) ≡ length (rows m comment first) + length (rows m comment text) =
    ap length (rows-behind plan.dialect first text dialect front.sound.ends) ∙ length-append (rows m comment first) (rows m comment text) in
    record {
      within = within;
      sound = subst (IsSoundText plan schema) (sym all) (IsSoundText-append plan schema first text dialect front.sound piece.sound);
      columns_are =
          ap (λ c. stacked c read.columns.items) front.columns_are
          ∙ ap (stacked (text_frame plan schema first)) piece.columns_are
          ∙ text_frame-append plan schema first text dialect front.sound.ends
          ∙ ap (text_frame plan schema) (sym all);
      count_is = omega (arith, sum, front.count_is, piece.count, counted, ap (λ t. length (rows m comment t)) all);
      few = below-within plan.limit more below;
    }

-- ---- what is left behind them

-- it has the columns of the front
pub rest-columns : (plan p : RangePlan) (schema : List Entry) (range rest : List ℕ) (columns : List ColumnValue) (count end : ℕ) (left : RangeColumns)
    → IsFrontLinked plan schema range columns count end → p ≡ plan_behind plan count plan.last → IsRangeRead p schema rest left → HaveSameColumns columns left.columns.items
rest-columns plan p schema range rest columns count end left front p_is read =
    subst (λ c. HaveSameColumns c left.columns.items) (sym front.columns_are)
    (subst (HaveSameColumns (text_frame plan schema (take end range))) (sym (read.columns ∙ ap (λ q. range_frame q schema rest) p_is))
    (same-columns-range (plan_behind plan count plan.last) schema (take end range) rest))

-- a fault in it has a number
pub rest-fits : (plan p : RangePlan) (schema : List Entry) (range rest : List ℕ) (columns : List ColumnValue) (count end : ℕ) (left : RangeColumns) → IsDialect (marks_of plan.dialect) (comment_of plan.dialect)
    → IsFrontLinked plan schema range columns count end → p ≡ plan_behind plan count plan.last → rest ≡ drop end range → IsRangeRead p schema rest left → length range < 2 ^ 64 → IsRowFit count left.end
rest-fits plan p schema range rest columns count end left dialect front p_is rest_is read small =
    let q = plan_behind plan count plan.last in
    let all = columns_in schema plan.projection.places.now in
    let behind = drop end range in
    let whole : length (take end range ++ behind) < 2 ^ 64 = subst (λ l. length l < 2 ^ 64) (sym (take-append-drop end range)) small in
    let end_is : left.end ≡ range_end q all behind = read.end_is ∙ ap (λ r. range_end r (columns_in schema r.projection.places.now) rest) p_is ∙ ap (range_end q all) rest_is in
    subst (IsRowFit count) (sym end_is) (subst (λ k. IsRowFit k (range_end q all behind)) (sym front.count_is) (row-fits q all (take end range) behind dialect.distinct whole))

-- all of the range was read
pub rest-linked : (plan p : RangePlan) (schema : List Entry) (range rest : List ℕ) (columns : List ColumnValue) (count end : ℕ) (left all : RangeColumns) → IsDialect (marks_of plan.dialect) (comment_of plan.dialect)
    → IsFrontLinked plan schema range columns count end → p ≡ plan_behind plan count plan.last → rest ≡ drop end range → IsRangeRead p schema rest left
    → all.columns.items ≡ stacked columns left.columns.items → all.end ≡ end_behind count left.end → IsRangeRead plan schema range all
rest-linked plan p schema range rest columns count end left all dialect front p_is rest_is read columns_are end_is =
    let first = take end range in
    let behind = drop end range in
    let n = length (rows (marks_of plan.dialect) (comment_of plan.dialect) first) in
    let places = columns_in schema plan.projection.places.now in
    let few : IsWithin plan.limit n = subst (IsWithin plan.limit) front.count_is front.few in
    let both = range-after plan schema first behind dialect front.sound few in
    let q_is : p ≡ plan_behind plan n plan.last = p_is ∙ ap (λ k. plan_behind plan k plan.last) front.count_is in
    let whole = take-append-drop end range in
    record {
      columns =
          columns_are
          ∙ ap (λ c. stacked c left.columns.items) front.columns_are
          ∙ ap (stacked (text_frame plan schema first)) (read.columns ∙ ap (λ q. range_frame q schema rest) q_is ∙ ap (range_frame (plan_behind plan n plan.last) schema) rest_is)
          ∙ sym both.0
          ∙ ap (range_frame plan schema) whole;
      end_is =
          end_is
          ∙ ap (λ k. end_behind k left.end) front.count_is
          ∙ ap (end_behind n) (read.end_is ∙ ap (λ q. range_end q (columns_in schema q.projection.places.now) rest) q_is ∙ ap (range_end (plan_behind plan n plan.last) places) rest_is)
          ∙ sym both.1
          ∙ ap (range_end plan places) whole;
    }
