-- Laws of data that is read straight into arrays.
use Rattle.std.proofs.Common.{◌≡◌, ℕ, List, [], ◌∷◌, length, take, drop, sym, ◌∙◌, ap, subst}
use Rattle.std.proofs.lemmas.List.{take-append-drop, length-map}
use Rattle.pl_csv_c.specs.Growing.{AreGrown, ArePlain, ArePlainAt, IsFrontGrown, IsRangeGrown}
use Rattle.pl_csv_c.specs.declared.growing.Growing.{Growing}
use Rattle.pl_frame.specs.Dialect.{IsDialect}
use Rattle.pl_frame.specs.Frame.{ColumnValue}
use Rattle.pl_frame.specs.FrameParts.{stacked, HaveSameColumns}
use Rattle.pl_frame.specs.Schema.{Entry}
use Rattle.pl_scan.specs.Dialect.{marks_of, comment_of}
use Rattle.pl_rows.specs.declared.columns.RangeColumns.{RangeColumns}
use Rattle.pl_rows.specs.declared.plan.RangePlan.{RangePlan}
use Rattle.pl_rows.specs.declared.range.RangeEnd.{RangeEnd}
use Rattle.pl_rows.specs.Cells.{RowRules}
use Rattle.pl_rows.specs.Columns.{columns_in, entries_in, frame_of_rows}
use Rattle.pl_rows.specs.Pieces.{plan_behind, end_behind}
use Rattle.pl_rows.specs.Ranges.{range_end, range_frame, IsRangeRead}
use Rattle.pl_rows.specs.WholePieces.{text_frame, IsFrontLinked}
use Rattle.pl_table.specs.Rows.{Row, rows}
use Rattle.pl_rows.proofs.SoundTextLaws.{IsWithin, range-after}

-- columns that have the same names and types are as many
pub same-length : (columns others : List ColumnValue) → HaveSameColumns columns others → length columns ≡ length others
same-length columns others same = sym (length-map columns (λ column. (column.name, column.dtype))) ∙ ap length same ∙ length-map others (λ column. (column.name, column.dtype))

-- a front that is linked stands in arrays
pub IsFrontGrown-of : (plan : RangePlan) (schema : List Entry) (range : List ℕ) (columns : List ColumnValue) (all : List Growing) (count end : ℕ) → IsFrontLinked plan schema range columns count end → AreGrown columns all
    → IsFrontGrown plan schema range all count end
IsFrontGrown-of plan schema range columns all count end front are = record {
  linked = subst (λ c. IsFrontLinked plan schema range c count end) front.columns_are front;
  grown = subst (λ c. AreGrown c all) front.columns_are are;
}

-- all of a range stands in arrays, where what is left behind its front was read as its last part
pub rest-grown : (plan p : RangePlan) (schema : List Entry) (range rest : List ℕ) (all now : List Growing) (count end : ℕ) (left : RangeColumns) (e : RangeEnd) → IsDialect (marks_of plan.dialect) (comment_of plan.dialect)
    → IsFrontGrown plan schema range all count end → p ≡ plan_behind plan count plan.last → rest ≡ drop end range → IsRangeRead p schema rest left
    → AreGrown (stacked (text_frame plan schema (take end range)) left.columns.items) now → e ≡ end_behind count left.end → IsRangeGrown plan schema range now e
rest-grown plan p schema range rest all now count end left e dialect front p_is rest_is read are e_is =
    let linked = front.linked in
    let first = take end range in
    let behind = drop end range in
    let n = length (rows (marks_of plan.dialect) (comment_of plan.dialect) first) in
    let places = columns_in schema plan.projection.places.now in
    let few : IsWithin plan.limit n = subst (IsWithin plan.limit) linked.count_is linked.few in
    let both = range-after plan schema first behind dialect linked.sound few in
    let q_is : p ≡ plan_behind plan n plan.last = p_is ∙ ap (λ k. plan_behind plan k plan.last) linked.count_is in
    let whole = take-append-drop end range in
    let columns : stacked (text_frame plan schema first) left.columns.items ≡ range_frame plan schema range =
    ap (stacked (text_frame plan schema first)) (read.columns ∙ ap (λ q. range_frame q schema rest) q_is ∙ ap (range_frame (plan_behind plan n plan.last) schema) rest_is)
    ∙ sym both.0
    ∙ ap (range_frame plan schema) whole in
    record {
      grown = subst (λ c. AreGrown c now) columns are;
      end_is =
          e_is
          ∙ ap (λ k. end_behind k left.end) linked.count_is
          ∙ ap (end_behind n) (read.end_is ∙ ap (λ q. range_end q (columns_in schema q.projection.places.now) rest) q_is ∙ ap (range_end (plan_behind plan n plan.last) places) rest_is)
          ∙ sym both.1
          ∙ ap (range_end plan places) whole;
    }

-- columns of a schema have no codes where those at their places have none
pub plain-rows : (rules : RowRules) (schema : List Entry) (places : List ℕ) (given : List Row) → ArePlainAt schema places → ArePlain (frame_of_rows rules (entries_in schema places) given)
plain-rows rules schema [] given plain = tt
plain-rows rules schema (place ∷ places) given plain = (plain.0, plain-rows rules schema places given plain.1)
