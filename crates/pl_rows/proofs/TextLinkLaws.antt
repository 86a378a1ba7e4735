-- Texts that follow one another, each read apart, linked.
use Rattle.std.proofs.Common.{◌≡◌, ℕ, suc, ◌+◌, ◌-◌, ◌<◌, ◌≤◌, ◌^◌, true, List, [], ◌∷◌, ◌++◌, map, length, take, drop, get_or, refl, sym, ◌∙◌, ap, subst, arith, length-append, append-nil, drop-cons}
use Rattle.std.specs.Prelude.{Option, None, Some, IfSome, slice_range}
use Rattle.std.specs.Iterator.{Yields}
use Rattle.std.specs.List.{concat}
use Rattle.std.specs.Vec.Iter.{into_iter_items, into_iter_steps}
use Rattle.std.specs.declared.vec.IntoIter.{IntoIter}
use Rattle.std.proofs.lemmas.List.{take-append-drop, take-append-le, take_at, drop_at, get_or_at, take_more}
use Rattle.std.proofs.lemmas.List.Folds.{concat-append}
use Rattle.pl_frame.specs.Dialect.{IsDialect}
use Rattle.pl_frame.specs.Frame.{ColumnValue}
use Rattle.pl_frame.specs.FrameParts.{stacked}
use Rattle.pl_frame.specs.Schema.{Entry}
use Rattle.pl_scan.specs.Dialect.{marks_of, comment_of}
use Rattle.pl_cells.proofs.CastWorkerLaws.{taken_front}
use Rattle.pl_rows.specs.declared.columns.RangeColumns.{RangeColumns}
use Rattle.pl_rows.specs.declared.linking.Front.{Front}
use Rattle.pl_rows.specs.declared.plan.RangePlan.{RangePlan}
use Rattle.pl_rows.specs.declared.whole_pieces.PieceFrame.{PieceFrame}
use Rattle.pl_rows.specs.Pieces.{plan_behind}
use Rattle.pl_rows.specs.Ranges.{IsRangeRead}
use Rattle.pl_rows.specs.Steps.{is_below}
use Rattle.pl_rows.specs.Texts.{AllLinked, AreReadAt, IsLeftRead}
use Rattle.pl_table.specs.Rows.{rows}
use Rattle.pl_rows.specs.WholePieces.{IsPieceFrame, IsSoundText, text_frame, IsFrontLinked}
use Rattle.pl_rows.proofs.LinkLaws.{IsFrontLinked-more}

-- ---- texts one behind the other

-- a text stands where those before it end
pub record IsPart (texts : List (List ℕ)) (k end : ℕ) (text : List ℕ) : Type 0 where
  pub part : text ≡ slice_range (concat texts) end (end + length text)
  pub within : end + length text ≤ length (concat texts)
  pub next : end + length text ≡ length (concat (take (k + 1) texts))

pub part-of : (texts : List (List ℕ)) (k end : ℕ) → k < length texts → end ≡ length (concat (take k texts)) → IsPart texts k end (get_or texts k [])
part-of texts k end inside end_is =
    let text = get_or texts k [] in
    let front = concat (take k texts) in
    let behind = concat (drop (suc k) texts) in
    let size : (end + length text) - end ≡ length text = omega arith in
    let whole : concat texts ≡ front ++ (text ++ behind) =
    ap concat (sym (take-append-drop k texts) ∙ ap (λ l. take k texts ++ l) (drop-cons texts k [] inside)) ∙ concat-append (take k texts) (text ∷ drop (suc k) texts) in
    record {
      part =
          sym (take_at text behind (length text) refl)
          ∙ ap (λ n. take n (text ++ behind)) (sym size)
          ∙ ap (take ((end + length text) - end)) (sym (drop_at front (text ++ behind) end (sym end_is)))
          ∙ ap (λ l. slice_range l end (end + length text)) (sym whole);
      within = omega (arith, end_is, ap length whole, length-append front (text ++ behind), length-append text behind);
      next =
          let more : concat (take (k + 1) texts) ≡ front ++ (text ++ []) = ap concat (take_more texts k [] inside) ∙ concat-append (take k texts) (text ∷ []) in
          omega (arith, end_is, ap length more, length-append front (text ++ []), length-append text []);
    }

-- ---- what was read of them

-- what was read at the next place
pub read-next : (plan : RangePlan) (schema : List Entry) (texts : List (List ℕ)) (reads : List (Option PieceFrame)) {A : Type 0} (start : IntoIter (Option PieceFrame) A) (done : List (Option PieceFrame))
    (now : IntoIter (Option PieceFrame) A) (read : Option PieceFrame) (piece : PieceFrame) (left : IntoIter (Option PieceFrame) A) → AreReadAt plan schema texts reads → into_iter_items start ≡ reads
    → Yields into_iter_steps start done now → into_iter_items now ≡ read ∷ into_iter_items left → read ≡ Some piece → IsPieceFrame plan schema (get_or texts (length done) []) piece
read-next plan schema texts reads start done now read piece left own gives taken step is =
    let k = length done in
    let rest = into_iter_items left in
    let all : reads ≡ done ++ read ∷ rest = sym gives ∙ taken_front start done now taken ∙ ap (λ l. done ++ l) step in
    let at : get_or reads k None ≡ Some piece = ap (λ l. get_or l k None) all ∙ get_or_at done read rest None k refl ∙ is in
    let inside : k < length reads = omega (arith, ap length all, length-append done (read ∷ rest)) in
    subst (λ found. IfSome found (IsPieceFrame plan schema (get_or texts k []))) at (own k None inside)

-- ---- texts that are linked

-- so many texts are linked, and no more
pub record AreLinked (plan : RangePlan) (schema : List Entry) (texts : List (List ℕ)) (columns : List ColumnValue) (front : Front) (k : ℕ) : Type 0 where
  pub inside : k ≤ length texts
  pub end_is : front.end ≡ length (concat (take k texts))
  pub linked : IsFrontLinked plan schema (concat texts) columns front.rows front.end

-- a text more
pub AreLinked-more : (plan : RangePlan) (schema : List Entry) (texts : List (List ℕ)) (columns : List ColumnValue) (front next : Front) (k : ℕ) (read : PieceFrame) → IsDialect (marks_of plan.dialect) (comment_of plan.dialect)
    → AreLinked plan schema texts columns front k → k < length texts → IsPieceFrame plan schema (get_or texts k []) read → next.end ≡ front.end + length (get_or texts k []) → next.rows ≡ front.rows + read.rows
    → is_below plan.limit next.rows ≡ true → AreLinked plan schema texts (stacked columns read.columns.items) next (k + 1)
AreLinked-more plan schema texts columns front next k read dialect are inside piece end_is rows_is below =
    let text = get_or texts k [] in
    let part = part-of texts k front.end inside are.end_is in
    record {
      inside = omega arith;
      end_is = end_is ∙ part.next;
      linked = IsFrontLinked-more plan schema (concat texts) text columns read front.rows front.end front.end next.end next.rows dialect are.linked piece
          (part.part ∙ ap (slice_range (concat texts) front.end) (sym end_is)) refl (omega (arith, end_is)) (omega (arith, end_is, part.within)) rows_is below;
    }

-- ---- a front of a longer range

-- a front that is linked, with more behind the range
pub IsFrontLinked-longer : (plan : RangePlan) (schema : List Entry) (range more : List ℕ) (columns : List ColumnValue) (count end : ℕ) → IsFrontLinked plan schema range columns count end
    → IsFrontLinked plan schema (range ++ more) columns count end
IsFrontLinked-longer plan schema range more columns count end front =
    let same : take end (range ++ more) ≡ take end range = take-append-le end range more front.within in
    record {
      within = omega (arith, front.within, length-append range more);
      sound = subst (IsSoundText plan schema) (sym same) front.sound;
      columns_are = front.columns_are ∙ ap (text_frame plan schema) (sym same);
      count_is = front.count_is ∙ ap (λ (t : List ℕ). length (rows (marks_of plan.dialect) (comment_of plan.dialect) t)) (sym same);
      few = front.few;
    }

-- ---- texts behind one that is linked

-- the text in front of them, all of which is linked
pub AreLinked-first : (plan : RangePlan) (schema : List Entry) (before : List ℕ) (texts : List (List ℕ)) (columns : List ColumnValue) (front : Front) → AllLinked plan schema before columns front
    → AreLinked plan schema (before ∷ texts) columns front 1
AreLinked-first plan schema before texts columns front all = record {
  inside = omega arith;
  end_is = all.end_is ∙ ap length (sym (append-nil before));
  linked = IsFrontLinked-longer plan schema before (concat texts) columns front.rows front.end all.linked;
}

-- ---- what is left behind them

-- what is left was read by this plan
pub IsLeftRead-of : (plan p : RangePlan) (schema : List Entry) (range rest : List ℕ) (columns : List ColumnValue) (front : Front) (left : RangeColumns) → length range < 2 ^ 64
    → IsFrontLinked plan schema range columns front.rows front.end → p ≡ plan_behind plan front.rows plan.last → rest ≡ drop front.end range → IsRangeRead p schema rest left → IsLeftRead plan schema range columns front left
IsLeftRead-of plan p schema range rest columns front left small linked p_is rest_is read = record {
  small = small;
  linked = linked;
  read = subst (λ q. IsRangeRead q schema (drop front.end range) left) p_is (subst (λ r. IsRangeRead p schema r left) rest_is read);
}
