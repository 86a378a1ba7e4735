-- Texts that are read and printed apart, one behind the other.
use Rattle.std.proofs.Common.{◌≡◌, ℕ, ◌+◌, ◌-◌, ◌≤◌, List, [], ◌∷◌, ◌++◌, length, take, drop, refl, sym, ◌∙◌, ap, subst, arith, length-append, length-take, length-drop, append_assoc}
use Rattle.std.specs.Prelude.{slice_range}
use Rattle.std.proofs.Math.Seq.{take-append_seam}
use Rattle.std.proofs.lemmas.List.{take-append-drop}
use Rattle.std.proofs.lemmas.List.Folds.{drop_split}
use Rattle.pl_frame.specs.Dialect.{IsDialect}
use Rattle.pl_frame.specs.Frame.{ColumnValue, HaveHeight, height_of}
use Rattle.pl_frame.specs.Schema.{Entry}
use Rattle.pl_text.specs.FrameText.{WriteOptions}
use Rattle.pl_scan.specs.Dialect.{marks_of, comment_of}
use Rattle.pl_rows.specs.declared.plan.RangePlan.{RangePlan}
use Rattle.pl_rows.specs.Cells.{RowRules}
use Rattle.pl_rows.specs.Columns.{frame_of_rows, entries_in}
use Rattle.pl_rows.specs.Plan.{rules_of}
use Rattle.pl_rows.specs.WholePieces.{text_frame}
use Rattle.pl_rows.proofs.RangeLaws.{rows-nil}
use Rattle.pl_rows.proofs.SoundTextLaws.{IsSoundText-nil, IsSoundText-append, rows-behind, text_frame-append, height-text, same-columns}
use Rattle.pl_table.specs.Rows.{rows}
use Rattle.pl_write.specs.Batches.{all_lines}
use Rattle.pl_write.proofs.StackLaws.{lines-stacked}
use Rattle.pl_verbatim.specs.PrintedTexts.{IsTextPrinted, IsFrontPrinted}

-- ---- texts

-- columns of one height have that of the first
pub level : (n : ℕ) (columns : List ColumnValue) → HaveHeight n columns → HaveHeight (height_of columns) columns
level n [] have = tt
level n (c ∷ cs) have = subst (λ k. HaveHeight k (c ∷ cs)) (sym have.0) have

pub level-text : (plan : RangePlan) (schema : List Entry) (text : List ℕ) → HaveHeight (height_of (text_frame plan schema text)) (text_frame plan schema text)
level-text plan schema text = level _ (text_frame plan schema text) (height-text plan schema text)

-- no rows have no lines
none-lines : (o : WriteOptions) (rules : RowRules) (columns : List (ℕ × Entry)) → all_lines o (frame_of_rows rules columns []) ≡ []
none-lines o rules [] = refl
none-lines o rules (column ∷ columns) = refl

-- no text
pub IsTextPrinted-nil : (plan : RangePlan) (schema : List Entry) (o : WriteOptions) → IsTextPrinted plan schema o [] 0 []
IsTextPrinted-nil plan schema o =
    let none = rows-nil (marks_of plan.dialect) (comment_of plan.dialect) in
    record {
      sound = IsSoundText-nil plan schema;
      count_is = sym (ap length none);
      lines_are = sym (ap (λ given. all_lines o (frame_of_rows (rules_of plan) (entries_in schema plan.projection.places.now) given)) none ∙ none-lines o (rules_of plan) (entries_in schema plan.projection.places.now));
    }

-- two texts
pub IsTextPrinted-append : (plan : RangePlan) (schema : List Entry) (o : WriteOptions) (a b : List ℕ) (n k : ℕ) (l m : List ℕ) → IsDialect (marks_of plan.dialect) (comment_of plan.dialect)
    → IsTextPrinted plan schema o a n l → IsTextPrinted plan schema o b k m → IsTextPrinted plan schema o (a ++ b) (n + k) (l ++ m)
IsTextPrinted-append plan schema o a b n k l m apart first second =
    let all = rows-behind plan.dialect a b apart first.sound.ends in
    let sizes = length-append (rows (marks_of plan.dialect) (comment_of plan.dialect) a) (rows (marks_of plan.dialect) (comment_of plan.dialect) b) in
    record {
      sound = IsSoundText-append plan schema a b apart first.sound second.sound;
      count_is = omega (arith, first.count_is, second.count_is, ap length all, sizes);
      lines_are = (λ j. first.lines_are j ++ second.lines_are j)
          ∙ sym (lines-stacked o (text_frame plan schema a) (text_frame plan schema b) (same-columns plan schema a b) (level-text plan schema a))
          ∙ ap (all_lines o) (text_frame-append plan schema a b apart first.sound.ends);
    }

-- ---- fronts

-- the front of a text, and what stands behind it up to another place
pub front-slice : (text : List ℕ) (end to : ℕ) → end ≤ to → to ≤ length text → take end text ++ slice_range text end to ≡ take to text
front-slice text end to after within =
    let piece = slice_range text end to in
    let both = take end text ++ piece in
    let whole : both ++ drop to text ≡ text =
    append_assoc (take end text) piece (drop to text) ∙ ap (λ l. take end text ++ l) (sym (drop_split text end to after)) ∙ take-append-drop end text in
    let size : length both ≡ to =
    omega (arith, after, within, length-append (take end text) piece, length-take end text, length-take (to - end) (drop end text), length-drop end text) in
    sym (take-append_seam both (drop to text)) ∙ (λ j. take (size j) (whole j))

-- no front
pub IsFrontPrinted-none : (plan : RangePlan) (schema : List Entry) (o : WriteOptions) (text : List ℕ) → IsFrontPrinted plan schema o text 0 0 []
IsFrontPrinted-none plan schema o text = record { within = omega arith; front = IsTextPrinted-nil plan schema o }

-- the front of a text, and a piece behind it
pub IsFrontPrinted-more : (plan : RangePlan) (schema : List Entry) (o : WriteOptions) (text : List ℕ) (end to n k : ℕ) (l m : List ℕ) → IsDialect (marks_of plan.dialect) (comment_of plan.dialect)
    → IsFrontPrinted plan schema o text end n l → end ≤ to → to ≤ length text → IsTextPrinted plan schema o (slice_range text end to) k m → IsFrontPrinted plan schema o text to (n + k) (l ++ m)
IsFrontPrinted-more plan schema o text end to n k l m apart front after within piece =
    let whole = front-slice text end to after within in
    record {
      within = within;
      front = subst (λ t. IsTextPrinted plan schema o t (n + k) (l ++ m)) whole (IsTextPrinted-append plan schema o (take end text) (slice_range text end to) n k l m apart front.front piece);
    }

-- the front of a text that is written as it was read, and a line behind it that is, too
pub IsFrontPrinted-line : (plan : RangePlan) (schema : List Entry) (o : WriteOptions) (text : List ℕ) (end to n : ℕ) → IsDialect (marks_of plan.dialect) (comment_of plan.dialect)
    → IsFrontPrinted plan schema o text end n (take end text) → end ≤ to → to ≤ length text → IsTextPrinted plan schema o (slice_range text end to) 1 (slice_range text end to)
    → IsFrontPrinted plan schema o text to (n + 1) (take to text)
IsFrontPrinted-line plan schema o text end to n apart front after within line =
    subst (IsFrontPrinted plan schema o text to (n + 1)) (front-slice text end to after within)
    (IsFrontPrinted-more plan schema o text end to n 1 (take end text) (slice_range text end to) apart front after within line)
