-- Rows that are copied, one behind the other.
use Rattle.std.proofs.Common.{◌≡◌, ℕ, ◌+◌, ◌<◌, ◌≤◌, List, [], ◌++◌, length, map, sym, ◌∙◌, ap, subst, arith, append-nil, append_assoc}
use Rattle.std.specs.Prelude.{None, Some, slice_range}
use Rattle.pl_round_trip.specs.RoundTrip.{RowsReturn}
use Rattle.pl_verbatim.specs.declared.form.Form.{Form}
use Rattle.pl_verbatim.specs.declared.kinds.Kind.{Kind}
use Rattle.pl_verbatim.specs.declared.verbatim.Verbatim.{Verbatim}
use Rattle.pl_verbatim.specs.PrintedTexts.{IsTextPrinted}
use Rattle.pl_verbatim.specs.Kinds.{AreKindsOf, read_columns}
use Rattle.pl_verbatim.specs.CellTexts.{as_read}
use Rattle.pl_verbatim.specs.Changes.{IsRowPut, null_test_of}
use Rattle.pl_verbatim.specs.Verbatim.{IsRowCopied, AreRowsCopied}
use Rattle.pl_verbatim.proofs.LineLaws.{are-readable, all-readable, copy-printed, change-printed}
use Rattle.pl_verbatim.proofs.NumberLaws.{slice-parts}
use Rattle.pl_verbatim.proofs.PrintingLaws.{IsTextPrinted-nil, IsTextPrinted-append}
use Rattle.pl_verbatim.proofs.RowLaws.{nothing}

-- none
pub copied-none : (verbatim : Verbatim) (text : List ℕ) (from : ℕ) (before : List ℕ) → from ≤ length text → AreRowsCopied verbatim text from from 0 before before
copied-none verbatim text from before inside = record {
  copy = [];
  now_is = sym (append-nil before);
  after = omega arith;
  within = inside;
  printed = λ plan schema o can is. subst (λ t. IsTextPrinted plan schema o t 0 []) (sym (nothing text from)) (IsTextPrinted-nil plan schema o);
}

-- one more
pub copied-more : (verbatim : Verbatim) (text : List ℕ) (from end next rows : ℕ) (kinds : List Kind) (before lines now : List ℕ) → AreRowsCopied verbatim text from end rows before lines
    → RowsReturn → verbatim.form ≡ None → kinds ≡ verbatim.kinds.items → 0 < length kinds → end < next → next ≤ length text → IsRowCopied text end kinds verbatim.separator verbatim.quote_char lines now (Some next)
    → AreRowsCopied verbatim text from next (rows + 1) before now
copied-more verbatim text from end next rows kinds before lines now copied returns none same some after within row = record {
  copy = copied.copy ++ row.copy;
  now_is = row.now_is ∙ ap (λ l. l ++ row.copy) copied.now_is ∙ append_assoc before copied.copy row.copy;
  after = omega (arith, copied.after, after);
  within = within;
  printed = λ plan schema o can is.
      let given = is.same none (omega (arith, some, ap length same)) in
      let line = row.line o schema given.rows.read.fits given.cells (all-readable schema plan.projection.places.now given.rows.places can.readable) (subst (AreKindsOf (map Some schema)) (sym same) given.kinds) in
      let both = IsTextPrinted-append plan schema o (slice_range text from end) (slice_range text end next) rows 1 copied.copy row.copy can.dialect (copied.printed plan schema o can is)
      (copy-printed plan schema o can given.rows returns (slice_range text end next) row.copy line) in
      subst (λ t. IsTextPrinted plan schema o t (rows + 1) (copied.copy ++ row.copy)) (sym (slice-parts text from end next copied.after (omega (arith, after)))) both;
}

-- one more that is written by a form
pub changed-more : (verbatim : Verbatim) (form : Form) (text : List ℕ) (from end next rows : ℕ) (kinds : List Kind) (before lines now : List ℕ) → AreRowsCopied verbatim text from end rows before lines
    → RowsReturn → verbatim.form ≡ Some form → kinds ≡ verbatim.kinds.items → 0 < length kinds → end < next → next ≤ length text
    → IsRowPut text end kinds verbatim.separator verbatim.quote_char form lines now next → AreRowsCopied verbatim text from next (rows + 1) before now
changed-more verbatim form text from end next rows kinds before lines now copied returns has same some after within row = record {
  copy = copied.copy ++ row.copy;
  now_is = row.now_is ∙ ap (λ l. l ++ row.copy) copied.now_is ∙ append_assoc before copied.copy row.copy;
  after = omega (arith, copied.after, after);
  within = within;
  printed = λ plan schema o can is.
      let given = is.changed form has (omega (arith, some, ap length same)) in
      let columns = read_columns 0 schema plan.projection.places.now in
      let line =
      row.line o columns given.rows.fits given.written (are-readable schema plan.projection.places.now can.readable) (subst (AreKindsOf columns) (sym same) given.kinds) in
      let both = IsTextPrinted-append plan schema o (slice_range text from end) (slice_range text end next) rows 1 copied.copy row.copy can.dialect (copied.printed plan schema o can is)
      (change-printed plan schema (as_read verbatim.separator o) o (null_test_of form) can given.rows given.nulls returns (slice_range text end next) row.copy line) in
      subst (λ t. IsTextPrinted plan schema o t (rows + 1) (copied.copy ++ row.copy)) (sym (slice-parts text from end next copied.after (omega (arith, after)))) both;
}

-- what is put behind lines
pub row-behind : (text : List ℕ) (start : ℕ) (kinds : List Kind) (separator quote : ℕ) (form : Form) (lines before now : List ℕ) (end : ℕ) → IsRowPut text start kinds separator quote form before now end
    → IsRowPut text start kinds separator quote form (lines ++ before) (lines ++ now) end
row-behind text start kinds separator quote form lines before now end row = record {
  copy = row.copy;
  now_is = ap (λ l. lines ++ l) row.now_is ∙ sym (append_assoc lines before row.copy);
  line = row.line;
}
