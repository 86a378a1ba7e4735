-- Cells and rows that are written as they were read by a form that writes only nulls otherwise.
use Rattle.std.proofs.Common.{◌≡◌, ℕ, zero, suc, ◌+◌, ◌-◌, ◌<◌, ◌≤◌, ◌==◌, Bool, true, false, not, ◌&&◌, if◌then◌else◌, List, [], ◌∷◌, ◌++◌, length, get_or, Option, None, Some, refl, sym, ap, ap₂, ◌∙◌, subst, arith}
use Rattle.std.specs.Prelude.{slice_index, slice_range}
use Rattle.pl_frame.specs.declared.data_type.DataType.{DataType}
use Rattle.pl_frame.specs.Frame.{Scalar, Truth, Number, Letters}
use Rattle.pl_frame.specs.Types.{is_numeric}
use Rattle.pl_text.specs.ValueText.{printed}
use Rattle.pl_text.specs.FrameText.{WriteOptions, is_bare, needs_quotes, quoted, written_cell}
use Rattle.pl_cells.specs.NullTest.{nothing_is_null}
use Rattle.pl_verbatim.specs.declared.form.Form.{Form}
use Rattle.pl_verbatim.specs.declared.kinds.Kind.{Kind}
use Rattle.pl_verbatim.specs.CellTexts.{as_read, IsCellOf}
use Rattle.pl_verbatim.specs.Kinds.{is_passed}
use Rattle.pl_verbatim.specs.Changes.{null_test_of, IsAlike, IsFormOf, IsPutOf, IsChangeOfKind, IsLineChangeOfKinds, IsColumnPut}
use Rattle.pl_verbatim.proofs.CellLaws.{IsCellOfKind, no-written_null}
use Rattle.pl_verbatim.proofs.ChangeLaws.{read-options, missing-change}
use Rattle.pl_verbatim.proofs.CopyLaws.{cell-read, cell-field}
use Rattle.pl_verbatim.proofs.NumberLaws.{slice-parts}
use Rattle.pl_verbatim.proofs.RowLaws.{cut, nothing}
use Rattle.pl_verbatim.proofs.RowChangeLaws.{ArePutBefore, put-none, put-column, put-row}

-- ---- cells

-- only what needs quotes gets them
pub alike-style : (o : WriteOptions) (separator quote : ℕ) (form : Form) → IsFormOf o quote form → IsAlike form separator → o.style ≡ 0
alike-style o separator quote form is alike = by o.style is.few (sym is.values_are ∙ alike.values_are)
  where
    by : (s : ℕ) → s < 3 → not (is_bare s false) ≡ false → s ≡ 0
    by zero few e = refl
    by (suc zero) few e = absurd (cc)
    by (suc (suc zero)) few e = absurd (cc)
    by (suc (suc (suc n))) few e = absurd (omega (arith, few))

-- a text by style
abbrev styled : ℕ → ℕ → ℕ → List ℕ → List ℕ
styled style separator quote text = if style == 3 then text else if style == 0 then (if needs_quotes separator quote text then quoted quote text else text) else quoted quote text

-- a value that is no text, by style
abbrev valued : ℕ → Bool → ℕ → List ℕ → List ℕ
valued style numeric quote text = if is_bare style numeric then text else quoted quote text

-- what is written of a cell that is not null, as it is read
same-written : (separator : ℕ) (o : WriteOptions) (type : DataType) (value : Option Scalar) (text : List ℕ) → o.style ≡ 0 → o.separator ≡ separator → 0 < length text
    → text ≡ written_cell (as_read separator o) type value → text ≡ written_cell o type value
same-written separator o type None text style same some is = absurd (omega (arith, some, ap length is))
same-written separator o type (Some (Letters letters)) text style same some is = is ∙ ap₂ (λ s c. styled s c o.quote letters) (sym style) (sym same)
same-written separator o type (Some (Number n)) text style same some is = is ∙ ap (λ s. valued s (is_numeric type) o.quote (printed type (Number n))) (sym style)
same-written separator o type (Some (Truth b)) text style same some is = is ∙ ap (λ s. valued s (is_numeric type) o.quote (printed type (Truth b))) (sym style)

-- a cell that is not empty is written as it stands, where no text means null
pub same-change : (separator quote : ℕ) (form : Form) (own : Kind) (field : List ℕ) → IsAlike form separator → 0 < length field → IsCellOfKind separator quote own field
    → IsChangeOfKind separator quote form nothing_is_null own field field
same-change separator quote form own field alike some cells o type fits is can holds =
    let r = as_read separator o in
    let options = read-options separator quote form o is in
    let here : IsCellOf r type field = cells r type options holds in
    record {
      value = here.value;
      cell_is = cell-read r type field fits (no-written_null r separator quote options) can here;
      field_text = cell-field r type field fits can here;
      written_is = same-written separator o type here.value field (alike-style o separator quote form is alike) (is.separator_is ∙ alike.separator_is) some here.text_is;
    }

-- an empty one is, where nothing is written of a null
pub same-missing : (separator quote : ℕ) (form : Form) (own : Kind) (text : List ℕ) (at : ℕ) → length form.null.items ≡ 0
    → IsChangeOfKind separator quote form (null_test_of form) own (slice_range text at at) (slice_range text at at)
same-missing separator quote form own text at none =
    subst (λ l. IsChangeOfKind separator quote form (null_test_of form) own l l) (sym (nothing text at))
    (subst (IsChangeOfKind separator quote form (null_test_of form) own []) (nil-of form.null.items none) (missing-change separator quote form own))
  where
    nil-of : (l : List ℕ) → length l ≡ 0 → l ≡ []
    nil-of [] e = refl
    nil-of (x ∷ l) e = absurd (omega (arith, e))

-- ---- rows

-- The first cells of a row are written as they stand, up to the separator in front of the next.
pub record AreSameBefore (text : List ℕ) (start : ℕ) (kinds : List Kind) (separator quote : ℕ) (form : Form) (index at : ℕ) : Type 0 where
  pub is_first : Bool
  pub place : ℕ
  pub low : start ≤ place
  pub high : place ≤ at
  pub between : slice_range text place at ≡ (if is_first then [] else separator ∷ [])
  pub row : ArePutBefore text start kinds separator quote form index at is_first [] (slice_range text start place)

-- none
pub same-none : (text : List ℕ) (start : ℕ) (kinds : List Kind) (separator quote : ℕ) (form : Form) → start ≤ length text → AreSameBefore text start kinds separator quote form 0 start
same-none text start kinds separator quote form inside = record {
  is_first = true;
  place = start;
  low = omega arith;
  high = omega arith;
  between = nothing text start;
  row = subst (ArePutBefore text start kinds separator quote form 0 start true []) (sym (nothing text start)) (put-none text start kinds separator quote form [] inside);
}

-- a field that is written as it stands
same-put : (text : List ℕ) (start : ℕ) (kinds : List Kind) (separator quote : ℕ) (form : Form) (index at end mark : ℕ) (kind : Kind) → IsAlike form separator
    → (row : AreSameBefore text start kinds separator quote form index at) → is_passed kind ≡ false → at ≤ end → end < length text → slice_index text end ≡ mark
    → IsChangeOfKind separator quote form (null_test_of form) kind (slice_range text at end) (slice_range text at end)
    → IsColumnPut text at (end + 1) kind mark separator quote form row.is_first (slice_range text start row.place) (slice_range text start end)
same-put text start kinds separator quote form index at end mark kind alike row read after within is cell = record {
  end = end;
  next_is = refl;
  after = after;
  within = within;
  mark_is = is;
  part = slice_range text row.place end;
  now_is = slice-parts text start row.place end row.low (omega (arith, row.high, after));
  put =
      subst (λ t. IsPutOf t row.is_first separator quote form kind (slice_range text at end) (slice_range text row.place end)) (sym read)
      (slice_range text at end, slice-parts text row.place at end row.high after ∙ ap (λ l. l ++ slice_range text at end) row.between ∙ by row.is_first, cell);
}
  where
    by : (t : Bool) → (if t then [] else separator ∷ []) ++ slice_range text at end ≡ (if t then slice_range text at end else form.separator ∷ slice_range text at end)
    by true = refl
    by false = ap (λ s. s ∷ slice_range text at end) (sym alike.separator_is)

-- the mark behind it
same-mark : (text : List ℕ) (start end mark : ℕ) → start ≤ end → end < length text → slice_index text end ≡ mark → slice_range text start (end + 1) ≡ slice_range text start end ++ mark ∷ []
same-mark text start end mark low within is = cut text start end (end + 1) mark low within is (omega arith) ∙ ap (λ l. slice_range text start end ++ mark ∷ l) (nothing text (end + 1))

-- one more
pub same-cell : (text : List ℕ) (start : ℕ) (kinds : List Kind) (separator quote : ℕ) (form : Form) (index at end : ℕ) (any : Kind) → IsAlike form separator
    → AreSameBefore text start kinds separator quote form index at → index + 1 < length kinds → is_passed (get_or kinds index any) ≡ false → at ≤ end → end < length text → slice_index text end ≡ separator
    → IsChangeOfKind separator quote form (null_test_of form) (get_or kinds index any) (slice_range text at end) (slice_range text at end)
    → AreSameBefore text start kinds separator quote form (index + 1) (end + 1)
same-cell text start kinds separator quote form index at end any alike row few read after within is cell =
    let own = get_or kinds index any in
    let not_first : (row.is_first && is_passed own) ≡ false = ap (λ t. row.is_first && t) read ∙ none row.is_first in
    record {
      is_first = row.is_first && is_passed own;
      place = end;
      low = omega (arith, row.low, row.high, after);
      high = omega arith;
      between = same-mark text end end separator (omega arith) within is ∙ ap (λ l. l ++ separator ∷ []) (nothing text end) ∙ ap (λ t. if t then [] else separator ∷ []) (sym not_first);
      row = put-column text start kinds separator quote form index at (end + 1) row.is_first any [] (slice_range text start row.place) (slice_range text start end) row.row few
          (same-put text start kinds separator quote form index at end separator own alike row read after within is cell);
    }
  where
    none : (t : Bool) → (t && false) ≡ false
    none true = refl
    none false = refl

-- and the last
pub same-row : (text : List ℕ) (start : ℕ) (kinds : List Kind) (separator quote : ℕ) (form : Form) (index at end : ℕ) (any : Kind) → IsAlike form separator
    → AreSameBefore text start kinds separator quote form index at → index ≡ length kinds - 1 → 0 < length kinds → is_passed (get_or kinds (length kinds - 1) any) ≡ false → at ≤ end → end < length text
    → slice_index text end ≡ 10
    → IsChangeOfKind separator quote form (null_test_of form) (get_or kinds (length kinds - 1) any) (slice_range text at end) (slice_range text at end)
    → IsLineChangeOfKinds separator quote form kinds (slice_range text start (end + 1)) (slice_range text start (end + 1))
same-row text start kinds separator quote form index at end any alike row last_is some read after within is cell =
    let put =
    put-row text start kinds separator quote form index at (end + 1) row.is_first any [] (slice_range text start row.place) (slice_range text start end) (slice_range text start (end + 1)) row.row last_is some
    (same-put text start kinds separator quote form index at end 10 (get_or kinds (length kinds - 1) any) alike row read after within is cell)
    (same-mark text start end 10 (omega (arith, row.low, row.high, after)) within is ∙ ap (λ l. slice_range text start end ++ l) (sym alike.terminator_is)) in
    subst (IsLineChangeOfKinds separator quote form kinds (slice_range text start (end + 1))) (sym put.now_is) put.line
