-- Cells that are written otherwise than they were read: what is written of each, by what is written of it where it is written as it was read.
use Rattle.std.proofs.Common.{◌≡◌, ℕ, ◌-◌, ◌<◌, ◌≤◌, Bool, true, false, not, ◌||◌, ◌==◌, cond, if◌then◌else◌, List, [], ◌∷◌, ◌++◌, length, Option, None, Some, refl, sym, ◌∙◌, ap, subst, inl, inr, arith, drop, append-nil, zero, suc}
use Rattle.std.specs.List.{list_any, slice_range}
use Rattle.std.proofs.lemmas.List.{length-take-le, length-drop}
use Rattle.pl_frame.specs.declared.data_type.DataType.{DataType}
use Rattle.pl_frame.specs.Frame.{Scalar, Truth, Number, Letters}
use Rattle.pl_frame.specs.Types.{is_numeric, is_text, is_readable}
use Rattle.pl_text.specs.ValueText.{printed}
use Rattle.pl_text.specs.FrameText.{WriteOptions, is_bare, is_special, needs_quotes, doubled, quoted, written_text, written_value, written_cell}
use Rattle.pl_cells.specs.Cells.{cell}
use Rattle.pl_cells.specs.NullTest.{nothing_is_null}
use Rattle.pl_cells.specs.NullValues.{means_null, is_null_text}
use Rattle.pl_cells.specs.declared.null_values.NullValuesCompiled.{NullValuesCompiled}
use Rattle.pl_round_trip.specs.RoundTrip.{IsFieldText, line_marks}
use Rattle.pl_round_trip.specs.Fits.{FitsOptions, FitsValue, FitsCell}
use Rattle.pl_round_trip.proofs.FieldLaws.{lacks, lacks-plain, bare-lacks, doubled-lacks, neither, text_type}
use Rattle.pl_round_trip.proofs.PlainLaws.{printed-plain}
use Rattle.pl_round_trip.proofs.WrittenLaws.{readable, written-field}
use Rattle.pl_verbatim.specs.declared.form.Form.{Form}
use Rattle.pl_verbatim.specs.declared.kinds.Kind.{Kind}
use Rattle.pl_verbatim.specs.declared.kinds.Kind.TheVariants as kind
use Rattle.pl_verbatim.specs.CellTexts.{as_read, IsQuotedText, IsBareText, IsSecondsText, IsCellOptions, IsCellOf, IsChangeOf, zeros_text}
use Rattle.pl_verbatim.specs.Changes.{IsFormOf, framed, null_test_of, IsNullField, IsOtherField, IsChangeOfKind}
use Rattle.pl_verbatim.proofs.NullLaws.{cell-missing}
use Rattle.pl_verbatim.specs.Kinds.{IsKindOf}
use Rattle.pl_verbatim.proofs.CellLaws.{IsCellOfKind, value-fits, text-can, text-held, text-counted, no-written_null}
use Rattle.pl_verbatim.proofs.CopyLaws.{whole-other, cell-read, cell-field, quoted-read}
use Rattle.pl_verbatim.proofs.QuotedLaws.{between-quotes, needs-doubled, bare-inside}
use Rattle.pl_verbatim.proofs.MomentCellLaws.{seconds-change, seconds-plain}

-- ---- options

-- how a line is written whose cells stand as in those that are read
pub read-options : (separator quote : ℕ) (form : Form) (o : WriteOptions) → IsFormOf o quote form → IsCellOptions (as_read separator o) separator quote
read-options separator quote form o is = record { separator_is = refl; quote_is = is.quote_is; style_is = refl; null_is = refl }

-- values of other kinds are no texts
pub kind-other : (own : Kind) → (own ≡ kind.Text → ⊥) → (type : DataType) → IsKindOf type own → is_text type ≡ false
kind-other kind.Text other type holds = absurd (other refl)
kind-other (kind.Whole digits is_signed) other type holds = whole-other type holds.whole
kind-other kind.Boolean other type holds = ap is_text holds
kind-other kind.Date other type holds = ap is_text holds
kind-other (kind.Decimal digits scale) other type holds = ap is_text holds.type_is
kind-other (kind.Datetime places) other type holds = ap is_text holds.type_is
kind-other kind.Passed other type holds = absurd holds

-- datetimes are not numeric
pub moment-quotes : (form : Form) (places : ℕ) (o : WriteOptions) (q : ℕ) (type : DataType) → IsFormOf o q form → IsKindOf type (kind.Datetime places) → form.quotes_values ≡ not (is_bare o.style (is_numeric type))
moment-quotes form places o q type is holds = is.values_are ∙ ap (λ t. not (is_bare o.style (is_numeric t))) (sym holds.type_is)

pub slice-some : (text : List ℕ) (at end : ℕ) → at < end → end ≤ length text → 0 < length (slice_range text at end)
slice-some text at end less inside = omega (arith, less, inside, length-take-le (end - at) (drop at text) (omega (arith, inside, length-drop at text)))

-- ---- nulls

-- a field that means null is written as a null
pub null-change : (separator quote : ℕ) (form : Form) (own : Kind) (field : List ℕ) → IsNullField (null_test_of form) quote field
    → ((o : WriteOptions) → FitsOptions (as_read separator o) → IsFormOf o quote form → (type : DataType) → is_readable type ≡ true → IsKindOf type own → IsFieldText (line_marks (as_read separator o)) field)
    → IsChangeOfKind separator quote form (null_test_of form) own field form.null.items
null-change separator quote form own field null stands o type fits is can holds = record {
  value = None;
  cell_is = λ reading missing. ap (λ q. cell reading (null_test_of form) (Some q) type field) is.quote_is ∙ null reading type;
  field_text = stands o fits is type can holds;
  written_is = is.null_is;
}

-- a text without special bytes stands in a line
pub bare-stands : (separator quote : ℕ) (form : Form) (own : Kind) (field : List ℕ) → list_any (is_special separator quote) field ≡ false
    → (o : WriteOptions) → FitsOptions (as_read separator o) → IsFormOf o quote form → (type : DataType) → is_readable type ≡ true → IsKindOf type own → IsFieldText (line_marks (as_read separator o)) field
bare-stands separator quote form own field bare o fits is type can holds =
    subst (IsFieldText (line_marks (as_read separator o))) (append-nil field)
    (written-field (as_read separator o) field [] fits (inr (ap (λ q. list_any (is_special separator q) field) is.quote_is ∙ bare)) (inl refl))

-- the same of the form of these texts
pub null-of : (form : Form) (nulls : NullValuesCompiled) (quote : ℕ) (field : List ℕ) → form.nulls ≡ Some nulls → IsNullField (is_null_text nulls 0) quote field → IsNullField (null_test_of form) quote field
null-of form nulls quote field is null reading type = ap (λ n. cell reading (means_null n 0) (Some quote) type field) is ∙ null reading type

pub other-of : (form : Form) (nulls : NullValuesCompiled) (quote : ℕ) (field : List ℕ) → form.nulls ≡ Some nulls → IsOtherField (is_null_text nulls 0) quote field → IsOtherField (null_test_of form) quote field
other-of form nulls quote field is other reading type = ap (λ n. cell reading (means_null n 0) (Some quote) type field) is ∙ other reading type

-- a field that does not mean null is written as where no text does
pub other-change : (separator quote : ℕ) (form : Form) (own : Kind) (field written : List ℕ) → IsOtherField (null_test_of form) quote field → IsChangeOfKind separator quote form nothing_is_null own field written
    → IsChangeOfKind separator quote form (null_test_of form) own field written
other-change separator quote form own field written other change o type fits is can holds =
    let own_change = change o type fits is can holds in
    record {
      value = own_change.value;
      cell_is = λ reading missing.
          ap (λ q. cell reading (null_test_of form) (Some q) type field) is.quote_is
          ∙ other reading type
          ∙ ap (λ q. cell reading nothing_is_null (Some q) type field) (sym is.quote_is)
          ∙ own_change.cell_is reading missing;
      field_text = own_change.field_text;
      written_is = own_change.written_is;
    }

-- nothing is missing: a null
pub missing-change : (separator quote : ℕ) (form : Form) (own : Kind) → IsChangeOfKind separator quote form (null_test_of form) own [] form.null.items
missing-change separator quote form own o type fits is can holds =
    let r = as_read separator o in
    let here : IsCellOf r type [] = record { value = None; fits = tt; text_is = refl } in
    let null = no-written_null r separator quote (read-options separator quote form o is) in
    record {
      value = None;
      cell_is = λ reading missing. cell-missing reading (null_test_of form) o.quote type ∙ cell-read r type [] fits null can here reading missing;
      field_text = cell-field r type [] fits can here;
      written_is = is.null_is;
    }

-- ---- values that are no texts

framed-value : (o : WriteOptions) (numeric : Bool) (text : List ℕ) → lacks o.quote text ≡ true → framed (not (is_bare o.style numeric)) o.quote text ≡ written_value o numeric text
framed-value o numeric text lack = by (is_bare o.style numeric) refl
  where
    by : (t : Bool) → is_bare o.style numeric ≡ t → framed (not (is_bare o.style numeric)) o.quote text ≡ written_value o numeric text
    by true e = rw e refl
    by false e = rw e (ap (λ l. o.quote ∷ (l ++ o.quote ∷ [])) (sym (doubled-lacks o.quote text lack)))

-- what is written of a value that is no text, where it is known what is written of it as it is read
restyled : (s : ℕ) (o : WriteOptions) (type : DataType) (value : Option Scalar) (text : List ℕ) → FitsOptions (as_read s o) → is_readable type ≡ true → is_text type ≡ false → FitsCell (as_read s o) type value
    → 0 < length text → text ≡ written_cell (as_read s o) type value → framed (not (is_bare o.style (is_numeric type))) o.quote text ≡ written_cell o type value
restyled s o type None text fits can other held some is = absurd (omega (arith, some, ap length is))
restyled s o type (Some (Letters letters)) text fits can other held some is = let own : is_text type ≡ true = text_type type letters (readable (as_read s o) type (Letters letters) can held) in absurd (cc)
restyled s o type (Some (Number n)) text fits can other held some is =
    let lack = lacks-plain o.quote (printed type (Number n)) fits.quote (printed-plain type (Number n) other (readable (as_read s o) type (Number n) can held)).1 in
    ap (framed (not (is_bare o.style (is_numeric type))) o.quote) is ∙ framed-value o (is_numeric type) (printed type (Number n)) lack
restyled s o type (Some (Truth b)) text fits can other held some is =
    let lack = lacks-plain o.quote (printed type (Truth b)) fits.quote (printed-plain type (Truth b) other (readable (as_read s o) type (Truth b) can held)).1 in
    ap (framed (not (is_bare o.style (is_numeric type))) o.quote) is ∙ framed-value o (is_numeric type) (printed type (Truth b)) lack

-- a value that is no text, as it stands
pub value-change : (separator quote : ℕ) (form : Form) (own : Kind) (text : List ℕ) (is_quoted : Bool) → ((type : DataType) → IsKindOf type own → is_text type ≡ false) → 0 < length text
    → IsCellOfKind separator quote own text → ((o : WriteOptions) (q : ℕ) (type : DataType) → IsFormOf o q form → IsKindOf type own → is_quoted ≡ not (is_bare o.style (is_numeric type)))
    → IsChangeOfKind separator quote form nothing_is_null own text (framed is_quoted quote (text ++ []))
value-change separator quote form own text is_quoted other some cells quotes o type fits is can holds =
    let r = as_read separator o in
    let options = read-options separator quote form o is in
    let here : IsCellOf r type text = cells r type options holds in
    record {
      value = here.value;
      cell_is = cell-read r type text fits (no-written_null r separator quote options) can here;
      field_text = cell-field r type text fits can here;
      written_is = (λ j. framed (quotes o quote type is holds j) (sym is.quote_is j) (append-nil text j)) ∙ restyled separator o type here.value text fits can (other type holds) here.fits some here.text_is;
    }

-- a value that is no text, between quotes
pub quoted-value_change : (separator quote : ℕ) (form : Form) (own : Kind) (text : List ℕ) (is_quoted : Bool) → ((type : DataType) → IsKindOf type own → is_text type ≡ false) → 0 < length text
    → IsCellOfKind separator quote own text → ((o : WriteOptions) (q : ℕ) (type : DataType) → IsFormOf o q form → IsKindOf type own → is_quoted ≡ not (is_bare o.style (is_numeric type)))
    → IsChangeOfKind separator quote form nothing_is_null own (quote ∷ (text ++ quote ∷ [])) (framed is_quoted quote (text ++ []))
quoted-value_change separator quote form own text is_quoted other some cells quotes o type fits is can holds =
    let options = read-options separator quote form o is in
    let here : IsCellOf (as_read separator o) type text = cells (as_read separator o) type options holds in
    subst (λ q. IsChangeOf (as_read separator o) o nothing_is_null type (q ∷ (text ++ q ∷ [])) (framed is_quoted quote (text ++ []))) is.quote_is
    (by here.value here.fits here.text_is (other type holds)
    (λ value held written. (λ j. framed (quotes o quote type is holds j) (sym is.quote_is j) (append-nil text j)) ∙ restyled separator o type value text fits can (other type holds) held some written))
  where
    between : (value : Scalar) → FitsValue (as_read separator o) type value → framed is_quoted quote (text ++ []) ≡ written_cell o type (Some value)
        → o.quote ∷ (text ++ o.quote ∷ []) ≡ quoted o.quote (printed type value) → IsChangeOf (as_read separator o) o nothing_is_null type (o.quote ∷ (text ++ o.quote ∷ [])) (framed is_quoted quote (text ++ []))
    between value held written same = record {
      value = Some value;
      cell_is = λ reading missing. ap (cell reading nothing_is_null (Some o.quote) type) same ∙ quoted-read (as_read separator o) type value fits can held reading;
      field_text = subst (IsFieldText (line_marks (as_read separator o))) (append-nil (quoted o.quote (printed type value)) ∙ sym same)
          (written-field (as_read separator o) (quoted o.quote (printed type value)) [] fits (inl (printed type value, refl)) (inl refl));
      written_is = written;
    }

    by : (value : Option Scalar) → FitsCell (as_read separator o) type value → text ≡ written_cell (as_read separator o) type value → is_text type ≡ false
        → ((value : Option Scalar) → FitsCell (as_read separator o) type value → text ≡ written_cell (as_read separator o) type value → framed is_quoted quote (text ++ []) ≡ written_cell o type value)
        → IsChangeOf (as_read separator o) o nothing_is_null type (o.quote ∷ (text ++ o.quote ∷ [])) (framed is_quoted quote (text ++ []))
    by None held written no_text all = absurd (omega (arith, some, ap length written))
    by (Some (Letters letters)) held written no_text all =
        let text_is : is_text type ≡ true = text_type type letters (readable (as_read separator o) type (Letters letters) can held) in absurd (cc)
    by (Some (Number n)) held written no_text all =
        let lack = lacks-plain o.quote (printed type (Number n)) fits.quote (printed-plain type (Number n) no_text (readable (as_read separator o) type (Number n) can held)).1 in
        between (Number n) held (all (Some (Number n)) held written)
        (ap (λ (l : List ℕ). o.quote ∷ (l ++ o.quote ∷ [])) (written ∙ sym (doubled-lacks o.quote (printed type (Number n)) lack)))
    by (Some (Truth b)) held written no_text all =
        let lack = lacks-plain o.quote (printed type (Truth b)) fits.quote (printed-plain type (Truth b) no_text (readable (as_read separator o) type (Truth b) can held)).1 in
        between (Truth b) held (all (Some (Truth b)) held written)
        (ap (λ (l : List ℕ). o.quote ∷ (l ++ o.quote ∷ [])) (written ∙ sym (doubled-lacks o.quote (printed type (Truth b)) lack)))

-- a datetime without a fraction
pub moment-change : (separator quote : ℕ) (form : Form) (places : ℕ) (text : List ℕ) → IsSecondsText text
    → IsChangeOfKind separator quote form nothing_is_null (kind.Datetime places) text (framed form.quotes_values quote (text ++ zeros_text places))
moment-change separator quote form places text w o type fits is can holds =
    let lack = lacks-plain o.quote (text ++ zeros_text places) fits.quote (seconds-plain places type text holds w) in
    subst (IsChangeOf (as_read separator o) o nothing_is_null type text)
    (sym ((λ j. framed (is.values_are j) (sym is.quote_is j) (text ++ zeros_text places)) ∙ framed-value o false (text ++ zeros_text places) lack))
    (seconds-change (as_read separator o) o places type text fits holds w)

-- ---- texts

-- what is written of a text, where it is known whether it needs quotes
styled : (style : ℕ) (needs : Bool) (text quotes : List ℕ) → style < 3
    → cond (not (is_bare style false) || needs) quotes text ≡ (if style == 3 then text else if style == 0 then (if needs then quotes else text) else quotes)
styled zero needs text quotes few = refl
styled (suc zero) needs text quotes few = refl
styled (suc (suc zero)) needs text quotes few = refl
styled (suc (suc (suc n))) needs text quotes few = absurd (omega (arith, few))

-- for each form
pub text-styled : (o : WriteOptions) (quote : ℕ) (form : Form) (text : List ℕ) → IsFormOf o quote form
    → cond (form.quotes_values || needs_quotes form.separator quote text) (quoted o.quote text) text ≡ written_text o text
text-styled o quote form text is =
    (λ j. cond (is.values_are j || needs_quotes (sym is.separator_is j) (sym is.quote_is j) text) (quoted o.quote text) text)
    ∙ styled o.style (needs_quotes o.separator o.quote text) text (quoted o.quote text) is.few

-- one that stands without quotes
bare-framed : (t : Bool) (quote : ℕ) (text : List ℕ) → lacks quote text ≡ true → framed t quote (text ++ []) ≡ cond t (quoted quote text) text
bare-framed true quote text lack = ap (λ l. quote ∷ (l ++ quote ∷ [])) (append-nil text ∙ sym (doubled-lacks quote text lack))
bare-framed false quote text lack = append-nil text

pub bare-change : (separator quote : ℕ) (form : Form) (own : Kind) (text : List ℕ) (is_quoted : Bool) → own ≡ kind.Text → IsBareText separator quote text
    → is_quoted ≡ (form.quotes_values || needs_quotes form.separator quote text) → IsChangeOfKind separator quote form nothing_is_null own text (framed is_quoted quote (text ++ []))
bare-change separator quote form own text is_quoted same b given =
    subst (λ k. IsChangeOfKind separator quote form nothing_is_null k text (framed is_quoted quote (text ++ []))) (sym same)
    (λ o type fits is can holds.
    let r = as_read separator o in
    let options = read-options separator quote form o is in
    let none = (neither (length text == 0) (list_any (is_special separator quote) text) b.bare).1 in
    let held : FitsValue r type (Letters text) = value-fits r separator quote type (Letters text) options (text-can type holds) (text-held type text holds b.utf8) (text-counted type text holds) in
    let bare : needs_quotes separator o.quote text ≡ false = ap (λ q. needs_quotes separator q text) is.quote_is ∙ b.bare in
    let here : IsCellOf r type text = record { value = Some (Letters text); fits = held; text_is = sym (ap (λ t. if t then quoted o.quote text else text) bare) } in
    record {
      value = Some (Letters text);
      cell_is = cell-read r type text fits (no-written_null r separator quote options) can here;
      field_text = cell-field r type text fits can here;
      written_is =
          bare-framed is_quoted quote text (bare-lacks separator quote text none).0
          ∙ (λ j. cond (given j) (quoted (sym is.quote_is j) text) text)
          ∙ text-styled o quote form text is;
    })

-- ---- texts between quotes

-- what is written of a text between quotes: it stays, or is what stands between them
pub quoted-change : (separator quote : ℕ) (form : Form) (own : Kind) (field inside written : List ℕ) (stays : Bool) → own ≡ kind.Text → IsQuotedText quote field → field ≡ quote ∷ (inside ++ quote ∷ [])
    → stays ≡ (form.quotes_values || needs_quotes form.separator quote inside) → written ≡ cond stays field inside → IsChangeOfKind separator quote form nothing_is_null own field written
quoted-change separator quote form own field inside written stays same text parts given is_written =
    subst (λ k. IsChangeOfKind separator quote form nothing_is_null k field written) (sym same)
    (λ o type fits is can holds.
    let r = as_read separator o in
    let options = read-options separator quote form o is in
    let inner = text.inner in
    let here : inside ≡ doubled quote inner = between-quotes quote inside (doubled quote inner) (sym parts ∙ text.text_is) in
    let held : FitsValue r type (Letters inner) = value-fits r separator quote type (Letters inner) options (text-can type holds) (text-held type inner holds text.utf8) (text-counted type inner holds) in
    let field_is : field ≡ quoted o.quote inner = text.text_is ∙ ap (λ q. quoted q inner) (sym is.quote_is) in
    let needs : needs_quotes form.separator quote inside ≡ needs_quotes form.separator quote inner = ap (needs_quotes form.separator quote) here ∙ needs-doubled form.separator quote inner in
    record {
      value = Some (Letters inner);
      cell_is = λ reading missing. ap (cell reading nothing_is_null (Some o.quote) type) field_is ∙ quoted-read r type (Letters inner) fits can held reading;
      field_text = subst (IsFieldText (line_marks r)) (append-nil (quoted o.quote inner) ∙ sym field_is) (written-field r (quoted o.quote inner) [] fits (inl (inner, refl)) (inl refl));
      written_is =
          is_written
          ∙ stays-or stays (form.quotes_values || needs_quotes form.separator quote inner) field inside (quoted o.quote inner) inner (given ∙ ap (λ t. form.quotes_values || t) needs) field_is
          (λ no. here ∙ bare-inside form.separator quote inner (ap (needs_quotes form.separator quote) (sym here) ∙ needs ∙ or-none form.quotes_values (needs_quotes form.separator quote inner) no))
          ∙ text-styled o quote form inner is;
    })
  where
    or-none : (a b : Bool) → (a || b) ≡ false → b ≡ false
    or-none true b e = absurd (cc)
    or-none false b e = e

    stays-or : (s t : Bool) (f i g j : List ℕ) → s ≡ t → f ≡ g → (t ≡ false → i ≡ j) → cond s f i ≡ cond t g j
    stays-or s true f i g j e a b = ap (λ t. cond t f i) e ∙ a
    stays-or s false f i g j e a b = ap (λ t. cond t f i) e ∙ b refl
