-- Copies of cells: cells that stand as they are written, and cells that stand between quotes that they do not need.
use Rattle.std.proofs.Common.{◌≡◌, ℕ, ◌+◌, ◌-◌, ◌<◌, ◌≤◌, Bool, true, false, ◌==◌, List, [], ◌∷◌, ◌++◌, length, take, drop, get_or, Option, None, Some, Ok, refl, sym, ◌∙◌, ap, subst, inl, arith, append-nil, length-append}
use Rattle.std.specs.List.{list_any, slice_range}
use Rattle.std.proofs.lemmas.List.{take_rest}
use Rattle.pl_frame.specs.declared.data_type.DataType.{DataType}
use Rattle.pl_frame.specs.declared.data_type.DataType.TheVariants as dtype
use Rattle.pl_frame.specs.Frame.{Scalar, Truth, Number, Letters}
use Rattle.pl_text.specs.ValueText.{padded, date_text, clock_text, printed}
use Rattle.pl_text.specs.FrameText.{WriteOptions, is_special, needs_quotes, quoted, written_text, written_value, written_null, written_cell}
use Rattle.pl_frame.specs.Types.{is_numeric, is_text, is_readable, is_whole_number}
use Rattle.pl_cells.specs.Cells.{Reading, cell}
use Rattle.pl_cells.specs.NullTest.{nothing_is_null}
use Rattle.pl_cells.specs.NullValues.{means_null}
use Rattle.pl_round_trip.specs.RoundTrip.{IsFieldText, line_marks}
use Rattle.pl_round_trip.specs.Fits.{FitsOptions, FitsValue, FitsCell}
use Rattle.pl_round_trip.specs.Returning.{nulls_of}
use Rattle.pl_round_trip.proofs.FieldLaws.{lacks, lacks-plain, neither, doubled-lacks, bare-lacks, text_type, field-returns}
use Rattle.pl_round_trip.proofs.FitCellLaws.{cell-returns}
use Rattle.pl_round_trip.proofs.PlainLaws.{printed-plain}
use Rattle.pl_round_trip.proofs.WrittenLaws.{readable, written-cell, written-field}
use Rattle.pl_verbatim.specs.declared.kinds.Kind.{Kind}
use Rattle.pl_verbatim.specs.declared.kinds.Kind.TheVariants as kind
use Rattle.pl_verbatim.specs.CellTexts.{IsWholeText, IsDecimalText, IsBooleanText, IsDateText, IsMomentText, IsBareText, IsCellOptions, IsCellOf, IsCopyOf}
use Rattle.pl_verbatim.specs.Kinds.{is_any_text, IsKindOf}
use Rattle.pl_verbatim.proofs.CellLaws.{IsCellOfKind, value-fits, text-can, text-held, text-counted, no-written_null, whole-kind, boolean-kind, date-kind, decimal-kind}
use Rattle.pl_verbatim.proofs.CellSizeLaws.{whole-longer, boolean-some, date-longer, decimal-longer}
use Rattle.pl_verbatim.proofs.MomentCellLaws.{moment-kind}
use Rattle.pl_verbatim.proofs.NumberLaws.{slice-cons, slice-parts}

-- ---- what is written of a cell

-- it is read as the cell
pub cell-read : (o : WriteOptions) (type : DataType) (field : List ℕ) → FitsOptions o → written_null o ≡ [] → is_readable type ≡ true → (here : IsCellOf o type field)
    → (reading : Reading) → reading.missing_is_null ≡ true → cell reading nothing_is_null (Some o.quote) type field ≡ Ok here.value
cell-read o type field fits null can here reading missing =
    ap (λ n. cell reading (means_null n 0) (Some o.quote) type field) (sym (ap nulls_of null))
    ∙ ap (cell reading (means_null (nulls_of (written_null o)) 0) (Some o.quote) type) (here.text_is ∙ sym (append-nil (written_cell o type here.value)))
    ∙ cell-returns o reading 0 type here.value [] fits can here.fits missing (inl refl)

-- and it is the text of a field
pub cell-field : (o : WriteOptions) (type : DataType) (field : List ℕ) → FitsOptions o → is_readable type ≡ true → IsCellOf o type field → IsFieldText (line_marks o) field
cell-field o type field fits can here =
    subst (IsFieldText (line_marks o)) (append-nil (written_cell o type here.value) ∙ sym here.text_is)
    (written-field o (written_cell o type here.value) [] fits (written-cell o type here.value fits can here.fits) (inl refl))

-- so it is a copy of itself
pub cell-copy : (o : WriteOptions) (type : DataType) (text : List ℕ) → FitsOptions o → written_null o ≡ [] → is_readable type ≡ true → IsCellOf o type text → IsCopyOf o type text text
cell-copy o type text fits null can here = record {
  value = here.value;
  cell_is = cell-read o type text fits null can here;
  field_text = cell-field o type text fits can here;
  written_is = here.text_is;
}

-- a text is what is written of a field's cell, for each type of the kind
abbrev pub IsCopyOfKind : ℕ → ℕ → Kind → List ℕ → List ℕ → Type 0
IsCopyOfKind separator quote kind field written =
    (o : WriteOptions) (type : DataType) → FitsOptions o → IsCellOptions o separator quote → is_readable type ≡ true → IsKindOf type kind → IsCopyOf o type field written

pub cell-kind_copy : (separator quote : ℕ) (kind : Kind) (text : List ℕ) → IsCellOfKind separator quote kind text → IsCopyOfKind separator quote kind text text
cell-kind_copy separator quote kind text cells o type fits options can holds = cell-copy o type text fits (no-written_null o separator quote options) can (cells o type options holds)

-- ---- the same between quotes

-- the same way of writing, with each value between quotes
abbrev always : WriteOptions → WriteOptions
always o = record o { style = 1 }

always-written : (o : WriteOptions) (type : DataType) (value : Scalar) → quoted o.quote (printed type value) ≡ written_cell (always o) type (Some value)
always-written o type (Letters text) = refl
always-written o type (Number n) = refl
always-written o type (Truth b) = refl

-- so it is read as the value, where no text means null
pub quoted-read : (o : WriteOptions) (type : DataType) (value : Scalar) → FitsOptions o → is_readable type ≡ true → FitsValue o type value
    → (reading : Reading) → cell reading nothing_is_null (Some o.quote) type (quoted o.quote (printed type value)) ≡ Ok (Some value)
quoted-read o type value fits can held reading =
    ap (cell reading nothing_is_null (Some o.quote) type) (always-written o type value)
    ∙ field-returns reading nothing_is_null (always o) type value (record {
      readable = readable o type value can held;
      mark = fits.quote;
      no_return = fits.dialect.quote.1;
      bare = λ (never : 1 ≡ 3) texts. absurd (omega (arith, never));
      meant = refl;
    })

-- a value whose printed text is written of it, and does not hold the quote, is written of that text between quotes too
quotes-copy : (o : WriteOptions) (type : DataType) (value : Scalar) (text : List ℕ) → FitsOptions o → is_readable type ≡ true → FitsValue o type value
    → text ≡ printed type value → text ≡ written_cell o type (Some value) → lacks o.quote (printed type value) ≡ true → IsCopyOf o type (o.quote ∷ (text ++ o.quote ∷ [])) text
quotes-copy o type value text fits can held is written lack =
    let same : o.quote ∷ (text ++ o.quote ∷ []) ≡ quoted o.quote (printed type value) =
    ap (λ (l : List ℕ). o.quote ∷ (l ++ o.quote ∷ [])) (is ∙ sym (doubled-lacks o.quote (printed type value) lack)) in
    record {
      value = Some value;
      cell_is = λ reading missing. ap (cell reading nothing_is_null (Some o.quote) type) same ∙ quoted-read o type value fits can held reading;
      field_text = subst (IsFieldText (line_marks o)) (append-nil (quoted o.quote (printed type value)) ∙ sym same)
          (written-field o (quoted o.quote (printed type value)) [] fits (inl (printed type value, refl)) (inl refl));
      written_is = written;
    }

-- ---- kinds

-- a text between quotes is the field of a cell of each type of the kind, of which it is written
abbrev pub IsInnerOfKind : ℕ → ℕ → Kind → List ℕ → Type 0
IsInnerOfKind separator quote kind text = IsCopyOfKind separator quote kind (quote ∷ (text ++ quote ∷ [])) text

-- texts
pub bare-written : (o : WriteOptions) (text : List ℕ) → o.style ≡ 0 → needs_quotes o.separator o.quote text ≡ false → text ≡ written_text o text
bare-written o text style bare = rw (style, bare) refl

text-copy : (o : WriteOptions) (separator quote : ℕ) (type : DataType) (text : List ℕ) → FitsOptions o → IsCellOptions o separator quote → is_any_text type ≡ true → IsBareText separator quote text
    → IsCopyOf o type (o.quote ∷ (text ++ o.quote ∷ [])) text
text-copy o separator quote type text fits is any b =
    let bare : needs_quotes o.separator o.quote text ≡ false = ap (λ s. needs_quotes s o.quote text) is.separator_is ∙ ap (λ q. needs_quotes separator q text) is.quote_is ∙ b.bare in
    let none = (neither (length text == 0) (list_any (is_special o.separator o.quote) text) bare).1 in
    let held = value-fits o separator quote type (Letters text) is (text-can type any) (text-held type text any b.utf8) (text-counted type text any) in
    quotes-copy o type (Letters text) text fits (text-can type any) held refl (bare-written o text is.style_is bare) (bare-lacks o.separator o.quote text none).0

pub text-inner : (separator quote : ℕ) (own : Kind) (text : List ℕ) → own ≡ kind.Text → IsBareText separator quote text → IsInnerOfKind separator quote own text
text-inner separator quote own text is b =
    subst (λ k. IsInnerOfKind separator quote k text) (sym is)
    (λ o type fits options can holds.
    subst (λ q. IsCopyOf o type (q ∷ (text ++ q ∷ [])) text) options.quote_is (text-copy o separator quote type text fits options holds b))

-- values that are no texts
pub value-written : (o : WriteOptions) (numeric : Bool) (text : List ℕ) → o.style ≡ 0 → written_value o numeric text ≡ text
value-written o numeric text style = rw style refl

value-copy : (o : WriteOptions) (separator quote : ℕ) (type : DataType) (value : Scalar) (text : List ℕ) → FitsOptions o → IsCellOptions o separator quote → is_readable type ≡ true → is_text type ≡ false
    → FitsValue o type value → text ≡ written_cell o type (Some value) → written_cell o type (Some value) ≡ printed type value → IsCopyOf o type (o.quote ∷ (text ++ o.quote ∷ [])) text
value-copy o separator quote type value text fits is can other held written bare =
    quotes-copy o type value text fits can held (written ∙ bare) written
    (lacks-plain o.quote (printed type value) fits.quote (printed-plain type value other (readable o type value can held)).1)

no-null : (o : WriteOptions) (text : List ℕ) → o.style ≡ 0 → o.null ≡ [] → text ≡ written_cell o dtype.Date None → 0 < length text → ⊥
no-null o text style null is some =
    let none : written_cell o dtype.Date None ≡ [] = rw style null in
    let empty : length text ≡ 0 = ap length (is ∙ none) in
    omega (arith, empty, some)

cell-inner : (o : WriteOptions) (separator quote : ℕ) (type : DataType) (text : List ℕ) → FitsOptions o → IsCellOptions o separator quote → is_readable type ≡ true → is_text type ≡ false → 0 < length text
    → IsCellOf o type text → IsCopyOf o type (o.quote ∷ (text ++ o.quote ∷ [])) text
cell-inner o separator quote type text fits is can other some here = by here.value here.fits here.text_is
  where
    by : (value : Option Scalar) → FitsCell o type value → text ≡ written_cell o type value → IsCopyOf o type (o.quote ∷ (text ++ o.quote ∷ [])) text
    by None held written = absurd (no-null o text is.style_is is.null_is written some)
    by (Some (Letters letters)) held written = let own : is_text type ≡ true = text_type type letters (readable o type (Letters letters) can held) in absurd (cc)
    by (Some (Number n)) held written =
        value-copy o separator quote type (Number n) text fits is can other held written (value-written o (is_numeric type) (printed type (Number n)) is.style_is)
    by (Some (Truth b)) held written = value-copy o separator quote type (Truth b) text fits is can other held written (value-written o (is_numeric type) (printed type (Truth b)) is.style_is)

other-inner : (separator quote : ℕ) (own : Kind) (text : List ℕ) → ((type : DataType) → IsKindOf type own → is_text type ≡ false) → 0 < length text → IsCellOfKind separator quote own text
    → IsInnerOfKind separator quote own text
other-inner separator quote own text other some cells o type fits options can holds =
    subst (λ q. IsCopyOf o type (q ∷ (text ++ q ∷ [])) text) options.quote_is (cell-inner o separator quote type text fits options can (other type holds) some (cells o type options holds))

pub whole-other : (type : DataType) → is_whole_number type ≡ true → is_text type ≡ false
whole-other dtype.String e = cc
whole-other dtype.Categorical e = cc
whole-other (dtype.Enum categories) e = cc
whole-other type e = refl

all-of : (text : List ℕ) → slice_range text 0 (length text) ≡ text
all-of text = take_rest text 0

pub whole-inner : (separator quote : ℕ) (own : Kind) (digits : ℕ) (is_signed : Bool) (text : List ℕ) → own ≡ kind.Whole digits is_signed → IsWholeText digits is_signed text
    → IsInnerOfKind separator quote own text
whole-inner separator quote own digits is_signed text is w =
    subst (λ k. IsInnerOfKind separator quote k text) (sym is)
    (other-inner separator quote (kind.Whole digits is_signed) text (λ type holds. whole-other type holds.whole)
    (whole-longer digits is_signed text 0 (length text) (subst (IsWholeText digits is_signed) (sym (all-of text)) w))
    (whole-kind separator quote (kind.Whole digits is_signed) digits is_signed text refl w))

pub boolean-inner : (separator quote : ℕ) (own : Kind) (text : List ℕ) → own ≡ kind.Boolean → IsBooleanText text → IsInnerOfKind separator quote own text
boolean-inner separator quote own text is w =
    let some : 0 < length text = omega (arith, ap length w.text_is, boolean-some w.truth) in
    subst (λ k. IsInnerOfKind separator quote k text) (sym is)
    (other-inner separator quote kind.Boolean text (λ type holds. ap is_text holds) some (boolean-kind separator quote kind.Boolean text refl w))

pub date-inner : (separator quote : ℕ) (own : Kind) (text : List ℕ) → own ≡ kind.Date → IsDateText text → IsInnerOfKind separator quote own text
date-inner separator quote own text is w =
    subst (λ k. IsInnerOfKind separator quote k text) (sym is)
    (other-inner separator quote kind.Date text (λ type holds. ap is_text holds) (date-longer text 0 (length text) (subst IsDateText (sym (all-of text)) w)) (date-kind separator quote kind.Date text refl w))

pub decimal-inner : (separator quote : ℕ) (own : Kind) (digits scale : ℕ) (text : List ℕ) → own ≡ kind.Decimal digits scale → IsDecimalText digits scale text → IsInnerOfKind separator quote own text
decimal-inner separator quote own digits scale text is w =
    subst (λ k. IsInnerOfKind separator quote k text) (sym is)
    (other-inner separator quote (kind.Decimal digits scale) text (λ type holds. ap is_text holds.type_is)
    (decimal-longer digits scale text 0 (length text) (subst (IsDecimalText digits scale) (sym (all-of text)) w))
    (decimal-kind separator quote (kind.Decimal digits scale) digits scale text refl w))

pub moment-inner : (separator quote : ℕ) (own : Kind) (places : ℕ) (text : List ℕ) → own ≡ kind.Datetime places → IsMomentText places text → IsInnerOfKind separator quote own text
moment-inner separator quote own places text is w =
    let some : 0 < length text = omega (arith, ap length w.text_is, length-append (date_text w.day) (84 ∷ (clock_text w.second ++ 46 ∷ padded places w.fraction))) in
    subst (λ k. IsInnerOfKind separator quote k text) (sym is)
    (other-inner separator quote (kind.Datetime places) text (λ type holds. ap is_text holds.type_is) some (moment-kind separator quote (kind.Datetime places) places text refl w))

-- ---- places

-- a text between quotes
pub quotes-at : (text : List ℕ) (at to quote : ℕ) → at + 1 ≤ to → to < length text → get_or text at 0 ≡ quote → get_or text to 0 ≡ quote
    → slice_range text at (to + 1) ≡ quote ∷ (slice_range text (at + 1) to ++ quote ∷ [])
quotes-at text at to quote low inside first last =
    let none : to + 1 - (to + 1) ≡ 0 = omega arith in
    let end : slice_range text to (to + 1) ≡ quote ∷ [] =
    slice-cons text to (to + 1) inside (omega arith) ∙ ap (λ (n : ℕ). get_or text to 0 ∷ take n (drop (to + 1) text)) none ∙ ap (λ (x : ℕ). x ∷ []) last in
    slice-cons text at (to + 1) (omega (arith, low, inside)) (omega (arith, low)) ∙ ap (λ (x : ℕ). x ∷ slice_range text (at + 1) (to + 1)) first
    ∙ ap (λ (l : List ℕ). quote ∷ l) (slice-parts text (at + 1) to (to + 1) low (omega arith) ∙ ap (λ (l : List ℕ). slice_range text (at + 1) to ++ l) end)

-- what stands between quotes is a copy of what stands with them
pub inner-at : (separator quote : ℕ) (kind : Kind) (text : List ℕ) (at to : ℕ) → at + 1 ≤ to → to < length text → get_or text at 0 ≡ quote → get_or text to 0 ≡ quote
    → IsInnerOfKind separator quote kind (slice_range text (at + 1) to) → IsCopyOfKind separator quote kind (slice_range text at (to + 1)) (slice_range text (at + 1) to)
inner-at separator quote kind text at to low inside first last copies o type fits options can holds =
    subst (λ (field : List ℕ). IsCopyOf o type field (slice_range text (at + 1) to)) (sym (quotes-at text at to quote low inside first last)) (copies o type fits options can holds)
