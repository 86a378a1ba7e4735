-- Texts of values are cells of the types that hold the values.
use Rattle.std.proofs.Common.{◌≡◌, ℕ, Bool, true, false, List, [], Some, ℤ, refl, sym, ap₂, ◌∙◌, subst, arith}
use Rattle.std.specs.Fmt.{signed_decimal}
use Rattle.std.specs.Str.{is_utf8}
use Rattle.pl_frame.specs.declared.data_type.DataType.{DataType}
use Rattle.pl_frame.specs.declared.data_type.DataType.TheVariants as dtype
use Rattle.pl_frame.specs.Frame.{Truth, Number, Letters, Scalar}
use Rattle.pl_text.specs.ValueText.{number_text, printed, decimal_text}
use Rattle.pl_frame.specs.Columns.{is_value_of}
use Rattle.pl_text.specs.FrameText.{WriteOptions, written_text, written_value, written_null}
use Rattle.pl_frame.specs.Types.{is_numeric, is_readable, is_whole_number}
use Rattle.pl_round_trip.specs.RoundTrip.{fits_count}
use Rattle.pl_round_trip.specs.Fits.{FitsValue}
use Rattle.pl_round_trip.proofs.WrittenLaws.{filled-apart}
use Rattle.pl_verbatim.specs.declared.kinds.Kind.{Kind}
use Rattle.pl_verbatim.specs.declared.kinds.Kind.TheVariants as kind
use Rattle.pl_verbatim.specs.CellTexts.{IsWholeText, IsDecimalText, IsBooleanText, IsDateText, IsWrittenText, written, IsCellOptions, IsCellOf}
use Rattle.pl_verbatim.specs.Kinds.{HoldsWholes, HoldsDecimals, is_any_text, IsKindOf}

-- a text is that of a cell of each type of the kind
abbrev pub IsCellOfKind : ℕ → ℕ → Kind → List ℕ → Type 0
IsCellOfKind separator quote kind text = (o : WriteOptions) (type : DataType) → IsCellOptions o separator quote → IsKindOf type kind → IsCellOf o type text

-- ---- quoted where necessary

bare : (o : WriteOptions) (numeric : Bool) (text : List ℕ) → o.style ≡ 0 → written_value o numeric text ≡ text
bare o numeric text e = rw e refl

needed : (o : WriteOptions) (text : List ℕ) → o.style ≡ 0 → written_text o text ≡ written o.separator o.quote text
needed o text e = rw e refl

-- nothing is written of a null
pub no-written_null : (o : WriteOptions) (separator quote : ℕ) → IsCellOptions o separator quote → written_null o ≡ []
no-written_null o separator quote is = rw is.style_is is.null_is

-- a value of the type fits
pub value-fits : (o : WriteOptions) (separator quote : ℕ) (type : DataType) (value : Scalar) → IsCellOptions o separator quote → is_readable type ≡ true → is_value_of type value ≡ true
    → fits_count type value ≡ true → FitsValue o type value
value-fits o separator quote type value is can held counted = record {
  held = held;
  counted = counted;
  apart = filled-apart o type value (record { can = can; held = held; counted = counted }) (λ never texts. absurd (omega (arith, never, is.style_is))) (no-written_null o separator quote is);
  bare = λ never texts. absurd (omega (arith, never, is.style_is));
}

-- ---- whole numbers

whole-counted : (type : DataType) (n : ℤ) → is_whole_number type ≡ true → fits_count type (Number n) ≡ true
whole-counted (dtype.Datetime unit) n e = cc
whole-counted type n e = refl

whole-readable : (type : DataType) → is_whole_number type ≡ true → is_readable type ≡ true
whole-readable (dtype.Enum categories) e = cc
whole-readable (dtype.Decimal precision scale) e = cc
whole-readable dtype.Null e = cc
whole-readable type e = refl

whole-printed : (type : DataType) (n : ℤ) → is_whole_number type ≡ true → number_text type n ≡ signed_decimal n
whole-printed dtype.Date n e = cc
whole-printed dtype.Time n e = cc
whole-printed (dtype.Datetime unit) n e = cc
whole-printed (dtype.Decimal precision scale) n e = cc
whole-printed type n e = refl

-- ---- cells

-- types whose cells may be any text
pub text-can : (type : DataType) → is_any_text type ≡ true → is_readable type ≡ true
text-can dtype.String any = refl
text-can dtype.Categorical any = refl
text-can type any = absurd (cc)

pub text-held : (type : DataType) (text : List ℕ) → is_any_text type ≡ true → is_utf8 text ≡ true → is_value_of type (Letters text) ≡ true
text-held dtype.String text any utf8 = rw utf8 refl
text-held dtype.Categorical text any utf8 = rw utf8 refl
text-held type text any utf8 = absurd (cc)

pub text-counted : (type : DataType) (text : List ℕ) → is_any_text type ≡ true → fits_count type (Letters text) ≡ true
text-counted dtype.String text any = refl
text-counted dtype.Categorical text any = refl
text-counted type text any = absurd (cc)

text-cell : (o : WriteOptions) (separator quote : ℕ) (type : DataType) (text : List ℕ) → IsCellOptions o separator quote → IsKindOf type kind.Text → IsWrittenText separator quote text → IsCellOf o type text
text-cell o separator quote type text is holds w = record {
  value = Some (Letters w.inner);
  fits = value-fits o separator quote type (Letters w.inner) is (text-can type holds) (text-held type w.inner holds w.utf8) (text-counted type w.inner holds);
  text_is = w.text_is ∙ sym (needed o w.inner is.style_is ∙ ap₂ (λ s q. written s q w.inner) is.separator_is is.quote_is);
}

whole-cell : (o : WriteOptions) (separator quote : ℕ) (digits : ℕ) (is_signed : Bool) (type : DataType) (text : List ℕ) → IsCellOptions o separator quote → HoldsWholes digits is_signed type
    → IsWholeText digits is_signed text → IsCellOf o type text
whole-cell o separator quote digits is_signed type text is holds w = record {
  value = Some (Number w.number);
  fits = value-fits o separator quote type (Number w.number) is (whole-readable type holds.whole) (holds.held w.number w.few w.sign) (whole-counted type w.number holds.whole);
  text_is = w.text_is ∙ sym (bare o (is_numeric type) (printed type (Number w.number)) is.style_is ∙ whole-printed type w.number holds.whole);
}

boolean-cell : (o : WriteOptions) (separator quote : ℕ) (type : DataType) (text : List ℕ) → IsCellOptions o separator quote → IsKindOf type kind.Boolean → IsBooleanText text → IsCellOf o type text
boolean-cell o separator quote type text is holds w = subst (λ t. IsCellOf o t text) (sym holds) (record {
  value = Some (Truth w.truth);
  fits = value-fits o separator quote dtype.Boolean (Truth w.truth) is refl refl refl;
  text_is = w.text_is ∙ sym (bare o false (printed dtype.Boolean (Truth w.truth)) is.style_is);
})

date-cell : (o : WriteOptions) (separator quote : ℕ) (type : DataType) (text : List ℕ) → IsCellOptions o separator quote → IsKindOf type kind.Date → IsDateText text → IsCellOf o type text
date-cell o separator quote type text is holds w = subst (λ t. IsCellOf o t text) (sym holds) (record {
  value = Some (Number w.day);
  fits = value-fits o separator quote dtype.Date (Number w.day) is refl w.within refl;
  text_is = w.text_is ∙ sym (bare o false (printed dtype.Date (Number w.day)) is.style_is);
})

decimal-cell : (o : WriteOptions) (separator quote : ℕ) (digits scale : ℕ) (type : DataType) (text : List ℕ) → IsCellOptions o separator quote → HoldsDecimals digits scale type
    → IsDecimalText digits scale text → IsCellOf o type text
decimal-cell o separator quote digits scale type text is holds w =
    let own = dtype.Decimal holds.precision (Some scale) in
    let held : is_value_of own (Number w.number) ≡ true = subst (λ t. is_value_of t (Number w.number) ≡ true) holds.type_is (holds.held w.number w.few) in
    let can : is_readable own ≡ true = subst (λ t. is_readable t ≡ true) holds.type_is holds.can in
    subst (λ t. IsCellOf o t text) (sym holds.type_is) (record {
      value = Some (Number w.number);
      fits = value-fits o separator quote own (Number w.number) is can held refl;
      text_is = w.text_is ∙ sym (bare o true (decimal_text scale w.number) is.style_is);
    })

-- ---- cells of a kind

pub text-kind : (separator quote : ℕ) (own : Kind) (text : List ℕ) → own ≡ kind.Text → IsWrittenText separator quote text → IsCellOfKind separator quote own text
text-kind separator quote own text is w = subst (λ k. IsCellOfKind separator quote k text) (sym is) (λ o type options holds. text-cell o separator quote type text options holds w)

pub whole-kind : (separator quote : ℕ) (own : Kind) (digits : ℕ) (is_signed : Bool) (text : List ℕ) → own ≡ kind.Whole digits is_signed → IsWholeText digits is_signed text → IsCellOfKind separator quote own text
whole-kind separator quote own digits is_signed text is w =
    subst (λ k. IsCellOfKind separator quote k text) (sym is) (λ o type options holds. whole-cell o separator quote digits is_signed type text options holds w)

pub boolean-kind : (separator quote : ℕ) (own : Kind) (text : List ℕ) → own ≡ kind.Boolean → IsBooleanText text → IsCellOfKind separator quote own text
boolean-kind separator quote own text is w = subst (λ k. IsCellOfKind separator quote k text) (sym is) (λ o type options holds. boolean-cell o separator quote type text options holds w)

pub date-kind : (separator quote : ℕ) (own : Kind) (text : List ℕ) → own ≡ kind.Date → IsDateText text → IsCellOfKind separator quote own text
date-kind separator quote own text is w = subst (λ k. IsCellOfKind separator quote k text) (sym is) (λ o type options holds. date-cell o separator quote type text options holds w)

pub decimal-kind : (separator quote : ℕ) (own : Kind) (digits scale : ℕ) (text : List ℕ) → own ≡ kind.Decimal digits scale → IsDecimalText digits scale text → IsCellOfKind separator quote own text
decimal-kind separator quote own digits scale text is w =
    subst (λ k. IsCellOfKind separator quote k text) (sym is) (λ o type options holds. decimal-cell o separator quote digits scale type text options holds w)
