-- What is written of a cell is the text of a field.
use Rattle.std.proofs.Common.{◌≡◌, ℕ, Bool, true, false, not, ◌&&◌, ◌||◌, ◌==◌, if◌then◌else◌, List, [], ◌∷◌, ◌++◌, length, None, Some, refl, ◌∙◌, ap, subst, inl, inr, arith}
use Rattle.std.specs.List.{list_all, list_any}
use Rattle.std.proofs.lemmas.Bool.Decides.{nat_tests}
use Rattle.pl_frame.specs.declared.data_type.DataType.{DataType}
use Rattle.pl_frame.specs.Frame.{Scalar, Truth, Number, Letters}
use Rattle.pl_text.specs.ValueText.{printed}
use Rattle.pl_text.specs.FrameText.{WriteOptions, is_special, is_bare, doubled, quoted, quoted_null, needs_quotes, written_text, written_value, written_cell}
use Rattle.pl_frame.specs.Types.{is_numeric, is_text}
use Rattle.pl_scan.specs.Fields.{is_plain as is_plain_byte, begins_quoted}
use Rattle.pl_scan.proofs.FieldLaws.{both_left, both_right}
use Rattle.pl_cells.specs.NullTest.{NullTest}
use Rattle.pl_round_trip.specs.RoundTrip.{IsWritable, AreApart, IsFieldText, IsLineTail, is_inner, line_marks}
use Rattle.pl_round_trip.proofs.FieldLaws.{lacks, lacks-first, lacks-none, lacks-plain, lacks-both, neither, doubled-lacks, text_type, number_type, truth_type}
use Rattle.pl_round_trip.proofs.PlainLaws.{printed-plain}

all-append : (p : ℕ → Bool) (xs ys : List ℕ) → list_all p xs ≡ true → list_all p ys ≡ true → list_all p (xs ++ ys) ≡ true
all-append p [] ys h k = k
all-append p (x ∷ xs) ys h k = rw (both_left (p x) (list_all p xs) h) (all-append p xs ys (both_right (p x) (list_all p xs) h) k)

-- ---- bytes that are no marks

module _ (o : WriteOptions) (apart : AreApart o) where
  abbrev inner : ℕ → Bool
  inner = is_inner (line_marks o) o.quote

  pub inner-plain : (xs : List ℕ) → list_all inner xs ≡ true → list_all (is_plain_byte (line_marks o)) xs ≡ true
  inner-plain [] h = refl
  inner-plain (x ∷ xs) h =
      rw (both_left (is_plain_byte (line_marks o) x) (not (x == o.quote)) (both_left (inner x) (list_all inner xs) h)) (inner-plain xs (both_right (inner x) (list_all inner xs) h))

  opposite : (t : Bool) → not t ≡ true → t ≡ false
  opposite true e = cc
  opposite false e = refl

  pub inner-begins : (xs : List ℕ) → list_all inner xs ≡ true → begins_quoted (Some o.quote) xs ≡ false
  inner-begins [] h = refl
  inner-begins (x ∷ xs) h = opposite (x == o.quote) (both_right (is_plain_byte (line_marks o) x) (not (x == o.quote)) (both_left (inner x) (list_all inner xs) h))

  pub tail-inner : (tail : List ℕ) → IsLineTail tail → list_all inner tail ≡ true
  tail-inner tail (inl none) = ap (list_all inner) none
  tail-inner tail (inr is) =
      let other : (13 == o.separator) ≡ false = grind (arith, nat_tests, apart.separator_no_return) in
      let bare : (13 == o.quote) ≡ false = grind (arith, nat_tests, apart.no_return) in
      ap (list_all inner) is ∙ ap (λ (t : Bool). (not (t || false) && not (13 == o.quote)) && true) other ∙ ap (λ (t : Bool). not t && true) bare

  pub bare-field : (text tail : List ℕ) → list_all inner text ≡ true → IsLineTail tail → IsFieldText (line_marks o) (text ++ tail)
  bare-field text tail h ends =
      let all = all-append inner text tail h (tail-inner tail ends) in
      inr (inner-begins (text ++ tail) all, inner-plain (text ++ tail) all)

  pub quoted-field : (text tail : List ℕ) → IsLineTail tail → IsFieldText (line_marks o) (quoted o.quote text ++ tail)
  quoted-field text tail ends = inl (o.quote, text, tail, refl, refl, tail-inner tail ends)

  inner-here : (x : ℕ) (xs : List ℕ) → (x == o.separator) ≡ false → (x == 10) ≡ false → (x == o.quote) ≡ false → list_all inner xs ≡ true → list_all inner (x ∷ xs) ≡ true
  inner-here x xs e f g h = rw (e, f, g) h

  -- a text that needs no quotes
  pub needless : (xs : List ℕ) → list_any (is_special o.separator o.quote) xs ≡ false → list_all inner xs ≡ true
  needless [] h = refl
  needless (x ∷ xs) h =
      let parts = neither (is_special o.separator o.quote x) (list_any (is_special o.separator o.quote) xs) h in
      let last = neither ((x == o.separator || x == 10) || x == 13) (x == o.quote) parts.0 in
      let return = neither (x == o.separator || x == 10) (x == 13) last.0 in
      let first = neither (x == o.separator) (x == 10) return.0 in
      inner-here x xs first.0 first.1 last.1 (needless xs parts.1)

  -- a text that lacks the marks
  lacking : (xs : List ℕ) → lacks o.separator xs ≡ true → lacks 10 xs ≡ true → lacks o.quote xs ≡ true → list_all inner xs ≡ true
  lacking [] h k l = refl
  lacking (x ∷ xs) h k l =
      let a = lacks-first o.separator x xs h in
      let b = lacks-first 10 x xs k in
      let c = lacks-first o.quote x xs l in
      inner-here x xs a.0 b.0 c.0 (lacking xs a.1 b.1 c.1)

  -- and one that is all inner lacks the quote
  lacks-quote : (xs : List ℕ) → list_all inner xs ≡ true → lacks o.quote xs ≡ true
  lacks-quote [] h = lacks-none o.quote
  lacks-quote (x ∷ xs) h =
      lacks-both o.quote x xs (opposite (x == o.quote) (both_right (is_plain_byte (line_marks o) x) (not (x == o.quote)) (both_left (inner x) (list_all inner xs) h)))
      (lacks-quote xs (both_right (inner x) (list_all inner xs) h))

  -- ---- each style

  text-field : (is_null : NullTest) (type : DataType) (text tail : List ℕ) → is_text type ≡ true → IsWritable o is_null type (Letters text) → IsLineTail tail
      → IsFieldText (line_marks o) (written_text o text ++ tail)
  text-field is_null type text tail e h ends = by (o.style == 3) refl
    where
      bare : needs_quotes o.separator o.quote text ≡ false → IsFieldText (line_marks o) (text ++ tail)
      bare k = bare-field text tail (needless text (neither (length text == 0) (list_any (is_special o.separator o.quote) text) k).1) ends

      by_need : (t : Bool) → needs_quotes o.separator o.quote text ≡ t → IsFieldText (line_marks o) ((if t then quoted o.quote text else text) ++ tail)
      by_need true k = quoted-field text tail ends
      by_need false k = bare k

      by_style : (t : Bool)
          → IsFieldText (line_marks o) ((if t then (if needs_quotes o.separator o.quote text then quoted o.quote text else text) else quoted o.quote text) ++ tail)
      by_style true = by_need (needs_quotes o.separator o.quote text) refl
      by_style false = quoted-field text tail ends

      by : (t : Bool) → (o.style == 3) ≡ t
          → IsFieldText (line_marks o) ((if t then text else (if o.style == 0 then (if needs_quotes o.separator o.quote text then quoted o.quote text else text) else quoted o.quote text)) ++ tail)
      by true k = let is : o.style ≡ 3 = grind (arith, nat_tests, k) in bare (h.bare is e)
      by false k = by_style (o.style == 0)

  value-field : (is_null : NullTest) (numeric : Bool) (type : DataType) (value : Scalar) (tail : List ℕ) → is_text type ≡ false → IsWritable o is_null type value → IsLineTail tail
      → IsFieldText (line_marks o) (written_value o numeric (printed type value) ++ tail)
  value-field is_null numeric type value tail e h ends = by (is_bare o.style numeric)
    where
      plain : list_all inner (printed type value) ≡ true
      plain =
          let p = (printed-plain type value e h.readable).1 in
          lacking (printed type value) (lacks-plain o.separator (printed type value) apart.separator_no_number p) (lacks-plain 10 (printed type value) refl p) (lacks-plain o.quote (printed type value) h.mark p)

      by : (t : Bool) → IsFieldText (line_marks o) ((if t then printed type value else quoted o.quote (printed type value)) ++ tail)
      by true = bare-field (printed type value) tail plain ends
      by false = quoted-field (printed type value) tail ends

  written-field : (is_null : NullTest) (type : DataType) (value : Scalar) (tail : List ℕ) → IsWritable o is_null type value → IsLineTail tail
      → IsFieldText (line_marks o) (written_cell o type (Some value) ++ tail)
  written-field is_null type (Letters text) tail h ends = text-field is_null type text tail (text_type type text h.readable) h ends
  written-field is_null type (Number n) tail h ends = value-field is_null (is_numeric type) type (Number n) tail (number_type type n h.readable) h ends
  written-field is_null type (Truth b) tail h ends = value-field is_null (is_numeric type) type (Truth b) tail (truth_type type b h.readable) h ends

  null-field : (type : DataType) (tail : List ℕ) → list_all inner o.null ≡ true → IsLineTail tail → IsFieldText (line_marks o) (written_cell o type None ++ tail)
  null-field type tail h ends = by (o.style == 1)
    where
      same : doubled o.quote o.null ≡ o.null
      same = doubled-lacks o.quote o.null (lacks-quote o.null h)

      by : (t : Bool) → IsFieldText (line_marks o) ((if t then quoted_null o.quote o.null else o.null) ++ tail)
      by true = subst (λ l. IsFieldText (line_marks o) ((o.quote ∷ (l ++ o.quote ∷ [])) ++ tail)) same (quoted-field o.null tail ends)
      by false = bare-field o.null tail h ends

pub values-are-fields : (o : WriteOptions) (is_null : NullTest) (type : DataType) (value : Scalar) (tail : List ℕ) → IsWritable o is_null type value → AreApart o → IsLineTail tail
    → IsFieldText (line_marks o) (written_cell o type (Some value) ++ tail)
values-are-fields o is_null type value tail h apart ends = written-field o apart is_null type value tail h ends

pub nulls-are-fields : (o : WriteOptions) (type : DataType) (tail : List ℕ) → list_all (is_inner (line_marks o) o.quote) o.null ≡ true → AreApart o → IsLineTail tail
    → IsFieldText (line_marks o) (written_cell o type None ++ tail)
nulls-are-fields o type tail h apart ends = null-field o apart type tail h ends
