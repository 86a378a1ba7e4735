-- The fields of a made input, each the text of a field, and a cell without a fault.
use Rattle.std.proofs.Common.{◌≡◌, ℕ, zero, suc, ◌+◌, ◌-◌, ◌*◌, ◌/◌, ◌%◌, ◌<◌, ◌≤◌, nat_le, Bool, true, false, ◌&&◌, ◌||◌, List, [], ◌∷◌, ◌++◌, length, replicate, take, drop, Option, None, Some, pos, refl, sym, ◌∙◌, ap, subst, append-nil, append_assoc, length-append, inl, inr, arith}
use Rattle.std.specs.Prelude.{◌==◌, if◌then◌else◌, decimal, codes, Ok}
use Rattle.std.specs.Char.{is_ascii_digit}
use Rattle.std.specs.List.{list_any}
use Rattle.std.specs.Str.{all_ascii_digits, is_utf8, chars, IsAscii}
use Rattle.std.specs.Char.{encode_utf8}
use Rattle.std.proofs.lemmas.Bool.Decides.{nat_tests}
use Rattle.std.proofs.lemmas.Fmt.{decimal_digit, decimal_step, IsAscii-decimal}
use Rattle.std.proofs.lemmas.Str.{IsUtf8-from_ascii, is_utf8-from_IsUtf8}
use Rattle.std.specs.Int.{is_negative}
use Rattle.std.proofs.Math.Seq.{drop-append_seam, take-append_seam}
use Rattle.jiff_core.proofs.SignedLemmas.{signed_arith}
use Rattle.pl_frame.specs.Dialect.{Marks, marks}
use Rattle.pl_frame.specs.Frame.{Scalar, Number, Letters}
use Rattle.pl_text.specs.ValueText.{decimal_text, padded, point_text}
use Rattle.pl_text.specs.FrameText.{WriteOptions, quoted, is_special, written_cell, written_text}
use Rattle.pl_frame.specs.Types.{is_within, decimal_range}
use Rattle.pl_frame.specs.declared.data_type.DataType.{DataType}
use Rattle.pl_frame.specs.declared.data_type.DataType.TheVariants as dtype
use Rattle.pl_cells.proofs.IntegerLaws.{and_true}
use Rattle.pl_cells.specs.Cells.{Reading, cell}
use Rattle.pl_cells.specs.NullTest.{NullTest}
use Rattle.pl_cells.specs.declared.utf8.CsvEncoding.TheVariants as encoding
use Rattle.pl_csv.specs.MadeInput.{quoted_name, name_field, day_field, amount_field}
use Rattle.pl_round_trip.proofs.NumeralLaws.{decimal-writes}
use Rattle.pl_round_trip.specs.RoundTrip.{IsReadable, IsWritable, FieldsReturn, ValuesAreFields, IsFieldText, AreApart}

-- how a made input is cut, read and written
abbrev pub comma_marks : Marks
comma_marks = marks 44 (Some 34) 10

abbrev pub plain_reading : Reading
plain_reading = record { encoding = encoding.Utf8; missing_is_null = true; ignore_errors = false }

abbrev pub plain_options : WriteOptions
plain_options = record { separator = 44; quote = 34; null = []; terminator = 10 ∷ []; style = 0; include_bom = false; include_header = true }

abbrev pub never_null : NullTest
never_null text = false

-- the text of a field that is read without a fault
pub record IsSound (type : DataType) (text : List ℕ) : Type 0 where
  pub is_field : IsFieldText comma_marks text
  pub value : Option Scalar
  pub is_cell : cell plain_reading never_null (Some 34) type text ≡ Ok value

apart : AreApart plain_options
apart = record {
  distinct = (λ e. omega (arith, e), (λ e. omega (arith, e), λ e. omega (arith, e)));
  no_return = λ e. omega (arith, e);
  separator_no_return = λ e. omega (arith, e);
  separator_no_number = refl;
}

writable : (type : DataType) (value : Scalar) → IsReadable type value → IsWritable plain_options never_null type value
writable type value readable = record {
  readable = readable;
  mark = refl;
  no_return = λ e. omega (arith, e);
  bare = λ style text. absurd (omega (arith, style));
  meant = refl;
}

-- the fields of a row are sound
pub record IsSoundRow (row : ℕ) : Type 0 where
  pub number : IsSound dtype.Int64 (decimal row)
  pub name : IsSound dtype.String (name_field row)
  pub day : IsSound dtype.Date (day_field row)
  pub amount : IsSound (dtype.Decimal None (Some 2)) (amount_field row)

-- ---- names

-- no digit is special
digit_special : (x : ℕ) → is_ascii_digit x ≡ true → is_special 44 34 x ≡ false
digit_special x h = grind (arith, nat_tests, h)

no_special : (xs : List ℕ) → all_ascii_digits xs ≡ true → list_any (is_special 44 34) xs ≡ false
no_special [] all = refl
no_special (x ∷ xs) all =
    let parts = and_true (is_ascii_digit x) (all_ascii_digits xs) all in
    ap (λ t. t || list_any (is_special 44 34) xs) (digit_special x parts.0) ∙ no_special xs parts.1

-- a name with digits needs no quotes
bare_name : (k : ℕ) → k < 100 → written_text plain_options (112 ∷ decimal k) ≡ 112 ∷ decimal k
bare_name k small =
    let some : (length (112 ∷ decimal k) == 0) ≡ false = grind (arith, nat_tests) in
    let none : list_any (is_special 44 34) (decimal k) ≡ false = no_special (decimal k) (decimal-writes k (omega (arith, small))).all in
    (λ i. if some i || none i then quoted 34 (112 ∷ decimal k) else 112 ∷ decimal k)

-- and is UTF-8
ascii-cons : (x : ℕ) (xs : List ℕ) → x < 128 → IsAscii xs → IsAscii (x ∷ xs)
ascii-cons x xs small ascii zero = small
ascii-cons x xs small ascii (suc i) = ascii i

name_utf8 : (k : ℕ) → k < 100 → (is_utf8 (112 ∷ decimal k) && true) ≡ true
name_utf8 k small =
    ap (λ t. t && true) (is_utf8-from_IsUtf8 (112 ∷ decimal k) (IsUtf8-from_ascii (112 ∷ decimal k) (ascii-cons 112 (decimal k) (omega arith) (IsAscii-decimal k (omega (arith, small))))))

-- the name between quotes
sound_quoted : IsSound dtype.String quoted_name
unfolding is_utf8 chars encode_utf8
sound_quoted = record {
  is_field = inl (34, 97 ∷ 34 ∷ 98 ∷ 44 ∷ 10 ∷ 99 ∷ [], [], refl, refl, refl);
  value = Some (Letters (97 ∷ 34 ∷ 98 ∷ 44 ∷ 10 ∷ 99 ∷ []));
  is_cell = refl;
}

-- ---- amounts

sound_none : IsSound (dtype.Decimal None (Some 2)) []
sound_none = record { is_field = inr (refl, refl); value = None; is_cell = refl }

in_range : (n : ℕ) → n < 100000 → is_within (decimal_range None) (pos n) ≡ true
in_range n small = grind (arith, signed_arith, small)

-- the digits of so many hundredths
hundredths : (k : ℕ) → k < 1000 → padded 3 (100 * k + 25) ≡ decimal k ++ 50 ∷ 53 ∷ []
hundredths k small = by_size (nat_le 1 k) refl
  where
    by_size : (t : Bool) → nat_le 1 k ≡ t → padded 3 (100 * k + 25) ≡ decimal k ++ 50 ∷ 53 ∷ []
    by_size true h =
        let some : 1 ≤ k = grind (arith, nat_tests, h) in
        let n = 100 * k + 25 in
        let a : n / 10 ≡ 10 * k + 2 = omega arith in
        let b : n % 10 ≡ 5 = omega arith in
        let c : (10 * k + 2) / 10 ≡ k = omega arith in
        let d : (10 * k + 2) % 10 ≡ 2 = omega arith in
        let front = decimal_step (10 * k + 2) (omega (arith, some)) (omega (arith, small)) ∙ (λ i. decimal (c i) ++ (48 + d i) ∷ []) in
        let whole = decimal_step n (omega (arith, some)) (omega (arith, small)) ∙ (λ i. decimal (a i) ++ (48 + b i) ∷ []) ∙ ap (λ l. l ++ 53 ∷ []) front ∙ append_assoc (decimal k) (50 ∷ []) (53 ∷ []) in
        let wide : 3 - length (decimal k ++ 50 ∷ 53 ∷ []) ≡ 0 = omega (arith, length-append (decimal k) (50 ∷ 53 ∷ []), (decimal-writes k (omega (arith, small))).some) in
        ap (λ l. replicate (3 - length l) 48 ++ l) whole ∙ ap (λ j. replicate j 48 ++ (decimal k ++ 50 ∷ 53 ∷ [])) wide
    by_size false h =
        let none : k ≡ 0 = grind (arith, nat_tests, h) in
        let digits : decimal 25 ≡ 50 ∷ 53 ∷ [] = decimal_step 25 (omega arith) (omega arith) ∙ ap (λ l. l ++ 53 ∷ []) (decimal_digit 2 (omega arith)) in
        ap (λ j. padded 3 (100 * j + 25)) none
        ∙ ap (λ l. replicate (3 - length l) 48 ++ l) digits
        ∙ ap (λ l. l ++ 50 ∷ 53 ∷ []) (sym (decimal_digit 0 (omega arith)) ∙ ap decimal (sym none))

-- a point before the last two digits
pointed : (front : List ℕ) → point_text 2 (front ++ 50 ∷ 53 ∷ []) ≡ front ++ 46 ∷ 50 ∷ 53 ∷ []
pointed front =
    let last : List ℕ = 50 ∷ 53 ∷ [] in
    let cut : length (front ++ last) - 2 ≡ length front = omega (arith, length-append front last) in
    ap (λ k. take k (front ++ last) ++ 46 ∷ drop k (front ++ last)) cut
    ∙ (λ i. take-append_seam front last i ++ 46 ∷ drop-append_seam front last i)

amount_text : (k : ℕ) → k < 1000 → decimal_text 2 (pos (100 * k + 25)) ≡ decimal k ++ codes ".25"
amount_text k small =
    let n = 100 * k + 25 in
    let whole : is_negative (pos n) ≡ false = grind (arith, signed_arith) in
    ap (λ t. (if t then 45 ∷ [] else []) ++ point_text 2 (padded 3 n)) whole
    ∙ ap (point_text 2) (hundredths k small)
    ∙ pointed (decimal k)

-- ---- by the laws of what is printed and read

module _ (fields_return : FieldsReturn) (values_are : ValuesAreFields) where
  -- what is written of a value
  sound_value : (type : DataType) (value : Scalar) → IsReadable type value → IsSound type (written_cell plain_options type (Some value))
  sound_value type value readable = record {
    is_field = subst (IsFieldText comma_marks) (append-nil (written_cell plain_options type (Some value))) (values_are plain_options never_null type value [] (writable type value readable) apart (inl refl));
    value = Some value;
    is_cell = fields_return plain_reading never_null plain_options type value (writable type value readable);
  }

  sound_number : (n : ℕ) → n < 1000000 → IsSound dtype.Int64 (decimal n)
  sound_number n small = sound_value dtype.Int64 (Number (pos n)) (record { can = refl; held = grind (arith, signed_arith, small); counted = refl })

  sound_day : (row : ℕ) → IsSound dtype.Date (day_field row)
  sound_day row =
      let day = 18262 + row % 366 in
      let few : day < 18628 = omega arith in
      sound_value dtype.Date (Number (pos day)) (record { can = refl; held = grind (arith, signed_arith, few); counted = refl })

  -- ---- names

  sound_plain : (row : ℕ) → IsSound dtype.String (112 ∷ decimal (row % 100))
  sound_plain row =
      let text : List ℕ = 112 ∷ decimal (row % 100) in
      subst (IsSound dtype.String) (bare_name (row % 100) (omega arith)) (sound_value dtype.String (Letters text) (record { can = refl; held = name_utf8 (row % 100) (omega arith); counted = refl }))

  sound_name : (row : ℕ) → IsSound dtype.String (name_field row)
  sound_name row = by (row % 4 == 3)
    where
      by : (t : Bool) → IsSound dtype.String (if t then quoted_name else 112 ∷ decimal (row % 100))
      by true = sound_quoted
      by false = sound_plain row

  -- ---- amounts

  sound_some : (k : ℕ) → k < 1000 → IsSound (dtype.Decimal None (Some 2)) (decimal k ++ codes ".25")
  sound_some k small =
      let n = 100 * k + 25 in
      let few : n < 100000 = omega (arith, small) in
      subst (IsSound (dtype.Decimal None (Some 2))) (amount_text k small) (sound_value (dtype.Decimal None (Some 2)) (Number (pos n)) (record { can = refl; held = in_range n few; counted = refl }))

  sound_amount : (row : ℕ) → IsSound (dtype.Decimal None (Some 2)) (amount_field row)
  sound_amount row = by (row % 10 == 9)
    where
      by : (t : Bool) → IsSound (dtype.Decimal None (Some 2)) (if t then [] else decimal (row % 1000) ++ codes ".25")
      by true = sound_none
      by false = sound_some (row % 1000) (omega arith)

  -- ---- rows

  pub sound_row : (row : ℕ) → row < 1000000 → IsSoundRow row
  sound_row row small = record { number = sound_number row small; name = sound_name row; day = sound_day row; amount = sound_amount row }
