-- No text of a value is empty.
use Rattle.std.proofs.Common.{◌≡◌, ℕ, zero, suc, ◌+◌, ◌-◌, ◌/◌, ◌%◌, ◌<◌, ◌≤◌, Bool, true, false, ◌==◌, if◌then◌else◌, List, [], ◌∷◌, length, take, drop, replicate, ℤ, pos, negsuc, unsigned_abs, refl, ap, arith, length-append, length-take}
use Rattle.std.specs.Prelude.{decimal, slice_range}
use Rattle.std.specs.Fmt.{digit_glyph, digits, digits_onto, signed_decimal}
use Rattle.std.specs.Int.{is_negative}
use Rattle.std.proofs.lemmas.List.{length-replicate}
use Rattle.pl_frame.specs.declared.data_type.DataType.TheVariants as dtype
use Rattle.pl_frame.specs.Frame.{Truth, Number}
use Rattle.pl_text.specs.ValueText.{padded, point_text, decimal_text, date_text, printed}
use Rattle.pl_text.specs.FrameText.{needs_quotes, quoted}
use Rattle.pl_frame.specs.Types.{is_within, day_range}
use Rattle.pl_round_trip.proofs.PlainLaws.{printed-plain}
use Rattle.pl_verbatim.specs.CellTexts.{IsWholeText, IsDecimalText, IsDateText, IsWrittenText, written}

-- ---- digits

-- at least what stands behind them
onto-long : (k base : ℕ) (upper : Bool) (n : ℕ) (acc : List ℕ) → length acc ≤ length (digits_onto k base upper n acc)
onto-long zero base upper n acc = omega arith
onto-long (suc k) base upper n acc = chosen (n / base == 0) (digit_glyph upper (n % base)) acc (digits_onto k base upper (n / base) (digit_glyph upper (n % base) ∷ acc)) (onto-long k base upper (n / base) (digit_glyph upper (n % base) ∷ acc))
  where
    chosen : (t : Bool) (x : ℕ) (xs more : List ℕ) → length (x ∷ xs) ≤ length more → length xs ≤ length (if t then x ∷ xs else more)
    chosen true x xs more h = omega arith
    chosen false x xs more h = omega (arith, h)

onto-some : (k base : ℕ) (upper : Bool) (n : ℕ) → 0 < length (digits_onto (suc k) base upper n [])
onto-some k base upper n = by (n / base == 0)
  where
    one : List ℕ
    one = digit_glyph upper (n % base) ∷ []

    by : (t : Bool) → 0 < length (if t then one else digits_onto k base upper (n / base) one)
    by true = omega arith
    by false = omega (arith, onto-long k base upper (n / base) one)

decimal-some : (n : ℕ) → 0 < length (decimal n)
unfolding digits
decimal-some n = onto-some 63 10 false n

signed-some : (n : ℤ) → 0 < length (signed_decimal n)
signed-some (pos n) = decimal-some n
signed-some (negsuc n) = omega arith

padded-wide : (w n : ℕ) → w ≤ length (padded w n)
padded-wide w n = let k = w - length (decimal n) in omega (arith, length-append (replicate k 48) (decimal n), length-replicate {A = ℕ} k 48)

point-some : (scale : ℕ) (ds : List ℕ) → scale + 1 ≤ length ds → 0 < length (point_text scale ds)
point-some scale ds wide =
    let front = take (length ds - scale) ds in
    let rest : List ℕ = if scale == 0 then [] else 46 ∷ drop (length ds - scale) ds in
    omega (arith, wide, length-append front rest, length-take (length ds - scale) ds)

decimal_text-some : (scale : ℕ) (n : ℤ) → 0 < length (decimal_text scale n)
decimal_text-some scale n =
    let ds = padded (scale + 1) (unsigned_abs n) in
    let sign : List ℕ = if is_negative n then 45 ∷ [] else [] in
    omega (arith, length-append sign (point_text scale ds), point-some scale ds (padded-wide (scale + 1) (unsigned_abs n)))

written-some : (separator quote : ℕ) (text : List ℕ) → 0 < length (written separator quote text)
written-some separator quote [] = omega arith
written-some separator quote (x ∷ text) = by (needs_quotes separator quote (x ∷ text))
  where
    by : (t : Bool) → 0 < length (if t then quoted quote (x ∷ text) else x ∷ text)
    by true = omega arith
    by false = omega arith

pub boolean-some : (truth : Bool) → 0 < length (printed dtype.Boolean (Truth truth))
boolean-some true = omega arith
boolean-some false = omega arith

date-some : (day : ℤ) → is_within day_range day ≡ true → 0 < length (date_text day)
date-some day within = (printed-plain dtype.Date (Number day) refl (record { can = refl; held = within; counted = refl })).0

-- ---- values

longer : (text : List ℕ) (at end : ℕ) (own : List ℕ) → slice_range text at end ≡ own → 0 < length own → at < end
longer text at end own is some = omega (arith, ap length is, some, length-take (end - at) (drop at text))

pub text-longer : (separator quote : ℕ) (text : List ℕ) (at end : ℕ) → IsWrittenText separator quote (slice_range text at end) → at < end
text-longer separator quote text at end w = longer text at end (written separator quote w.inner) w.text_is (written-some separator quote w.inner)

pub whole-longer : (digits : ℕ) (is_signed : Bool) (text : List ℕ) (at end : ℕ) → IsWholeText digits is_signed (slice_range text at end) → at < end
whole-longer digits is_signed text at end w = longer text at end (signed_decimal w.number) w.text_is (signed-some w.number)

pub date-longer : (text : List ℕ) (at end : ℕ) → IsDateText (slice_range text at end) → at < end
date-longer text at end w = longer text at end (date_text w.day) w.text_is (date-some w.day w.within)

pub decimal-longer : (digits scale : ℕ) (text : List ℕ) (at end : ℕ) → IsDecimalText digits scale (slice_range text at end) → at < end
decimal-longer digits scale text at end w = longer text at end (decimal_text scale w.number) w.text_is (decimal_text-some scale w.number)
