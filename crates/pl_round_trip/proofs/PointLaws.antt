-- Decimals that are printed and read.
use Rattle.std.proofs.Common.{◌≡◌, ℕ, zero, suc, ◌+◌, ◌-◌, ◌^◌, ◌<◌, ◌≤◌, Bool, true, false, ◌&&◌, ◌==◌, if◌then◌else◌, List, [], ◌∷◌, ◌++◌, length, take, drop, replicate, Option, None, Some, ℤ, pos, negsuc, neg_ℤ, unsigned_abs, refl, sym, ◌∙◌, ap, arith, length-append, length-drop, length-take}
use Rattle.std.specs.Prelude.{decimal, unwrap_or}
use Rattle.std.specs.Int.{is_negative}
use Rattle.std.specs.Option.{option_map}
use Rattle.std.specs.Str.{all_ascii_digits}
use Rattle.std.specs.Char.{is_ascii_digit}
use Rattle.std.proofs.lemmas.List.{take_all, drop_all, take-append-drop}
use Rattle.std.proofs.lemmas.Bool.Decides.{nat_tests}
use Rattle.jiff_core.proofs.SignedLemmas.{signed_arith}
use Rattle.pl_frame.specs.declared.data_type.DataType.TheVariants as dtype
use Rattle.pl_frame.specs.Columns.{is_value_of}
use Rattle.pl_frame.specs.Frame.{Number}
use Rattle.pl_text.specs.ValueText.{padded, point_text, decimal_text}
use Rattle.pl_frame.specs.Types.{is_readable, is_within, from_to, decimal_range}
use Rattle.pl_cells.specs.Integers as text
use Rattle.pl_cells.specs.Integers.{is_digits, number_of, without_sign, signed, only_within}
use Rattle.pl_cells.specs.Times.{filled}
use Rattle.pl_cells.specs.Decimals.{before_point, behind_point, is_decimal, scaled, decimal_of, decimal_value}
use Rattle.pl_cells.proofs.IntegerLaws.{all_ascii_digits-append, is_digits-cons, and_true}
use Rattle.pl_cells.proofs.DecimalLaws.{precision-bound, power-some, power-small}
use Rattle.pl_round_trip.specs.RoundTrip.{Returns}
use Rattle.pl_round_trip.proofs.NumeralLaws.{Writes, padded-writes, digits-bare, digits-positive}

append_nil : (xs : List ℕ) → xs ++ [] ≡ xs
append_nil [] = refl
append_nil (x ∷ xs) = ap (λ l. x ∷ l) (append_nil xs)

-- ---- the point

no_point : (x : ℕ) → is_ascii_digit x ≡ true → (x == 46) ≡ false
no_point x h = grind (arith, nat_tests)

before-step : (x : ℕ) (xs : List ℕ) → (x == 46) ≡ false → before_point (x ∷ xs) ≡ x ∷ before_point xs
before-step x xs e = rw (e, before_point) refl

behind-step : (x : ℕ) (xs : List ℕ) → (x == 46) ≡ false → behind_point (x ∷ xs) ≡ behind_point xs
behind-step x xs e = rw (e, behind_point) refl

-- digits, and then what stands behind them
before-digits : (w ys : List ℕ) → all_ascii_digits w ≡ true → before_point (w ++ ys) ≡ w ++ before_point ys
before-digits [] ys all = refl
before-digits (x ∷ w) ys all =
    let parts = and_true (is_ascii_digit x) (all_ascii_digits w) all in
    before-step x (w ++ ys) (no_point x parts.0) ∙ ap (λ l. x ∷ l) (before-digits w ys parts.1)

behind-digits : (w ys : List ℕ) → all_ascii_digits w ≡ true → behind_point (w ++ ys) ≡ behind_point ys
behind-digits [] ys all = refl
behind-digits (x ∷ w) ys all =
    let parts = and_true (is_ascii_digit x) (all_ascii_digits w) all in
    behind-step x (w ++ ys) (no_point x parts.0) ∙ behind-digits w ys parts.1

abbrev pub pointed : ℕ → List ℕ → List ℕ
pointed scale f = if scale == 0 then [] else 46 ∷ f

more_than_none : (scale : ℕ) → (suc scale == 0) ≡ false
more_than_none scale = grind (arith, nat_tests)

before-pointed : (scale : ℕ) (f : List ℕ) → before_point (pointed scale f) ≡ []
before-pointed zero f = refl
before-pointed (suc scale) f = ap (λ (t : Bool). before_point (if t then [] else 46 ∷ f)) (more_than_none scale)

behind-pointed : (scale : ℕ) (f : List ℕ) → length f ≡ scale → behind_point (pointed scale f) ≡ f
behind-pointed zero [] h = refl
behind-pointed zero (x ∷ f) h = absurd (omega arith)
behind-pointed (suc scale) f h = ap (λ (t : Bool). behind_point (if t then [] else 46 ∷ f)) (more_than_none scale)

-- ---- the number

full : (scale : ℕ) (f : List ℕ) → length f ≡ scale → filled scale f ≡ f
full scale f h =
    let none : scale - length f ≡ 0 = omega (arith, h) in
    ap (λ l. l ++ replicate (scale - length f) 48) (take_all scale f (omega (arith, h))) ∙ ap (λ k. f ++ replicate k 48) none ∙ append_nil f

whole_decimal : (scale : ℕ) (w f : List ℕ) → is_digits (w ++ f) ≡ true → length f ≡ scale → is_decimal scale w f ≡ true
whole_decimal scale w f all h = rw (all, drop_all scale f (omega (arith, h))) refl

decimal-is : (precision : Option ℕ) (scale : ℕ) (negative : Bool) (w f : List ℕ) (m : ℕ) → is_digits (w ++ f) ≡ true → length f ≡ scale → number_of (w ++ f) ≡ m
    → decimal_of precision scale negative w f ≡ only_within (decimal_range precision) (signed negative m)
decimal-is precision scale negative w f m all h value =
    chosen (is_decimal scale w f) (whole_decimal scale w f all h)
    ∙ ap (λ k. only_within (decimal_range precision) (signed negative k)) (ap (λ l. number_of (w ++ l)) (full scale f h) ∙ value)
  where
    chosen : (t : Bool) → t ≡ true → (if t then only_within (decimal_range precision) (signed negative (scaled scale w f)) else None) ≡ only_within (decimal_range precision) (signed negative (scaled scale w f))
    chosen true e = refl
    chosen false e = cc

-- ---- the text

-- digits on both sides of the point
pub record Pointed (scale m : ℕ) (w f : List ℕ) : Type 0 where
  some : 0 < length w
  pub digits : all_ascii_digits w ≡ true
  pub behind : all_ascii_digits f ≡ true
  all : is_digits (w ++ f) ≡ true
  long : length f ≡ scale
  value : number_of (w ++ f) ≡ m

pub parted : (scale m : ℕ) (digits : List ℕ) → Writes m digits → scale + 1 ≤ length digits → Pointed scale m (take (length digits - scale) digits) (drop (length digits - scale) digits)
parted scale m digits writes wide =
    let k = length digits - scale in
    let whole : take k digits ++ drop k digits ≡ digits = take-append-drop k digits in
    let both : (all_ascii_digits (take k digits) && all_ascii_digits (drop k digits)) ≡ true = sym (all_ascii_digits-append (take k digits) (drop k digits)) ∙ ap all_ascii_digits whole ∙ writes.all in
    record {
      some = omega (arith, wide, length-take k digits);
      digits = (and_true (all_ascii_digits (take k digits)) (all_ascii_digits (drop k digits)) both).0;
      behind = (and_true (all_ascii_digits (take k digits)) (all_ascii_digits (drop k digits)) both).1;
      all = ap is_digits whole ∙ is_digits-cons digits writes.some ∙ writes.all;
      long = omega (arith, wide, length-drop k digits);
      value = ap number_of whole ∙ writes.value;
    }

-- the digits behind a sign
body : (precision : Option ℕ) (scale : ℕ) (negative : Bool) (m : ℕ) (w f : List ℕ) → Pointed scale m w f
    → decimal_of precision scale negative (before_point (w ++ pointed scale f)) (behind_point (w ++ pointed scale f)) ≡ only_within (decimal_range precision) (signed negative m)
body precision scale negative m w f p =
    ap (λ l. decimal_of precision scale negative l (behind_point (w ++ pointed scale f))) (before-digits w (pointed scale f) p.digits ∙ ap (λ l. w ++ l) (before-pointed scale f) ∙ append_nil w)
    ∙ ap (λ l. decimal_of precision scale negative w l) (behind-digits w (pointed scale f) p.digits ∙ behind-pointed scale f p.long)
    ∙ decimal-is precision scale negative w f m p.all p.long p.value

bare : (precision : Option ℕ) (scale m : ℕ) (w f : List ℕ) → Pointed scale m w f → decimal_value precision scale (w ++ pointed scale f) ≡ only_within (decimal_range precision) (pos m)
bare precision scale m w f p =
    ap (λ l. decimal_of precision scale (text.is_negative (w ++ pointed scale f)) (before_point l) (behind_point l)) (digits-bare w (pointed scale f) p.some p.digits)
    ∙ ap (λ t. decimal_of precision scale t (before_point (w ++ pointed scale f)) (behind_point (w ++ pointed scale f))) (digits-positive w (pointed scale f) p.some p.digits)
    ∙ body precision scale false m w f p

minus : (precision : Option ℕ) (scale m : ℕ) (w f : List ℕ) → Pointed scale m w f → decimal_value precision scale (45 ∷ (w ++ pointed scale f)) ≡ only_within (decimal_range precision) (signed true m)
minus precision scale m w f p = body precision scale true m w f p

pub padded-wide : (w n : ℕ) → w ≤ length (padded w n)
padded-wide w n =
    let k = w - length (decimal n) in
    omega (arith, length-append (replicate k 48) (decimal n), length-replicate k)
  where
    length-replicate : (k : ℕ) → length {A = ℕ} (replicate k 48) ≡ k
    length-replicate zero = refl
    length-replicate (suc k) = ap suc (length-replicate k)

point-returns : (precision : Option ℕ) (scale m : ℕ) → m < 10 ^ 64 → decimal_value precision scale (point_text scale (padded (scale + 1) m)) ≡ only_within (decimal_range precision) (pos m)
point-returns precision scale m bound =
    let ds = padded (scale + 1) m in
    bare precision scale m (take (length ds - scale) ds) (drop (length ds - scale) ds) (parted scale m ds (padded-writes (scale + 1) m bound) (padded-wide (scale + 1) m))

minus-returns : (precision : Option ℕ) (scale m : ℕ) → m < 10 ^ 64 → decimal_value precision scale (45 ∷ point_text scale (padded (scale + 1) m)) ≡ only_within (decimal_range precision) (signed true m)
minus-returns precision scale m bound =
    let ds = padded (scale + 1) m in
    minus precision scale m (take (length ds - scale) ds) (drop (length ds - scale) ds) (parted scale m ds (padded-writes (scale + 1) m bound) (padded-wide (scale + 1) m))

within : (precision : Option ℕ) (n : ℤ) → is_within (decimal_range precision) n ≡ true → only_within (decimal_range precision) n ≡ Some n
within precision n h = rw h refl

pub no_minus : (m : ℕ) → is_negative (pos m) ≡ false
no_minus m = grind (arith, signed_arith)

decimal-returns : (precision : Option ℕ) (scale : ℕ) (n : ℤ) → unsigned_abs n < 10 ^ 64 → is_within (decimal_range precision) n ≡ true → decimal_value precision scale (decimal_text scale n) ≡ Some n
decimal-returns precision scale (pos m) bound h =
    ap (λ t. decimal_value precision scale ((if t then 45 ∷ [] else []) ++ point_text scale (padded (scale + 1) m))) (no_minus m)
    ∙ point-returns precision scale m bound ∙ within precision (pos m) h
decimal-returns precision scale (negsuc m) bound h = minus-returns precision scale (suc m) bound ∙ within precision (negsuc m) h

pub small : (limit : ℕ) (n : ℤ) → 1 ≤ limit → limit ≤ 10 ^ 38 → is_within (from_to (neg_ℤ (pos (limit - 1))) (pos (limit - 1))) n ≡ true → unsigned_abs n < 10 ^ 64
small limit n some few h = grind (arith, signed_arith, nat_tests, h, some, few)

pub scaled-small : (precision : Option ℕ) (scale : ℕ) (n : ℤ) → is_readable (dtype.Decimal precision (Some scale)) ≡ true
    → is_value_of (dtype.Decimal precision (Some scale)) (Number n) ≡ true → unsigned_abs n < 10 ^ 64
scaled-small precision scale n readable h =
    let k = unwrap_or precision 38 in
    small (10 ^ k) n (power-some k) (power-small k (precision-bound precision scale readable)) h

pub scaled-returns : (precision : Option ℕ) (scale : ℕ) (n : ℤ) → is_readable (dtype.Decimal precision (Some scale)) ≡ true
    → is_value_of (dtype.Decimal precision (Some scale)) (Number n) ≡ true → Returns (dtype.Decimal precision (Some scale)) (Number n)
scaled-returns precision scale n readable h = ap (option_map Number) (decimal-returns precision scale n (scaled-small precision scale n readable h) h)
