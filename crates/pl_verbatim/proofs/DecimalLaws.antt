-- Digits and a point that stand as a decimal is printed.
use Rattle.std.proofs.Common.{◌≡◌, ℕ, suc, pred, ◌+◌, ◌-◌, ◌*◌, ◌^◌, ◌<◌, ◌≤◌, Bool, true, false, not, ◌||◌, ◌==◌, if◌then◌else◌, List, [], ◌∷◌, ◌++◌, length, replicate, get_or, pos, negsuc, refl, sym, ap, ap₂, subst, ◌∙◌, arith, length-append}
use Rattle.std.specs.Prelude.{decimal, slice_range}
use Rattle.std.specs.Char.{is_ascii_digit}
use Rattle.std.specs.List.{list_any}
use Rattle.std.specs.Str.{all_ascii_digits}
use Rattle.std.proofs.lemmas.Bool.{cases_eq, cases_lt, ne_eqb}
use Rattle.std.proofs.lemmas.Fmt.{decimal_digit, length-decimal-le_wide}
use Rattle.std.proofs.lemmas.List.{take_at, drop_at}
use mathlib.Core.Logic.{inl, inr}
use Rattle.pl_text.specs.ValueText.{padded, point_text}
use Rattle.pl_cells.specs.Integers.{number_after, number_of}
use Rattle.pl_cells.proofs.IntegerLaws.{all_ascii_digits-append, and_true, number_after-append, number_after-ge}
use Rattle.pl_round_trip.proofs.PointLaws.{no_minus}
use Rattle.pl_verbatim.specs.CellTexts.{IsDecimalText}
use Rattle.pl_verbatim.proofs.NumberLaws.{digit_near, number-few, number-some, decimal-some, slice-cons, slice-parts, DigitsAt}
use Rattle.pl_verbatim.proofs.WholeLaws.{BeginsAt}

-- ---- digits and zeros in front

-- no zeros in front
padded-bare : (width n : ℕ) → width ≤ length (decimal n) → padded width n ≡ decimal n
padded-bare width n h =
    let none : width - length (decimal n) ≡ 0 = omega arith in
    ap (λ (k : ℕ). replicate k 48 ++ decimal n) none

-- so many digits are their number's, with zeros in front of it to so many
padded-is : (xs : List ℕ) → 0 < length xs → length xs ≤ 64 → all_ascii_digits xs ≡ true → padded (length xs) (number_of xs) ≡ xs
padded-is [] some few all = absurd (omega arith)
padded-is (x ∷ xs) some few all = elim (cases_eq x 48) [
  | inl none ↦
      let parts = and_true (is_ascii_digit x) (all_ascii_digits xs) all in
      let same : number_of (x ∷ xs) ≡ number_of xs = ap (λ (d : ℕ). number_after d xs) (omega (arith, none)) in
      ap (padded (suc (length xs))) same ∙ behind xs (λ (more : 0 < length xs). padded-is xs more (omega arith) parts.1) parts.1 (omega arith) ∙ ap (λ (d : ℕ). d ∷ xs) (sym none)
  | inr other ↦
      let is = decimal-some (x ∷ xs) some few all other in
      padded-bare (length (x ∷ xs)) (number_of (x ∷ xs)) (omega (arith, ap length is)) ∙ is
]
  where
    behind : (ys : List ℕ) → (0 < length ys → padded (length ys) (number_of ys) ≡ ys) → all_ascii_digits ys ≡ true → length ys ≤ 64 → padded (suc (length ys)) (number_of ys) ≡ 48 ∷ ys
    behind [] rest all few = padded-bare 1 0 (omega (arith, ap length (decimal_digit 0 (omega arith)))) ∙ decimal_digit 0 (omega arith)
    behind (y ∷ ys) rest all few =
        let n = number_of (y ∷ ys) in
        let small = number-few (y ∷ ys) (length (y ∷ ys)) all (omega arith) in
        let short = length-decimal-le_wide (length (y ∷ ys)) n (omega arith) small (number-few (y ∷ ys) 64 all few) in
        let more : suc (length (y ∷ ys)) - length (decimal n) ≡ suc (length (y ∷ ys) - length (decimal n)) = omega (arith, short) in
        ap (λ (k : ℕ). replicate k 48 ++ decimal n) more ∙ ap (λ (l : List ℕ). 48 ∷ l) (rest (omega arith))

-- digits, the first of which is a zero only where there are no more than so many
pub padded-digits : (width : ℕ) (xs : List ℕ) → 0 < width → width ≤ length xs → length xs ≤ 64 → all_ascii_digits xs ≡ true → (get_or xs 0 0 ≡ 48 → length xs ≡ width) → padded width (number_of xs) ≡ xs
padded-digits width xs some wide few all lead = elim (cases_eq (get_or xs 0 0) 48) [
  | inl none ↦ ap (λ (k : ℕ). padded k (number_of xs)) (sym (lead none)) ∙ padded-is xs (omega arith) few all
  | inr other ↦
      let is = decimal-some xs (omega arith) few all other in
      padded-bare width (number_of xs) (omega (arith, ap length is)) ∙ is
]

-- ---- the point

pub point-parts : (scale : ℕ) (w f : List ℕ) → 0 < scale → length f ≡ scale → point_text scale (w ++ f) ≡ w ++ 46 ∷ f
point-parts scale w f some long =
    let at : length w ≡ length (w ++ f) - scale = omega (arith, length-append w f) in
    let test : (scale == 0) ≡ false = ne_eqb scale 0 (λ (e : scale ≡ 0). omega arith) in
    ap₂ (λ (a b : List ℕ). a ++ (if scale == 0 then [] else 46 ∷ b)) (take_at w f (length (w ++ f) - scale) at) (drop_at w f (length (w ++ f) - scale) at)
    ∙ ap (λ (t : Bool). w ++ (if t then [] else 46 ∷ f)) test

-- digits in front of the point and so many behind it
pub record Parts (digits scale : ℕ) (w f : List ℕ) : Type 0 where
  pub wide : digits ≤ 64
  pub scaled : 0 < scale
  pub front : 0 < length w
  pub behind : length f ≡ scale
  pub few : length w + scale ≤ digits
  pub all : (all_ascii_digits w ≡ true) × (all_ascii_digits f ≡ true)
  pub lead : get_or w 0 0 ≡ 48 → length w ≡ 1

first-of : (w f : List ℕ) → 0 < length w → get_or (w ++ f) 0 0 ≡ get_or w 0 0
first-of [] f some = absurd (omega arith)
first-of (x ∷ w) f some = refl

both-digits : (w f : List ℕ) → all_ascii_digits w ≡ true → all_ascii_digits f ≡ true → all_ascii_digits (w ++ f) ≡ true
both-digits w f a b = rw (all_ascii_digits-append w f, a, b) refl

parts-text : {digits scale : ℕ} {w f : List ℕ} → Parts digits scale w f → point_text scale (padded (scale + 1) (number_of (w ++ f))) ≡ w ++ 46 ∷ f
parts-text {digits = digits} {scale = scale} {w = w} {f = f} p =
    let sum : length (w ++ f) ≡ length w + scale = omega (arith, length-append w f, p.behind) in
    let lead : get_or (w ++ f) 0 0 ≡ 48 → length (w ++ f) ≡ scale + 1 = λ (e : get_or (w ++ f) 0 0 ≡ 48). omega (arith, sum, p.lead (sym (first-of w f p.front) ∙ e)) in
    ap (point_text scale) (padded-digits (scale + 1) (w ++ f) (omega arith) (omega (arith, sum, p.front)) (omega (arith, sum, p.few, p.wide)) (both-digits w f p.all.0 p.all.1) lead)
    ∙ point-parts scale w f p.scaled p.behind

parts-few : {digits scale : ℕ} {w f : List ℕ} → Parts digits scale w f → number_of (w ++ f) < 10 ^ digits
parts-few {digits = digits} {scale = scale} {w = w} {f = f} p =
    number-few (w ++ f) digits (both-digits w f p.all.0 p.all.1) (omega (arith, length-append w f, p.behind, p.few))

-- ---- the number

-- a digit that is no zero makes a number
nonzero-after : (n : ℕ) (xs : List ℕ) → all_ascii_digits xs ≡ true → list_any (λ x. not (x == 48)) xs ≡ true → 0 < number_after n xs
nonzero-after n [] all any = absurd (cc)
nonzero-after n (x ∷ xs) all any =
    let parts = and_true (is_ascii_digit x) (all_ascii_digits xs) all in
    elim (cases_eq x 48) [
      | inl none ↦ nonzero-after (n * 10 + (x - 48)) xs parts.1 (ap (λ (d : ℕ). not (d == 48) || list_any (λ y. not (y == 48)) xs) (sym none) ∙ any)
      | inr other ↦
          let near = digit_near x parts.0 in
          let above : 48 < x = omega (arith, near.0, other) in
          omega (arith, above, number_after-ge (n * 10 + (x - 48)) xs)
    ]

parts-some : {digits scale : ℕ} {w f : List ℕ} → Parts digits scale w f → (get_or w 0 0 ≡ 48 → list_any (λ x. not (x == 48)) f ≡ true) → 0 < number_of (w ++ f)
parts-some {w = w} {f = f} p nonzero =
    let is = number_after-append 0 w f in
    elim (cases_eq (get_or w 0 0) 48) [
      | inl none ↦ omega (arith, is, nonzero-after (number_of w) f p.all.1 (nonzero none))
      | inr other ↦ omega (arith, is, number-some w p.all.0 other p.front, number_after-ge (number_of w) f)
    ]

-- ---- texts

pub bare : (digits scale : ℕ) (w f : List ℕ) → Parts digits scale w f → IsDecimalText digits scale (w ++ 46 ∷ f)
bare digits scale w f p = record {
  number = pos (number_of (w ++ f));
  few = parts-few p;
  text_is = sym (ap (λ (t : Bool). (if t then 45 ∷ [] else []) ++ point_text scale (padded (scale + 1) (number_of (w ++ f)))) (no_minus (number_of (w ++ f))) ∙ parts-text p);
}

pub minus : (digits scale : ℕ) (w f : List ℕ) → Parts digits scale w f → (get_or w 0 0 ≡ 48 → list_any (λ x. not (x == 48)) f ≡ true) → IsDecimalText digits scale (45 ∷ (w ++ 46 ∷ f))
minus digits scale w f p nonzero =
    let above : suc (pred (number_of (w ++ f))) ≡ number_of (w ++ f) = omega (arith, parts-some p nonzero) in
    record {
      number = negsuc (pred (number_of (w ++ f)));
      few = omega (arith, above, parts-few p);
      text_is = ap (λ (l : List ℕ). 45 ∷ l) (sym (ap (λ (n : ℕ). point_text scale (padded (scale + 1) n)) above ∙ parts-text p));
    }

-- ---- places

-- digits from one place, a point, and digits from behind it to another place
pub record PointAt (digits scale : ℕ) (text : List ℕ) (from point end : ℕ) : Type 0 where
  pub wide : digits ≤ 64
  pub scaled : 0 < scale
  pub front : DigitsAt text from point
  pub some : from < point
  pub inside : point < length text
  pub is_point : get_or text point 0 ≡ 46
  pub behind : DigitsAt text (point + 1) end
  pub long : end - (point + 1) ≡ scale
  pub few : (point - from) + scale ≤ digits
  pub lead : get_or text from 0 ≡ 48 → point - from ≤ 1

parts-at : {digits scale : ℕ} {text : List ℕ} {from point end : ℕ} → PointAt digits scale text from point end → Parts digits scale (slice_range text from point) (slice_range text (point + 1) end)
parts-at {text = text} {from = from} {point = point} p = record {
  wide = p.wide;
  scaled = p.scaled;
  front = omega (arith, p.front.long, p.some);
  behind = p.behind.long ∙ p.long;
  few = omega (arith, p.front.long, p.few);
  all = (p.front.all, p.behind.all);
  lead = λ (e : get_or (slice_range text from point) 0 0 ≡ 48). omega (arith, p.some, p.front.long, p.lead (sym (p.front.first p.some) ∙ e));
}

text-parts : {digits scale : ℕ} {text : List ℕ} {from point end : ℕ} → PointAt digits scale text from point end → slice_range text from end ≡ slice_range text from point ++ 46 ∷ slice_range text (point + 1) end
text-parts {text = text} {from = from} {point = point} {end = end} p =
    slice-parts text from point end (omega (arith, p.some)) (omega (arith, p.behind.low))
    ∙ ap (λ (l : List ℕ). slice_range text from point ++ l) (slice-cons text point end p.inside (omega (arith, p.behind.low)) ∙ ap (λ (x : ℕ). x ∷ slice_range text (point + 1) end) p.is_point)

pub decimal-at : (digits scale : ℕ) (text : List ℕ) (at from point end : ℕ) → BeginsAt true text at from → PointAt digits scale text from point end
    → (at < from → get_or text from 0 ≡ 48 → list_any (λ x. not (x == 48)) (slice_range text (point + 1) end) ≡ true)
    → IsDecimalText digits scale (slice_range text at end)
decimal-at digits scale text at from point end begins p nonzero =
    let w = slice_range text from point in
    let f = slice_range text (point + 1) end in
    elim (cases_lt at from) [
      | inl behind ↦
          let next : at + 1 ≡ from = omega (arith, behind, begins.high) in
          let whole : slice_range text at end ≡ 45 ∷ (w ++ 46 ∷ f) =
          slice-cons text at end (omega (arith, behind, p.some, p.inside)) (omega (arith, behind, p.some, p.behind.low))
          ∙ ap₂ (λ (x k : ℕ). x ∷ slice_range text k end) (begins.minus behind).1 next ∙ ap (λ (l : List ℕ). 45 ∷ l) (text-parts p) in
          subst (λ (l : List ℕ). IsDecimalText digits scale l) (sym whole) (minus digits scale w f (parts-at p) (λ (e : get_or w 0 0 ≡ 48). nonzero behind (sym (p.front.first p.some) ∙ e)))
      | inr same ↦
          let here : at ≡ from = omega (arith, same, begins.low) in
          subst (λ (l : List ℕ). IsDecimalText digits scale l) (sym (ap (λ (k : ℕ). slice_range text k end) here ∙ text-parts p)) (bare digits scale w f (parts-at p))
    ]
