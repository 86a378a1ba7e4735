-- Dates that are read in place.
use Rattle.std.proofs.Common.{◌≡◌, ℕ, ◌+◌, ◌-◌, ◌*◌, ◌%◌, ◌^◌, ◌≤◌, ◌==◌, ◌&&◌, ◌||◌, Bool, true, false, nat_lt, nat_eq, if◌then◌else◌, List, [], ◌∷◌, length, drop, get_or, map, Option, Some, None, ℤ, IfSome, refl, sym, ◌∙◌, ap, subst, arith, Fits, w8}
use Rattle.std.proofs.lemmas.Bool.{eqb-true}
use Rattle.std.proofs.lemmas.Bool.Decides.{nat_tests}
use Rattle.std.proofs.lemmas.List.{drop-drop, length-drop, take_all}
use Rattle.std.proofs.lemmas.Simd.{mask_l-mod}
use Rattle.std.specs.Bool.{OnTrue}
use Rattle.std.specs.Char.{is_ascii_digit}
use Rattle.pl_cells.specs.Columns.{begins_number}
use Rattle.pl_cells.specs.Dates.{date_value, number_of_day}
use Rattle.pl_cells.specs.Integers.{digits_value, number_of}
use Rattle.pl_cells.specs.Lanes.{HasDateDigits}
use Rattle.pl_cells.specs.Quoting.{strip}
use Rattle.pl_cells.proofs.LaneLaws.{clear, digit_byte, lane_less, lane_lt}
use Rattle.pl_cells.proofs.PlacedLaws.{digit_no_return, strip_same}
use lib.Lanes.{chunk, mask_l, zip2, top, Each1, Each2}

-- what is taken from each byte, and the most that may be left of it
abbrev pub taken : List ℕ
taken = 0 ∷ 0 ∷ 0 ∷ 0 ∷ 0 ∷ 0 ∷ 48 ∷ 48 ∷ 48 ∷ 48 ∷ 45 ∷ 48 ∷ 48 ∷ 45 ∷ 48 ∷ 48 ∷ []

abbrev pub most : List ℕ
most = 255 ∷ 255 ∷ 255 ∷ 255 ∷ 255 ∷ 255 ∷ 9 ∷ 9 ∷ 9 ∷ 9 ∷ 0 ∷ 9 ∷ 9 ∷ 0 ∷ 9 ∷ 9 ∷ []

pub few_from_mask : (xs ys : List ℕ) → mask_l (map (top 7) (zip2 lane_lt xs ys)) ≡ 0 → Each2 (λ x y. y ≤ x) xs ys
few_from_mask [] ys e = tt
few_from_mask (x ∷ xs) [] e = tt
few_from_mask (x ∷ xs) (y ∷ ys) e =
    let parts = clear (nat_lt x y) (mask_l (map (top 7) (zip2 lane_lt xs ys))) e in
    (small x y parts.0, few_from_mask xs ys parts.1)
  where
    small : (v w : ℕ) → nat_lt v w ≡ false → w ≤ v
    small v w h = grind (arith, nat_tests)

pub digit_at : (x : ℕ) → Fits w8 x → lane_less x 48 ≤ 9 → is_ascii_digit x ≡ true
digit_at x fits h = (digit_byte x fits.fits h).0

hyphen_at : (x : ℕ) → Fits w8 x → lane_less x 45 ≤ 0 → nat_eq x 45 ≡ true
hyphen_at x fits h = let is : x ≡ 45 = omega (arith, fits.fits, h) in ap (λ k. nat_eq k 45) is

pub date_from_lanes : (lanes : List ℕ) → length lanes ≡ 16 → Each1 (Fits w8) lanes
    → OnTrue (nat_eq (mask_l (map (top 7) (zip2 lane_lt most (zip2 lane_less lanes taken))) % 18446744073709551616) 0) (HasDateDigits (drop 6 lanes))
date_from_lanes (a ∷ b ∷ c ∷ d ∷ e ∷ f ∷ g ∷ h ∷ i ∷ j ∷ k ∷ l ∷ m ∷ n ∷ o ∷ p ∷ []) long fits =
    let bits = map (top 7) (zip2 lane_lt most (zip2 lane_less (a ∷ b ∷ c ∷ d ∷ e ∷ f ∷ g ∷ h ∷ i ∷ j ∷ k ∷ l ∷ m ∷ n ∷ o ∷ p ∷ []) taken)) in
    let whole : mask_l bits % 2 ^ 64 ≡ mask_l bits = mask_l-mod bits 64 (omega arith) in
    by (nat_eq (mask_l bits % 18446744073709551616) 0) refl (λ told. date (few_from_mask most (zip2 lane_less (a ∷ b ∷ c ∷ d ∷ e ∷ f ∷ g ∷ h ∷ i ∷ j ∷ k ∷ l ∷ m ∷ n ∷ o ∷ p ∷ []) taken) (sym whole ∙ eqb-true _ _ told)))
  where
    by : (t : Bool) {P : Type 0} → t ≡ t → (t ≡ true → P) → OnTrue t P
    by true _ f = f refl
    by false _ f = tt

    date : Each2 (λ x y. y ≤ x) most (zip2 lane_less (a ∷ b ∷ c ∷ d ∷ e ∷ f ∷ g ∷ h ∷ i ∷ j ∷ k ∷ l ∷ m ∷ n ∷ o ∷ p ∷ []) taken) → HasDateDigits (g ∷ h ∷ i ∷ j ∷ k ∷ l ∷ m ∷ n ∷ o ∷ p ∷ [])
    date few =
        let fits' = fits.1.1.1.1.1.1 in
        let few' = few.1.1.1.1.1.1 in
        record {
          first = digit_at g fits'.0 few'.0;
          second = digit_at h fits'.1.0 few'.1.0;
          third = digit_at i fits'.1.1.0 few'.1.1.0;
          fourth = digit_at j fits'.1.1.1.0 few'.1.1.1.0;
          hyphen = hyphen_at k fits'.1.1.1.1.0 few'.1.1.1.1.0;
          fifth = digit_at l fits'.1.1.1.1.1.0 few'.1.1.1.1.1.0;
          sixth = digit_at m fits'.1.1.1.1.1.1.0 few'.1.1.1.1.1.1.0;
          later_hyphen = hyphen_at n fits'.1.1.1.1.1.1.1.0 few'.1.1.1.1.1.1.1.0;
          seventh = digit_at o fits'.1.1.1.1.1.1.1.1.0 few'.1.1.1.1.1.1.1.1.0;
          eighth = digit_at p fits'.1.1.1.1.1.1.1.1.1.0 few'.1.1.1.1.1.1.1.1.1.0;
        }
date_from_lanes _ long fits = absurd (omega arith)

-- ---- the value of such a text

abbrev pub pair_of : ℕ → ℕ → ℕ
pair_of tens ones = (tens - 48) * 10 + (ones - 48)

pub two : (a b : ℕ) → is_ascii_digit a ≡ true → is_ascii_digit b ≡ true → digits_value (a ∷ b ∷ []) ≡ Some (pair_of a b)
two a b da db = (λ s. if da s && (db s && true) then Some (number_of (a ∷ b ∷ [])) else None) ∙ ap Some (omega arith)

four : (a b c d : ℕ) → is_ascii_digit a ≡ true → is_ascii_digit b ≡ true → is_ascii_digit c ≡ true → is_ascii_digit d ≡ true
    → digits_value (a ∷ b ∷ c ∷ d ∷ []) ≡ Some (pair_of a b * 100 + pair_of c d)
four a b c d da db dc dd = (λ s. if da s && (db s && (dc s && (dd s && true))) then Some (number_of (a ∷ b ∷ c ∷ d ∷ [])) else None) ∙ ap Some (omega arith)

pub date_told : (text : List ℕ) → length text ≡ 10 → HasDateDigits text
    → date_value text ≡ number_of_day (Some (pair_of (get_or text 0 0) (get_or text 1 0) * 100 + pair_of (get_or text 2 0) (get_or text 3 0))) (Some (pair_of (get_or text 5 0) (get_or text 6 0))) (Some (pair_of (get_or text 8 0) (get_or text 9 0)))
date_told (a ∷ b ∷ c ∷ d ∷ e ∷ f ∷ g ∷ h ∷ i ∷ j ∷ []) long is = (λ s.
    if is.hyphen s && is.later_hyphen s
    then number_of_day (four a b c d is.first is.second is.third is.fourth s) (two f g is.fifth is.sixth s) (two i j is.seventh is.eighth s)
    else None)
date_told _ long is = absurd (omega arith)

pub date_front : (text : List ℕ) → length text ≡ 10 → HasDateDigits text → begins_number text ≡ true
date_front [] long is = absurd (omega (arith, long))
date_front (x ∷ xs) long is = (λ s. is.first s || x == 45)

pub date_back : (text : List ℕ) → length text ≡ 10 → HasDateDigits text → strip text ≡ text
date_back text long is =
    let last : nat_eq 13 (get_or text (length text - 1) 0) ≡ false = ap (λ k. nat_eq 13 (get_or text (k - 1) 0)) long ∙ digit_no_return (get_or text 9 0) is.eighth in
    strip_same text (omega (arith, long)) last

-- ---- the place of such a text

pub date_place : (upto : List ℕ) (start : ℕ) → 16 ≤ length upto → length upto ≡ start + 10 → HasDateDigits (drop 6 (chunk (length upto - 16) 16 upto)) → HasDateDigits (drop start upto)
date_place upto start long ten is =
    let from = drop (length upto - 16) upto in
    let width : length from ≡ 16 = omega (arith, length-drop (length upto - 16) upto) in
    let whole : chunk (length upto - 16) 16 upto ≡ from = take_all 16 from (omega (arith, width)) in
    let same : drop 6 (chunk (length upto - 16) 16 upto) ≡ drop start upto =
    ap (λ (l : List ℕ). drop 6 l) whole ∙ drop-drop 6 (length upto - 16) upto ∙ ap (λ (n : ℕ). drop n upto) (omega arith) in
    subst HasDateDigits same is

pub told_some : (r v : Option ℤ) → r ≡ v → IfSome r (λ n. v ≡ Some n)
told_some None v e = tt
told_some (Some n) v e = sym e

pub any_some : (r : Option ℤ) (P : Type 0) → P → IfSome r (λ _. P)
any_some None P p = tt
any_some (Some n) P p = p
