-- Dates with times of whole seconds that are read in place.
use Rattle.std.proofs.Common.{◌≡◌, ℕ, ◌+◌, ◌-◌, ◌%◌, ◌^◌, ◌≤◌, ◌==◌, ◌&&◌, ◌||◌, Bool, true, false, nat_eq, if◌then◌else◌, List, [], ◌∷◌, length, take, drop, get_or, map, Some, None, refl, sym, ◌∙◌, ap, subst, arith, Fits, w8}
use Rattle.std.proofs.lemmas.Bool.{eqb-true}
use Rattle.std.proofs.lemmas.List.{drop-drop, drop-take, length-drop, take_all, get_or-drop}
use Rattle.std.proofs.lemmas.Simd.{mask_l-mod}
use Rattle.std.specs.Bool.{OnTrue}
use Rattle.std.specs.Char.{is_ascii_digit}
use Rattle.pl_cells.specs.Columns.{begins_number}
use Rattle.pl_cells.specs.Lanes.{HasDateDigits, HasClockDigits}
use Rattle.pl_cells.specs.Quoting.{strip}
use Rattle.pl_cells.specs.Times.{clock_value, second_of_day}
use Rattle.pl_cells.proofs.DateAtLaws.{few_from_mask, digit_at, pair_of, two}
use Rattle.pl_cells.proofs.LaneLaws.{lane_less, lane_lt}
use Rattle.pl_cells.proofs.PlacedLaws.{digit_no_return, strip_same}
use lib.Lanes.{chunk, mask_l, zip2, top, Each1, Each2}

-- what is taken from each byte, and the most that may be left of it
abbrev pub taken : List ℕ
taken = 0 ∷ 0 ∷ 0 ∷ 0 ∷ 0 ∷ 0 ∷ 0 ∷ 0 ∷ 48 ∷ 48 ∷ 58 ∷ 48 ∷ 48 ∷ 58 ∷ 48 ∷ 48 ∷ []

abbrev pub most : List ℕ
most = 255 ∷ 255 ∷ 255 ∷ 255 ∷ 255 ∷ 255 ∷ 255 ∷ 255 ∷ 9 ∷ 9 ∷ 0 ∷ 9 ∷ 9 ∷ 0 ∷ 9 ∷ 9 ∷ []

colon_at : (x : ℕ) → Fits w8 x → lane_less x 58 ≤ 0 → nat_eq x 58 ≡ true
colon_at x fits h = let is : x ≡ 58 = omega (arith, fits.fits, h) in ap (λ k. nat_eq k 58) is

pub clock_from_lanes : (lanes : List ℕ) → length lanes ≡ 16 → Each1 (Fits w8) lanes
    → OnTrue (nat_eq (mask_l (map (top 7) (zip2 lane_lt most (zip2 lane_less lanes taken))) % 18446744073709551616) 0) (HasClockDigits (drop 8 lanes))
clock_from_lanes (a ∷ b ∷ c ∷ d ∷ e ∷ f ∷ g ∷ h ∷ i ∷ j ∷ k ∷ l ∷ m ∷ n ∷ o ∷ p ∷ []) long fits =
    let bits = map (top 7) (zip2 lane_lt most (zip2 lane_less (a ∷ b ∷ c ∷ d ∷ e ∷ f ∷ g ∷ h ∷ i ∷ j ∷ k ∷ l ∷ m ∷ n ∷ o ∷ p ∷ []) taken)) in
    let whole : mask_l bits % 2 ^ 64 ≡ mask_l bits = mask_l-mod bits 64 (omega arith) in
    by (nat_eq (mask_l bits % 18446744073709551616) 0) refl (λ told. clock (few_from_mask most (zip2 lane_less (a ∷ b ∷ c ∷ d ∷ e ∷ f ∷ g ∷ h ∷ i ∷ j ∷ k ∷ l ∷ m ∷ n ∷ o ∷ p ∷ []) taken) (sym whole ∙ eqb-true _ _ told)))
  where
    by : (t : Bool) {P : Type 0} → t ≡ t → (t ≡ true → P) → OnTrue t P
    by true _ f = f refl
    by false _ f = tt

    clock : Each2 (λ x y. y ≤ x) most (zip2 lane_less (a ∷ b ∷ c ∷ d ∷ e ∷ f ∷ g ∷ h ∷ i ∷ j ∷ k ∷ l ∷ m ∷ n ∷ o ∷ p ∷ []) taken) → HasClockDigits (i ∷ j ∷ k ∷ l ∷ m ∷ n ∷ o ∷ p ∷ [])
    clock few =
        let fits' = fits.1.1.1.1.1.1.1.1 in
        let few' = few.1.1.1.1.1.1.1.1 in
        record {
          first = digit_at i fits'.0 few'.0;
          second = digit_at j fits'.1.0 few'.1.0;
          colon = colon_at k fits'.1.1.0 few'.1.1.0;
          third = digit_at l fits'.1.1.1.0 few'.1.1.1.0;
          fourth = digit_at m fits'.1.1.1.1.0 few'.1.1.1.1.0;
          later_colon = colon_at n fits'.1.1.1.1.1.0 few'.1.1.1.1.1.0;
          fifth = digit_at o fits'.1.1.1.1.1.1.0 few'.1.1.1.1.1.1.0;
          sixth = digit_at p fits'.1.1.1.1.1.1.1.0 few'.1.1.1.1.1.1.1.0;
        }
clock_from_lanes _ long fits = absurd (omega arith)

-- ---- the value of such a text

pub clock_told : (text : List ℕ) → length text ≡ 8 → HasClockDigits text
    → clock_value text ≡ second_of_day (Some (pair_of (get_or text 0 0) (get_or text 1 0))) (Some (pair_of (get_or text 3 0) (get_or text 4 0))) (Some (pair_of (get_or text 6 0) (get_or text 7 0)))
clock_told (a ∷ b ∷ c ∷ d ∷ e ∷ f ∷ g ∷ h ∷ []) long is = (λ s.
    if is.colon s && is.later_colon s then second_of_day (two a b is.first is.second s) (two d e is.third is.fourth s) (two g h is.fifth is.sixth s) else None)
clock_told _ long is = absurd (omega arith)

-- ---- the places of such texts

pub date_before : (upto : List ℕ) (start : ℕ) → 6 ≤ start → start + 10 ≤ length upto → HasDateDigits (drop 6 (chunk (start - 6) 16 upto)) → HasDateDigits (take 10 (drop start upto))
date_before upto start room long is =
    let same : drop 6 (chunk (start - 6) 16 upto) ≡ take 10 (drop start upto) =
    drop-take 6 10 (drop (start - 6) upto) ∙ ap (λ (l : List ℕ). take 10 l) (drop-drop 6 (start - 6) upto ∙ ap (λ (n : ℕ). drop n upto) (omega arith)) in
    subst HasDateDigits same is

pub clock_behind : (upto : List ℕ) (start : ℕ) → length upto ≡ start + 19 → HasClockDigits (drop 8 (chunk (start + 3) 16 upto)) → HasClockDigits (drop 11 (drop start upto))
clock_behind upto start long is =
    let from = drop (start + 3) upto in
    let width : length from ≡ 16 = omega (arith, length-drop (start + 3) upto) in
    let whole : chunk (start + 3) 16 upto ≡ from = take_all 16 from (omega (arith, width)) in
    let same : drop 8 (chunk (start + 3) 16 upto) ≡ drop 11 (drop start upto) =
    ap (λ (l : List ℕ). drop 8 l) whole ∙ drop-drop 8 (start + 3) upto ∙ ap (λ (n : ℕ). drop n upto) (omega arith) ∙ sym (drop-drop 11 start upto) in
    subst HasClockDigits same is

pub front_told : (text : List ℕ) → 10 ≤ length text → HasDateDigits (take 10 text) → begins_number text ≡ true
front_told [] long is = absurd (omega (arith, long))
front_told (x ∷ xs) long is = (λ s. is.first s || x == 45)

pub back_told : (text : List ℕ) → length text ≡ 19 → HasClockDigits (drop 11 text) → strip text ≡ text
back_told text long is =
    let digit : is_ascii_digit (get_or text 18 0) ≡ true = ap is_ascii_digit (sym (get_or-drop 11 text 7 0)) ∙ is.sixth in
    let last : nat_eq 13 (get_or text (length text - 1) 0) ≡ false = ap (λ k. nat_eq 13 (get_or text (k - 1) 0)) long ∙ digit_no_return (get_or text 18 0) digit in
    strip_same text (omega (arith, long)) last
