-- Digits with a point among them.
use Rattle.std.proofs.Common.{◌≡◌, ℕ, suc, ◌+◌, ◌-◌, ◌/◌, ◌%◌, ◌<◌, ◌≤◌, max, nat_le, Bool, true, false, List, [], ◌∷◌, ◌++◌, length, take, drop, if◌then◌else◌, ◌==◌, refl, sym, ◌∙◌, ap, arith, append_assoc, length-append}
use Rattle.std.specs.Prelude.{decimal}
use Rattle.std.proofs.Math.Seq.{drop-append-add}
use Rattle.std.proofs.lemmas.Bool.Decides.{nat_tests}
use Rattle.pl_text.specs.ValueText.{padded, point_text}
use Rattle.pl_write.proofs.PaddedLaws.{padded-drop, padded-bare, padded-four}
use Rattle.pl_write.proofs.WordLaws.{decimal-onto_eight, padded-eight}

pub take-behind : (xs ys : List ℕ) (k : ℕ) → take (length xs + k) (xs ++ ys) ≡ xs ++ take k ys
take-behind [] ys k = let same : 0 + k ≡ k = omega arith in ap (λ j. take j ys) same
take-behind (x ∷ xs) ys k = let next : suc (length xs) + k ≡ suc (length xs + k) = omega arith in rw next (ap (λ l. x ∷ l) (take-behind xs ys k))

-- more digits in front stand before the point
pub point-behind : (scale : ℕ) (xs ys : List ℕ) → scale ≤ length ys → xs ++ point_text scale ys ≡ point_text scale (xs ++ ys)
point-behind scale xs ys h =
    let place : length (xs ++ ys) - scale ≡ length xs + (length ys - scale) = omega (arith, length-append xs ys) in
    rw (place, take-behind xs ys (length ys - scale), drop-append-add xs ys (length ys - scale))
    (sym (append_assoc xs (take (length ys - scale) ys) (if scale == 0 then [] else 46 ∷ drop (length ys - scale) ys)))

-- eight digits are eight
pub length-eight : (n : ℕ) → n < 100000000 → length (padded 8 n) ≡ 8
length-eight n small = rw (padded-eight n small, padded-four (n / 10000) (omega arith), padded-four (n % 10000) (omega arith)) refl

-- the last eight digits of a number with a point among them, and those in front of them
pub point-onto_eight : (scale n : ℕ) → scale ≤ 7 → 100000000 ≤ n → n < 10000000000000000
    → decimal (n / 100000000) ++ point_text scale (padded 8 (n % 100000000)) ≡ point_text scale (padded (scale + 1) n)
point-onto_eight scale n few low high =
    let eight = length-eight (n % 100000000) (omega arith) in
    let all = decimal-onto_eight n (omega (arith, high)) low in
    let long : scale + 1 ≤ length (decimal n) = omega (arith, ap length all, length-append (decimal (n / 100000000)) (padded 8 (n % 100000000)), eight, few) in
    point-behind scale (decimal (n / 100000000)) (padded 8 (n % 100000000)) (omega (arith, eight, few))
    ∙ ap (λ l. point_text scale l) (sym all ∙ sym (padded-bare (scale + 1) n long))

-- filled to one digit before the point, and no further than the number needs
pub padded-max : (n scale count : ℕ) → count ≡ max (length (decimal n)) (scale + 1) → count ≤ 8 → drop (8 - count) (padded 8 n) ≡ padded (scale + 1) n
padded-max n scale count is few =
    let all : 8 - (8 - count) ≡ count = omega arith in
    padded-drop (8 - count) 8 n (omega arith) ∙ ap (λ w. padded w n) all ∙ by (nat_le (length (decimal n)) (scale + 1)) refl
  where
    by : (t : Bool) → nat_le (length (decimal n)) (scale + 1) ≡ t → padded count n ≡ padded (scale + 1) n
    by true e =
        let short : length (decimal n) ≤ scale + 1 = grind (arith, nat_tests, e) in
        ap (λ w. padded w n) (omega arith)
    by false e =
        let long : scale + 1 < length (decimal n) = grind (arith, nat_tests, e) in
        padded-bare count n (omega arith) ∙ sym (padded-bare (scale + 1) n (omega arith))
