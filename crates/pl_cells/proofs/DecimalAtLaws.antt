-- Decimals that are read in place.
use Rattle.std.proofs.Common.{◌≡◌, ℕ, suc, ◌+◌, ◌-◌, ◌*◌, ◌^◌, ◌<◌, ◌≤◌, true, List, [], ◌∷◌, ◌++◌, length, take, drop, get_or, Some, refl, sym, ◌∙◌, ap, lit<, arith}
use Rattle.std.proofs.Math.Nat.{pow-suc, pow-le-pow_right, mul-le-mul}
use Rattle.std.proofs.lemmas.List.{length-drop, length-take-le, get_or-drop, drop-drop, drop-take}
use Rattle.std.specs.Str.{all_ascii_digits}
use Rattle.pl_cells.specs.DecimalParts.{scaled_below}
use Rattle.pl_cells.specs.Decimals.{before_point, behind_point}
use Rattle.pl_cells.specs.Integers.{is_digits, number_after, number_of}
use Rattle.pl_cells.proofs.DecimalLaws.{read_on-some, scaled-few}
use Rattle.pl_cells.proofs.IntegerLaws.{all_ascii_digits-append, all_ascii_digits-is, and_true, is_digits-cons, number_after-append, number_after-ge}

-- digits behind a number multiply it by ten each
pub number_after-shift : (n : ℕ) (xs : List ℕ) → number_after n xs ≡ n * 10 ^ length xs + number_of xs
number_after-shift n [] = omega arith
number_after-shift n (x ∷ xs) =
    let d = x - 48 in
    let p = 10 ^ length xs in
    number_after-shift (n * 10 + d) xs
    ∙ sum n d p (number_of xs)
    ∙ ap (λ q. n * q + (0 * 10 + d) * p + number_of xs) (sym (pow-suc 10 (length xs)))
    ∙ assoc (n * 10 ^ suc (length xs)) ((0 * 10 + d) * p) (number_of xs)
    ∙ ap (λ (k : ℕ). n * 10 ^ suc (length xs) + k) (sym (number_after-shift (0 * 10 + d) xs))
  where
    sum : (n d p r : ℕ) → (n * 10 + d) * p + r ≡ n * (p * 10) + (0 * 10 + d) * p + r
    sum n d p r = omega arith

    assoc : (a b c : ℕ) → a + b + c ≡ a + (b + c)
    assoc a b c = omega arith

-- the digits before and behind the point, read apart
pub scaled_in_place : (upto : List ℕ) (from point scale m f : ℕ) → point + scale + 1 ≡ length upto → from < point → scale ≤ 16 → get_or upto point 0 ≡ 46
    → is_digits (drop from (take point upto)) ≡ true → m ≡ number_of (drop from (take point upto)) → m < 10 ^ 16
    → is_digits (drop (point + 1) upto) ≡ true → f ≡ number_of (drop (point + 1) upto) → f < 10 ^ 16
    → Some (m * 10 ^ scale + f) ≡ scaled_below (2 ^ 128) scale (before_point (drop from upto)) (behind_point (drop from upto))
scaled_in_place upto from point scale m f all inside few at_point digits is small digits' is' small' =
    let text = drop from upto in
    let at = point - from in
    let there : from + at ≡ point = omega arith in
    let whole : drop from (take point upto) ≡ take at text = ap (λ k. drop from (take k upto)) (sym there) ∙ drop-take from at upto in
    let fraction : drop (at + 1) text ≡ drop (point + 1) upto = drop-drop (at + 1) from upto ∙ ap (λ k. drop k upto) (omega arith) in
    let long : length (drop (at + 1) text) ≡ scale = omega (arith, ap length fraction, length-drop (point + 1) upto) in
    let dot : get_or text at 0 ≡ 46 = get_or-drop from upto at 0 ∙ ap (λ k. get_or upto k 0) there ∙ at_point in
    let power : 10 ^ scale ≤ 10 ^ 16 = pow-le-pow_right {n = 10} (lit< tt) {i = scale} {j = 16} few in
    let product : m * 10 ^ scale ≤ 10 ^ 16 * 10 ^ 16 = mul-le-mul {n₁ = m} {m₁ = 10 ^ scale} {n₂ = 10 ^ 16} {m₂ = 10 ^ 16} (omega arith) power in
    let fits : m * 10 ^ scale + f < 2 ^ 128 = omega (arith, product) in
    let narrow : m < 2 ^ 128 = omega arith in
    let first = read_on-some (2 ^ 128) 0 (take at text) m (ap all_ascii_digits (sym whole) ∙ all_ascii_digits-is (drop from (take point upto)) digits) (is ∙ ap number_of whole) narrow in
    let sum : m * 10 ^ scale + f ≡ number_after m (drop (at + 1) text) =
    ap (λ k. m * 10 ^ scale + k) (is' ∙ ap number_of (sym fraction)) ∙ ap (λ k. m * 10 ^ k + number_of (drop (at + 1) text)) (sym long) ∙ sym (number_after-shift m (drop (at + 1) text)) in
    let last = read_on-some (2 ^ 128) m (drop (at + 1) text) (m * 10 ^ scale + f) (ap all_ascii_digits fraction ∙ all_ascii_digits-is (drop (point + 1) upto) digits') sum fits in
    scaled-few scale at (m * 10 ^ scale + f) m text (omega (arith, length-drop from upto)) (omega arith) dot fits first last

-- and side by side
pub joined_in_place : (upto : List ℕ) (from point scale n : ℕ) → point + scale + 1 ≡ length upto → from < point → 0 < scale → scale ≤ 16 → get_or upto point 0 ≡ 46
    → all_ascii_digits (drop from (take point upto) ++ drop (point + 1) upto) ≡ true → n ≡ number_of (drop from (take point upto) ++ drop (point + 1) upto) → n < 10 ^ 16
    → (Some n ≡ scaled_below (2 ^ 128) scale (before_point (drop from upto)) (behind_point (drop from upto)))
    × ((is_digits (drop from (take point upto)) ≡ true) × (is_digits (drop (point + 1) upto) ≡ true))
joined_in_place upto from point scale n all inside some few at_point digits is small =
    let whole : List ℕ = drop from (take point upto) in
    let fraction : List ℕ = drop (point + 1) upto in
    let m = number_of whole in
    let f = number_of fraction in
    let both = and_true (all_ascii_digits whole) (all_ascii_digits fraction) (sym (all_ascii_digits-append whole fraction) ∙ digits) in
    let front : length (take point upto) ≡ point = length-take-le point upto (omega (arith, all)) in
    let wide : length whole ≡ length (take point upto) - from = length-drop from (take point upto) in
    let long : length fraction ≡ scale = omega (arith, all, length-drop (point + 1) upto) in
    let before : is_digits whole ≡ true = is_digits-cons whole (omega (arith, front, wide, inside)) ∙ both.0 in
    let behind : is_digits fraction ≡ true = is_digits-cons fraction (omega (arith, long, some)) ∙ both.1 in
    let after : n ≡ number_after m fraction = is ∙ number_after-append 0 whole fraction in
    let sum : n ≡ m * 10 ^ scale + f = after ∙ number_after-shift m fraction ∙ ap (λ k. m * 10 ^ k + f) long in
    let small-m : m < 10 ^ 16 = omega (arith, after, number_after-ge m fraction, small) in
    let small-f : f < 10 ^ 16 = omega (arith, sum, small) in
    (ap Some sum ∙ scaled_in_place upto from point scale m f all inside few at_point before refl small-m behind refl small-f, (before, behind))
