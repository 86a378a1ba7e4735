-- The number of a decimal text, digit by digit.
use Rattle.std.proofs.Common.{◌≡◌, ℕ, zero, suc, ◌+◌, ◌-◌, ◌*◌, ◌^◌, ◌<◌, ◌≤◌, Bool, true, false, cond, ◌&&◌, ◌==◌, ltb, List, [], ◌∷◌, ◌++◌, length, take, drop, get_or, replicate, length-append, length-take, length-drop, ℤ, pos, neg_ℤ, rules, Option, Some, None, refl, sym, ◌∙◌, ap, subst, append_assoc, arith, lit<}
use Rattle.std.proofs.Math.Nat.{pow-le-pow_right, mul-le-mul_left}
use Rattle.std.specs.Prelude.{SomeIff, slice_index_or, nat_lt, unwrap_or}
use Rattle.pl_frame.specs.Types.{is_readable_decimal, from_to, decimal_range}
use Rattle.std.specs.Str.{all_ascii_digits}
use Rattle.std.specs.Char.{is_ascii_digit}
use Rattle.std.proofs.lemmas.List.{take-append-drop, take_all}
use Rattle.std.proofs.lemmas.Bool.Decides.{nat_tests}
use Rattle.memchr.specs.Find.{Nowhere, Passes, is_byte}
use Rattle.pl_cells.specs.Integers.{is_digits, number_after, number_of, only_within, signed}
use Rattle.pl_cells.specs.Decimals.{before_point, behind_point, are_zeros, is_decimal, scaled, decimal_of}
use Rattle.pl_cells.specs.DecimalParts.{scaled_below, read_on}
use Rattle.pl_cells.proofs.IntegerLaws.{number_after-append, number_after-take, number_after-zeros, all_ascii_digits-append, all_ascii_digits_spoilt, is_digits-cons, and_true}

take_append : (xs ys : List ℕ) → take (length xs) (xs ++ ys) ≡ xs
take_append [] ys = refl
take_append (x ∷ xs) ys = ap (λ l. x ∷ l) (take_append xs ys)

-- ---- digits behind a number

pub read_on-spoilt : (limit n : ℕ) (xs : List ℕ) (i : ℕ) → i < length xs → is_ascii_digit (get_or xs i 0) ≡ false → None ≡ read_on limit n xs
read_on-spoilt limit n xs i h e = rw (all_ascii_digits_spoilt xs i h e) refl

pub read_on-past : (limit n : ℕ) (xs : List ℕ) (i : ℕ) → limit ≤ number_after n (take i xs) → None ≡ read_on limit n xs
read_on-past limit n xs i past =
    let all : limit ≤ number_after n xs = omega (arith, number_after-take n xs i) in
    by_test (all_ascii_digits xs) all
  where
    by_test : (t : Bool) → limit ≤ number_after n xs → None ≡ cond (t && (ltb (number_after n xs) limit)) (Some (number_after n xs)) None
    by_test true h = grind (arith, nat_tests)
    by_test false _ = refl

pub read_on-some : (limit n : ℕ) (xs : List ℕ) (m : ℕ) → all_ascii_digits xs ≡ true → m ≡ number_after n xs → m < limit → Some m ≡ read_on limit n xs
read_on-some limit n xs m digits is fits = rw (digits, ← is) (grind (arith, nat_tests))

pub read_on-tells : (limit n : ℕ) (xs : List ℕ) (m : ℕ) → Some m ≡ read_on limit n xs → (all_ascii_digits xs ≡ true) × (m ≡ number_after n xs)
read_on-tells limit n xs m e = by (all_ascii_digits xs) refl
  where
    by : (t : Bool) → all_ascii_digits xs ≡ t → (all_ascii_digits xs ≡ true) × (m ≡ number_after n xs)
    by true digits = (digits, grind (arith, digits, e, nat_tests))
    by false digits = absurd (grind (arith, digits, e, nat_tests))

pub read_on-refused : (limit n : ℕ) (xs : List ℕ) → None ≡ read_on limit n xs → all_ascii_digits xs ≡ true → limit ≤ number_after n xs
read_on-refused limit n xs e digits = grind (arith, digits, e, nat_tests)

-- digits and then more digits
pub read_on-both : (limit n m : ℕ) (xs ys : List ℕ) → Some m ≡ read_on limit n xs → read_on limit m ys ≡ read_on limit n (xs ++ ys)
read_on-both limit n m xs ys e =
    let told = read_on-tells limit n xs m e in
    rw (all_ascii_digits-append xs ys, number_after-append n xs ys, told.0, ← told.1) refl

pub read_on-first : (limit n : ℕ) (xs ys : List ℕ) → None ≡ read_on limit n xs → None ≡ read_on limit n (xs ++ ys)
read_on-first limit n xs ys e = by (all_ascii_digits xs) refl
  where
    by : (t : Bool) → all_ascii_digits xs ≡ t → None ≡ read_on limit n (xs ++ ys)
    by true digits =
        let past = read_on-refused limit n xs e digits in
        let more : limit ≤ number_after n (take (length xs) (xs ++ ys)) = subst (λ (l : List ℕ). limit ≤ number_after n l) (sym (take_append xs ys)) past in
        read_on-past limit n (xs ++ ys) (length xs) more
    by false digits = rw (all_ascii_digits-append xs ys, digits) refl

-- what fits fewer bits fits more
pub read_on-wider : (limit more n : ℕ) (xs : List ℕ) (m : ℕ) → limit ≤ more → Some m ≡ read_on limit n xs → Some m ≡ read_on more n xs
read_on-wider limit more n xs m wide e = by (all_ascii_digits xs) refl
  where
    by : (t : Bool) → all_ascii_digits xs ≡ t → Some m ≡ read_on more n xs
    by false digits = absurd (grind (arith, digits, e, nat_tests))
    by true digits =
        let is : m ≡ number_after n xs = (read_on-tells limit n xs m e).1 in
        let fits : number_after n xs < limit = grind (arith, digits, e, nat_tests) in
        read_on-some more n xs m digits is (omega (arith, is, fits, wide))

-- ---- the point

not_true : (t : Bool) → (t ≡ true → ⊥) → t ≡ false
not_true true h = absurd (h refl)
not_true false h = refl

pub before_point-at : (xs : List ℕ) (n : ℕ) → Nowhere (Passes (is_byte 46) xs) 0 n → n < length xs → (get_or xs n 0 == 46) ≡ true → before_point xs ≡ take n xs
before_point-at [] n none fits here = absurd (omega arith)
before_point-at (x ∷ xs) zero none fits here = rw (here, before_point) refl
before_point-at (x ∷ xs) (suc n) none fits here =
    let other : (x == 46) ≡ false = not_true (x == 46) (none 0 (omega arith) (omega arith)) in
    let later : Nowhere (Passes (is_byte 46) xs) 0 n = λ k low high. none (suc k) (omega arith) (omega arith) in
    rw (other, before_point) (ap (λ l. x ∷ l) (before_point-at xs n later (omega arith) here))

pub behind_point-at : (xs : List ℕ) (n : ℕ) → Nowhere (Passes (is_byte 46) xs) 0 n → n < length xs → (get_or xs n 0 == 46) ≡ true → behind_point xs ≡ drop (suc n) xs
behind_point-at [] n none fits here = absurd (omega arith)
behind_point-at (x ∷ xs) zero none fits here = rw (here, behind_point) refl
behind_point-at (x ∷ xs) (suc n) none fits here =
    let other : (x == 46) ≡ false = not_true (x == 46) (none 0 (omega arith) (omega arith)) in
    let later : Nowhere (Passes (is_byte 46) xs) 0 n = λ k low high. none (suc k) (omega arith) (omega arith) in
    rw (other, behind_point) (behind_point-at xs n later (omega arith) here)

pub before_point-none : (xs : List ℕ) → Nowhere (Passes (is_byte 46) xs) 0 (length xs) → before_point xs ≡ xs
before_point-none [] none = refl
before_point-none (x ∷ xs) none =
    let other : (x == 46) ≡ false = not_true (x == 46) (none 0 (omega arith) (omega arith)) in
    let later : Nowhere (Passes (is_byte 46) xs) 0 (length xs) = λ k low high. none (suc k) (omega arith) (omega arith) in
    rw (other, before_point) (ap (λ l. x ∷ l) (before_point-none xs later))

pub behind_point-none : (xs : List ℕ) → Nowhere (Passes (is_byte 46) xs) 0 (length xs) → behind_point xs ≡ []
behind_point-none [] none = refl
behind_point-none (x ∷ xs) none =
    let other : (x == 46) ≡ false = not_true (x == 46) (none 0 (omega arith) (omega arith)) in
    let later : Nowhere (Passes (is_byte 46) xs) 0 (length xs) = λ k low high. none (suc k) (omega arith) (omega arith) in
    rw (other, behind_point) (behind_point-none xs later)

-- ---- powers of ten

abbrev pub powers_from : ℕ → ℕ → List ℕ
powers_from start zero = []
powers_from start (suc n) = 10 ^ start ∷ powers_from (start + 1) n

pub power_at : (start n k d : ℕ) → k < n → slice_index_or (powers_from start n) k d ≡ 10 ^ (start + k)
power_at start zero k d h = absurd (omega arith)
power_at start (suc n) zero d h = ap (λ i. 10 ^ i) (omega arith)
power_at start (suc n) (suc k) d h = power_at (start + 1) n k d (omega arith) ∙ ap (λ i. 10 ^ i) (omega arith)

-- ---- the number times ten to the scale

are_zeros-digits : (xs : List ℕ) → are_zeros xs ≡ true → all_ascii_digits xs ≡ true
are_zeros-digits [] e = refl
are_zeros-digits (x ∷ xs) e =
    let parts = and_true (x == 48) (are_zeros xs) e in
    let digit : is_ascii_digit x ≡ true = let is : x ≡ 48 = grind (arith, nat_tests, parts.0) in rw is refl in
    rw digit (are_zeros-digits xs parts.1)

is_decimal-is : (scale : ℕ) (whole fraction : List ℕ) → 0 < length whole + length fraction → are_zeros (drop scale fraction) ≡ true
    → is_decimal scale whole fraction ≡ all_ascii_digits (whole ++ take scale fraction)
is_decimal-is scale whole fraction some zeros =
    let long : 0 < length (whole ++ fraction) = omega (arith, length-append whole fraction) in
    let split : all_ascii_digits fraction ≡ (all_ascii_digits (take scale fraction) && all_ascii_digits (drop scale fraction)) =
    ap all_ascii_digits (sym (take-append-drop scale fraction)) ∙ all_ascii_digits-append (take scale fraction) (drop scale fraction) in
    rw (is_digits-cons (whole ++ fraction) long, all_ascii_digits-append whole fraction, split, are_zeros-digits (drop scale fraction) zeros, zeros, all_ascii_digits-append whole (take scale fraction))
    (by_tests (all_ascii_digits whole) (all_ascii_digits (take scale fraction)))
  where
    by_tests : (s t : Bool) → ((s && (t && true)) && true) ≡ (s && t)
    by_tests true true = refl
    by_tests true false = refl
    by_tests false true = refl
    by_tests false false = refl

scaled-is : (scale : ℕ) (whole fraction : List ℕ) → scaled scale whole fraction ≡ number_of (whole ++ take scale fraction) * 10 ^ (scale - length fraction)
scaled-is scale whole fraction =
    ap number_of (sym (append_assoc whole (take scale fraction) (replicate (scale - length fraction) 48)))
    ∙ number_after-append 0 (whole ++ take scale fraction) (replicate (scale - length fraction) 48)
    ∙ number_after-zeros (number_of (whole ++ take scale fraction)) (scale - length fraction)

some_power : (k : ℕ) → 1 ≤ 10 ^ k
some_power k = pow-le-pow_right {n = 10} (lit< tt) {i = 0} {j = k} (omega arith)

pub scaled-refused : (limit scale : ℕ) (whole fraction : List ℕ) → 0 < length whole + length fraction → are_zeros (drop scale fraction) ≡ true
    → None ≡ read_on limit 0 (whole ++ take scale fraction) → None ≡ scaled_below limit scale whole fraction
scaled-refused limit scale whole fraction some zeros e = by (all_ascii_digits (whole ++ take scale fraction)) refl
  where
    by_fits : (t : Bool) → limit ≤ scaled scale whole fraction → None ≡ cond (t && ltb (scaled scale whole fraction) limit) (Some (scaled scale whole fraction)) None
    by_fits true h = grind (arith, nat_tests)
    by_fits false h = refl

    by : (t : Bool) → all_ascii_digits (whole ++ take scale fraction) ≡ t → None ≡ scaled_below limit scale whole fraction
    by false digits = rw (is_decimal-is scale whole fraction some zeros, digits) refl
    by true digits =
        let past : limit ≤ number_of (whole ++ take scale fraction) = read_on-refused limit 0 (whole ++ take scale fraction) e digits in
        let more : number_of (whole ++ take scale fraction) * 1 ≤ number_of (whole ++ take scale fraction) * 10 ^ (scale - length fraction) = mul-le-mul_left (number_of (whole ++ take scale fraction)) (some_power (scale - length fraction)) in
        let far : limit ≤ scaled scale whole fraction = omega (arith, past, more, scaled-is scale whole fraction) in
        by_fits (is_decimal scale whole fraction) far

pub scaled-found : (limit scale : ℕ) (whole fraction : List ℕ) (n k : ℕ) (r : Option ℕ) → 0 < length whole + length fraction → are_zeros (drop scale fraction) ≡ true
    → Some n ≡ read_on limit 0 (whole ++ take scale fraction) → k ≡ length (take scale fraction)
    → SomeIff r (n * 10 ^ (scale - k) < limit) (n * 10 ^ (scale - k)) → r ≡ scaled_below limit scale whole fraction
scaled-found limit scale whole fraction n k r some zeros e kept product =
    let told = read_on-tells limit 0 (whole ++ take scale fraction) n e in
    let decimal : is_decimal scale whole fraction ≡ true = is_decimal-is scale whole fraction some zeros ∙ told.0 in
    let left : scale - length fraction ≡ scale - k = omega (arith, kept, length-take scale fraction) in
    let is : scaled scale whole fraction ≡ n * 10 ^ (scale - k) = scaled-is scale whole fraction ∙ ap (λ m. m * 10 ^ (scale - length fraction)) (sym told.1) ∙ ap (λ j. n * 10 ^ j) left in
    rw (decimal, is) (by_result r (n * 10 ^ (scale - k)) product)
  where
    by_result : (r : Option ℕ) (m : ℕ) → SomeIff r (m < limit) m → r ≡ cond (ltb m limit) (Some m) None
    by_result None m h = grind (arith, nat_tests)
    by_result (Some x) m h = rw h.1 (grind (arith, nat_tests, h.0))

-- ---- the range

pub precision-bound : (precision : Option ℕ) (scale : ℕ) → is_readable_decimal precision (Some scale) ≡ true → unwrap_or precision 38 ≤ 38
precision-bound None scale e = omega arith
precision-bound (Some digits) scale e = grind (arith, nat_tests, e)

pub power-some : (k : ℕ) → 1 ≤ 10 ^ k
power-some k = some_power k

pub power-small : (k : ℕ) → k ≤ 38 → 10 ^ k ≤ 10 ^ 38
power-small k h = pow-le-pow_right {n = 10} (lit< tt) {i = k} {j = 38} h

outside : (limit n : ℕ) (negative : Bool) → limit ≤ n → 1 ≤ limit → None ≡ only_within (from_to (neg_ℤ (pos (limit - 1))) (pos (limit - 1))) (signed negative n)
outside limit n true h some = search rules
outside limit n false h some = search rules

pub decimal_of-refused : (precision : Option ℕ) (scale : ℕ) (negative : Bool) (whole fraction : List ℕ) → is_readable_decimal precision (Some scale) ≡ true
    → None ≡ scaled_below (2 ^ 128) scale whole fraction → None ≡ decimal_of precision scale negative whole fraction
decimal_of-refused precision scale negative whole fraction readable e = by (is_decimal scale whole fraction) refl
  where
    by : (t : Bool) → is_decimal scale whole fraction ≡ t → None ≡ decimal_of precision scale negative whole fraction
    by false decimal = rw decimal refl
    by true decimal =
        let far : 2 ^ 128 ≤ scaled scale whole fraction = grind (arith, decimal, e, nat_tests) in
        let few = power-small (unwrap_or precision 38) (precision-bound precision scale readable) in
        rw decimal (outside (10 ^ unwrap_or precision 38) (scaled scale whole fraction) negative (omega (arith, far, few)) (some_power (unwrap_or precision 38)))

-- ---- as many digits behind the point as the scale says

-- digits are no point
before_digits : (xs ys : List ℕ) → all_ascii_digits xs ≡ true → before_point (xs ++ 46 ∷ ys) ≡ xs
before_digits [] ys digits = refl
before_digits (x ∷ xs) ys digits =
    let parts = and_true (is_ascii_digit x) (all_ascii_digits xs) digits in
    let other : (x == 46) ≡ false = grind (arith, nat_tests, parts.0) in
    rw (other, before_point) (ap (λ l. x ∷ l) (before_digits xs ys parts.1))

behind_digits : (xs ys : List ℕ) → all_ascii_digits xs ≡ true → behind_point (xs ++ 46 ∷ ys) ≡ ys
behind_digits [] ys digits = refl
behind_digits (x ∷ xs) ys digits =
    let parts = and_true (is_ascii_digit x) (all_ascii_digits xs) digits in
    let other : (x == 46) ≡ false = grind (arith, nat_tests, parts.0) in
    rw (other, behind_point) (behind_digits xs ys parts.1)

split_at : (at : ℕ) (text : List ℕ) → at < length text → get_or text at 0 ≡ 46 → text ≡ take at text ++ 46 ∷ drop (at + 1) text
split_at at [] inside point = absurd (omega arith)
split_at zero (x ∷ xs) inside point = ap (λ y. y ∷ xs) point
split_at (suc at) (x ∷ xs) inside point =
    let next : suc at + 1 ≡ suc (at + 1) = omega arith in
    rw next (ap (λ l. x ∷ l) (split_at at xs (omega arith) point))

dropped : (k : ℕ) (xs : List ℕ) → length xs ≤ k → are_zeros (drop k xs) ≡ true
dropped k [] few = rw (drop_none k) refl
  where
    drop_none : (k : ℕ) → drop {A = ℕ} k [] ≡ []
    drop_none zero = refl
    drop_none (suc k) = refl
dropped zero (x ∷ xs) few = absurd (omega arith)
dropped (suc k) (x ∷ xs) few = dropped k xs (omega arith)

-- what was read of the digits before the point and of those behind it is the number times ten to the scale
parts-few : (limit scale m n : ℕ) (whole fraction : List ℕ) → 0 < length whole → length fraction ≡ scale → n < limit
    → Some m ≡ read_on limit 0 whole → Some n ≡ read_on limit m fraction → Some n ≡ scaled_below limit scale whole fraction
parts-few limit scale m n whole fraction some long fits first last =
    let kept : take scale fraction ≡ fraction = take_all _ _ (omega arith) in
    let both : Some n ≡ read_on limit 0 (whole ++ take scale fraction) = last ∙ read_on-both limit 0 m whole fraction first ∙ ap (λ l. read_on limit 0 (whole ++ l)) (sym kept) in
    let none : scale - scale ≡ 0 = omega arith in
    let same : n * 10 ^ (scale - scale) ≡ n = ap (λ k. n * 10 ^ k) none ∙ omega arith in
    scaled-found limit scale whole fraction n scale (Some n) (omega arith) (dropped scale fraction (omega arith)) both (sym (ap length kept ∙ long))
    (omega (arith, same, fits), sym same)

pub scaled-few : (scale at n m : ℕ) (text : List ℕ) → at + scale + 1 ≡ length text → 0 < at → get_or text at 0 ≡ 46 → n < 2 ^ 128
    → Some m ≡ read_on (2 ^ 128) 0 (take at text) → Some n ≡ read_on (2 ^ 128) m (drop (at + 1) text)
    → Some n ≡ scaled_below (2 ^ 128) scale (before_point text) (behind_point text)
scaled-few scale at n m text all some point fits first last =
    let told = read_on-tells (2 ^ 128) 0 (take at text) m first in
    let split = split_at at text (omega arith) point in
    let before : before_point text ≡ take at text = ap before_point split ∙ before_digits (take at text) (drop (at + 1) text) told.0 in
    let behind : behind_point text ≡ drop (at + 1) text = ap behind_point split ∙ behind_digits (take at text) (drop (at + 1) text) told.0 in
    let many : 0 < length (take at text) = omega (arith, length-take at text) in
    let few : length (drop (at + 1) text) ≡ scale = omega (arith, length-drop (at + 1) text) in
    parts-few (2 ^ 128) scale m n (take at text) (drop (at + 1) text) many few fits first last
    ∙ sym (ap (λ w. scaled_below (2 ^ 128) scale w (behind_point text)) before ∙ ap (λ f. scaled_below (2 ^ 128) scale (take at text) f) behind)
