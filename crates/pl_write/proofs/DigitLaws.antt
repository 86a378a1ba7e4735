-- The digits of a number, written in place.
use Rattle.std.proofs.Common.{◌≡◌, ℕ, zero, suc, ◌+◌, ◌*◌, ◌/◌, ◌%◌, ◌^◌, ◌<◌, ◌≤◌, max, List, [], ◌∷◌, ◌++◌, length, arith, length-append}
use Rattle.std.specs.Prelude.{decimal}
use Rattle.std.proofs.lemmas.Fmt.{decimal_by_steps, decimal_nonempty, length-decimal-le}

-- a number from 10^k on has more than k digits
more_digits : (n : ℕ) → n < 2 ^ 64 → (k : ℕ) → 10 ^ k ≤ n → k < length (decimal n)
more_digits = decimal_by_steps (λ m ds. (k : ℕ) → 10 ^ k ≤ m → k < length ds) one_digit next_digit
  where
    one_digit : (m : ℕ) → m < 10 → (k : ℕ) → 10 ^ k ≤ m → k < length ((48 + m) ∷ [])
    one_digit m small zero large = omega arith
    one_digit m small (suc k) large = absurd (omega (arith, small, large, some k))
      where
        some : (k : ℕ) → 0 < 10 ^ k
        some zero = omega arith
        some (suc k) = omega (arith, some k)

    next_digit : (m : ℕ) (ds : List ℕ) → 10 ≤ m → ((k : ℕ) → 10 ^ k ≤ m / 10 → k < length ds) → (k : ℕ) → 10 ^ k ≤ m → k < length (ds ++ (48 + m % 10) ∷ [])
    next_digit m ds many before zero large = omega (arith, length-append ds ((48 + m % 10) ∷ []))
    next_digit m ds many before (suc k) large = let less : 10 ^ k ≤ m / 10 = omega (arith, large) in omega (arith, before k less, length-append ds ((48 + m % 10) ∷ []))

-- so many digits has a number between two powers of ten
pub digits_between : (n k : ℕ) → n < 2 ^ 64 → 10 ^ k ≤ max n 1 → max n 1 < 10 * 10 ^ k → k + 1 ≡ length (decimal n)
digits_between zero zero bound low high = omega (arith, length-decimal-le 1 0 (omega arith) (omega arith) bound, decimal_nonempty 0 bound)
digits_between zero (suc k) bound low high = absurd (omega (arith, low, some k))
  where
    some : (k : ℕ) → 0 < 10 ^ k
    some zero = omega arith
    some (suc k) = omega (arith, some k)
digits_between (suc n) k bound low high =
    let most : length (decimal (suc n)) ≤ suc k = length-decimal-le (suc k) (suc n) (omega arith) (omega (arith, high)) bound in
    let least : k < length (decimal (suc n)) = more_digits (suc n) bound k (omega (arith, low)) in
    omega (arith, most, least)
