-- How many digits a number has, by the power of two at or below it.
use Rattle.std.proofs.Common.{◌≡◌, ℕ, zero, suc, ◌+◌, ◌-◌, ◌*◌, ◌/◌, ◌^◌, ◌<◌, ◌≤◌, max, nat_eq, nat_lt, nat_le, ◌&&◌, Bool, true, false, List, [], ◌∷◌, length, get_or, refl, ◌∙◌, ap, arith, lit<}
use Rattle.std.specs.Prelude.{decimal}
use Rattle.std.proofs.Math.Nat.{pow-le-pow_right}
use Rattle.std.proofs.lemmas.Bool.Decides.{nat_tests}
use Rattle.pl_write.proofs.DigitLaws.{digits_between}

-- what the table has for a power of two of d + 1 digits
abbrev is_count : ℕ → ℕ → ℕ → Bool
is_count k e d = nat_eq (e + 10 * 10 ^ d) ((d + 2) * 4294967296) && (nat_lt (2 ^ k) (10 * 10 ^ d) && (nat_le (10 ^ d) (2 ^ k) && nat_le (10 * 10 ^ d) 100000000))

-- the powers of two from one on
abbrev are_counts : ℕ → List ℕ → Bool
are_counts k [] = true
are_counts k (e ∷ es) = is_count k e (e / 4294967296 - 1) && are_counts (k + 1) es

abbrev counts : List ℕ
counts = 8589934582 ∷ 8589934582 ∷ 8589934582 ∷ 8589934582 ∷ 12884901788 ∷ 12884901788 ∷ 12884901788 ∷ 17179868184 ∷ 17179868184 ∷ 17179868184
    ∷ 21474826480 ∷ 21474826480 ∷ 21474826480 ∷ 21474826480 ∷ 25769703776 ∷ 25769703776 ∷ 25769703776 ∷ 30063771072 ∷ 30063771072 ∷ 30063771072
    ∷ 34349738368 ∷ 34349738368 ∷ 34349738368 ∷ 34349738368 ∷ 38554705664 ∷ 38554705664 ∷ 38554705664 ∷ []

both : (a b : Bool) → (a && b) ≡ true → (a ≡ true) × (b ≡ true)
both true b h = (refl, h)
both false b h = absurd (cc)

count_at : (es : List ℕ) (start k : ℕ) → are_counts start es ≡ true → k < length es → is_count (start + k) (get_or es k 0) (get_or es k 0 / 4294967296 - 1) ≡ true
count_at [] start k all inside = absurd (omega arith)
count_at (e ∷ es) start zero all inside = let here : start + zero ≡ start = omega arith in rw here ((both _ _ all).0)
count_at (e ∷ es) start (suc k) all inside = let next : start + suc k ≡ start + 1 + k = omega arith in rw next (count_at es (start + 1) k ((both _ _ all).1) (omega arith))

-- the sum is carried where the number has a digit more than the power of two
counts_by : (n two e d : ℕ) → e + 10 * 10 ^ d ≡ (d + 2) * 4294967296 → two < 10 * 10 ^ d → 10 ^ d ≤ two → 10 * 10 ^ d ≤ 100000000
    → two ≤ max n 1 → max n 1 < 2 * two → n < 100000000 → (n + e) / 4294967296 ≡ length (decimal n)
counts_by n two e d is more least most low high small = by_size (nat_le (10 * 10 ^ d) n) refl
  where
    by_size : (t : Bool) → nat_le (10 * 10 ^ d) n ≡ t → (n + e) / 4294967296 ≡ length (decimal n)
    by_size true h =
        let large : 10 * 10 ^ d ≤ n = grind (arith, nat_tests, h) in
        let count : (n + e) / 4294967296 ≡ suc d + 1 = omega (arith, is, large, small, most) in
        count ∙ digits_between n (suc d) (omega (arith, small)) (omega (arith, large)) (omega (arith, high, more))
    by_size false h =
        let less : n < 10 * 10 ^ d = grind (arith, nat_tests, h) in
        let count : (n + e) / 4294967296 ≡ d + 1 = omega (arith, is, less, small, most) in
        count ∙ digits_between n d (omega (arith, small)) (omega (arith, least, low)) (omega (arith, less, more, least, low, high))

-- the power of two at or below a number is one of the table
pub few_bits : (n k : ℕ) → n < 100000000 → 2 ^ k ≤ max n 1 → k < 27
few_bits n k small low = by_size (nat_lt k 27) refl
  where
    by_size : (t : Bool) → nat_lt k 27 ≡ t → k < 27
    by_size true h = grind (arith, nat_tests, h)
    by_size false h =
        let many : 27 ≤ k = grind (arith, nat_tests, h) in
        let large : 2 ^ 27 ≤ 2 ^ k = pow-le-pow_right (lit< tt) {i = 27} {j = k} many in
        absurd (omega (arith, large, low, small))

-- the table counts
pub count-by_table : (n m k : ℕ) → m ≡ n → 2 ^ k ≤ max n 1 → max n 1 < 2 * 2 ^ k → n < 100000000 → (m + get_or counts k 0) / 4294967296 ≡ length (decimal n)
count-by_table n m k same low high small =
    let e = get_or counts k 0 in
    let d = e / 4294967296 - 1 in
    let is : Bool = nat_eq (e + 10 * 10 ^ d) ((d + 2) * 4294967296) in
    let more : Bool = nat_lt (2 ^ k) (10 * 10 ^ d) in
    let least : Bool = nat_le (10 ^ d) (2 ^ k) in
    let most : Bool = nat_le (10 * 10 ^ d) 100000000 in
    let here : 0 + k ≡ k = omega arith in
    let told : is_count k e d ≡ true = rw here at (count_at counts 0 k refl (few_bits n k small low)) in
    let one = both is (more && (least && most)) told in
    let two = both more (least && most) one.1 in
    let three = both least most two.1 in
    ap (λ x. (x + e) / 4294967296) same
    ∙ counts_by n (2 ^ k) e d (grind (arith, nat_tests, one.0)) (grind (arith, nat_tests, two.0)) (grind (arith, nat_tests, three.0)) (grind (arith, nat_tests, three.1)) low high small
