-- Numbers in a fixed number of digits.
use Rattle.std.proofs.Common.{◌≡◌, ℕ, zero, suc, ◌+◌, ◌-◌, ◌/◌, ◌%◌, ◌^◌, ◌<◌, ◌≤◌, nat_le, Bool, true, false, List, [], ◌∷◌, ◌++◌, length, replicate, drop, refl, sym, ◌∙◌, ap, arith, append_assoc, length-append}
use Rattle.std.specs.Prelude.{decimal}
use Rattle.std.proofs.lemmas.List.{drop-append-le, drop-replicate, length-replicate}
use Rattle.std.proofs.lemmas.Fmt.{decimal_digit, decimal_step, decimal_by_steps_wide}
use Rattle.std.proofs.lemmas.Bool.Decides.{nat_tests}
use Rattle.pl_text.specs.ValueText.{padded}

-- one more in front is one more behind
replicate-behind : (x n : ℕ) → replicate n x ++ x ∷ [] ≡ x ∷ replicate n x
replicate-behind x zero = refl
replicate-behind x (suc n) = ap (λ l. x ∷ l) (replicate-behind x n)

-- a number of one digit
padded-one : (w n : ℕ) → n < 10 → padded (suc w) n ≡ replicate w 48 ++ (48 + n) ∷ []
padded-one w n small = ap (λ d. replicate (suc w - length d) 48 ++ d) (decimal_digit n small) ∙ ap (λ k. replicate k 48 ++ (48 + n) ∷ []) less
  where
    less : suc w - 1 ≡ w
    less = omega (arith)

-- a number in one digit more: the number without its last digit, and that digit
pub padded-step : (w n : ℕ) → n < 2 ^ 64 → padded (suc (suc w)) n ≡ padded (suc w) (n / 10) ++ (48 + n % 10) ∷ []
padded-step w n bound = by_size (nat_le 10 n) refl
  where
    by_size : (t : Bool) → nat_le 10 n ≡ t → padded (suc (suc w)) n ≡ padded (suc w) (n / 10) ++ (48 + n % 10) ∷ []
    by_size false h =
        let small : n < 10 = grind (arith, nat_tests, h) in
        let none : n / 10 ≡ 0 = omega (arith, small) in
        let all : n % 10 ≡ n = omega (arith, small) in
        let front : padded (suc w) (n / 10) ≡ replicate (suc w) 48 = ap (padded (suc w)) none ∙ (padded-one w 0 (omega (arith)) ∙ replicate-behind 48 w) in
        padded-one (suc w) n small ∙ (ap (λ l. l ++ (48 + n) ∷ []) (sym front) ∙ ap (λ k. padded (suc w) (n / 10) ++ (48 + k) ∷ []) (sym all))
    by_size true h =
        let large : 10 ≤ n = grind (arith, nat_tests, h) in
        let step = decimal_step n large bound in
        let d = decimal (n / 10) in
        let last = 48 + n % 10 in
        let longer : length (d ++ last ∷ []) ≡ length d + 1 = length-append d (last ∷ []) in
        let room : suc (suc w) - length (d ++ last ∷ []) ≡ suc w - length d = omega (arith, longer) in
        ap (λ l. replicate (suc (suc w) - length l) 48 ++ l) step
        ∙ (ap (λ k. replicate k 48 ++ (d ++ last ∷ [])) room ∙ sym (append_assoc (replicate (suc w - length d) 48) d (last ∷ [])))

-- two, three and four digits
pub padded-two : (n : ℕ) → n < 100 → padded 2 n ≡ (48 + n / 10) ∷ (48 + n % 10) ∷ []
padded-two n small = padded-step 0 n (omega (arith, small)) ∙ ap (λ l. l ++ (48 + n % 10) ∷ []) (padded-one 0 (n / 10) (omega (arith, small)))

pub padded-three : (n : ℕ) → n < 1000 → padded 3 n ≡ (48 + n / 100) ∷ (48 + n / 10 % 10) ∷ (48 + n % 10) ∷ []
padded-three n small =
    let hundreds : n / 10 / 10 ≡ n / 100 = omega (arith) in
    padded-step 1 n (omega (arith, small)) ∙ (ap (λ l. l ++ (48 + n % 10) ∷ []) (padded-two (n / 10) (omega (arith, small)))
    ∙ ap (λ h. (48 + h) ∷ (48 + n / 10 % 10) ∷ (48 + n % 10) ∷ []) hundreds)

pub padded-four : (n : ℕ) → n < 10000 → padded 4 n ≡ (48 + n / 1000) ∷ (48 + n / 100 % 10) ∷ (48 + n / 10 % 10) ∷ (48 + n % 10) ∷ []
padded-four n small =
    let thousands : n / 10 / 100 ≡ n / 1000 = omega (arith) in
    let hundreds : n / 10 / 10 ≡ n / 100 = omega (arith) in
    padded-step 2 n (omega (arith, small)) ∙ (ap (λ l. l ++ (48 + n % 10) ∷ []) (padded-three (n / 10) (omega (arith, small)))
    ∙ (ap (λ t. (48 + t) ∷ (48 + n / 10 / 10 % 10) ∷ (48 + n / 10 % 10) ∷ (48 + n % 10) ∷ []) thousands
    ∙ ap (λ h. (48 + n / 1000) ∷ (48 + h % 10) ∷ (48 + n / 10 % 10) ∷ (48 + n % 10) ∷ []) hundreds))

-- three digits more
pub padded-onto : (v n : ℕ) → n < 2 ^ 64 → padded (suc (suc (suc (suc v)))) n ≡ padded (suc v) (n / 1000) ++ padded 3 (n % 1000)
padded-onto v n bound =
    let one = padded-step (suc (suc v)) n bound in
    let two = padded-step (suc v) (n / 10) (omega (arith, bound)) in
    let three = padded-step v (n / 10 / 10) (omega (arith, bound)) in
    let front = padded (suc v) (n / 1000) in
    let thousands : n / 10 / 10 / 10 ≡ n / 1000 = omega (arith) in
    let a : n / 10 / 10 % 10 ≡ n % 1000 / 100 = omega (arith) in
    let b : n / 10 % 10 ≡ n % 1000 / 10 % 10 = omega (arith) in
    let c : n % 10 ≡ n % 1000 % 10 = omega (arith) in
    let digits : List ℕ = (48 + n / 10 / 10 % 10) ∷ (48 + n / 10 % 10) ∷ (48 + n % 10) ∷ [] in
    let glued : ((padded (suc v) (n / 10 / 10 / 10) ++ (48 + n / 10 / 10 % 10) ∷ []) ++ (48 + n / 10 % 10) ∷ []) ++ (48 + n % 10) ∷ [] ≡ padded (suc v) (n / 10 / 10 / 10) ++ digits =
    append_assoc (padded (suc v) (n / 10 / 10 / 10) ++ (48 + n / 10 / 10 % 10) ∷ []) ((48 + n / 10 % 10) ∷ []) ((48 + n % 10) ∷ [])
    ∙ append_assoc (padded (suc v) (n / 10 / 10 / 10)) ((48 + n / 10 / 10 % 10) ∷ []) ((48 + n / 10 % 10) ∷ (48 + n % 10) ∷ []) in
    let last : padded 3 (n % 1000) ≡ digits = padded-three (n % 1000) (omega (arith)) ∙ sym (rw (a, b, c) refl) in
    one ∙ (ap (λ l. l ++ (48 + n % 10) ∷ []) (two ∙ ap (λ l. l ++ (48 + n / 10 % 10) ∷ []) three)
    ∙ (glued ∙ (ap (λ k. padded (suc v) k ++ digits) thousands ∙ ap (λ l. front ++ l) (sym last))))

-- six and nine digits
pub padded-six : (n : ℕ) → n < 1000000 → padded 6 n ≡ padded 3 (n / 1000) ++ padded 3 (n % 1000)
padded-six n small = padded-onto 2 n (omega (arith, small))

pub padded-nine : (n : ℕ) → n < 1000000000 → padded 9 n ≡ padded 3 (n / 1000000) ++ (padded 3 (n / 1000 % 1000) ++ padded 3 (n % 1000))
padded-nine n small =
    let millions : n / 1000 / 1000 ≡ n / 1000000 = omega (arith) in
    padded-onto 5 n (omega (arith, small)) ∙ (ap (λ l. l ++ padded 3 (n % 1000)) (padded-six (n / 1000) (omega (arith, small)))
    ∙ (append_assoc (padded 3 (n / 1000 / 1000)) (padded 3 (n / 1000 % 1000)) (padded 3 (n % 1000)) ∙ ap (λ k. padded 3 k ++ (padded 3 (n / 1000 % 1000) ++ padded 3 (n % 1000))) millions))

-- a number has a digit
pub decimal_some : (n : ℕ) → n < 10 ^ 64 → 0 < length (decimal n)
decimal_some n bound = decimal_by_steps_wide (λ k ds. 0 < length ds) (λ k small. omega (arith)) (λ k ds large some. omega (arith, some, length-append ds ((48 + k % 10) ∷ []))) n bound

-- without some of the zeros in front
pub padded-drop : (k w n : ℕ) → length (decimal n) + k ≤ w → drop k (padded w n) ≡ padded (w - k) n
padded-drop k w n h =
    let inside : k ≤ length (replicate (w - length (decimal n)) 48) = omega (arith, length-replicate {A = ℕ} (w - length (decimal n)) 48) in
    let fewer : w - length (decimal n) - k ≡ w - k - length (decimal n) = omega arith in
    drop-append-le k (replicate (w - length (decimal n)) 48) (decimal n) inside
    ∙ ap (λ l. l ++ decimal n) (drop-replicate k (w - length (decimal n)) 48 ∙ ap (λ j. replicate j 48) fewer)

-- no zeros in front
pub padded-bare : (w n : ℕ) → w ≤ length (decimal n) → padded w n ≡ decimal n
padded-bare w n h = let none : w - length (decimal n) ≡ 0 = omega arith in ap (λ j. replicate j 48 ++ decimal n) none

-- the last digits of a number, and those in front of them
pub decimal-onto_four : (n : ℕ) → n < 2 ^ 64 → 10000 ≤ n → decimal n ≡ decimal (n / 10000) ++ padded 4 (n % 10000)
decimal-onto_four n bound large =
    let one = decimal_step n (omega (arith, large)) bound in
    let two = decimal_step (n / 10) (omega (arith, large)) (omega (arith, bound)) in
    let three = decimal_step (n / 10 / 10) (omega (arith, large)) (omega (arith, bound)) in
    let four = decimal_step (n / 10 / 10 / 10) (omega (arith, large)) (omega (arith, bound)) in
    let front : n / 10 / 10 / 10 / 10 ≡ n / 10000 = omega arith in
    let a : n % 10000 / 1000 ≡ n / 10 / 10 / 10 % 10 = omega arith in
    let b : n % 10000 / 100 % 10 ≡ n / 10 / 10 % 10 = omega arith in
    let d : n % 10000 / 10 % 10 ≡ n / 10 % 10 = omega arith in
    let e : n % 10000 % 10 ≡ n % 10 = omega arith in
    one ∙ ap (λ l. l ++ (48 + n % 10) ∷ []) (two ∙ ap (λ l. l ++ (48 + n / 10 % 10) ∷ []) (three ∙ ap (λ l. l ++ (48 + n / 10 / 10 % 10) ∷ []) four))
    ∙ four_behind (decimal (n / 10 / 10 / 10 / 10)) (48 + n / 10 / 10 / 10 % 10) (48 + n / 10 / 10 % 10) (48 + n / 10 % 10) (48 + n % 10)
    ∙ ap (λ k. decimal k ++ (48 + n / 10 / 10 / 10 % 10) ∷ (48 + n / 10 / 10 % 10) ∷ (48 + n / 10 % 10) ∷ (48 + n % 10) ∷ []) front
    ∙ ap (λ l. decimal (n / 10000) ++ l) (sym (padded-four (n % 10000) (omega arith) ∙ rw (a, b, d, e) refl))
  where
    four_behind : (x : List ℕ) (a b c d : ℕ) → (((x ++ a ∷ []) ++ b ∷ []) ++ c ∷ []) ++ d ∷ [] ≡ x ++ a ∷ b ∷ c ∷ d ∷ []
    four_behind x a b c d = simp append_assoc
