-- Digits in the bytes of a word.
use Rattle.std.proofs.Common.{◌≡◌, ℕ, zero, suc, ◌+◌, ◌-◌, ◌*◌, ◌/◌, ◌%◌, ◌^◌, ◌<◌, ◌≤◌, List, [], ◌∷◌, ◌++◌, length, take, drop, slice_index_or, refl, sym, ◌∙◌, ap, arith, append_assoc}
use Rattle.std.proofs.Math.Nat.{div-div-eq-div-mul}
use Rattle.std.proofs.lemmas.Nat.{pow-add}
use Rattle.std.specs.Int.{w64, to_le_bytes, bytes_low_first, byte_at}
use Rattle.pl_text.specs.ValueText.{padded}
use Rattle.std.specs.Prelude.{decimal}
use Rattle.pl_write.proofs.PaddedLaws.{padded-step, padded-two, padded-three, padded-four, padded-onto, padded-drop, padded-bare, decimal-onto_four}

-- ---- the table of two digits

abbrev pub pair_of : ℕ → ℕ
pair_of n = (48 + n / 10) + 256 * (48 + n % 10)

abbrev pub pairs_from : ℕ → ℕ → List ℕ
pairs_from start zero = []
pairs_from start (suc n) = pair_of start ∷ pairs_from (start + 1) n

pub pair_at : (start n k d : ℕ) → k < n → slice_index_or (pairs_from start n) k d ≡ pair_of (start + k)
pair_at start zero k d h = absurd (omega arith)
pair_at start (suc n) zero d h = ap pair_of (omega arith)
pair_at start (suc n) (suc k) d h = pair_at (start + 1) n k d (omega arith) ∙ ap pair_of (omega arith)

-- ---- eight digits

-- four digits more
pub padded-onto_four : (v n : ℕ) → n < 2 ^ 64 → padded (suc (suc (suc (suc (suc v))))) n ≡ padded (suc v) (n / 10000) ++ padded 4 (n % 10000)
padded-onto_four v n bound =
    let back : padded 4 (n % 10000) ≡ (48 + n / 1000 % 10) ∷ padded 3 (n % 1000) = padded-four (n % 10000) (omega arith) ∙ rw (padded-three (n % 1000) (omega arith)) same in
    padded-onto (suc v) n bound
    ∙ ap (λ l. l ++ padded 3 (n % 1000)) (padded-step v (n / 1000) (omega (arith, bound)))
    ∙ append_assoc (padded (suc v) (n / 1000 / 10)) ((48 + n / 1000 % 10) ∷ []) (padded 3 (n % 1000))
    ∙ ap (λ k. padded (suc v) k ++ (48 + n / 1000 % 10) ∷ padded 3 (n % 1000)) (omega arith)
    ∙ ap (λ l. padded (suc v) (n / 10000) ++ l) (sym back)
  where
    same : (48 + n % 10000 / 1000) ∷ (48 + n % 10000 / 100 % 10) ∷ (48 + n % 10000 / 10 % 10) ∷ (48 + n % 10000 % 10) ∷ []
        ≡ (48 + n / 1000 % 10) ∷ (48 + n % 1000 / 100) ∷ (48 + n % 1000 / 10 % 10) ∷ (48 + n % 1000 % 10) ∷ []
    same =
        let a : n % 10000 / 1000 ≡ n / 1000 % 10 = omega arith in
        let b : n % 10000 / 100 % 10 ≡ n % 1000 / 100 = omega arith in
        let d : n % 10000 / 10 % 10 ≡ n % 1000 / 10 % 10 = omega arith in
        let e : n % 10000 % 10 ≡ n % 1000 % 10 = omega arith in
        rw (a, b, d, e) refl

-- four digits are two pairs
padded-pairs : (n : ℕ) → n < 10000 → padded 4 n ≡ (48 + n / 100 / 10) ∷ (48 + n / 100 % 10) ∷ (48 + n % 100 / 10) ∷ (48 + n % 100 % 10) ∷ []
padded-pairs n small =
    let a : n / 1000 ≡ n / 100 / 10 = omega arith in
    let b : n / 10 % 10 ≡ n % 100 / 10 = omega arith in
    let e : n % 10 ≡ n % 100 % 10 = omega arith in
    padded-four n small ∙ rw (a, b, e) refl

-- four digits are twice two
pub padded-twice : (n : ℕ) → n < 10000 → padded 2 (n / 100) ++ padded 2 (n % 100) ≡ padded 4 n
padded-twice n small = rw (padded-two (n / 100) (omega arith), padded-two (n % 100) (omega arith)) (sym (padded-pairs n small))

pub padded-eight : (n : ℕ) → n < 100000000 → padded 8 n ≡ padded 4 (n / 10000) ++ padded 4 (n % 10000)
padded-eight n small = padded-onto_four 3 n (omega (arith, small))

-- the last eight digits of a number, and those in front of them
pub decimal-onto_eight : (n : ℕ) → n < 2 ^ 64 → 100000000 ≤ n → decimal n ≡ decimal (n / 100000000) ++ padded 8 (n % 100000000)
decimal-onto_eight n bound large =
    let front : n / 10000 / 10000 ≡ n / 100000000 = omega arith in
    let a : n / 10000 % 10000 ≡ n % 100000000 / 10000 = omega arith in
    let b : n % 10000 ≡ n % 100000000 % 10000 = omega arith in
    decimal-onto_four n bound (omega (arith, large))
    ∙ ap (λ l. l ++ padded 4 (n % 10000)) (decimal-onto_four (n / 10000) (omega (arith, bound)) (omega (arith, large)))
    ∙ append_assoc (decimal (n / 10000 / 10000)) (padded 4 (n / 10000 % 10000)) (padded 4 (n % 10000))
    ∙ rw (front, a, b) (ap (λ l. decimal (n / 100000000) ++ l) (sym (padded-eight (n % 100000000) (omega arith))))

-- the digits of a word, without its zeros in front
pub digits-from : (n count : ℕ) (bytes digits : List ℕ) → count ≡ length (decimal n) → count ≤ 8 → digits ≡ padded 8 n
    → take (8 - (8 - count)) bytes ≡ drop (8 - count) digits → take count bytes ≡ decimal n
digits-from n count bytes digits is few all from =
    let back : 8 - (8 - count) ≡ count = omega arith in
    let inside : length (decimal n) + (8 - count) ≤ 8 = omega (arith, is) in
    ap (λ k. take k bytes) (sym back) ∙ from ∙ ap (λ l. drop (8 - count) l) all ∙ padded-drop (8 - count) 8 n inside
    ∙ padded-bare (8 - (8 - count)) n (omega (arith, is))

-- ---- the bytes of a word

-- a word that is a sum of bytes has these bytes
word_of : (a b c d e f g h w : ℕ) → a < 256 → b < 256 → c < 256 → d < 256 → e < 256 → f < 256 → g < 256 → h < 256
    → w ≡ (a + 256 * b) + (c + 256 * d) * 65536 + (e + 256 * f) * 4294967296 + (g + 256 * h) * 281474976710656
    → to_le_bytes w64 w ≡ a ∷ b ∷ c ∷ d ∷ e ∷ f ∷ g ∷ h ∷ []
word_of a b c d e f g h w ha hb hc hd he hf hg hh is =
    let e0 : w % 256 ≡ a = omega arith in
    let e1 : w / 256 % 256 ≡ b = omega arith in
    let e2 : w / 65536 % 256 ≡ c = omega arith in
    let e3 : w / 16777216 % 256 ≡ d = omega arith in
    let e4 : w / 4294967296 % 256 ≡ e = omega arith in
    let e5 : w / 1099511627776 % 256 ≡ f = omega arith in
    let e6 : w / 281474976710656 % 256 ≡ g = omega arith in
    let e7 : w / 72057594037927936 % 256 ≡ h = omega arith in
    rw (e0, e1, e2, e3, e4, e5, e6, e7) refl

-- the word of four pairs of digits
pub word-digits : (n w : ℕ) → n < 100000000
    → w ≡ pair_of (n / 10000 / 100) + pair_of (n / 10000 % 100) * 65536 + pair_of (n % 10000 / 100) * 4294967296 + pair_of (n % 10000 % 100) * 281474976710656
    → to_le_bytes w64 w ≡ padded 8 n
word-digits n w small is =
    let high = n / 10000 in
    let low = n % 10000 in
    word_of (48 + high / 100 / 10) (48 + high / 100 % 10) (48 + high % 100 / 10) (48 + high % 100 % 10) (48 + low / 100 / 10) (48 + low / 100 % 10) (48 + low % 100 / 10) (48 + low % 100 % 10) w
    (omega arith) (omega arith) (omega arith) (omega arith) (omega arith) (omega arith) (omega arith) (omega arith) is
    ∙ sym (padded-eight n small ∙ rw (padded-pairs high (omega arith), padded-pairs low (omega arith)) refl)

-- the word of a pair of digits
pub pair-digits : (n w : ℕ) → n < 100 → w ≡ pair_of n → take 2 (to_le_bytes w64 w) ≡ padded 2 n
pair-digits n w small is =
    let e0 : w % 256 ≡ 48 + n / 10 = omega arith in
    let e1 : w / 256 % 256 ≡ 48 + n % 10 = omega arith in
    rw (e0, e1) (sym (padded-two n small))

-- ---- the bytes from a place on

byte_is : (i n : ℕ) → byte_at i n ≡ n / 256 ^ i % 256
byte_is zero n = omega arith
byte_is (suc i) n = refl

byte_on : (i k n : ℕ) → byte_at i (n / 256 ^ k) ≡ byte_at (k + i) n
byte_on i k n =
    byte_is i (n / 256 ^ k) ∙ ap (λ m. m % 256) (div-div-eq-div-mul n (256 ^ k) (256 ^ i) ∙ ap (λ p. n / p) (sym (pow-add 256 k i))) ∙ sym (byte_is (k + i) n)

bytes_on : (j i k n : ℕ) → bytes_low_first i j (n / 256 ^ k) ≡ bytes_low_first (k + i) j n
bytes_on zero i k n = refl
bytes_on (suc j) i k n =
    let next : k + suc i ≡ suc (k + i) = omega arith in
    ap (λ b. b ∷ bytes_low_first (suc i) j (n / 256 ^ k)) (byte_on i k n)
    ∙ ap (λ l. byte_at (k + i) n ∷ l) (bytes_on j (suc i) k n ∙ ap (λ p. bytes_low_first p j n) next)

take_bytes : (m r i n : ℕ) → take m (bytes_low_first i (m + r) n) ≡ bytes_low_first i m n
take_bytes zero r i n = refl
take_bytes (suc m) r i n =
    let more : suc m + r ≡ suc (m + r) = omega arith in
    rw more (ap (λ l. byte_at i n ∷ l) (take_bytes m r (suc i) n))

drop_bytes : (k r i n : ℕ) → drop k (bytes_low_first i (k + r) n) ≡ bytes_low_first (k + i) r n
drop_bytes zero r i n =
    let all : zero + r ≡ r = omega arith in
    let here : i ≡ zero + i = omega arith in
    rw all (ap (λ p. bytes_low_first p r n) here)
drop_bytes (suc k) r i n =
    let more : suc k + r ≡ suc (k + r) = omega arith in
    let next : k + suc i ≡ suc k + i = omega arith in
    rw more (drop_bytes k r (suc i) n ∙ ap (λ p. bytes_low_first p r n) next)

pub bytes-from : (k n : ℕ) → k < 8 → take (8 - k) (to_le_bytes w64 (n / 256 ^ k)) ≡ drop k (to_le_bytes w64 n)
bytes-from k n h =
    let one : (8 - k) + k ≡ 8 = omega arith in
    let two : k + (8 - k) ≡ 8 = omega arith in
    ap (λ j. take (8 - k) (bytes_low_first 0 j (n / 256 ^ k))) (sym one)
    ∙ take_bytes (8 - k) k 0 (n / 256 ^ k)
    ∙ bytes_on (8 - k) 0 k n
    ∙ sym (drop_bytes k (8 - k) 0 n)
    ∙ ap (λ j. drop k (bytes_low_first 0 j n)) two

-- eight bits are a byte
pub byte_power : (k : ℕ) → 2 ^ (8 * k) ≡ 256 ^ k
byte_power zero = refl
byte_power (suc k) =
    let eight : 8 * suc k ≡ 8 * k + 8 = omega arith in
    let one : suc k ≡ k + 1 = omega arith in
    ap (λ e. 2 ^ e) eight ∙ pow-add 2 (8 * k) 8 ∙ ap (λ p. p * 256) (byte_power k) ∙ sym (pow-add 256 k 1) ∙ ap (λ e. 256 ^ e) (sym one)
