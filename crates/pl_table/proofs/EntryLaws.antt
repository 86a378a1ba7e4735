-- What words of ends hold.
use Rattle.std.proofs.Common.{◌≡◌, ℕ, zero, suc, ◌+◌, ◌-◌, ◌*◌, ◌/◌, ◌%◌, ◌^◌, ◌<◌, ◌≤◌, min, Bool, true, false, cond, ◌==◌, List, [], ◌∷◌, ◌++◌, map, length, refl, sym, ap, ap₂, ◌∙◌, arith, mod-lt, zero-lt-suc, pow-suc, add-zero}
use Rattle.std.specs.Simd.Lanes.{mask_l}
use lib.Bits.{bit_and, bit_xor, and_step, and_self, and_zero_r, xor_step, xor_self, differ}
use lib.Count.{count_trailing_zeros, under, ones, ones_step}
use Rattle.pl_frame.specs.Dialect.{Marks}
use Rattle.pl_table.specs.declared.block.Spot.{Spot}
use Rattle.pl_table.specs.Ends.{ends_field, next_spot, spot_behind, end_flags, line_flags}
use Rattle.pl_scan.specs.Bits.{set_bits}
use Rattle.pl_table.specs.Entries.{End, end_at, entries, place_behind, row_ends, counts}
use Rattle.pl_scan.proofs.BitLaws.{bit_cases}
use Rattle.pl_scan.proofs.SetBitLaws.{set_bits-zero}

-- ---- places

abbrev place_turn : ℕ → ℕ → ℕ → ℕ → List ℕ
place_turn n k r t = cond (r == 1) (k ∷ set_bits n (k + 1) t) (set_bits n (k + 1) t)

abbrev PlaceGoal : ℕ → ℕ → ℕ → Type 0
PlaceGoal n k x = place_turn n k (x % 2) (x / 2) ≡ (k + under (x % 2) (count_trailing_zeros n (x / 2))) ∷ place_turn n k (bit_and x (x - 1) % 2) (bit_and x (x - 1) / 2)

-- the lowest bit gives the first place
pub set_bits-lowest : (n k x : ℕ) → 0 < x → x < 2 ^ n → set_bits n k x ≡ (k + count_trailing_zeros n x) ∷ set_bits n k (bit_and x (x - 1))
unfolding set_bits count_trailing_zeros
set_bits-lowest zero k x pos h = let no : ⊥ = omega arith in absurd no
set_bits-lowest (suc n) k x pos h = bit_cases (λ r. x % 2 ≡ r → PlaceGoal n k x) (even (λ p. set_bits-lowest n (k + 1) (x / 2) p (omega (arith, pow-suc 2 n)))) odd (x % 2) (mod-lt x (zero-lt-suc 1)) refl
  where
    odd : x % 2 ≡ 1 → PlaceGoal n k x
    odd e =
        let y = bit_and x (x - 1) in
        let half : (x - 1) / 2 ≡ x / 2 = omega arith in
        let low : min (x % 2) ((x - 1) % 2) ≡ 0 = omega arith in
        let is : y ≡ x / 2 * 2 + 0 = and_step x (x - 1) ∙ ap₂ (λ u v. u * 2 + v) (ap (bit_and (x / 2)) half ∙ and_self (x / 2)) low in
        let p : y % 2 ≡ 0 = omega arith in
        let q : y / 2 ≡ x / 2 = omega arith in
        ap (λ r. place_turn n k r (x / 2)) e ∙ ap₂ (λ u v. u ∷ v) (sym (ap (λ r. k + under r (count_trailing_zeros n (x / 2))) e ∙ add-zero k)) (sym (ap₂ (place_turn n k) p q))

    even : (0 < x / 2 → set_bits n (k + 1) (x / 2) ≡ (k + 1 + count_trailing_zeros n (x / 2)) ∷ set_bits n (k + 1) (bit_and (x / 2) (x / 2 - 1))) → x % 2 ≡ 0 → PlaceGoal n k x
    even below e =
        let y = bit_and x (x - 1) in
        let half : (x - 1) / 2 ≡ x / 2 - 1 = omega arith in
        let low : min (x % 2) ((x - 1) % 2) ≡ 0 = omega arith in
        let z = bit_and (x / 2) (x / 2 - 1) in
        let is : y ≡ z * 2 + 0 = and_step x (x - 1) ∙ ap₂ (λ u v. u * 2 + v) (ap (bit_and (x / 2)) half) low in
        let p : y % 2 ≡ 0 = omega arith in
        let q : y / 2 ≡ z = omega arith in
        let t = count_trailing_zeros n (x / 2) in
        let place : k + 1 + t ≡ k + suc t = omega arith in
        ap (λ r. place_turn n k r (x / 2)) e ∙ below (omega arith)
        ∙ ap₂ (λ u v. u ∷ v) (place ∙ sym (ap (λ r. k + under r t) e)) (sym (ap₂ (place_turn n k) p q))

-- ---- counts

pub counts-zero : (n c e : ℕ) → counts n c e 0 ≡ []
unfolding counts
counts-zero zero c e = refl
counts-zero (suc n) c e = counts-zero n (c + e % 2) (e / 2)

pub length-counts : (n c e x : ℕ) → x < 2 ^ n → length (counts n c e x) ≡ ones x
unfolding counts ones
length-counts zero c e x h = let z : 0 ≡ x = omega arith in ap ones z
length-counts (suc n) c e x h =
    let rest = counts n (c + e % 2) (e / 2) (x / 2) in
    bit_cases (λ r. length (cond (r == 1) ((c + e % 2) ∷ rest) rest) ≡ r + length rest) (omega arith) (omega arith) (x % 2) (mod-lt x (zero-lt-suc 1))
    ∙ ap (λ l. x % 2 + l) (length-counts n (c + e % 2) (e / 2) (x / 2) (omega (arith, pow-suc 2 n))) ∙ sym (ones_step x)

-- the bits up to the lowest one
abbrev pub through : ℕ → ℕ
through x = bit_xor x (x - 1)

ones-digit : (e : ℕ) → ones (e % 2) ≡ e % 2
unfolding ones
ones-digit e = bit_cases (λ r. ones r ≡ r) refl refl (e % 2) (mod-lt e (zero-lt-suc 1))

ones-odd : (w r : ℕ) → r < 2 → ones (w * 2 + r) ≡ r + ones w
ones-odd w r h =
    let low : (w * 2 + r) % 2 ≡ r = omega arith in
    let high : (w * 2 + r) / 2 ≡ w = omega arith in
    ones_step (w * 2 + r) ∙ ap₂ (λ u v. u + ones v) low high

abbrev count_turn : ℕ → ℕ → ℕ → ℕ → ℕ → List ℕ
count_turn n c e r t = cond (r == 1) ((c + e % 2) ∷ counts n (c + e % 2) (e / 2) t) (counts n (c + e % 2) (e / 2) t)

abbrev CountGoal : ℕ → ℕ → ℕ → ℕ → Type 0
CountGoal n c e x = count_turn n c e (x % 2) (x / 2) ≡ (c + ones (bit_and e (through x))) ∷ count_turn n c e (bit_and x (x - 1) % 2) (bit_and x (x - 1) / 2)

-- the lowest bit gives the first count
pub counts-lowest : (n c e x : ℕ) → 0 < x → x < 2 ^ n → counts n c e x ≡ (c + ones (bit_and e (through x))) ∷ counts n c e (bit_and x (x - 1))
unfolding counts
counts-lowest zero c e x pos h = let no : ⊥ = omega arith in absurd no
counts-lowest (suc n) c e x pos h = bit_cases (λ r. x % 2 ≡ r → CountGoal n c e x) (even (λ p. counts-lowest n (c + e % 2) (e / 2) (x / 2) p (omega (arith, pow-suc 2 n)))) odd (x % 2) (mod-lt x (zero-lt-suc 1)) refl
  where
    odd : x % 2 ≡ 1 → CountGoal n c e x
    odd i =
        let y = bit_and x (x - 1) in
        let half : (x - 1) / 2 ≡ x / 2 = omega arith in
        let low : min (x % 2) ((x - 1) % 2) ≡ 0 = omega arith in
        let is : y ≡ x / 2 * 2 + 0 = and_step x (x - 1) ∙ ap₂ (λ u v. u * 2 + v) (ap (bit_and (x / 2)) half ∙ and_self (x / 2)) low in
        let p : y % 2 ≡ 0 = omega arith in
        let q : y / 2 ≡ x / 2 = omega arith in
        let low_of_less : (x - 1) % 2 ≡ 0 = omega arith in
        let mask : through x ≡ 1 = xor_step x (x - 1) ∙ (λ j. ap (bit_xor (x / 2)) half j * 2 + differ (i j) (low_of_less j)) ∙ ap (λ z. z * 2 + 1) (xor_self (x / 2)) in
        let digit : min (e % 2) (1 % 2) ≡ e % 2 = omega arith in
        let alone : 0 * 2 + e % 2 ≡ e % 2 = omega arith in
        let held : bit_and e (through x) ≡ e % 2 = ap (bit_and e) mask ∙ and_step e 1 ∙ (λ j. and_zero_r (e / 2) j * 2 + digit j) ∙ alone in
        ap (λ r. count_turn n c e r (x / 2)) i ∙ ap₂ (λ u v. u ∷ v) (sym (ap (λ w. c + ones w) held ∙ ap (λ w. c + w) (ones-digit e))) (sym (ap₂ (count_turn n c e) p q))

    even : (0 < x / 2 → counts n (c + e % 2) (e / 2) (x / 2) ≡ (c + e % 2 + ones (bit_and (e / 2) (through (x / 2)))) ∷ counts n (c + e % 2) (e / 2) (bit_and (x / 2) (x / 2 - 1))) → x % 2 ≡ 0 → CountGoal n c e x
    even below i =
        let y = bit_and x (x - 1) in
        let half : (x - 1) / 2 ≡ x / 2 - 1 = omega arith in
        let low : min (x % 2) ((x - 1) % 2) ≡ 0 = omega arith in
        let z = bit_and (x / 2) (x / 2 - 1) in
        let is : y ≡ z * 2 + 0 = and_step x (x - 1) ∙ ap₂ (λ u v. u * 2 + v) (ap (bit_and (x / 2)) half) low in
        let p : y % 2 ≡ 0 = omega arith in
        let q : y / 2 ≡ z = omega arith in
        let low_of_less : (x - 1) % 2 ≡ 1 = omega arith in
        let mask : through x ≡ through (x / 2) * 2 + 1 = xor_step x (x - 1) ∙ (λ j. ap (bit_xor (x / 2)) half j * 2 + differ (i j) (low_of_less j)) in
        let t = through (x / 2) in
        let first : (t * 2 + 1) / 2 ≡ t = omega arith in
        let digit : min (e % 2) ((t * 2 + 1) % 2) ≡ e % 2 = omega arith in
        let held : bit_and e (through x) ≡ bit_and (e / 2) t * 2 + e % 2 = ap (bit_and e) mask ∙ and_step e (t * 2 + 1) ∙ (λ j. bit_and (e / 2) (first j) * 2 + digit j) in
        let sum : ones (bit_and e (through x)) ≡ e % 2 + ones (bit_and (e / 2) t) = ap ones held ∙ ones-odd (bit_and (e / 2) t) (e % 2) (mod-lt e (zero-lt-suc 1)) in
        let place : c + e % 2 + ones (bit_and (e / 2) t) ≡ c + ones (bit_and e (through x)) = omega (arith, sum) in
        ap (λ r. count_turn n c e r (x / 2)) i ∙ below (omega arith) ∙ ap₂ (λ u v. u ∷ v) place (sym (ap₂ (count_turn n c e) p q))

-- ---- the words of bytes

front : (b : Bool) (n : ℕ) → ((cond b 1 0 + 2 * n) % 2 ≡ cond b 1 0) × ((cond b 1 0 + 2 * n) / 2 ≡ n)
front true n = (omega arith, omega arith)
front false n = (omega arith, omega arith)

-- the places behind the ends
pub set_bits-are : (m : Marks) (n : ℕ) (s : Spot) (k : ℕ) (v : List ℕ) → length v ≤ n → set_bits n (k + 1) (mask_l (end_flags m s v)) ≡ map place_behind (entries m s k v)
unfolding set_bits
set_bits-are m n s k [] h = set_bits-zero n (k + 1)
set_bits-are m zero s k (x ∷ v) h = absurd (omega arith)
set_bits-are m (suc n) s k (x ∷ v) h =
    let e = front (ends_field m s x) (mask_l (end_flags m (next_spot m s x) v)) in
    (λ j. cond (e.0 j == 1) ((k + 1) ∷ set_bits n (k + 1 + 1) (e.1 j)) (set_bits n (k + 1 + 1) (e.1 j)))
    ∙ by_case (set_bits n (k + 1 + 1) (mask_l (end_flags m (next_spot m s x) v))) (entries m (next_spot m s x) (k + 1) v) (ends_field m s x) (set_bits-are m n (next_spot m s x) (k + 1) v (omega arith))
  where
    by_case : (t : List ℕ) (es : List End) (b : Bool) → t ≡ map place_behind es
        → cond (cond b 1 0 == 1) ((k + 1) ∷ t) t ≡ map place_behind (cond b (end_at k (x == m.line_end) ∷ es) es)
    by_case t es true e = ap (λ l. (k + 1) ∷ l) e
    by_case t es false e = e

-- the counts of ends up to line ends
pub counts-are : (m : Marks) (n : ℕ) (s : Spot) (k c : ℕ) (v : List ℕ) → length v ≤ n
    → counts n c (mask_l (end_flags m s v)) (bit_and (mask_l (end_flags m s v)) (mask_l (line_flags m v))) ≡ row_ends c (entries m s k v)
unfolding counts
counts-are m n s k c [] h = counts-zero n c 0
counts-are m zero s k c (x ∷ v) h = absurd (omega arith)
counts-are m (suc n) s k c (x ∷ v) h =
    let E = mask_l (end_flags m (next_spot m s x) v) in
    let L = mask_l (line_flags m v) in
    let b = ends_field m s x in
    let l = x == m.line_end in
    let e = front b E in
    let f = front l L in
    let both = bit_and (cond b 1 0 + 2 * E) (cond l 1 0 + 2 * L) in
    let is : both ≡ bit_and E L * 2 + min (cond b 1 0) (cond l 1 0) = and_step (cond b 1 0 + 2 * E) (cond l 1 0 + 2 * L) ∙ (λ j. bit_and (e.1 j) (f.1 j) * 2 + min (e.0 j) (f.0 j)) in
    let parts = both_front b l (bit_and E L) in
    (λ j. cond ((ap (λ z. z % 2) is ∙ parts.0) j == 1) ((c + e.0 j) ∷ counts n (c + e.0 j) (e.1 j) ((ap (λ z. z / 2) is ∙ parts.1) j)) (counts n (c + e.0 j) (e.1 j) ((ap (λ z. z / 2) is ∙ parts.1) j)))
    ∙ by_case b l (λ d. counts-are m n (next_spot m s x) (k + 1) d v (omega arith))
  where
    both_front : (b l : Bool) (z : ℕ) → ((z * 2 + min (cond b 1 0) (cond l 1 0)) % 2 ≡ min (cond b 1 0) (cond l 1 0)) × ((z * 2 + min (cond b 1 0) (cond l 1 0)) / 2 ≡ z)
    both_front true true z = (omega arith, omega arith)
    both_front true false z = (omega arith, omega arith)
    both_front false true z = (omega arith, omega arith)
    both_front false false z = (omega arith, omega arith)

    by_case : (b l : Bool)
        → ((d : ℕ) → counts n d (mask_l (end_flags m (next_spot m s x) v)) (bit_and (mask_l (end_flags m (next_spot m s x) v)) (mask_l (line_flags m v))) ≡ row_ends d (entries m (next_spot m s x) (k + 1) v))
        → cond (min (cond b 1 0) (cond l 1 0) == 1)
        ((c + cond b 1 0) ∷ counts n (c + cond b 1 0) (mask_l (end_flags m (next_spot m s x) v)) (bit_and (mask_l (end_flags m (next_spot m s x) v)) (mask_l (line_flags m v))))
        (counts n (c + cond b 1 0) (mask_l (end_flags m (next_spot m s x) v)) (bit_and (mask_l (end_flags m (next_spot m s x) v)) (mask_l (line_flags m v))))
        ≡ row_ends c (cond b (end_at k l ∷ entries m (next_spot m s x) (k + 1) v) (entries m (next_spot m s x) (k + 1) v))
    by_case true true h = ap (λ t. (c + 1) ∷ t) (h (c + 1))
    by_case true false h = h (c + 1)
    by_case false true h = h (c + 0) ∙ ap (λ d. row_ends d (entries m (next_spot m s x) (k + 1) v)) (add-zero c)
    by_case false false h = h (c + 0) ∙ ap (λ d. row_ends d (entries m (next_spot m s x) (k + 1) v)) (add-zero c)

-- ---- entries of two parts

cond-append : {X : Type 0} (t : Bool) (a : X) (l r : List X) → cond t (a ∷ (l ++ r)) (l ++ r) ≡ cond t (a ∷ l) l ++ r
cond-append true a l r = refl
cond-append false a l r = refl

pub entries-append : (m : Marks) (s : Spot) (k : ℕ) (v w : List ℕ) → entries m s k (v ++ w) ≡ entries m s k v ++ entries m (spot_behind m s v) (k + length v) w
entries-append m s k [] w = ap (λ j. entries m s j w) (sym (add-zero k))
entries-append m s k (x ∷ v) w =
    let e : k + 1 + length v ≡ k + suc (length v) = omega arith in
    ap (λ l. cond (ends_field m s x) (end_at k (x == m.line_end) ∷ l) l)
    (entries-append m (next_spot m s x) (k + 1) v w ∙ ap (λ j. entries m (next_spot m s x) (k + 1) v ++ entries m (spot_behind m (next_spot m s x) v) j w) e)
    ∙ cond-append (ends_field m s x) (end_at k (x == m.line_end)) (entries m (next_spot m s x) (k + 1) v) (entries m (spot_behind m (next_spot m s x) v) (k + suc (length v)) w)

pub row_ends-append : (c : ℕ) (a b : List End) → row_ends c (a ++ b) ≡ row_ends c a ++ row_ends (c + length a) b
row_ends-append c [] b = ap (λ d. row_ends d b) (sym (add-zero c))
row_ends-append c (e ∷ a) b =
    let d : c + 1 + length a ≡ c + suc (length a) = omega arith in
    ap (λ t. cond e.last ((c + 1) ∷ t) t) (row_ends-append (c + 1) a b ∙ ap (λ j. row_ends (c + 1) a ++ row_ends j b) d)
    ∙ cond-append e.last (c + 1) (row_ends (c + 1) a) (row_ends (c + suc (length a)) b)

pub length-row_ends : (c : ℕ) (es : List End) → length (row_ends c es) ≤ length es
length-row_ends c [] = omega arith
length-row_ends c (e ∷ es) = by_test e.last (length-row_ends (c + 1) es)
  where
    by_test : (t : Bool) → length (row_ends (c + 1) es) ≤ length es → length (cond t ((c + 1) ∷ row_ends (c + 1) es) (row_ends (c + 1) es)) ≤ suc (length es)
    by_test true h = omega arith
    by_test false h = omega arith

pub length-entries : (m : Marks) (s : Spot) (k : ℕ) (v : List ℕ) → length (entries m s k v) ≤ length v
length-entries m s k [] = omega arith
length-entries m s k (x ∷ v) = by_test (ends_field m s x) (length-entries m (next_spot m s x) (k + 1) v)
  where
    by_test : (t : Bool) → length (entries m (next_spot m s x) (k + 1) v) ≤ length v
        → length (cond t (end_at k (x == m.line_end) ∷ entries m (next_spot m s x) (k + 1) v) (entries m (next_spot m s x) (k + 1) v)) ≤ suc (length v)
    by_test true h = omega arith
    by_test false h = omega arith
