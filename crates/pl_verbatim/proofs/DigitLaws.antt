-- How many digits stand in front, by a vector's mask.
use Rattle.std.proofs.Common.{◌≡◌, ℕ, zero, suc, ◌+◌, ◌%◌, ◌^◌, ◌<◌, ◌≤◌, Bool, true, false, not, cond, nat_lt, eqb, List, [], ◌∷◌, length, take, get_or, map, replicate, refl, sym, ap, ap₂, ◌∙◌, arith, Fits, w8}
use Rattle.std.proofs.lemmas.Bool.{ne_eqb, cases_lt}
use Rattle.std.proofs.lemmas.Bool.Decides.{nat_tests}
use Rattle.std.proofs.lemmas.Simd.{zip2_splat, zip2_splat_left, first_set_mask_l, mask_l-mod}
use Rattle.std.proofs.lemmas.List.{length-map, take_all}
use Rattle.std.specs.Char.{is_ascii_digit}
use Rattle.std.specs.List.{prefix_len}
use mathlib.Core.Logic.{inl, inr}
use lib.Count.{count_trailing_zeros}
use lib.Lanes.{mask_l, zip2, top}

-- ---- the mask

abbrev lane_lt : ℕ → ℕ → ℕ
lane_lt = borrow.Rule.Simd.Lanes.act2 (mir.Syntax.mask (mir.Syntax.lt mir.Syntax.unsigned)) (borrow.Table.Row.s_int w8) (borrow.Table.Row.s_int w8) (borrow.Table.Row.s_int w8)

abbrev lane_less : ℕ → ℕ → ℕ
lane_less = borrow.Rule.Simd.Lanes.act2 mir.Syntax.wrap_sub (borrow.Table.Row.s_int w8) (borrow.Table.Row.s_int w8) (borrow.Table.Row.s_int w8)

-- the mask of the bytes that are no digits, as the code makes it
abbrev others_mask : List ℕ → ℕ
others_mask bytes = mask_l (map (top 7) (zip2 lane_lt (replicate 16 9) (zip2 lane_less bytes (replicate 16 48)))) % 2 ^ 64

abbrev is_other : ℕ → Bool
is_other x = not (is_ascii_digit x)

top_lane : (t : Bool) → top 7 (cond t 255 0) ≡ t
top_lane true = refl
top_lane false = refl

-- the lane of a byte tells whether it is a digit
lane : (x : ℕ) → x < 256 → top 7 (lane_lt 9 (lane_less x 48)) ≡ is_other x
lane x small = top_lane (nat_lt 9 ((x + 208) % 256)) ∙ by (is_ascii_digit x) refl
  where
    by : (t : Bool) → is_ascii_digit x ≡ t → nat_lt 9 ((x + 208) % 256) ≡ not t
    by true e =
        let near : (48 ≤ x) × (x ≤ 57) = grind (arith, nat_tests, e) in
        let few : (x + 208) % 256 ≤ 9 = omega (arith, near.0, near.1) in
        grind (arith, nat_tests, few)
    by false e =
        let far : (48 ≤ x → x ≤ 57 → ⊥) = λ a b. grind (arith, nat_tests, e, a, b) in
        let many : 9 < (x + 208) % 256 = elim (cases_lt x 48) [ inl below ↦ omega arith | inr above ↦ omega (arith, far above) ] in
        grind (arith, nat_tests, many)

lanes : (xs : List ℕ) → ((k : ℕ) → Fits w8 (get_or xs k 0)) → map (top 7) (map (lane_lt 9) (map (λ x. lane_less x 48) xs)) ≡ map is_other xs
lanes [] bytes = refl
lanes (x ∷ xs) bytes = ap₂ (λ (a : Bool) (b : List Bool). a ∷ b) (lane x (omega (arith, bytes 0))) (lanes xs (λ k. bytes (suc k)))

mask_is : (xs : List ℕ) → length xs ≡ 16 → ((k : ℕ) → Fits w8 (get_or xs k 0)) → others_mask xs ≡ mask_l (map is_other xs)
mask_is xs long bytes =
    let less : zip2 lane_less xs (replicate 16 48) ≡ map (λ x. lane_less x 48) xs = zip2_splat lane_less xs 16 48 long in
    let above : zip2 lane_lt (replicate 16 9) (map (λ x. lane_less x 48) xs) ≡ map (lane_lt 9) (map (λ x. lane_less x 48) xs) = zip2_splat_left lane_lt 9 16 (map (λ x. lane_less x 48) xs) (length-map xs (λ x. lane_less x 48) ∙ long) in
    ap (λ (l : List ℕ). mask_l (map (top 7) (zip2 lane_lt (replicate 16 9) l)) % 2 ^ 64) less
    ∙ ap (λ (l : List ℕ). mask_l (map (top 7) l) % 2 ^ 64) above
    ∙ ap (λ (l : List Bool). mask_l l % 2 ^ 64) (lanes xs bytes)
    ∙ mask_l-mod (map is_other xs) 64 (omega (arith, length-map xs is_other, long))

twice : (t : Bool) → not (not t) ≡ t
twice true = refl
twice false = refl

same_prefix : (xs : List ℕ) → prefix_len (λ x. not (is_other x)) xs ≡ prefix_len is_ascii_digit xs
same_prefix [] = refl
same_prefix (x ∷ xs) = ap₂ (λ (t : Bool) (n : ℕ). cond t (1 + n) 0) (twice (is_ascii_digit x)) (same_prefix xs)

-- where the first byte that is no digit stands
first_other : (xs : List ℕ) → length xs ≡ 16 → ((k : ℕ) → Fits w8 (get_or xs k 0))
    → cond (eqb (others_mask (take 16 xs)) 0) 16 (count_trailing_zeros 64 (others_mask (take 16 xs))) ≡ prefix_len is_ascii_digit xs
first_other xs long bytes =
    let all : take 16 xs ≡ xs = take_all 16 xs (omega (arith, long)) in
    ap (λ (m : ℕ). cond (eqb m 0) 16 (count_trailing_zeros 64 m)) (ap others_mask all ∙ mask_is xs long bytes)
    ∙ first_set_mask_l is_other xs 16 long (omega arith)
    ∙ same_prefix xs

pub first_other-none : (xs : List ℕ) → length xs ≡ 16 → ((k : ℕ) → Fits w8 (get_or xs k 0)) → others_mask (take 16 xs) ≡ 0 → 16 ≡ prefix_len is_ascii_digit xs
first_other-none xs long bytes none =
    sym (ap (λ (m : ℕ). cond (eqb m 0) 16 (count_trailing_zeros 64 m)) none) ∙ first_other xs long bytes

pub first_other-some : (xs : List ℕ) → length xs ≡ 16 → ((k : ℕ) → Fits w8 (get_or xs k 0)) → (others_mask (take 16 xs) ≡ 0 → ⊥)
    → count_trailing_zeros 64 (others_mask (take 16 xs)) ≡ prefix_len is_ascii_digit xs
first_other-some xs long bytes some =
    sym (ap (λ (b : Bool). cond b 16 (count_trailing_zeros 64 (others_mask (take 16 xs)))) (ne_eqb _ 0 some)) ∙ first_other xs long bytes

-- ---- some first bytes

-- where the digits end among the first bytes, they end there in all
pub prefix_len-front : (n : ℕ) (xs : List ℕ) → prefix_len is_ascii_digit (take n xs) < n → prefix_len is_ascii_digit (take n xs) < length (take n xs) → prefix_len is_ascii_digit (take n xs) ≡ prefix_len is_ascii_digit xs
prefix_len-front zero xs small inside = absurd (omega arith)
prefix_len-front (suc n) [] small inside = refl
prefix_len-front (suc n) (x ∷ xs) small inside = by (is_ascii_digit x) (prefix_len is_ascii_digit (take n xs)) (prefix_len is_ascii_digit xs) (prefix_len-front n xs) small inside
  where
    by : (t : Bool) (a b : ℕ) → (a < n → a < length (take n xs) → a ≡ b) → cond t (1 + a) 0 < suc n → cond t (1 + a) 0 < suc (length (take n xs)) → cond t (1 + a) 0 ≡ cond t (1 + b) 0
    by true a b same low high = ap (λ k. 1 + k) (same (omega arith) (omega arith))
    by false a b same low high = refl
