-- From a vector's mask to bytes that are ASCII, and to bytes that lack one.
use Rattle.std.proofs.Common.{◌≡◌, ℕ, suc, ◌+◌, ◌-◌, ◌%◌, ◌^◌, ◌<◌, ◌≤◌, nat_le, Bool, true, false, not, cond, ◌==◌, eqb, List, [], ◌∷◌, length, get_or, map, replicate, refl, sym, ap, ap₂, ◌∙◌, arith}
use Rattle.std.proofs.lemmas.Bool.{not-true, eqb-true}
use Rattle.std.proofs.lemmas.Bool.Decides.{nat_tests}
use Rattle.std.proofs.lemmas.Simd.{length-chunk, leading_from_mask_l, get_or-chunk, zip2_splat, mask_l-mod}
use Rattle.std.proofs.lemmas.List.{length-map}
use Rattle.std.proofs.lemmas.List.Sums.{prefix_len_passes}
use Rattle.std.proofs.lemmas.Str.Ascii.{IsAscii-from_reads}
use Rattle.std.specs.Bool.{OnTrue}
use Rattle.std.specs.Str.{IsAscii}
use lib.Lanes.{chunk, mask_l, zip2, top}
use Rattle.pl_cells.specs.Ascii.{IsAsciiBetween}
use Rattle.pl_cells.specs.Lacks.{LacksBetween}
use Rattle.pl_cells.specs.Quoting.{undouble}
use Rattle.pl_cells.proofs.QuotingLaws.{undouble-other}

abbrev high : ℕ → ℕ → ℕ
high a b = cond (nat_le a b) 255 0

top_of_test : (b : Bool) → top 7 (cond b 255 0) ≡ b
top_of_test true = refl
top_of_test false = refl

tops : (v : List ℕ) → map (top 7) (map (high 128) v) ≡ map (nat_le 128) v
tops [] = refl
tops (x ∷ v) = ap₂ (λ a b. a ∷ b) (top_of_test (nat_le 128 x)) (tops v)

none_from_mask : (p : ℕ → Bool) (d : List ℕ) (i n : ℕ) → i + n ≤ length d → mask_l (map p (chunk i n d)) ≡ 0 → (k : ℕ) → i ≤ k → k < i + n → p (get_or d k 0) ≡ false
none_from_mask p d i n room none k low high =
    let long = length-chunk i n d room in
    let whole = leading_from_mask_l p (chunk i n d) none in
    let back : i + (k - i) ≡ k = omega arith in
    let clear = not-true _ (prefix_len_passes (λ x. not (p x)) (chunk i n d) (k - i) 0 (omega (arith, long, whole))) in
    ap p (sym (get_or-chunk i n d (k - i) 0 (omega arith) ∙ ap (λ m. get_or d m 0) back)) ∙ clear

on_true : (b : Bool) (P : Type 0) → (b ≡ true → P) → OnTrue b P
on_true true P f = f refl
on_true false P f = tt

below : (x : ℕ) → nat_le 128 x ≡ false → x < 128
below x e = grind (arith, nat_tests, e)

zip2_left : (s : ℕ) (v : List ℕ) → zip2 high (replicate (length v) s) v ≡ map (high s) v
zip2_left s [] = refl
zip2_left s (x ∷ v) = ap (λ l. high s x ∷ l) (zip2_left s v)

-- the test of a vector of n lanes, as the code makes it
pub ascii_from_lanes : (d : List ℕ) (i n : ℕ) → i + n ≤ length d → n ≤ 64
    → OnTrue (mask_l (map (top 7) (zip2 high (replicate n 128) (chunk i n d))) % 2 ^ 64 == 0) (IsAsciiBetween d i (i + n))
ascii_from_lanes d i n room few =
    let v = chunk i n d in
    let long = length-chunk i n d room in
    let lanes : zip2 high (replicate n 128) v ≡ map (high 128) v = ap (λ m. zip2 high (replicate m 128) v) (sym long) ∙ zip2_left 128 v in
    let mask : mask_l (map (top 7) (zip2 high (replicate n 128) v)) % 2 ^ 64 ≡ mask_l (map (nat_le 128) v) =
    ap (λ l. mask_l (map (top 7) l) % 2 ^ 64) lanes ∙ ap (λ l. mask_l l % 2 ^ 64) (tops v) ∙ mask_l-mod (map (nat_le 128) v) 64 (omega (arith, length-map v (nat_le 128), long)) in
    on_true (mask_l (map (top 7) (zip2 high (replicate n 128) v)) % 2 ^ 64 == 0) (IsAsciiBetween d i (i + n))
    (λ e k low far. below (get_or d k 0) (none_from_mask (nat_le 128) d i n room (sym mask ∙ eqb-true _ 0 e) k low far))

-- ---- a byte that stands nowhere

abbrev hit : ℕ → ℕ → ℕ
hit a b = cond (eqb a b) 255 0

hits : (q : ℕ) (v : List ℕ) → map (top 7) (map (λ x. hit x q) v) ≡ map (λ x. eqb x q) v
hits q [] = refl
hits q (x ∷ v) = ap₂ (λ a b. a ∷ b) (top_of_test (eqb x q)) (hits q v)

-- the test of a vector of n lanes, as the code makes it
pub lacks_from_lanes : (q : ℕ) (d : List ℕ) (i n : ℕ) → i + n ≤ length d → n ≤ 64
    → OnTrue (mask_l (map (top 7) (zip2 hit (chunk i n d) (replicate n q))) % 2 ^ 64 == 0) (LacksBetween q d i (i + n))
lacks_from_lanes q d i n room few =
    let v = chunk i n d in
    let long = length-chunk i n d room in
    let mask = ap (λ l. mask_l (map (top 7) l) % 2 ^ 64) (zip2_splat hit v n q long) ∙ ap (λ l. mask_l l % 2 ^ 64) (hits q v) ∙ mask_l-mod (map (λ x. eqb x q) v) 64 (omega (arith, length-map v (λ x. eqb x q), long)) in
    on_true _ _ (λ e. none_from_mask (λ x. eqb x q) d i n room (sym mask ∙ eqb-true _ 0 e))

-- a text without the quote stays
undouble_lacks : (q : ℕ) (xs : List ℕ) → LacksBetween q xs 0 (length xs) → undouble q xs ≡ xs
undouble_lacks q [] none = refl
undouble_lacks q (x ∷ xs) none =
    undouble-other q x xs (none 0 (omega arith) (omega arith)) ∙ ap (λ l. x ∷ l) (undouble_lacks q xs (λ k low high. none (suc k) (omega arith) (omega arith)))

pub undouble_bare : (b : Bool) (q : ℕ) (xs : List ℕ) → b ≡ true → OnTrue b (LacksBetween q xs 0 (length xs)) → undouble q xs ≡ xs
undouble_bare true q xs is none = undouble_lacks q xs none
undouble_bare false q xs is none = absurd (cc)

pub told : (b : Bool) (text : List ℕ) → b ≡ true → OnTrue b (IsAscii text) → IsAscii text
told true text is ascii = ascii
told false text is ascii = absurd (cc)
