-- From a vector's mask to bytes that are not special.
use Rattle.std.proofs.Common.{◌≡◌, ℕ, zero, suc, ◌+◌, ◌-◌, ◌%◌, ◌^◌, ◌<◌, ◌≤◌, Bool, true, false, not, ◌||◌, cond, ◌==◌, eqb, List, [], ◌∷◌, length, take, get_or, map, replicate, bit_or, refl, sym, ap, ap₂, ◌∙◌, arith}
use Rattle.std.proofs.lemmas.Bool.{not-true, eqb-true, ne_eqb}
use Rattle.std.proofs.lemmas.Simd.{bitmask_splat, length-chunk, leading_from_mask_l, first_set_mask_l, get_or-chunk, zip2_splat, mask_l-mod}
use Rattle.std.proofs.lemmas.List.{length-map, length-take-le, take_all}
use Rattle.std.proofs.lemmas.List.Sums.{prefix_len_passes}
use Rattle.std.specs.Bool.{OnTrue}
use Rattle.std.specs.List.{list_any, prefix_len}
use lib.Count.{count_trailing_zeros}
use lib.Lanes.{chunk, mask_l, zip2, top}
use mir.Syntax.{w8}
use Rattle.std.proofs.lemmas.Bool.Decides.{nat_tests}
use Rattle.pl_text.specs.FrameText.{is_special, needs_quotes}
use Rattle.pl_write.specs.Special.{HasNoSpecial}

abbrev hit : ℕ → ℕ → ℕ
hit a b = cond (eqb a b) 255 0

-- a lane in which one of four tests held, by the top bit
four_tests : (a b c d : Bool) → top 7 (bit_or (bit_or (bit_or (cond a 255 0) (cond b 255 0)) (cond c 255 0)) (cond d 255 0)) ≡ (a || b || c || d)
four_tests false false false false = refl
four_tests false false false true = refl
four_tests false false true false = refl
four_tests false false true true = refl
four_tests false true false false = refl
four_tests false true false true = refl
four_tests false true true false = refl
four_tests false true true true = refl
four_tests true false false false = refl
four_tests true false false true = refl
four_tests true false true false = refl
four_tests true false true true = refl
four_tests true true false false = refl
four_tests true true false true = refl
four_tests true true true false = refl
four_tests true true true true = refl

zip2-map : (f g : ℕ → ℕ) (xs : List ℕ) → zip2 bit_or (map f xs) (map g xs) ≡ map (λ x. bit_or (f x) (g x)) xs
zip2-map f g [] = refl
zip2-map f g (x ∷ xs) = ap (λ r. bit_or (f x) (g x) ∷ r) (zip2-map f g xs)

either : (f g : ℕ → ℕ) (v : List ℕ) {a b : List ℕ} → a ≡ map f v → b ≡ map g v → zip2 bit_or a b ≡ map (λ x. bit_or (f x) (g x)) v
either f g v p q = ap₂ (zip2 bit_or) p q ∙ zip2-map f g v

abbrev lanes : ℕ → ℕ → ℕ → ℕ
lanes s q x = bit_or (bit_or (bit_or (hit x s) (hit x 10)) (hit x 13)) (hit x q)

tops : (s q : ℕ) (v : List ℕ) → map (top 7) (map (lanes s q) v) ≡ map (is_special s q) v
tops s q [] = refl
tops s q (x ∷ v) = ap₂ (λ a b. a ∷ b) (four_tests (eqb x s) (eqb x 10) (eqb x 13) (eqb x q)) (tops s q v)

-- an empty mask: no byte passes the test
none_from_mask : (p : ℕ → Bool) (d : List ℕ) (i n : ℕ) → i + n ≤ length d → mask_l (map p (chunk i n d)) ≡ 0 → (k : ℕ) → i ≤ k → k < i + n → p (get_or d k 0) ≡ false
none_from_mask p d i n room none k low high =
    let long = length-chunk i n d room in
    let whole = leading_from_mask_l p (chunk i n d) none in
    let back : i + (k - i) ≡ k = omega arith in
    let clear = not-true _ (prefix_len_passes (λ x. not (p x)) (chunk i n d) (k - i) 0 (omega (arith, long, whole))) in
    ap p (sym (get_or-chunk i n d (k - i) 0 (omega arith) ∙ ap (λ m. get_or d m 0) back)) ∙ clear

on_true : (b : Bool) (P : Type 0) → (b ≡ true → P) → OnTrue b P
on_true true P f = f refl
on_true false P f = tt

-- the mask of the four tests of a vector of n lanes, as the code makes them
abbrev tests_mask : ℕ → ℕ → List ℕ → ℕ → ℕ
tests_mask s q v n = mask_l (map (top 7) (zip2 bit_or (zip2 bit_or (zip2 bit_or (zip2 hit v (replicate n s)) (zip2 hit v (replicate n 10))) (zip2 hit v (replicate n 13))) (zip2 hit v (replicate n q)))) % 2 ^ 64

mask_is : (s q : ℕ) (v : List ℕ) (n : ℕ) → length v ≡ n → n ≤ 64 → tests_mask s q v n ≡ mask_l (map (is_special s q) v)
mask_is s q v n long few =
    let all = either _ _ v (either _ _ v (either _ _ v (zip2_splat hit v n s long) (zip2_splat hit v n 10 long)) (zip2_splat hit v n 13 long)) (zip2_splat hit v n q long) in
    ap (λ l. mask_l (map (top 7) l) % 2 ^ 64) all ∙ ap (λ l. mask_l l % 2 ^ 64) (tops s q v) ∙ mask_l-mod (map (is_special s q) v) 64 (omega (arith, length-map v (is_special s q), long))

-- the four tests of a vector of n lanes, as the code makes them
pub clear_from_lanes : (s q : ℕ) (d : List ℕ) (i n : ℕ) → i + n ≤ length d → n ≤ 64
    → OnTrue (tests_mask s q (chunk i n d) n == 0) (HasNoSpecial s q d i (i + n))
clear_from_lanes s q d i n room few =
    let mask = mask_is s q (chunk i n d) n (length-chunk i n d room) few in
    on_true _ _ (λ e. none_from_mask (is_special s q) d i n room (sym mask ∙ eqb-true _ 0 e))

-- where the first special byte of 32 stands, by the mask of the tests
first_special : (s q : ℕ) (d : List ℕ) → length d ≡ 32
    → cond (eqb (tests_mask s q (take 32 d) 32) 0) 32 (count_trailing_zeros 64 (tests_mask s q (take 32 d) 32)) ≡ prefix_len (λ x. not (is_special s q x)) d
first_special s q d long =
    let all : take 32 d ≡ d = take_all 32 d (omega (arith, long)) in
    let whole : length (take 32 d) ≡ 32 = ap length all ∙ long in
    ap (λ m. cond (eqb m 0) 32 (count_trailing_zeros 64 m)) (mask_is s q (take 32 d) 32 whole (omega arith))
    ∙ first_set_mask_l (is_special s q) (take 32 d) 32 whole (omega arith)
    ∙ ap (prefix_len (λ x. not (is_special s q x))) all

pub first_special-none : (s q : ℕ) (d : List ℕ) → length d ≡ 32 → tests_mask s q (take 32 d) 32 ≡ 0 → 32 ≡ prefix_len (λ x. not (is_special s q x)) d
first_special-none s q d long none =
    sym (ap (λ m. cond (eqb m 0) 32 (count_trailing_zeros 64 m)) none) ∙ first_special s q d long

pub first_special-some : (s q : ℕ) (d : List ℕ) → length d ≡ 32 → (tests_mask s q (take 32 d) 32 ≡ 0 → ⊥) → count_trailing_zeros 64 (tests_mask s q (take 32 d) 32) ≡ prefix_len (λ x. not (is_special s q x)) d
first_special-some s q d long some =
    sym (ap (λ b. cond b 32 (count_trailing_zeros 64 (tests_mask s q (take 32 d) 32))) (ne_eqb _ 0 some)) ∙ first_special s q d long

-- the mask of one test
abbrev quote_mask : ℕ → List ℕ → ℕ → ℕ
quote_mask q v n = mask_l (map (top 7) (zip2 hit v (replicate n q))) % 2 ^ 64

-- where the first quote of 32 bytes stands
first_quote : (q : ℕ) (d : List ℕ) → length d ≡ 32 → cond (eqb (quote_mask q (take 32 d) 32) 0) 32 (count_trailing_zeros 64 (quote_mask q (take 32 d) 32)) ≡ prefix_len (λ x. not (x == q)) d
first_quote q d long =
    let all : take 32 d ≡ d = take_all 32 d (omega (arith, long)) in
    let whole : length (take 32 d) ≡ 32 = ap length all ∙ long in
    ap (λ m. cond (eqb m 0) 32 (count_trailing_zeros 64 m)) (bitmask_splat w8 eqb (take 32 d) 32 q whole (omega arith))
    ∙ first_set_mask_l (λ x. x == q) (take 32 d) 32 whole (omega arith)
    ∙ ap (prefix_len (λ x. not (x == q))) all

pub first_quote-none : (q : ℕ) (d : List ℕ) → length d ≡ 32 → quote_mask q (take 32 d) 32 ≡ 0 → 32 ≡ prefix_len (λ x. not (x == q)) d
first_quote-none q d long none =
    sym (ap (λ m. cond (eqb m 0) 32 (count_trailing_zeros 64 m)) none) ∙ first_quote q d long

pub first_quote-some : (q : ℕ) (d : List ℕ) → length d ≡ 32 → (quote_mask q (take 32 d) 32 ≡ 0 → ⊥) → count_trailing_zeros 64 (quote_mask q (take 32 d) 32) ≡ prefix_len (λ x. not (x == q)) d
first_quote-some q d long some =
    sym (ap (λ b. cond b 32 (count_trailing_zeros 64 (quote_mask q (take 32 d) 32))) (ne_eqb _ 0 some)) ∙ first_quote q d long

-- no byte at any place is none in the list
none_in : (p : ℕ → Bool) (xs : List ℕ) → ((k : ℕ) → 0 ≤ k → k < length xs → p (get_or xs k 0) ≡ false) → list_any p xs ≡ false
none_in p [] none = refl
none_in p (x ∷ xs) none = rw (none 0 (omega arith) (omega arith)) (none_in p xs (λ k low high. none (suc k) (omega arith) (omega arith)))

-- what a test of the whole text tells
pub clear_text : (b : Bool) (s q : ℕ) (text : List ℕ) → b ≡ true → OnTrue b (HasNoSpecial s q text 0 (length text)) → list_any (is_special s q) text ≡ false
clear_text true s q text is clear = none_in (is_special s q) text clear
clear_text false s q text is clear = absurd (cc)

-- a text of some bytes, none of which is special, needs no quotes
pub clear_bare : (s q : ℕ) (text : List ℕ) → 1 ≤ length text → HasNoSpecial s q text 0 (length text) → needs_quotes s q text ≡ false
clear_bare s q [] some clear = absurd (omega arith)
clear_bare s q (x ∷ xs) some clear =
    let not_empty : (length (x ∷ xs) == 0) ≡ false = grind (arith, nat_tests) in
    rw (not_empty, none_in (is_special s q) (x ∷ xs) clear) refl

-- the first bytes, before the first special one or behind it
none_before : (p : ℕ → Bool) (xs : List ℕ) (n : ℕ) → n ≤ prefix_len (λ x. not (p x)) xs → list_any p (take n xs) ≡ false
none_before p xs zero before = refl
none_before p [] (suc n) before = refl
none_before p (x ∷ xs) (suc n) before = by (p x) refl (λ rest. none_before p xs n rest)
  where
    by : (t : Bool) → p x ≡ t → (n ≤ prefix_len (λ x. not (p x)) xs → list_any p (take n xs) ≡ false) → list_any p (take (suc n) (x ∷ xs)) ≡ false
    by true e rest = absurd (omega (arith, rw e at before))
    by false e rest = rw e (rest (omega (arith, rw e at before)))

some_within : (p : ℕ → Bool) (xs : List ℕ) (n : ℕ) → n ≤ length xs → prefix_len (λ x. not (p x)) xs < n → list_any p (take n xs) ≡ true
some_within p xs zero fits within = absurd (omega arith)
some_within p [] (suc n) fits within = absurd (omega arith)
some_within p (x ∷ xs) (suc n) fits within = by (p x) refl (λ rest. some_within p xs n (omega arith) rest)
  where
    by : (t : Bool) → p x ≡ t → (prefix_len (λ x. not (p x)) xs < n → list_any p (take n xs) ≡ true) → list_any p (take (suc n) (x ∷ xs)) ≡ true
    by true e rest = rw e refl
    by false e rest = rw e (rest (omega (arith, rw e at within)))

-- some first bytes need no quotes where no special one is among them
pub first_bare : (s q : ℕ) (xs : List ℕ) (n : ℕ) → n ≤ length xs → (n ≡ 0 → ⊥) → n ≤ prefix_len (λ x. not (is_special s q x)) xs → needs_quotes s q (take n xs) ≡ false
first_bare s q xs n fits some before =
    let long : length (take n xs) ≡ n = length-take-le n xs fits in
    rw (long, ne_eqb n 0 some) (none_before (is_special s q) xs n before)

-- and else they do
pub first_empty : (s q : ℕ) (xs : List ℕ) (n : ℕ) → n ≡ 0 → needs_quotes s q (take n xs) ≡ true
first_empty s q xs n none = rw none refl

pub first_quoted : (s q : ℕ) (xs : List ℕ) (n : ℕ) → n ≤ length xs → prefix_len (λ x. not (is_special s q x)) xs < n → needs_quotes s q (take n xs) ≡ true
first_quoted s q xs n fits within = rw (some_within (is_special s q) xs n fits within) (or-true (length (take n xs) == 0))
  where
    or-true : (b : Bool) → (b || true) ≡ true
    or-true true = refl
    or-true false = refl
