-- Sixteen lanes of digits.
use Rattle.std.proofs.Common.{◌≡◌, ℕ, zero, suc, ◌+◌, ◌-◌, ◌*◌, ◌%◌, ◌^◌, ◌<◌, ◌≤◌, Bool, true, false, cond, nat_lt, nat_eq, List, [], ◌∷◌, ◌++◌, length, drop, get_or, map, replicate, refl, sym, ◌∙◌, ap, ap₂, arith, Fits, w8, w32}
use Rattle.std.proofs.lemmas.Bool.{eqb-true}
use Rattle.std.proofs.lemmas.Bool.Decides.{nat_tests}
use Rattle.std.proofs.lemmas.Simd.{zip2_splat, zip2_splat_left, mask_l-mod}
use Rattle.std.proofs.lemmas.List.{length-map, length-drop, take_all, drop-drop}
use Rattle.std.specs.Bool.{OnTrue}
use Rattle.std.specs.Char.{is_ascii_digit}
use Rattle.std.specs.Str.{all_ascii_digits}
use Rattle.pl_cells.specs.Integers.{number_after, number_of}
use Rattle.pl_cells.specs.Lanes.{AreDigits, digit_of, digits_number}
use lib.Lanes.{chunk, mask_l, zip2, top, dots, Each2, sel_l}

-- ten to a weight for each lane
abbrev pub tens : List ℕ
tens = 10 ∷ 1 ∷ 0 ∷ 0 ∷ 10 ∷ 1 ∷ 0 ∷ 0 ∷ 10 ∷ 1 ∷ 0 ∷ 0 ∷ 10 ∷ 1 ∷ 0 ∷ 0 ∷ []

abbrev pub ones : List ℕ
ones = 0 ∷ 0 ∷ 10 ∷ 1 ∷ 0 ∷ 0 ∷ 10 ∷ 1 ∷ 0 ∷ 0 ∷ 10 ∷ 1 ∷ 0 ∷ 0 ∷ 10 ∷ 1 ∷ []

abbrev pub hundreds : List ℕ
hundreds = 100 ∷ 100 ∷ 100 ∷ 100 ∷ []

abbrev pub lane_product : ℕ → ℕ → ℕ
lane_product = borrow.Rule.Simd.Lanes.act2 (mir.Syntax.mul mir.Syntax.unsigned) (borrow.Table.Row.s_int w32) (borrow.Table.Row.s_int w32) (borrow.Table.Row.s_int w32)

abbrev pub ProductFits : ℕ → ℕ → Type 0
ProductFits = borrow.Rule.Simd.Lanes.Asks2 (mir.Syntax.mul mir.Syntax.unsigned) (borrow.Table.Row.s_int w32) (borrow.Table.Row.s_int w32)

abbrev pub SumFits : ℕ → ℕ → Type 0
SumFits = borrow.Rule.Simd.Lanes.Asks2 (mir.Syntax.add mir.Syntax.unsigned) (borrow.Table.Row.s_int w32) (borrow.Table.Row.s_int w32)

abbrev pub lane_sum : ℕ → ℕ → ℕ
lane_sum = borrow.Rule.Simd.Lanes.act2 (mir.Syntax.add mir.Syntax.unsigned) (borrow.Table.Row.s_int w32) (borrow.Table.Row.s_int w32) (borrow.Table.Row.s_int w32)

-- four digits a lane
abbrev pub fours : List ℕ → List ℕ
fours lanes = zip2 lane_sum (zip2 lane_product (dots lanes tens) hundreds) (dots lanes ones)

-- what holds of any sixteen lanes holds of a list of so many
sixteen : (P : List ℕ → Type 0) → ((a b c d e f g h i j k l m n o p : ℕ) → P (a ∷ b ∷ c ∷ d ∷ e ∷ f ∷ g ∷ h ∷ i ∷ j ∷ k ∷ l ∷ m ∷ n ∷ o ∷ p ∷ [])) → (lanes : List ℕ) → length lanes ≡ 16 → P lanes
sixteen P all (a ∷ b ∷ c ∷ d ∷ e ∷ f ∷ g ∷ h ∷ i ∷ j ∷ k ∷ l ∷ m ∷ n ∷ o ∷ p ∷ []) long = all a b c d e f g h i j k l m n o p
sixteen P all _ long = absurd (omega arith)

pub products_fit : (lanes : List ℕ) → length lanes ≡ 16 → AreDigits lanes → Each2 ProductFits (dots lanes tens) hundreds
products_fit = sixteen (λ lanes. AreDigits lanes → Each2 ProductFits (dots lanes tens) hundreds) (λ a b c d e f g h i j k l m n o p digits. (omega arith, (omega arith, (omega arith, (omega arith, tt)))))

pub sums_fit : (lanes : List ℕ) → length lanes ≡ 16 → AreDigits lanes → Each2 SumFits (zip2 lane_product (dots lanes tens) hundreds) (dots lanes ones)
sums_fit = sixteen (λ lanes. AreDigits lanes → Each2 SumFits (zip2 lane_product (dots lanes tens) hundreds) (dots lanes ones)) (λ a b c d e f g h i j k l m n o p digits. (omega arith, (omega arith, (omega arith, (omega arith, tt)))))

four_of : (at : ℕ) → at < 4 → (a b c d e f g h i j k l m n o p : ℕ) → AreDigits (a ∷ b ∷ c ∷ d ∷ e ∷ f ∷ g ∷ h ∷ i ∷ j ∷ k ∷ l ∷ m ∷ n ∷ o ∷ p ∷ []) → get_or (fours (a ∷ b ∷ c ∷ d ∷ e ∷ f ∷ g ∷ h ∷ i ∷ j ∷ k ∷ l ∷ m ∷ n ∷ o ∷ p ∷ [])) at 0 < 10000
four_of zero few a b c d e f g h i j k l m n o p digits = omega arith
four_of (suc zero) few a b c d e f g h i j k l m n o p digits = omega arith
four_of (suc (suc zero)) few a b c d e f g h i j k l m n o p digits = omega arith
four_of (suc (suc (suc zero))) few a b c d e f g h i j k l m n o p digits = omega arith
four_of (suc (suc (suc (suc more)))) few a b c d e f g h i j k l m n o p digits = absurd (omega (arith, few))

pub four_small : (lanes : List ℕ) → length lanes ≡ 16 → AreDigits lanes → (k : ℕ) → k < 4 → get_or (fours lanes) k 0 < 10000
four_small lanes long digits k few = sixteen (λ l. AreDigits l → get_or (fours l) k 0 < 10000) (four_of k few) lanes long digits

pub fours_number : (lanes : List ℕ) → length lanes ≡ 16
    → (get_or (fours lanes) 0 0 * 10000 + get_or (fours lanes) 1 0) * 100000000 + (get_or (fours lanes) 2 0 * 10000 + get_or (fours lanes) 3 0) ≡ digits_number 0 lanes
fours_number = sixteen (λ l. (get_or (fours l) 0 0 * 10000 + get_or (fours l) 1 0) * 100000000 + (get_or (fours l) 2 0 * 10000 + get_or (fours l) 3 0) ≡ digits_number 0 l) (λ a b c d e f g h i j k l m n o p. omega arith)

-- ---- lanes that are digits

abbrev pub lane_lt : ℕ → ℕ → ℕ
lane_lt = borrow.Rule.Simd.Lanes.act2 (mir.Syntax.mask (mir.Syntax.lt mir.Syntax.unsigned)) (borrow.Table.Row.s_int w8) (borrow.Table.Row.s_int w8) (borrow.Table.Row.s_int w8)

pub clear : (t : Bool) (m : ℕ) → cond (top 7 (cond t 255 0)) 1 0 + 2 * m ≡ 0 → (t ≡ false) × (m ≡ 0)
clear true m e = absurd (omega (arith, e))
clear false m e = (refl, omega (arith, e))

digits_from_mask : (lanes : List ℕ) → mask_l (map (top 7) (map (lane_lt 9) lanes)) ≡ 0 → AreDigits lanes
digits_from_mask [] e = tt
digits_from_mask (x ∷ xs) e =
    let parts = clear (nat_lt 9 x) (mask_l (map (top 7) (map (lane_lt 9) xs))) e in
    (small x parts.0, digits_from_mask xs parts.1)
  where
    small : (y : ℕ) → nat_lt 9 y ≡ false → y ≤ 9
    small y h = grind (arith, nat_tests)

pub digits_from_lanes : (lanes : List ℕ) → length lanes ≡ 16
    → OnTrue (nat_eq (mask_l (map (top 7) (zip2 lane_lt (replicate 16 9) lanes)) % 18446744073709551616) 0) (AreDigits lanes)
digits_from_lanes lanes long =
    let bits = map (top 7) (zip2 lane_lt (replicate 16 9) lanes) in
    let same : zip2 lane_lt (replicate 16 9) lanes ≡ map (lane_lt 9) lanes = zip2_splat_left lane_lt 9 16 lanes long in
    let few : length bits ≡ 16 = ap (λ (l : List ℕ). length (map (top 7) l)) same ∙ length-map (map (lane_lt 9) lanes) (top 7) ∙ length-map lanes (lane_lt 9) ∙ long in
    let whole : mask_l bits % 2 ^ 64 ≡ mask_l bits = mask_l-mod bits 64 (omega (arith, few)) in
    by (nat_eq (mask_l bits % 18446744073709551616) 0) refl (λ e. digits_from_mask lanes (ap (λ (l : List ℕ). mask_l (map (top 7) l)) (sym same) ∙ sym whole ∙ eqb-true _ _ e))
  where
    by : (t : Bool) {P : Type 0} → t ≡ t → (t ≡ true → P) → OnTrue t P
    by true _ f = f refl
    by false _ f = tt

-- ---- lanes that are kept

pub lower : (t : Bool) (y z : ℕ) → (t ≡ true → y ≡ z) → cond (top 7 (cond t 255 0)) y z ≡ z
lower true y z h = h refl
lower false y z h = refl

pub upper : (t : Bool) (y z : ℕ) → (t ≡ false → y ≡ z) → cond (top 7 (cond t 255 0)) y z ≡ y
upper true y z h = refl
upper false y z h = sym (h refl)

kept_lanes : (xs : List ℕ) (a b : ℕ) → length xs ≡ a + b
    → sel_l (map (top 7) (zip2 lane_lt (map digit_of xs) (replicate a 0 ++ replicate b 255))) (map digit_of xs) (replicate a 0 ++ replicate b 255) ≡ replicate a 0 ++ map digit_of (drop a xs)
kept_lanes [] zero zero h = refl
kept_lanes [] (suc a) b h = absurd (omega arith)
kept_lanes [] zero (suc b) h = absurd (omega arith)
kept_lanes (x ∷ xs) zero zero h = absurd (omega arith)
kept_lanes (x ∷ xs) zero (suc b) h = ap₂ (λ y (l : List ℕ). y ∷ l) (upper (nat_lt (digit_of x) 255) (digit_of x) 255 (full (digit_of x) (omega arith))) (kept_lanes xs zero b (omega arith))
  where
    full : (y : ℕ) → y < 256 → nat_lt y 255 ≡ false → y ≡ 255
    full y small e = grind (arith, nat_tests)
kept_lanes (x ∷ xs) (suc a) b h = ap₂ (λ y (l : List ℕ). y ∷ l) (lower (nat_lt (digit_of x) 0) (digit_of x) 0 (none (digit_of x))) (kept_lanes xs a b (omega arith))
  where
    none : (y : ℕ) → nat_lt y 0 ≡ true → y ≡ 0
    none y e = grind (arith, nat_tests)

abbrev pub kept : List ℕ
kept = 0 ∷ 0 ∷ 0 ∷ 0 ∷ 0 ∷ 0 ∷ 0 ∷ 0 ∷ 0 ∷ 0 ∷ 0 ∷ 0 ∷ 0 ∷ 0 ∷ 0 ∷ 0 ∷ 255 ∷ 255 ∷ 255 ∷ 255 ∷ 255 ∷ 255 ∷ 255 ∷ 255 ∷ 255 ∷ 255 ∷ 255 ∷ 255 ∷ 255 ∷ 255 ∷ 255 ∷ 255 ∷ []

abbrev pub kept_from : ℕ → List ℕ
kept_from len = chunk 0 16 (borrow.Rule.Slice.PartMut.mid_of len (32 - len) kept)

pub kept_at : (len : ℕ) → len ≤ 16 → kept_from len ≡ replicate (16 - len) 0 ++ replicate len 255
kept_at zero few = refl
kept_at (suc zero) few = refl
kept_at (suc (suc zero)) few = refl
kept_at (suc (suc (suc zero))) few = refl
kept_at (suc (suc (suc (suc zero)))) few = refl
kept_at (suc (suc (suc (suc (suc zero))))) few = refl
kept_at (suc (suc (suc (suc (suc (suc zero)))))) few = refl
kept_at (suc (suc (suc (suc (suc (suc (suc zero))))))) few = refl
kept_at (suc (suc (suc (suc (suc (suc (suc (suc zero)))))))) few = refl
kept_at (suc (suc (suc (suc (suc (suc (suc (suc (suc zero))))))))) few = refl
kept_at (suc (suc (suc (suc (suc (suc (suc (suc (suc (suc zero)))))))))) few = refl
kept_at (suc (suc (suc (suc (suc (suc (suc (suc (suc (suc (suc zero))))))))))) few = refl
kept_at (suc (suc (suc (suc (suc (suc (suc (suc (suc (suc (suc (suc zero)))))))))))) few = refl
kept_at (suc (suc (suc (suc (suc (suc (suc (suc (suc (suc (suc (suc (suc zero))))))))))))) few = refl
kept_at (suc (suc (suc (suc (suc (suc (suc (suc (suc (suc (suc (suc (suc (suc zero)))))))))))))) few = refl
kept_at (suc (suc (suc (suc (suc (suc (suc (suc (suc (suc (suc (suc (suc (suc (suc zero))))))))))))))) few = refl
kept_at (suc (suc (suc (suc (suc (suc (suc (suc (suc (suc (suc (suc (suc (suc (suc (suc zero)))))))))))))))) few = refl
kept_at (suc (suc (suc (suc (suc (suc (suc (suc (suc (suc (suc (suc (suc (suc (suc (suc (suc n))))))))))))))))) few = absurd (omega arith)

abbrev pub lane_less : ℕ → ℕ → ℕ
lane_less = borrow.Rule.Simd.Lanes.act2 mir.Syntax.wrap_sub (borrow.Table.Row.s_int w8) (borrow.Table.Row.s_int w8) (borrow.Table.Row.s_int w8)

-- the last lanes as digits, with zeros in front
pub last_lanes : (upto : List ℕ) (start : ℕ) → 16 ≤ length upto → start ≤ length upto → length upto ≤ start + 16
    → sel_l (map (top 7) (zip2 lane_lt (zip2 lane_less (chunk (length upto - 16) 16 upto) (replicate 16 48)) (kept_from (length upto - start)))) (zip2 lane_less (chunk (length upto - 16) 16 upto) (replicate 16 48)) (kept_from (length upto - start))
    ≡ replicate (16 - (length upto - start)) 0 ++ map digit_of (drop start upto)
last_lanes upto start long inside few =
    let len = length upto - start in
    let from = drop (length upto - 16) upto in
    let width : length from ≡ 16 = omega (arith, length-drop (length upto - 16) upto) in
    let whole : chunk (length upto - 16) 16 upto ≡ from = take_all 16 from (omega (arith, width)) in
    let digits : zip2 lane_less (chunk (length upto - 16) 16 upto) (replicate 16 48) ≡ map digit_of from =
    ap (λ (l : List ℕ). zip2 lane_less l (replicate 16 48)) whole ∙ zip2_splat lane_less from 16 48 width in
    let table : kept_from len ≡ replicate (16 - len) 0 ++ replicate len 255 = kept_at len (omega arith) in
    let behind : drop (16 - len) from ≡ drop start upto = drop-drop (16 - len) (length upto - 16) upto ∙ ap (λ (n : ℕ). drop n upto) (omega arith) in
    ap₂ (λ (a b : List ℕ). sel_l (map (top 7) (zip2 lane_lt a b)) a b) digits table
    ∙ kept_lanes from (16 - len) len (omega (arith, width))
    ∙ ap (λ (l : List ℕ). replicate (16 - len) 0 ++ map digit_of l) behind

-- ---- from lanes to the number of a text

-- a byte whose lane is a digit is one
pub digit_byte : (x : ℕ) → x < 256 → digit_of x ≤ 9 → (is_ascii_digit x ≡ true) × (x - 48 ≡ digit_of x)
digit_byte x small h =
    let low : 48 ≤ x = omega arith in
    let high : x ≤ 57 = omega arith in
    (grind (arith, nat_tests, low, high), omega arith)

digits_behind : (xs : List ℕ) (n : ℕ) → ((k : ℕ) → Fits w8 (get_or xs k 0)) → AreDigits (map digit_of xs) → (all_ascii_digits xs ≡ true) × (digits_number n (map digit_of xs) ≡ number_after n xs)
digits_behind [] n bytes digits = (refl, refl)
digits_behind (x ∷ xs) n bytes digits =
    let here = digit_byte x (omega (arith, bytes 0)) digits.0 in
    let others = digits_behind xs (n * 10 + digit_of x) (λ k. bytes (suc k)) digits.1 in
    (rw here.0 others.0, others.1 ∙ ap (λ (d : ℕ). number_after (n * 10 + d) xs) (sym here.1))

-- zeros in front don't count
pub text_digits : (a : ℕ) (xs : List ℕ) → ((k : ℕ) → Fits w8 (get_or xs k 0)) → AreDigits (replicate a 0 ++ map digit_of xs)
    → (all_ascii_digits xs ≡ true) × (digits_number 0 (replicate a 0 ++ map digit_of xs) ≡ number_of xs)
text_digits zero xs bytes digits = digits_behind xs 0 bytes digits
text_digits (suc a) xs bytes digits = text_digits a xs bytes digits.1

pub told : {P : Type 0} (b : Bool) → b ≡ true → OnTrue b P → P
told true is fact = fact
told false is fact = absurd (cc)
