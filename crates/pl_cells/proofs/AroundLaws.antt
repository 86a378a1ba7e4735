-- Lanes of the digits on both sides of a point.
use Rattle.std.proofs.Common.{◌≡◌, ℕ, zero, suc, ◌+◌, ◌-◌, ◌<◌, ◌≤◌, true, false, cond, nat_lt, List, [], ◌∷◌, ◌++◌, length, take, drop, get_or, map, replicate, refl, sym, ◌∙◌, ap, ap₂, arith, Fits, w8}
use Rattle.std.proofs.lemmas.Bool.Decides.{nat_tests}
use Rattle.std.proofs.lemmas.List.{append_assoc, map-append, length-append, length-map, length-replicate, length-drop, length-take-le, take_at, drop_at, take-append-drop, take-take, drop-take}
use Rattle.pl_cells.specs.Lanes.{digit_of}
use Rattle.pl_cells.proofs.LaneLaws.{lane_lt, lower, upper}
use lib.Lanes.{chunk, zip2, top, Each1, sel_l}

abbrev pub lane_more : ℕ → ℕ → ℕ
lane_more = borrow.Rule.Simd.Lanes.act2 mir.Syntax.wrap_add (borrow.Table.Row.s_int w8) (borrow.Table.Row.s_int w8) (borrow.Table.Row.s_int w8)

abbrev pub cut : List ℕ
cut = 255 ∷ 255 ∷ 255 ∷ 255 ∷ 255 ∷ 255 ∷ 255 ∷ 255 ∷ 255 ∷ 255 ∷ 255 ∷ 255 ∷ 255 ∷ 255 ∷ 255 ∷ 255 ∷ 0 ∷ 0 ∷ 0 ∷ 0 ∷ 0 ∷ 0 ∷ 0 ∷ 0 ∷ 0 ∷ 0 ∷ 0 ∷ 0 ∷ 0 ∷ 0 ∷ 0 ∷ 0 ∷ []

abbrev pub cut_from : ℕ → List ℕ
cut_from count = chunk 0 16 (borrow.Rule.Slice.PartMut.mid_of count (32 - count) cut)

pub cut_at : (count : ℕ) → count ≤ 16 → cut_from count ≡ replicate (16 - count) 255 ++ replicate count 0
cut_at zero few = refl
cut_at (suc zero) few = refl
cut_at (suc (suc zero)) few = refl
cut_at (suc (suc (suc zero))) few = refl
cut_at (suc (suc (suc (suc zero)))) few = refl
cut_at (suc (suc (suc (suc (suc zero))))) few = refl
cut_at (suc (suc (suc (suc (suc (suc zero)))))) few = refl
cut_at (suc (suc (suc (suc (suc (suc (suc zero))))))) few = refl
cut_at (suc (suc (suc (suc (suc (suc (suc (suc zero)))))))) few = refl
cut_at (suc (suc (suc (suc (suc (suc (suc (suc (suc zero))))))))) few = refl
cut_at (suc (suc (suc (suc (suc (suc (suc (suc (suc (suc zero)))))))))) few = refl
cut_at (suc (suc (suc (suc (suc (suc (suc (suc (suc (suc (suc zero))))))))))) few = refl
cut_at (suc (suc (suc (suc (suc (suc (suc (suc (suc (suc (suc (suc zero)))))))))))) few = refl
cut_at (suc (suc (suc (suc (suc (suc (suc (suc (suc (suc (suc (suc (suc zero))))))))))))) few = refl
cut_at (suc (suc (suc (suc (suc (suc (suc (suc (suc (suc (suc (suc (suc (suc zero)))))))))))))) few = refl
cut_at (suc (suc (suc (suc (suc (suc (suc (suc (suc (suc (suc (suc (suc (suc (suc zero))))))))))))))) few = refl
cut_at (suc (suc (suc (suc (suc (suc (suc (suc (suc (suc (suc (suc (suc (suc (suc (suc zero)))))))))))))))) few = refl
cut_at (suc (suc (suc (suc (suc (suc (suc (suc (suc (suc (suc (suc (suc (suc (suc (suc (suc n))))))))))))))))) few = absurd (omega arith)

none_below : (y : ℕ) → nat_lt y 0 ≡ true → y ≡ 0
none_below y e = grind (arith, nat_tests)

last_byte : (y : ℕ) → Fits w8 y → nat_lt y 255 ≡ false → y ≡ 255
last_byte y fits e = let small : y < 256 = fits.fits in grind (arith, nat_tests, small)

-- a lane that is kept, and one that is not
kept_lane : (x y : ℕ) → Fits w8 x → y ≡ 0 → lane_more (cond (top 7 (cond (nat_lt x 255) 255 0)) x 255) y ≡ x
kept_lane x y fits nothing = ap₂ lane_more (upper (nat_lt x 255) x 255 (last_byte x fits)) nothing ∙ omega (arith, fits.fits)

cut_lane : (x y : ℕ) → Fits w8 y → lane_more (cond (top 7 (cond (nat_lt x 0) 255 0)) x 0) y ≡ y
cut_lane x y fits = ap (λ k. lane_more k y) (lower (nat_lt x 0) x 0 (none_below x)) ∙ omega (arith, fits.fits)

pub joined_lanes : (xs ys : List ℕ) (a b : ℕ) → length xs ≡ a + b → length ys ≡ a + b → Each1 (Fits w8) xs → Each1 (Fits w8) ys → take a ys ≡ replicate a 0
    → zip2 lane_more (sel_l (map (top 7) (zip2 lane_lt xs (replicate a 255 ++ replicate b 0))) xs (replicate a 255 ++ replicate b 0)) ys ≡ take a xs ++ drop a ys
joined_lanes [] [] zero zero h k fx fy z = refl
joined_lanes [] ys (suc a) b h k fx fy z = absurd (omega (arith, h))
joined_lanes [] ys zero (suc b) h k fx fy z = absurd (omega (arith, h))
joined_lanes [] (y ∷ ys) zero zero h k fx fy z = absurd (omega (arith, k))
joined_lanes (x ∷ xs) [] a b h k fx fy z = absurd (omega (arith, h, k))
joined_lanes (x ∷ xs) (y ∷ ys) zero zero h k fx fy z = absurd (omega (arith, h))
joined_lanes (x ∷ xs) (y ∷ ys) zero (suc b) h k fx fy z = ap₂ (λ v (l : List ℕ). v ∷ l) (cut_lane x y fy.0) (joined_lanes xs ys zero b (omega (arith, h)) (omega (arith, k)) fx.1 fy.1 refl)
joined_lanes (x ∷ xs) (y ∷ ys) (suc a) b h k fx fy z =
    ap₂ (λ v (l : List ℕ). v ∷ l) (kept_lane x y fx.0 (ap (λ (l : List ℕ). get_or l 0 0) z)) (joined_lanes xs ys a b (omega (arith, h)) (omega (arith, k)) fx.1 fy.1 (ap (λ (l : List ℕ). drop 1 l) z))

pub joined_whole : (front back : List ℕ) (count : ℕ) → length front ≡ 16 → length back ≡ 16 → Each1 (Fits w8) front → Each1 (Fits w8) back → count ≤ 16 → take (16 - count) back ≡ replicate (16 - count) 0
    → zip2 lane_more (sel_l (map (top 7) (zip2 lane_lt front (cut_from count))) front (cut_from count)) back ≡ take (16 - count) front ++ drop (16 - count) back
joined_whole front back count long long' fits fits' few zeros =
    ap (λ (l : List ℕ). zip2 lane_more (sel_l (map (top 7) (zip2 lane_lt front l)) front l) back) (cut_at count few)
    ∙ joined_lanes front back (16 - count) count (omega (arith, long, few)) (omega (arith, long', few)) fits fits' zeros

-- the lanes behind the point have zeros in front of them
pub zeros_in_front : (upto back : List ℕ) (point : ℕ) → point < length upto → length upto ≤ point + 17 → back ≡ replicate (16 - (length upto - (point + 1))) 0 ++ map digit_of (drop (point + 1) upto)
    → take (16 - (length upto - 1 - point)) back ≡ replicate (16 - (length upto - 1 - point)) 0
zeros_in_front upto back point inside few is =
    let same : length upto - (point + 1) ≡ length upto - 1 - point = omega arith in
    let zeros : List ℕ = replicate (16 - (length upto - (point + 1))) 0 in
    ap (take (16 - (length upto - 1 - point))) is
    ∙ take_at zeros (map digit_of (drop (point + 1) upto)) (16 - (length upto - 1 - point)) (length-replicate (16 - (length upto - (point + 1))) 0 ∙ ap (λ k. 16 - k) same)
    ∙ ap (λ k. replicate (16 - k) 0) same

pub digits_joined : (upto front back : List ℕ) (from point : ℕ) → 16 < length upto → from ≤ point → point < length upto → length upto ≤ from + 17
    → front ≡ replicate (16 - (length (take (length upto - 1) upto) - from)) 0 ++ map digit_of (drop from (take (length upto - 1) upto))
    → back ≡ replicate (16 - (length upto - (point + 1))) 0 ++ map digit_of (drop (point + 1) upto)
    → take (16 - (length upto - 1 - point)) front ++ drop (16 - (length upto - 1 - point)) back
    ≡ replicate (16 - (length upto - 1 - from)) 0 ++ map digit_of (drop from (take point upto) ++ drop (point + 1) upto)
digits_joined upto front back from point long le inside few is is' =
    let last = length upto - 1 in
    let keep = 16 - (last - point) in
    let at = point - from in
    let there : from + at ≡ point = omega arith in
    let rest = last - from in
    let beyond : from + rest ≡ last = omega arith in
    let width : length (take last upto) ≡ last = length-take-le last upto (omega arith) in
    let text : List ℕ = drop from (take last upto) in
    let zeros : List ℕ = replicate (16 - rest) 0 in
    let whole : List ℕ = drop from (take point upto) in
    let fraction : List ℕ = drop (point + 1) upto in
    let first : take at text ≡ whole =
    ap (λ k. take at (drop from (take k upto))) (sym beyond) ∙ ap (take at) (drop-take from rest upto) ∙ take-take at rest (drop from upto) (omega arith)
    ∙ sym (drop-take from at upto) ∙ ap (λ k. drop from (take k upto)) there in
    let long-whole : length (map digit_of whole) ≡ at =
    length-map whole digit_of ∙ length-drop from (take point upto) ∙ ap (λ k. k - from) (length-take-le point upto (omega arith)) in
    let wide : length (zeros ++ map digit_of whole) ≡ keep =
    length-append zeros (map digit_of whole) ∙ ap₂ (λ (a b : ℕ). a + b) (length-replicate (16 - rest) 0) long-whole ∙ omega arith in
    let parts : front ≡ (zeros ++ map digit_of whole) ++ map digit_of (drop at text) =
    is ∙ ap (λ k. replicate (16 - (k - from)) 0 ++ map digit_of text) width
    ∙ ap (λ (l : List ℕ). zeros ++ map digit_of l) (sym (take-append-drop at text))
    ∙ ap (λ (l : List ℕ). zeros ++ map digit_of (l ++ drop at text)) first
    ∙ ap (λ (l : List ℕ). zeros ++ l) (map-append digit_of whole (drop at text))
    ∙ sym (append_assoc zeros (map digit_of whole) (map digit_of (drop at text))) in
    let kept : take keep front ≡ zeros ++ map digit_of whole =
    ap (take keep) parts ∙ take_at (zeros ++ map digit_of whole) (map digit_of (drop at text)) keep wide in
    let same : 16 - (length upto - (point + 1)) ≡ keep = omega arith in
    let behind : drop keep back ≡ map digit_of fraction =
    ap (drop keep) is' ∙ drop_at (replicate (16 - (length upto - (point + 1))) 0) (map digit_of fraction) keep (length-replicate (16 - (length upto - (point + 1))) 0 ∙ same) in
    ap₂ (λ (a b : List ℕ). a ++ b) kept behind ∙ append_assoc zeros (map digit_of whole) (map digit_of fraction)
    ∙ ap (λ (l : List ℕ). zeros ++ l) (sym (map-append digit_of whole fraction))

-- ---- the bytes of parts of a text

pub part_bytes : (n : ℕ) (xs : List ℕ) → ((k : ℕ) → Fits w8 (get_or xs k 0)) → (k : ℕ) → Fits w8 (get_or (take n xs) k 0)
part_bytes zero xs bytes k = record { fits = omega arith }
part_bytes (suc n) [] bytes k = bytes k
part_bytes (suc n) (x ∷ xs) bytes zero = bytes 0
part_bytes (suc n) (x ∷ xs) bytes (suc k) = part_bytes n xs (λ i. bytes (suc i)) k

pub both_bytes : (xs ys : List ℕ) → ((k : ℕ) → Fits w8 (get_or xs k 0)) → ((k : ℕ) → Fits w8 (get_or ys k 0)) → (k : ℕ) → Fits w8 (get_or (xs ++ ys) k 0)
both_bytes [] ys bytes bytes' k = bytes' k
both_bytes (x ∷ xs) ys bytes bytes' zero = bytes 0
both_bytes (x ∷ xs) ys bytes bytes' (suc k) = both_bytes xs ys (λ i. bytes (suc i)) bytes' k
