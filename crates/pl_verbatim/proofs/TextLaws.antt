-- Texts that need no quotes: from a vector's mask, and byte by byte.
use Rattle.std.proofs.Common.{◌≡◌, ℕ, zero, suc, ◌+◌, ◌-◌, ◌%◌, ◌^◌, ◌<◌, ◌≤◌, nat_le, Bool, true, false, not, ◌||◌, cond, ◌==◌, eqb, if◌then◌else◌, List, [], ◌∷◌, length, take, drop, get_or, map, replicate, bit_or, refl, sym, ap, ap₂, subst, ◌∙◌, arith}
use Rattle.std.proofs.lemmas.Bool.{not-true, ne_eqb}
use Rattle.std.proofs.lemmas.Bool.Decides.{nat_tests}
use Rattle.std.proofs.lemmas.List.{length-map, length-take-le, length-drop, take_all, take_rest, get_or-take}
use Rattle.std.proofs.lemmas.List.Sums.{prefix_len_passes, prefix_len_is}
use Rattle.std.proofs.lemmas.Simd.{first_set_mask_l, mask_l-mod, zip2_splat, zip2_splat_left, zip2_of_maps}
use Rattle.std.proofs.lemmas.Str.{IsUtf8-from_ascii, is_utf8-from_IsUtf8}
use Rattle.std.proofs.lemmas.Str.Ascii.{IsAscii-nil, IsAscii-cons}
use Rattle.std.specs.List.{list_any, prefix_len, slice_range}
use Rattle.std.specs.Str.{IsAscii, is_utf8}
use lib.Count.{count_trailing_zeros}
use lib.Lanes.{mask_l, zip2, top}
use Rattle.pl_text.specs.FrameText.{is_special, needs_quotes, quoted}
use Rattle.pl_verbatim.specs.CellTexts.{IsWrittenText, IsBareText}

-- ---- the mask of a vector

abbrev flag : Bool → ℕ
flag b = cond b 255 0

or_flags : (a b : Bool) → bit_or (flag a) (flag b) ≡ flag (a || b)
or_flags false false = refl
or_flags false true = refl
or_flags true false = refl
or_flags true true = refl

top_flag : (b : Bool) → top 7 (flag b) ≡ b
top_flag true = refl
top_flag false = refl

in_order : (a b c d e : Bool) → ((((a || b) || c) || d) || e) ≡ ((a || b || c || d) || e)
in_order true b c d e = refl
in_order false true c d e = refl
in_order false false true d e = refl
in_order false false false d e = refl

-- a lane in which one of five tests held, by the top bit
five_tests : (a b c d e : Bool) → top 7 (bit_or (bit_or (bit_or (bit_or (flag a) (flag b)) (flag c)) (flag d)) (flag e)) ≡ ((a || b || c || d) || e)
five_tests a b c d e =
    ap (λ n. top 7 (bit_or (bit_or (bit_or n (flag c)) (flag d)) (flag e))) (or_flags a b)
    ∙ ap (λ n. top 7 (bit_or (bit_or n (flag d)) (flag e))) (or_flags (a || b) c)
    ∙ ap (λ n. top 7 (bit_or n (flag e))) (or_flags ((a || b) || c) d)
    ∙ ap (top 7) (or_flags (((a || b) || c) || d) e)
    ∙ top_flag ((((a || b) || c) || d) || e)
    ∙ in_order a b c d e

-- a byte at which the front of a text that needs no quotes stops
abbrev pub is_stop : ℕ → ℕ → ℕ → Bool
is_stop s q x = is_special s q x || nat_le 128 x

abbrev hit : ℕ → ℕ → ℕ
hit a b = cond (eqb a b) 255 0

abbrev high : ℕ → ℕ → ℕ
high a b = cond (nat_le a b) 255 0

abbrev lane : ℕ → ℕ → ℕ → ℕ
lane s q x = bit_or (bit_or (bit_or (bit_or (hit x s) (hit x 10)) (hit x 13)) (hit x q)) (high 128 x)

tops : (s q : ℕ) (v : List ℕ) → map (top 7) (map (lane s q) v) ≡ map (is_stop s q) v
tops s q [] = refl
tops s q (x ∷ v) = ap₂ (λ a b. a ∷ b) (five_tests (eqb x s) (eqb x 10) (eqb x 13) (eqb x q) (nat_le 128 x)) (tops s q v)

-- the mask of the five tests of a vector of n lanes, as the code makes it
abbrev stops_mask : ℕ → ℕ → List ℕ → ℕ → ℕ
stops_mask s q v n =
    mask_l (map (top 7) (zip2 bit_or (zip2 bit_or (zip2 bit_or (zip2 bit_or (zip2 hit v (replicate n s)) (zip2 hit v (replicate n 10))) (zip2 hit v (replicate n 13))) (zip2 hit v (replicate n q))) (zip2 high (replicate n 128) v))) % 2 ^ 64

stops_mask_is : (s q : ℕ) (v : List ℕ) (n : ℕ) → length v ≡ n → n ≤ 64 → stops_mask s q v n ≡ mask_l (map (is_stop s q) v)
stops_mask_is s q v n long few =
    let two = zip2_of_maps bit_or _ _ v (zip2_splat hit v n s long) (zip2_splat hit v n 10 long) in
    let three = zip2_of_maps bit_or _ _ v two (zip2_splat hit v n 13 long) in
    let four = zip2_of_maps bit_or _ _ v three (zip2_splat hit v n q long) in
    let all = zip2_of_maps bit_or _ _ v four (zip2_splat_left high 128 n v long) in
    ap (λ l. mask_l (map (top 7) l) % 2 ^ 64) all ∙ ap (λ l. mask_l l % 2 ^ 64) (tops s q v) ∙ mask_l-mod (map (is_stop s q) v) 64 (omega (arith, length-map v (is_stop s q), long))

-- where the first stop of 32 bytes stands
first_stop : (s q : ℕ) (d : List ℕ) → length d ≡ 32
    → cond (eqb (stops_mask s q (take 32 d) 32) 0) 32 (count_trailing_zeros 64 (stops_mask s q (take 32 d) 32)) ≡ prefix_len (λ x. not (is_stop s q x)) d
first_stop s q d long =
    let all : take 32 d ≡ d = take_all 32 d (omega (arith, long)) in
    let whole : length (take 32 d) ≡ 32 = ap length all ∙ long in
    ap (λ m. cond (eqb m 0) 32 (count_trailing_zeros 64 m)) (stops_mask_is s q (take 32 d) 32 whole (omega arith))
    ∙ first_set_mask_l (is_stop s q) (take 32 d) 32 whole (omega arith)
    ∙ ap (prefix_len (λ x. not (is_stop s q x))) all

pub first_stop-none : (s q : ℕ) (d : List ℕ) → length d ≡ 32 → stops_mask s q (take 32 d) 32 ≡ 0 → 32 ≡ prefix_len (λ x. not (is_stop s q x)) d
first_stop-none s q d long none =
    sym (ap (λ m. cond (eqb m 0) 32 (count_trailing_zeros 64 m)) none) ∙ first_stop s q d long

pub first_stop-some : (s q : ℕ) (d : List ℕ) → length d ≡ 32 → (stops_mask s q (take 32 d) 32 ≡ 0 → ⊥) → count_trailing_zeros 64 (stops_mask s q (take 32 d) 32) ≡ prefix_len (λ x. not (is_stop s q x)) d
first_stop-some s q d long some =
    sym (ap (λ b. cond b 32 (count_trailing_zeros 64 (stops_mask s q (take 32 d) 32))) (ne_eqb _ 0 some)) ∙ first_stop s q d long

-- ---- a text that needs no quotes

none_in_front : (p : ℕ → Bool) (xs : List ℕ) (n : ℕ) → ((k : ℕ) → k < n → p (get_or xs k 0) ≡ false) → list_any p (take n xs) ≡ false
none_in_front p xs zero none = refl
none_in_front p [] (suc n) none = refl
none_in_front p (x ∷ xs) (suc n) none = rw (none 0 (omega arith)) (none_in_front p xs n (λ k h. none (suc k) (omega arith)))

ascii_front : (xs : List ℕ) (n : ℕ) → ((k : ℕ) → k < n → get_or xs k 0 < 128) → IsAscii (take n xs)
ascii_front xs zero all = IsAscii-nil
ascii_front [] (suc n) all = IsAscii-nil
ascii_front (x ∷ xs) (suc n) all = IsAscii-cons x (take n xs) (all 0 (omega arith)) (ascii_front xs n (λ k h. all (suc k) (omega arith)))

-- no byte before the first that passes a test passes it
pub none_before : (p : ℕ → Bool) (xs : List ℕ) (k : ℕ) → k < prefix_len (λ x. not (p x)) xs → p (get_or xs k 0) ≡ false
none_before p xs k h = not-true _ (prefix_len_passes (λ x. not (p x)) xs k 0 h)

either_false : (a b : Bool) → (a || b) ≡ false → (a ≡ false) × (b ≡ false)
either_false true b e = absurd (cc)
either_false false b e = (refl, e)

low_byte : (x : ℕ) → nat_le 128 x ≡ false → x < 128
low_byte x e = grind (arith, nat_tests, e)

bare : (s q : ℕ) (text : List ℕ) → 0 < length text → list_any (is_special s q) text ≡ false → needs_quotes s q text ≡ false
bare s q text some none = let not_empty : (length text == 0) ≡ false = grind (arith, nat_tests) in rw (not_empty, none) refl

-- a text that is not empty and holds no special byte needs no quotes
bare-text : (s q : ℕ) (text : List ℕ) → 0 < length text → is_utf8 text ≡ true → list_any (is_special s q) text ≡ false → IsBareText s q text
bare-text s q text some utf8 none = record { utf8 = utf8; bare = bare s q text some none }

-- and is written as it is
pub bare-written : (s q : ℕ) (text : List ℕ) → IsBareText s q text → IsWrittenText s q text
bare-written s q text b = record {
  inner = text;
  utf8 = b.utf8;
  text_is = sym (ap (λ b. if b then quoted q text else text) b.bare);
}

pub front_is : (text : List ℕ) (at count : ℕ) → slice_range text at (at + count) ≡ take count (drop at text)
front_is text at count = let same : at + count - at ≡ count = omega arith in ap (λ n. take n (drop at text)) same

front_length : (text : List ℕ) (at count : ℕ) → at + count ≤ length text → length (slice_range text at (at + count)) ≡ count
front_length text at count room = ap length (front_is text at count) ∙ length-take-le count (drop at text) (omega (arith, length-drop at text))

-- the bytes before the first stop
pub front-bare : (s q : ℕ) (text : List ℕ) (at n count : ℕ) → at + n ≤ length text → count ≡ prefix_len (λ x. not (is_stop s q x)) (slice_range text at (at + n))
    → 0 < count → count < n → IsBareText s q (slice_range text at (at + count))
front-bare s q text at n count room is some within =
    subst (IsBareText s q) (sym (front_is text at count)) (bare-text s q (take count rest) long (is_utf8-from_IsUtf8 _ (IsUtf8-from_ascii _ ascii)) none)
  where
    rest : List ℕ
    rest = drop at text

    long : 0 < length (take count rest)
    long = omega (arith, length-take-le count rest (omega (arith, length-drop at text)), some)

    clear : (k : ℕ) → k < count → (is_special s q (get_or rest k 0) ≡ false) × (nat_le 128 (get_or rest k 0) ≡ false)
    clear k h =
        let same : get_or (slice_range text at (at + n)) k 0 ≡ get_or rest k 0 = ap (λ l. get_or l k 0) (front_is text at n) ∙ get_or-take n rest k 0 (omega (arith, within)) in
        let stop : is_stop s q (get_or rest k 0) ≡ false = ap (is_stop s q) (sym same) ∙ none_before (is_stop s q) (slice_range text at (at + n)) k (omega (arith, is)) in
        either_false _ _ stop

    none : list_any (is_special s q) (take count rest) ≡ false
    none = none_in_front (is_special s q) rest count (λ k h. (clear k h).0)

    ascii : IsAscii (take count rest)
    ascii = ascii_front rest count (λ k h. low_byte _ (clear k h).1)

-- ---- byte by byte

-- how many bytes stand before the first that passes a test
pub counted : (p : ℕ → Bool) (xs : List ℕ) (n : ℕ) → n ≤ length xs → ((k : ℕ) → k < n → p (get_or xs k 0) ≡ false) → (n < length xs → p (get_or xs n 0) ≡ true)
    → n ≡ prefix_len (λ x. not (p x)) xs
counted p xs n fits none stops = sym (prefix_len_is (λ x. not (p x)) xs n 0 fits (λ k h. ap not (none k h)) (λ h. ap not (stops h)))

-- the bytes before the first special one
pub special_front-bare : (s q : ℕ) (text : List ℕ) (at count : ℕ) → at + count ≤ length text → count ≡ prefix_len (λ x. not (is_special s q x)) (slice_range text at (length text))
    → 0 < count → is_utf8 (slice_range text at (at + count)) ≡ true → IsBareText s q (slice_range text at (at + count))
special_front-bare s q text at count room is some utf8 =
    bare-text s q (slice_range text at (at + count)) (omega (arith, front_length text at count room)) utf8 (ap (list_any (is_special s q)) (front_is text at count) ∙ none)
  where
    clear : (k : ℕ) → k < count → is_special s q (get_or (drop at text) k 0) ≡ false
    clear k h = ap (λ l. is_special s q (get_or l k 0)) (sym (take_rest text at)) ∙ none_before (is_special s q) (slice_range text at (length text)) k (omega (arith, is))

    none : list_any (is_special s q) (take count (drop at text)) ≡ false
    none = none_in_front (is_special s q) (drop at text) count clear

-- none of the bytes before the first special one is special
pub special_front-none : (s q : ℕ) (text : List ℕ) (at count : ℕ) → count ≡ prefix_len (λ x. not (is_special s q x)) (slice_range text at (length text))
    → list_any (is_special s q) (slice_range text at (at + count)) ≡ false
special_front-none s q text at count is =
    ap (list_any (is_special s q)) (front_is text at count)
    ∙ none_in_front (is_special s q) (drop at text) count
    (λ k h. ap (λ l. is_special s q (get_or l k 0)) (sym (take_rest text at)) ∙ none_before (is_special s q) (slice_range text at (length text)) k (omega (arith, is, h)))
