-- The flags of bytes, and the words that hold them.
use Rattle.std.proofs.Common.{◌≡◌, ℕ, zero, suc, ◌+◌, ◌*◌, ◌^◌, ◌<◌, ◌≤◌, Bool, true, false, cond, not, ◌&&◌, ◌==◌, List, [], ◌∷◌, ◌++◌, length, take, get_or, refl, sym, ap, ap₂, ◌∙◌, arith, add-one, pow-suc, ◌%◌, subst, mod-eq_of_lt}
use Rattle.std.specs.Simd.Lanes.{mask_l}
use Rattle.std.specs.Int.{bit_at}
use Rattle.std.proofs.Common.{◌⊎◌, ◌≢◌, ◌/◌, inl, inr, w64}
use Rattle.std.specs.Int.{bit_not}
use Rattle.std.proofs.lemmas.Bool.{cases_eq}
use Rattle.std.proofs.lemmas.Nat.Bits.{same_from_bits_below, bit_at_clear_same, bit_at_clear_other, shr_and_one}
use Rattle.std.proofs.lemmas.Nat.{or_shifted, or_comm, pow_below}
use lib.Bits.{bit_and, bit_or}
use mir.Val.{bool_byte}
use Rattle.std.proofs.lemmas.Simd.{mask_l-lt}
use Rattle.std.proofs.lemmas.List.{take_more, take_all, length-take-le, length-map, map-append, get_or-map}
use Rattle.pl_frame.specs.Dialect.{Marks, AreDistinct}
use Rattle.pl_scan.specs.Fields.{is_quote}
use Rattle.pl_scan.proofs.FieldLaws.{is_quote-stop}
use Rattle.pl_table.specs.declared.block.Spot.{Spot}
use Rattle.pl_table.specs.declared.block.Spot.TheVariants.{Begin, Plain, Odd, Even}
use Rattle.pl_scan.specs.Bits.{test, xor, parity, odd_at}
use Rattle.pl_table.specs.Ends.{is_begin, is_odd, is_even, is_stop, ends_field, spot_of, next_spot, spot_behind, end_flags, line_flags, spot_from, begin_at, even_at, is_strange}
use Rattle.pl_scan.proofs.BitLaws.{bit_cases, bit_lt, test-mask_l}

-- ---- lists of flags

pub length-end_flags : (m : Marks) (s : Spot) (v : List ℕ) → length (end_flags m s v) ≡ length v
length-end_flags m s [] = refl
length-end_flags m s (x ∷ xs) = ap suc (length-end_flags m (next_spot m s x) xs)

pub spot_behind-append : (m : Marks) (s : Spot) (v w : List ℕ) → spot_behind m s (v ++ w) ≡ spot_behind m (spot_behind m s v) w
spot_behind-append m s [] w = refl
spot_behind-append m s (x ∷ xs) w = spot_behind-append m (next_spot m s x) xs w

pub end_flags-append : (m : Marks) (s : Spot) (v w : List ℕ) → end_flags m s (v ++ w) ≡ end_flags m s v ++ end_flags m (spot_behind m s v) w
end_flags-append m s [] w = refl
end_flags-append m s (x ∷ xs) w = ap (λ l. ends_field m s x ∷ l) (end_flags-append m (next_spot m s x) xs w)

pub get_or-end_flags : (m : Marks) (s : Spot) (v : List ℕ) (i : ℕ) → i < length v → get_or (end_flags m s v) i false ≡ ends_field m (spot_behind m s (take i v)) (get_or v i 0)
get_or-end_flags m s [] i h = absurd (omega arith)
get_or-end_flags m s (x ∷ xs) zero h = refl
get_or-end_flags m s (x ∷ xs) (suc i) h = get_or-end_flags m (next_spot m s x) xs i (omega arith)

pub spot-more : (m : Marks) (s : Spot) (v : List ℕ) (i : ℕ) → i < length v → spot_behind m s (take (i + 1) v) ≡ next_spot m (spot_behind m s (take i v)) (get_or v i 0)
spot-more m s v i h = ap (spot_behind m s) (take_more v i 0 h) ∙ spot_behind-append m s (take i v) (get_or v i 0 ∷ [])

-- ---- words

-- a flag behind others
mask_l-push : (ms : List Bool) (b : Bool) → mask_l (ms ++ b ∷ []) ≡ mask_l ms + cond b 1 0 * 2 ^ length ms
mask_l-push [] b = by_case b
  where
    by_case : (t : Bool) → cond t 1 0 + 2 * 0 ≡ 0 + cond t 1 0 * 2 ^ 0
    by_case true = refl
    by_case false = refl
mask_l-push (c ∷ ms) b = by_case b (mask_l-push ms b)
  where
    by_case : (t : Bool) → mask_l (ms ++ t ∷ []) ≡ mask_l ms + cond t 1 0 * 2 ^ length ms
        → cond c 1 0 + 2 * mask_l (ms ++ t ∷ []) ≡ cond c 1 0 + 2 * mask_l ms + cond t 1 0 * 2 ^ suc (length ms)
    by_case true e = omega (arith, e, pow-suc 2 (length ms))
    by_case false e = omega (arith, e)

-- one more flag in a word
pub mask_l-or : (ms : List Bool) (b : Bool) (i : ℕ) → length ms ≡ i → i < 64 → bit_or (mask_l ms) (bool_byte b * 2 ^ i % 2 ^ 64) ≡ mask_l (ms ++ b ∷ [])
mask_l-or ms b i long few =
    let small : mask_l ms < 2 ^ i = below i long (mask_l-lt ms) in
    ap (bit_or (mask_l ms)) (fits b) ∙ or_comm (mask_l ms) (bool_byte b * 2 ^ i) ∙ or_shifted (bool_byte b) i (mask_l ms) small ∙ sum b ∙ sym (mask_l-push ms b)
  where
    below : (k : ℕ) → length ms ≡ k → mask_l ms < 2 ^ length ms → mask_l ms < 2 ^ k
    below k e h = subst (λ n. mask_l ms < 2 ^ n) e h

    fits : (t : Bool) → bool_byte t * 2 ^ i % 2 ^ 64 ≡ bool_byte t * 2 ^ i
    fits true = let p = pow_below i 64 few in mod-eq_of_lt (omega (arith, p))
    fits false = let z : 0 * 2 ^ i ≡ 0 = omega arith in rw z refl

    sum : (t : Bool) → bool_byte t * 2 ^ i + mask_l ms ≡ mask_l ms + cond t 1 0 * 2 ^ length ms
    sum true = let e = ap (λ n. 2 ^ n) long in omega (arith, e)
    sum false = omega arith

pub same_by_tests : (a b : ℕ) → a < 2 ^ 64 → b < 2 ^ 64 → ((i : ℕ) → i < 64 → test a i ≡ test b i) → a ≡ b
unfolding test
same_by_tests a b a_lt b_lt same = same_from_bits_below 64 a b a_lt b_lt (λ i h. both (bit_at a i) (bit_at b i) (bit_lt a i) (bit_lt b i) (same i h))
  where
    both : (x y : ℕ) → x < 2 → y < 2 → (x == 1) ≡ (y == 1) → x ≡ y
    both x y h k e = bit_cases (λ x. (x == 1) ≡ (y == 1) → x ≡ y) (bit_cases (λ y. (0 == 1) ≡ (y == 1) → 0 ≡ y) (λ _. refl) (λ e. absurd (cc)) y k) (bit_cases (λ y. (1 == 1) ≡ (y == 1) → 1 ≡ y) (λ e. absurd (cc)) (λ _. refl) y k) x h e

-- a word whose bits are flags
pub mask_by_tests : (a : ℕ) (ms : List Bool) → a < 2 ^ 64 → length ms ≡ 64 → ((i : ℕ) → i < 64 → test a i ≡ get_or ms i false) → a ≡ mask_l ms
mask_by_tests a ms a_lt long same =
    let small : mask_l ms < 2 ^ 64 = ap_lt long (mask_l-lt ms) in
    same_by_tests a (mask_l ms) a_lt small (λ i h. same i h ∙ sym (test-mask_l ms i))
  where
    ap_lt : length ms ≡ 64 → mask_l ms < 2 ^ length ms → mask_l ms < 2 ^ 64
    ap_lt e h = rw e at h

-- ---- the words of a block that is not strange

-- three tests tell a spot
pub record Tells (s : Spot) (odd begin even : Bool) : Type 0 where
  pub odds : odd ≡ is_odd s
  pub begins : begin ≡ is_begin s
  pub evens : even ≡ is_even s

moves : (s : Spot) (stop quote : Bool) → (stop ≡ true → quote ≡ false) → is_strange stop quote (is_odd s) (is_begin s) (is_even s) ≡ false
    → Tells (spot_of s stop quote) (xor (is_odd s) quote) (stop && not (is_odd s)) (quote && is_odd s)
moves s true true apart _ = absurd (let no = apart refl in cc)
moves Begin true false _ _ = record { odds = refl; begins = refl; evens = refl }
moves Begin false true _ _ = record { odds = refl; begins = refl; evens = refl }
moves Begin false false _ _ = record { odds = refl; begins = refl; evens = refl }
moves Plain true false _ _ = record { odds = refl; begins = refl; evens = refl }
moves Plain false true _ e = absurd (cc)
moves Plain false false _ _ = record { odds = refl; begins = refl; evens = refl }
moves Odd true false _ _ = record { odds = refl; begins = refl; evens = refl }
moves Odd false true _ _ = record { odds = refl; begins = refl; evens = refl }
moves Odd false false _ _ = record { odds = refl; begins = refl; evens = refl }
moves Even true false _ _ = record { odds = refl; begins = refl; evens = refl }
moves Even false true _ _ = record { odds = refl; begins = refl; evens = refl }
moves Even false false _ e = absurd (cc)

pub told : (s : Spot) (odd begin even : Bool) → Tells s odd begin even → spot_from odd begin even ≡ s
told s odd begin even t = rw (t.odds, t.begins, t.evens) (by_case s)
  where
    by_case : (s : Spot) → spot_from (is_odd s) (is_begin s) (is_even s) ≡ s
    by_case Begin = refl
    by_case Plain = refl
    by_case Odd = refl
    by_case Even = refl

swap : (p q c : Bool) → xor (xor p q) c ≡ xor (xor p c) q
swap true true true = refl
swap true true false = refl
swap true false true = refl
swap true false false = refl
swap false true true = refl
swap false true false = refl
swap false false true = refl
swap false false false = refl

-- the word has the quotes of the block, but for some inside plain fields
abbrev pub IsCounted : Marks → Spot → List ℕ → ℕ → Type 0
IsCounted m s v Q = (i : ℕ) → i < 64 → (test Q i ≡ is_quote m.quote (get_or v i 0)) ⊎ ((test Q i ≡ false) × (spot_behind m s (take i v) ≡ Plain))

next-counted : (m : Marks) (at : Spot) (x : ℕ) (q : Bool) → (q ≡ is_quote m.quote x) ⊎ ((q ≡ false) × (at ≡ Plain)) → next_spot m at x ≡ spot_of at (is_stop m x) q
next-counted m at x q (inl same) = ap (spot_of at (is_stop m x)) (sym same)
next-counted m at x q (inr other) = (λ j. spot_of (other.1 j) (is_stop m x) (is_quote m.quote x)) ∙ sym (λ j. spot_of (other.1 j) (is_stop m x) q)

apart-counted : (m : Marks) (at : Spot) (x : ℕ) (q : Bool) → AreDistinct m → (q ≡ is_quote m.quote x) ⊎ ((q ≡ false) × (at ≡ Plain)) → is_stop m x ≡ true → q ≡ false
apart-counted m at x q distinct (inl same) stop = same ∙ is_quote-stop m.separator m.line_end m.quote x distinct.1 (ap not stop)
apart-counted m at x q distinct (inr other) stop = other.0

-- a quote that is strange stands inside a plain field
plain-at : (s : Spot) (stop : Bool) → is_strange stop true (is_odd s) (is_begin s) (is_even s) ≡ true → s ≡ Plain
plain-at Begin true e = absurd (cc)
plain-at Begin false e = absurd (cc)
plain-at Plain stop e = refl
plain-at Odd true e = absurd (cc)
plain-at Odd false e = absurd (cc)
plain-at Even true e = absurd (cc)
plain-at Even false e = absurd (cc)

module _ (m : Marks) (v : List ℕ) (s : Spot) (S Q n : ℕ) (few : n ≤ 64) (long : length v ≡ 64) (distinct : AreDistinct m)
    (hs : (i : ℕ) → i < 64 → test S i ≡ is_stop m (get_or v i 0)) (hq : IsCounted m s v Q)
    (fine : (i : ℕ) → i < n → is_strange (test S i) (test Q i) (odd_at Q (is_odd s) i) (begin_at S Q (is_odd s) (is_begin s) i) (even_at Q (is_odd s) (is_even s) i) ≡ false) where
  pub tells : (i : ℕ) → i ≤ n → Tells (spot_behind m s (take i v)) (odd_at Q (is_odd s) i) (begin_at S Q (is_odd s) (is_begin s) i) (even_at Q (is_odd s) (is_even s) i)
  unfolding parity
  tells zero h = record { odds = refl; begins = refl; evens = refl }
  tells (suc i) h =
      let x = get_or v i 0 in
      let at = spot_behind m s (take i v) in
      let q = test Q i in
      let here = tells i (omega arith) in
      let stops = hs i (omega arith) in
      let counted = hq i (omega arith) in
      let calm : is_strange (is_stop m x) q (is_odd at) (is_begin at) (is_even at) ≡ false =
      (λ j. is_strange (sym stops j) q (sym here.odds j) (sym here.begins j) (sym here.evens j)) ∙ fine i h in
      let next = moves at (is_stop m x) q (apart-counted m at x q distinct counted) calm in
      let more : spot_behind m s (take (suc i) v) ≡ spot_of at (is_stop m x) q =
      ap (λ n. spot_behind m s (take n v)) (sym (add-one i)) ∙ spot-more m s v i (omega (arith, long)) ∙ next-counted m at x q counted in
      rw more record {
        odds = swap (parity Q i) (test Q i) (is_odd s) ∙ ap (λ o. xor o q) here.odds ∙ next.odds;
        begins = ap₂ (λ a b. a && not b) stops here.odds ∙ next.begins;
        evens = ap (λ o. q && o) here.odds ∙ next.evens;
      }

  pub ends-are : n ≡ 64 → (E : ℕ) → E < 2 ^ 64 → ((i : ℕ) → i < 64 → test E i ≡ (test S i && not (odd_at Q (is_odd s) i))) → E ≡ mask_l (end_flags m s v)
  ends-are all E small he = mask_by_tests E (end_flags m s v) small (length-end_flags m s v ∙ long) (λ i h.
      he i h ∙ ap₂ (λ a b. a && not b) (hs i h) (tells i (omega (arith, all))).odds ∙ sym (get_or-end_flags m s v i (omega (arith, long))))

  pub behind-is : n ≡ 64 → spot_from (odd_at Q (is_odd s) 64) (begin_at S Q (is_odd s) (is_begin s) 64) (even_at Q (is_odd s) (is_even s) 64) ≡ spot_behind m s v
  behind-is all =
      let whole : take 64 v ≡ v = take_all 64 v (omega (arith, long)) in
      told _ _ _ _ (tells 64 (omega (arith, all))) ∙ ap (spot_behind m s) whole

  -- without the quote at the first strange place
  pub counted-less : (low : n < 64) → test Q n ≡ true
      → is_strange (test S n) (test Q n) (odd_at Q (is_odd s) n) (begin_at S Q (is_odd s) (is_begin s) n) (even_at Q (is_odd s) (is_even s) n) ≡ true
      → IsCounted m s v (bit_and Q (bit_not w64 (1 * 2 ^ n % 2 ^ 64)))
  unfolding test
  counted-less low set strange i h =
      let here = tells n (omega arith) in
      let plain = plain-at (spot_behind m s (take n v)) (test S n) ((λ j. is_strange (test S n) (sym set j) (sym here.odds j) (sym here.begins j) (sym here.evens j)) ∙ strange) in
      by_place (cases_eq i n) plain (hq i h)
    where
      by_place : (i ≡ n) ⊎ (i ≢ n) → spot_behind m s (take n v) ≡ Plain → (test Q i ≡ is_quote m.quote (get_or v i 0)) ⊎ ((test Q i ≡ false) × (spot_behind m s (take i v) ≡ Plain))
          → (test (bit_and Q (bit_not w64 (1 * 2 ^ n % 2 ^ 64))) i ≡ is_quote m.quote (get_or v i 0)) ⊎ ((test (bit_and Q (bit_not w64 (1 * 2 ^ n % 2 ^ 64))) i ≡ false) × (spot_behind m s (take i v) ≡ Plain))
      by_place (inl same) plain _ =
          inr (ap (test (bit_and Q (bit_not w64 (1 * 2 ^ n % 2 ^ 64)))) same ∙ ap (λ x. x == 1) (bit_at_clear_same w64 Q n low), ap (λ k. spot_behind m s (take k v)) same ∙ plain)
      by_place (inr other) plain (inl same) = inl (ap (λ x. x == 1) (bit_at_clear_other w64 Q n low i h other) ∙ same)
      by_place (inr other) plain (inr was) = inr (ap (λ x. x == 1) (bit_at_clear_other w64 Q n low i h other) ∙ was.0, was.1)

-- one more byte of a block that is read byte by byte
pub ends-more : (m : Marks) (s : Spot) (b : List ℕ) (i : ℕ) (word : ℕ) (at : Spot) (flag : Bool) → i < length b → length b ≤ 64 → word ≡ mask_l (end_flags m s (take i b)) → at ≡ spot_behind m s (take i b)
    → flag ≡ ends_field m at (get_or b i 0) → bit_or word (bool_byte flag * 2 ^ i % 2 ^ 64) ≡ mask_l (end_flags m s (take (i + 1) b))
ends-more m s b i word at flag inside few is spot told =
    let long : length (end_flags m s (take i b)) ≡ i = length-end_flags m s (take i b) ∙ length-take-le i b (omega arith) in
    (λ j. bit_or (is j) (bool_byte (told j) * 2 ^ i % 2 ^ 64))
    ∙ (λ j. bit_or (mask_l (end_flags m s (take i b))) (bool_byte (ends_field m (spot j) (get_or b i 0)) * 2 ^ i % 2 ^ 64))
    ∙ mask_l-or (end_flags m s (take i b)) (ends_field m (spot_behind m s (take i b)) (get_or b i 0)) i long (omega arith)
    ∙ ap mask_l (sym (end_flags-append m s (take i b) (get_or b i 0 ∷ [])) ∙ ap (end_flags m s) (sym (take_more b i 0 inside)))

pub lines-more : (m : Marks) (b : List ℕ) (i : ℕ) (word : ℕ) → i < length b → length b ≤ 64 → word ≡ mask_l (line_flags m (take i b))
    → bit_or word (bool_byte (get_or b i 0 == m.line_end) * 2 ^ i % 2 ^ 64) ≡ mask_l (line_flags m (take (i + 1) b))
lines-more m b i word inside few is =
    let long : length (line_flags m (take i b)) ≡ i = length-map (take i b) (λ x. x == m.line_end) ∙ length-take-le i b (omega arith) in
    (λ j. bit_or (is j) (bool_byte (get_or b i 0 == m.line_end) * 2 ^ i % 2 ^ 64))
    ∙ mask_l-or (line_flags m (take i b)) (get_or b i 0 == m.line_end) i long (omega arith)
    ∙ ap mask_l (sym (map-append (λ x. x == m.line_end) (take i b) (get_or b i 0 ∷ [])) ∙ ap (line_flags m) (sym (take_more b i 0 inside)))

pub lines-are : (m : Marks) (v : List ℕ) → length v ≡ 64 → (E : ℕ) → E < 2 ^ 64 → ((i : ℕ) → i < 64 → test E i ≡ (get_or v i 0 == m.line_end)) → E ≡ mask_l (line_flags m v)
lines-are m v long E small he = mask_by_tests E (line_flags m v) small (length-map v (λ x. x == m.line_end) ∙ long) (λ i h.
    he i h ∙ sym (get_or-map (λ x. x == m.line_end) v i 0 false (omega (arith, long))))

-- the test `(n >> i) & 1 != 0`
pub set-from : (n i : ℕ) → (bit_and (n / 2 ^ i) 1 ≡ 0 → ⊥) → test n i ≡ true
unfolding test
set-from n i some =
    let is = shr_and_one n i in
    let small = bit_lt n i in
    let one : bit_at n i ≡ 1 = omega arith in
    ap (λ x. x == 1) one
