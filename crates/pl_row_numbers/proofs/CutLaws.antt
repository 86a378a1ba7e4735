-- Where lines end in a block, by bytes and by words.
use Rattle.std.proofs.Common.{◌≡◌, ℕ, zero, suc, ◌+◌, ◌-◌, ◌/◌, ◌%◌, ◌^◌, ◌<◌, ◌≤◌, ◌⊎◌, inl, inr, Bool, true, false, not, ◌&&◌, ◌==◌, List, [], ◌∷◌, ◌++◌, length, take, get_or, refl, sym, ◌∙◌, ap, subst, add-one, arith, w64, mod-lt, zero-lt-suc, pow-suc, true≢false}
use lib.Bits.{bit_and}
use lib.Count.{count_trailing_zeros, under}
use Rattle.std.proofs.lemmas.Nat.Bits.{bit_at-trailing_zeros}
use Rattle.std.proofs.lemmas.Bool.{cases_lt}
use Rattle.std.proofs.lemmas.Bool.Decides.{nat_tests}
use Rattle.std.proofs.lemmas.List.{take_more, get_or-take}
use Rattle.pl_scan.specs.Bits.{xor, test, parity, odd_at}
use Rattle.pl_scan.proofs.BitLaws.{bit_cases, test-none, test-and}
use Rattle.pl_scan.proofs.SetBitLaws.{test-first, test-half}
use Rattle.pl_row_numbers.specs.Parts.{odd_behind, is_end}
use Rattle.pl_row_numbers.proofs.QuoteLaws.{and_false, odd_behind-append}

-- ---- words

-- the lowest bit of a word that is not 0
pub lowest-bit : (x : ℕ) → 0 < x → x < 2 ^ 64 → (count_trailing_zeros 64 x < 64) × (test x (count_trailing_zeros 64 x) ≡ true) × ((k : ℕ) → k < count_trailing_zeros 64 x → test x k ≡ false)
unfolding test
lowest-bit x some small =
    let h = bit_at-trailing_zeros w64 x some small in
    (h.0, ap (λ n. n == 1) h.1, λ k l. ap (λ n. n == 1) (h.2 k l))

-- one less has no such bit, and the same bits above it
less-at : (n x : ℕ) → 0 < x → x < 2 ^ n → test (x - 1) (count_trailing_zeros n x) ≡ false
unfolding count_trailing_zeros
less-at zero x some small = absurd (omega (arith, some, small))
less-at (suc n) x some small = bit_cases (λ r. x % 2 ≡ r → test (x - 1) (under r (count_trailing_zeros n (x / 2))) ≡ false) (even (λ p. less-at n (x / 2) p (omega (arith, small, pow-suc 2 n)))) odd (x % 2) (mod-lt x (zero-lt-suc 1)) refl
  where
    odd : x % 2 ≡ 1 → test (x - 1) 0 ≡ false
    odd e = let low : (x - 1) % 2 ≡ 0 = omega arith in sym (test-first (x - 1)) ∙ ap (λ r. r == 1) low

    even : (0 < x / 2 → test (x / 2 - 1) (count_trailing_zeros n (x / 2)) ≡ false) → x % 2 ≡ 0 → test (x - 1) (suc (count_trailing_zeros n (x / 2))) ≡ false
    even below e =
        let half : (x - 1) / 2 ≡ x / 2 - 1 = omega arith in
        let t = count_trailing_zeros n (x / 2) in
        sym (test-half (x - 1) t) ∙ ap (λ y. test y t) half ∙ below (omega arith)

less-above : (n k x : ℕ) → 0 < x → x < 2 ^ n → count_trailing_zeros n x < k → test (x - 1) k ≡ test x k
unfolding count_trailing_zeros
less-above zero k x some small above = absurd (omega (arith, some, small))
less-above (suc n) zero x some small above = absurd (omega (arith, above))
less-above (suc n) (suc j) x some small above =
    bit_cases (λ r. x % 2 ≡ r → under r (count_trailing_zeros n (x / 2)) < suc j → test (x - 1) (suc j) ≡ test x (suc j)) (even (λ p l. less-above n j (x / 2) p (omega (arith, small, pow-suc 2 n)) l)) odd (x % 2) (mod-lt x (zero-lt-suc 1)) refl above
  where
    odd : x % 2 ≡ 1 → 0 < suc j → test (x - 1) (suc j) ≡ test x (suc j)
    odd e l = let half : (x - 1) / 2 ≡ x / 2 = omega arith in sym (test-half (x - 1) j) ∙ ap (λ y. test y j) half ∙ test-half x j

    even : (0 < x / 2 → count_trailing_zeros n (x / 2) < j → test (x / 2 - 1) j ≡ test (x / 2) j) → x % 2 ≡ 0 → suc (count_trailing_zeros n (x / 2)) < suc j → test (x - 1) (suc j) ≡ test x (suc j)
    even below e l =
        let half : (x - 1) / 2 ≡ x / 2 - 1 = omega arith in
        sym (test-half (x - 1) j) ∙ ap (λ y. test y j) half ∙ below (omega arith) (omega (arith, l)) ∙ test-half x j

-- the bits of a word from a place on are left
pub record IsLeft (ends left from : ℕ) : Type 0 where
  pub low : (k : ℕ) → k < from → test left k ≡ false
  pub high : (k : ℕ) → from ≤ k → test left k ≡ test ends k

-- the first of them, and what is left behind it
pub record IsFirst (ends left from : ℕ) : Type 0 where
  pub inside : count_trailing_zeros 64 left < 64
  pub behind : from ≤ count_trailing_zeros 64 left
  pub clear : (k : ℕ) → from ≤ k → k < count_trailing_zeros 64 left → test ends k ≡ false
  pub set : test ends (count_trailing_zeros 64 left) ≡ true
  pub next : IsLeft ends (bit_and left (left - 1)) (count_trailing_zeros 64 left + 1)

pub IsLeft-all : (ends : ℕ) → IsLeft ends ends 0
IsLeft-all ends = record { low = λ k l. absurd (omega (arith, l)); high = λ k l. refl }

pub IsLeft-first : (ends left from : ℕ) → 0 < left → left < 2 ^ 64 → IsLeft ends left from → IsFirst ends left from
IsLeft-first ends left from some small is =
    let t = count_trailing_zeros 64 left in
    let lowest = lowest-bit left some small in
    let behind : from ≤ t = place (cases_lt t from) in
    record {
      inside = lowest.0;
      behind = behind;
      clear = λ k l below. sym (is.high k l) ∙ lowest.2 k below;
      set = sym (is.high t behind) ∙ lowest.1;
      next = record {
        low = λ k l. test-and left (left - 1) k ∙ cleared k (cases_lt k t) l;
        high = λ k l. test-and left (left - 1) k ∙ ap (λ b. test left k && b) (less-above 64 k left some small (omega (arith, l))) ∙ and_same (test left k) ∙ is.high k (omega (arith, l, behind));
      };
    }
  where
    place : (count_trailing_zeros 64 left < from) ⊎ (from ≤ count_trailing_zeros 64 left) → from ≤ count_trailing_zeros 64 left
    place (inl below) = absurd (true≢false (sym ((lowest-bit left some small).1) ∙ is.low (count_trailing_zeros 64 left) below))
    place (inr above) = above

    and_same : (b : Bool) → (b && b) ≡ b
    and_same true = refl
    and_same false = refl

    cleared : (k : ℕ) → (k < count_trailing_zeros 64 left) ⊎ (count_trailing_zeros 64 left ≤ k) → k < count_trailing_zeros 64 left + 1 → (test left k && test (left - 1) k) ≡ false
    cleared k (inl below) l = ap (λ b. b && test (left - 1) k) ((lowest-bit left some small).2 k below)
    cleared k (inr above) l =
        let same : count_trailing_zeros 64 left ≡ k = omega (arith, above, l) in
        ap (λ b. test left k && b) (subst (λ j. test (left - 1) j ≡ false) same (less-at 64 left some small)) ∙ and_false (test left k)

-- none is left
pub IsLeft-none : (ends left from k : ℕ) → left ≡ 0 → IsLeft ends left from → from ≤ k → test ends k ≡ false
IsLeft-none ends left from k none is l = sym (is.high k l) ∙ ap (λ x. test x k) none ∙ test-none k

turned : (b p o : Bool) → xor b (xor p o) ≡ xor (xor p b) o
turned true true true = refl
turned true true false = refl
turned true false true = refl
turned true false false = refl
turned false true true = refl
turned false true false = refl
turned false false true = refl
turned false false false = refl

-- behind a line feed the number of quotes is that in front of it
at_feed : (x : ℕ) (o : Bool) → ((x == 10) && not (xor (x == 34) o)) ≡ is_end o x
at_feed x o = by (x == 10) refl
  where
    by : (t : Bool) → (x == 10) ≡ t → (t && not (xor (x == 34) o)) ≡ (t && not o)
    by false e = refl
    by true e = let other : (x == 34) ≡ false = grind (arith, nat_tests, e) in ap (λ b. not (xor b o)) other

-- a word has a bit for each quote, and one for each end of a line, of the first 64 bytes
pub record AreWords (odd : Bool) (text : List ℕ) (quotes ends : ℕ) : Type 0 where
  pub quotes_are : (i : ℕ) → i < 64 → test quotes i ≡ (get_or text i 0 == 34)
  pub ends_are : (i : ℕ) → i < 64 → test ends i ≡ (get_or text i 0 == 10 && not (odd_at quotes odd (i + 1)))

odd-none : (quotes : ℕ) (odd : Bool) → odd ≡ odd_at quotes odd 0
unfolding parity
odd-none quotes odd = refl

-- without quotes it stays
parity-none : (n : ℕ) → parity 0 n ≡ false
unfolding parity
parity-none zero = refl
parity-none (suc n) = ap (λ p. xor p (test 0 n)) (parity-none n) ∙ test-none n

pub odd-same : (odd : Bool) (n : ℕ) → odd_at 0 odd n ≡ odd
odd-same odd n = ap (λ p. xor p odd) (parity-none n)

-- quotes behind one byte more
odd-more : (odd : Bool) (text : List ℕ) (quotes ends i : ℕ) → AreWords odd text quotes ends → i < 64 → xor (get_or text i 0 == 34) (odd_at quotes odd i) ≡ odd_at quotes odd (i + 1)
unfolding parity
odd-more odd text quotes ends i words inside =
    turned (get_or text i 0 == 34) (parity quotes i) odd
    ∙ ap (λ b. xor (xor (parity quotes i) b) odd) (sym (words.quotes_are i inside))
    ∙ ap (λ n. odd_at quotes odd n) (sym (add-one i))

-- the bit of a byte says whether it ends a line
end-bit : (odd : Bool) (text : List ℕ) (quotes ends i : ℕ) → AreWords odd text quotes ends → i < 64 → test ends i ≡ is_end (odd_at quotes odd i) (get_or text i 0)
end-bit odd text quotes ends i words inside =
    words.ends_are i inside
    ∙ ap (λ o. get_or text i 0 == 10 && not o) (sym (odd-more odd text quotes ends i words inside))
    ∙ at_feed (get_or text i 0) (odd_at quotes odd i)

-- quotes by words and by bytes
pub odd-words : (odd : Bool) (text : List ℕ) (quotes ends n : ℕ) → AreWords odd text quotes ends → 64 ≤ length text → n ≤ 64 → odd_at quotes odd n ≡ odd_behind odd (take n text)
odd-words odd text quotes ends zero words long few = sym (odd-none quotes odd)
odd-words odd text quotes ends (suc n) words long few =
    let x = get_or text n 0 in
    let more : take (n + 1) text ≡ take n text ++ x ∷ [] = take_more text n 0 (omega (arith, few, long)) in
    subst (λ k. odd_at quotes odd k ≡ odd_behind odd (take k text)) (add-one n)
    (sym (odd-more odd text quotes ends n words (omega (arith, few)))
    ∙ ap (λ o. xor (x == 34) o) (odd-words odd text quotes ends n words long (omega (arith, few)))
    ∙ sym (ap (odd_behind odd) more ∙ odd_behind-append odd (take n text) (x ∷ [])))

-- a bit says whether its byte ends a line
pub ends-words : (odd : Bool) (text : List ℕ) (quotes ends i : ℕ) → AreWords odd text quotes ends → 64 ≤ length text → i < 64 → test ends i ≡ is_end (odd_behind odd (take i text)) (get_or text i 0)
ends-words odd text quotes ends i words long inside =
    end-bit odd text quotes ends i words inside ∙ ap (λ o. is_end o (get_or text i 0)) (odd-words odd text quotes ends i words long (omega (arith, inside)))

-- the words of a block
pub words-of : (odd : Bool) (text : List ℕ) (feeds quotes ends : ℕ)
    → ((i : ℕ) → i < 64 → test feeds i ≡ (get_or (take 64 (take 64 text)) i 0 == 10))
    → ((i : ℕ) → i < 64 → test quotes i ≡ (get_or (take 64 (take 64 text)) i 0 == 34))
    → ((i : ℕ) → i < 64 → test ends i ≡ (test feeds i && not (odd_at quotes odd (i + 1))))
    → AreWords odd text quotes ends
words-of odd text feeds quotes ends feeds_are quotes_are ends_are = record {
  quotes_are = λ i h. quotes_are i h ∙ ap (λ x. x == 34) (byte-at i h);
  ends_are = λ i h. ends_are i h ∙ ap (λ t. t && not (odd_at quotes odd (i + 1))) (feeds_are i h ∙ ap (λ x. x == 10) (byte-at i h));
}
  where
    byte-at : (i : ℕ) → i < 64 → get_or (take 64 (take 64 text)) i 0 ≡ get_or text i 0
    byte-at i h = get_or-take 64 (take 64 text) i 0 h ∙ get_or-take 64 text i 0 h
