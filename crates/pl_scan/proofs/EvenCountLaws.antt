-- How a count of line ends at even parity goes on, by a byte and by a block of 64.
use Rattle.std.proofs.Common.{◌≡◌, ℕ, zero, suc, ◌+◌, ◌%◌, ◌^◌, ◌<◌, ◌≤◌, Bool, true, false, cond, not, ◌&&◌, ◌==◌, List, [], ◌∷◌, ◌++◌, length, take, get_or, refl, sym, ap, ap₂, ◌∙◌, arith, mod-lt, zero-lt-suc, add-zero, length-append, append-nil}
use Rattle.std.specs.Prelude.{Option, None, Some, unwrap_or, count_by}
use Rattle.std.specs.List.{range_with_len, last_or}
use Rattle.std.proofs.lemmas.List.{take_more, drop_more}
use Rattle.std.proofs.lemmas.List.FromFn.{length-range_with_len}
use Rattle.std.proofs.lemmas.List.Sums.{sum_by_push, length-filter, count_by-le-length}
use lib.Count.{ones}
use Rattle.pl_scan.specs.Bits.{xor, test, parity, odd_at, set_bits}
use Rattle.pl_scan.specs.EvenCounts.{even_ends_below, is_odd_at, HasCounted}
use Rattle.pl_scan.specs.Fields.{is_quote}
use Rattle.pl_scan.specs.LineEnds.{begins_end, is_even_end, even_ends}
use Rattle.pl_scan.specs.declared.line_ends.Counted.{Counted}
use Rattle.pl_scan.proofs.BitLaws.{bit_cases}
use Rattle.pl_scan.proofs.LineEndLaws.{even_ends-all, even_ends_below-append, length-if}
use Rattle.pl_scan.proofs.SetBitLaws.{set_bits-filter, length-set_bits}

-- ---- parity

odd-not : (n : ℕ) → (n % 2 == 0) ≡ not (n % 2 == 1)
odd-not n = bit_cases (λ r. (r == 0) ≡ not (r == 1)) refl refl (n % 2) (mod-lt n (zero-lt-suc 1))

odd-suc : (n : ℕ) → ((n + 1) % 2 == 1) ≡ not (n % 2 == 1)
odd-suc n = bit_cases (λ r. n % 2 ≡ r → ((n + 1) % 2 == 1) ≡ not (r == 1)) (λ e. ap (λ r. r == 1) (let f : (n + 1) % 2 ≡ 1 = omega arith in f))
    (λ e. ap (λ r. r == 1) (let f : (n + 1) % 2 ≡ 0 = omega arith in f)) (n % 2) (mod-lt n (zero-lt-suc 1)) refl

odd-sum : (t : Bool) (n : ℕ) → ((n + cond t 1 0) % 2 == 1) ≡ xor t (n % 2 == 1)
odd-sum true n = odd-suc n
odd-sum false n = ap (λ k. k % 2 == 1) (add-zero n)

-- one more byte
odd-more : (quote : Option ℕ) (b : List ℕ) (n : ℕ) → n < length b → is_odd_at quote b (n + 1) ≡ xor (is_quote quote (get_or b n 0)) (is_odd_at quote b n)
odd-more quote b n inside =
    ap (λ (l : List ℕ). count_by (is_quote quote) l % 2 == 1) (take_more b n 0 inside)
    ∙ ap (λ k. k % 2 == 1) (sum_by_push (λ x. cond (is_quote quote x) 1 0) (take n b) (get_or b n 0))
    ∙ odd-sum (is_quote quote (get_or b n 0)) (count_by (is_quote quote) (take n b))

-- whether a place counts
even_end-is : (quote : Option ℕ) (e : ℕ) (b : List ℕ) (n : ℕ) → n < length b
    → is_even_end quote e b n ≡ (get_or b n 0 == e && not (is_quote quote (get_or b n 0)) && not (is_odd_at quote b n))
even_end-is quote e b n inside =
    ap₂ (λ x y. x && y) (ap (begins_end quote e) (drop_more b n 0 inside)) (odd-not (count_by (is_quote quote) (take n b)))

-- ---- lists of places

last_or-append : (o : Option ℕ) (xs ys : List ℕ) → last_or o (xs ++ ys) ≡ last_or (last_or o xs) ys
last_or-append o [] ys = refl
last_or-append o (x ∷ xs) ys = last_or-append (Some x) xs ys

last-default : (y : ℕ) (ys : List ℕ) (c d : ℕ) → unwrap_or (last_or (Some y) ys) c ≡ unwrap_or (last_or (Some y) ys) d
last-default y [] c d = refl
last-default y (z ∷ ys) c d = last-default z ys c d

-- the last place of two lists
unwrap-last : (xs ys : List ℕ) → unwrap_or (last_or None (xs ++ ys)) 0 ≡ unwrap_or (last_or None ys) (unwrap_or (last_or None xs) 0)
unwrap-last xs ys = ap (λ o. unwrap_or o 0) (last_or-append None xs ys) ∙ behind (last_or None xs) ys
  where
    behind : (o : Option ℕ) (ys : List ℕ) → unwrap_or (last_or o ys) 0 ≡ unwrap_or (last_or None ys) (unwrap_or o 0)
    behind None [] = refl
    behind (Some k) [] = refl
    behind o (y ∷ ys) = last-default y ys 0 (unwrap_or o 0)

-- ---- a count

-- no more than the bytes
pub counted-few : (quote : Option ℕ) (e : ℕ) (b : List ℕ) (n : ℕ) (c : Counted) → HasCounted quote e b n c → c.number ≤ n
counted-few quote e b n c done =
    let range : List ℕ = range_with_len 0 n in
    let p : ℕ → Bool = is_even_end quote e b in
    omega (arith, done.number, length-filter p range, count_by-le-length p range, length-range_with_len 0 n)

-- of no bytes
pub HasCounted-none : (quote : Option ℕ) (e : ℕ) (b : List ℕ) → HasCounted quote e b 0 (record { number = 0; last = 0; odd = false })
HasCounted-none quote e b = record { number = refl; last = refl; odd = refl }

-- of all bytes
pub HasCounted-all : (quote : Option ℕ) (e : ℕ) (b : List ℕ) (n : ℕ) (c : Counted) → HasCounted quote e b n c → n ≡ length b
    → (c.number ≡ length (even_ends quote e b)) × (c.last ≡ unwrap_or (last_or None (even_ends quote e b)) 0)
HasCounted-all quote e b n c done is =
    let all : even_ends_below quote e b n ≡ even_ends quote e b = ap (even_ends_below quote e b) is ∙ sym (even_ends-all quote e b) in
    (done.number ∙ ap length all, done.last ∙ ap (λ l. unwrap_or (last_or None l) 0) all)

-- one more byte
HasCounted-more : (quote : Option ℕ) (e : ℕ) (b : List ℕ) (n : ℕ) (c c' : Counted) → HasCounted quote e b n c → n < length b → (t : Bool) → is_even_end quote e b n ≡ t
    → c'.number ≡ c.number + cond t 1 0 → c'.last ≡ cond t n c.last → c'.odd ≡ xor (is_quote quote (get_or b n 0)) c.odd → HasCounted quote e b (n + 1) c'
HasCounted-more quote e b n c c' done inside t here number last odd =
    let before : List ℕ = even_ends_below quote e b n in
    let places : even_ends_below quote e b (n + 1) ≡ before ++ cond t (n ∷ []) [] =
    even_ends_below-append quote e b n 1 ∙ ap (λ (u : Bool). before ++ cond u (n ∷ []) []) here in
    record {
      number = number ∙ ap (λ k. k + cond t 1 0) done.number ∙ sym (length-if t before n) ∙ sym (ap length places);
      last = last ∙ by t ∙ sym (ap (λ (l : List ℕ). unwrap_or (last_or None l) 0) places);
      odd = odd ∙ ap (xor (is_quote quote (get_or b n 0))) done.odd ∙ sym (odd-more quote b n inside);
    }
  where
    by : (t : Bool) → cond t n c.last ≡ unwrap_or (last_or None (even_ends_below quote e b n ++ cond t (n ∷ []) [])) 0
    by true = sym (unwrap-last (even_ends_below quote e b n) (n ∷ []))
    by false = done.last ∙ ap (λ (l : List ℕ). unwrap_or (last_or None l) 0) (sym (append-nil (even_ends_below quote e b n)))

-- a quote
pub HasCounted-quote : (quote : Option ℕ) (e : ℕ) (b : List ℕ) (n : ℕ) (c : Counted) → HasCounted quote e b n c → n < length b → is_quote quote (get_or b n 0) ≡ true
    → HasCounted quote e b (n + 1) (record { number = c.number; last = c.last; odd = not c.odd })
HasCounted-quote quote e b n c done inside is =
    HasCounted-more quote e b n c _ done inside false
    (even_end-is quote e b n inside ∙ ap (λ t. get_or b n 0 == e && not t && not (is_odd_at quote b n)) is ∙ never (get_or b n 0 == e) (not (is_odd_at quote b n)))
    (sym (add-zero c.number)) refl (ap (λ t. xor t c.odd) (sym is))
  where
    never : (t u : Bool) → (t && false && u) ≡ false
    never true u = refl
    never false u = refl

-- a byte that is no quote, with what it counts
counted_plain : (quote : Option ℕ) (e : ℕ) (b : List ℕ) (n : ℕ) (c c' : Counted) → HasCounted quote e b n c → n < length b → is_quote quote (get_or b n 0) ≡ false
    → (t : Bool) → (get_or b n 0 == e && true && not c.odd) ≡ t → c'.number ≡ c.number + cond t 1 0 → c'.last ≡ cond t n c.last → c'.odd ≡ c.odd → HasCounted quote e b (n + 1) c'
counted_plain quote e b n c c' done inside plain t is number last odd =
    HasCounted-more quote e b n c c' done inside t
    (even_end-is quote e b n inside ∙ ap₂ (λ u v. get_or b n 0 == e && not u && not v) plain (sym done.odd) ∙ is)
    number last (odd ∙ ap (λ u. xor u c.odd) (sym plain))

-- a line end that counts
pub HasCounted-end : (quote : Option ℕ) (e : ℕ) (b : List ℕ) (n : ℕ) (c : Counted) → HasCounted quote e b n c → n < length b → is_quote quote (get_or b n 0) ≡ false
    → (get_or b n 0 == e) ≡ true → c.odd ≡ false → HasCounted quote e b (n + 1) (record { number = c.number + 1; last = n; odd = c.odd })
HasCounted-end quote e b n c done inside plain is even =
    counted_plain quote e b n c _ done inside plain true (ap₂ (λ u v. u && true && not v) is even) refl refl refl

-- any other byte that is no quote
pub HasCounted-other : (quote : Option ℕ) (e : ℕ) (b : List ℕ) (n : ℕ) (c : Counted) → HasCounted quote e b n c → n < length b → is_quote quote (get_or b n 0) ≡ false
    → (get_or b n 0 == e && true && not c.odd) ≡ false → HasCounted quote e b (n + 1) c
HasCounted-other quote e b n c done inside plain none = counted_plain quote e b n c c done inside plain false none (sym (add-zero c.number)) refl refl

-- ---- a block

swap : (p t o : Bool) → xor (xor p t) o ≡ xor t (xor p o)
swap true true true = refl
swap true true false = refl
swap true false true = refl
swap true false false = refl
swap false true true = refl
swap false true false = refl
swap false false true = refl
swap false false false = refl

-- a block of `size` bytes behind n, and words that tell of each of its bytes whether it is a line end, or a quote
module _ (quote : Option ℕ) (e : ℕ) (b : List ℕ) (n size : ℕ) (inside : n + size ≤ length b) (c : Counted) (done : HasCounted quote e b n c)
    (E Q : ℕ) (ends : (i : ℕ) → i < size → test E i ≡ (get_or b (n + i) 0 == e)) (quotes : (i : ℕ) → i < size → test Q i ≡ is_quote quote (get_or b (n + i) 0)) where
  odd-are : (i : ℕ) → i ≤ size → odd_at Q c.odd i ≡ is_odd_at quote b (n + i)
  unfolding parity
  odd-are zero h = done.odd ∙ ap (is_odd_at quote b) (let f : n ≡ n + 0 = omega arith in f)
  odd-are (suc i) h =
      swap (parity Q i) (test Q i) c.odd ∙ ap₂ xor (quotes i (omega arith)) (odd-are i (omega arith))
      ∙ sym (odd-more quote b (n + i) (omega arith)) ∙ ap (is_odd_at quote b) (let f : n + i + 1 ≡ n + suc i = omega arith in f)

  -- the word of those that count
  pub HasCounted-block : (W : ℕ) → W < 2 ^ size → ((i : ℕ) → i < size → test W i ≡ (test E i && not (test Q i) && not (odd_at Q c.odd i)))
      → (c' : Counted) → c'.number ≡ c.number + ones W → c'.last ≡ unwrap_or (last_or None (set_bits size n W)) c.last → c'.odd ≡ odd_at Q c.odd size → HasCounted quote e b (n + size) c'
  HasCounted-block W small even c' number last odd =
      let before : List ℕ = even_ends_below quote e b n in
      let told : (i : ℕ) → i < size → test W i ≡ is_even_end quote e b (n + i) = λ i h.
      even i h ∙ (λ j. ends i h j && not (quotes i h j) && not (odd-are i (omega arith) j)) ∙ sym (even_end-is quote e b (n + i) (omega arith)) in
      let places : even_ends_below quote e b (n + size) ≡ before ++ set_bits size n W =
      even_ends_below-append quote e b n size ∙ ap (λ (l : List ℕ). before ++ l) (sym (set_bits-filter (is_even_end quote e b) size n W told)) in
      record {
        number = number ∙ ap₂ (λ x y. x + y) done.number (sym (length-set_bits size n W small)) ∙ sym (length-append before (set_bits size n W)) ∙ sym (ap length places);
        last = last ∙ ap (unwrap_or (last_or None (set_bits size n W))) done.last ∙ sym (unwrap-last before (set_bits size n W)) ∙ sym (ap (λ (l : List ℕ). unwrap_or (last_or None l) 0) places);
        odd = odd ∙ odd-are size (omega arith);
      }
