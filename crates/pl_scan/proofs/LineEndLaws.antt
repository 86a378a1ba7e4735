-- The laws of line ends behind an even number of quotes.
use Rattle.std.proofs.Common.{◌≡◌, ℕ, zero, suc, ◌+◌, ◌*◌, ◌<◌, ◌≤◌, Bool, true, false, cond, ◌&&◌, ◌==◌, List, [], ◌∷◌, ◌++◌, length, take, get_or, refl, sym, ◌∙◌, ap, ap₂, zero-add, add-zero, add-one, ◌%◌, arith, append-nil}
use Rattle.std.specs.Prelude.{Option, None, Some, unwrap_or, find, filter, count_by}
use Rattle.std.specs.List.{range_with_len}
use Rattle.std.proofs.lemmas.List.{length_push, take_more, take_all, drop_more}
use Rattle.std.proofs.lemmas.List.Sums.{sum_by-cons, sum_by_push}
use Rattle.std.proofs.lemmas.List.Elements.{filter-append}
use Rattle.std.proofs.lemmas.Bool.Decides.{nat_tests}
use Rattle.pl_scan.specs.Fields.{is_quote}
use Rattle.pl_scan.specs.EvenCounts.{even_ends_below}
use Rattle.pl_scan.specs.LineEnds.{begins_end, is_even_end, even_ends, doublings, is_enough, cut_size}

pub even_ends-all : (quote : Option ℕ) (e : ℕ) (b : List ℕ) → even_ends quote e b ≡ even_ends_below quote e b (length b)
unfolding even_ends
even_ends-all quote e b = refl

range-append : (a n k : ℕ) → range_with_len a (n + k) ≡ range_with_len a n ++ range_with_len (a + n) k
range-append a zero k =
    let count : 0 + k ≡ k = omega arith in
    let from : a ≡ a + 0 = omega arith in
    ap₂ range_with_len from count
range-append a (suc n) k =
    let count : suc n + k ≡ suc (n + k) = omega arith in
    let from : a + 1 + n ≡ a + suc n = omega arith in
    ap (range_with_len a) count ∙ ap (λ l. a ∷ l) (range-append (a + 1) n k ∙ ap (λ f. range_with_len (a + 1) n ++ range_with_len f k) from)

-- those of k more bytes
pub even_ends_below-append : (quote : Option ℕ) (e : ℕ) (b : List ℕ) (n k : ℕ)
    → even_ends_below quote e b (n + k) ≡ even_ends_below quote e b n ++ filter (is_even_end quote e b) (range_with_len n k)
even_ends_below-append quote e b n k =
    let from : 0 + n ≡ n = omega arith in
    ap (filter (is_even_end quote e b)) (range-append 0 n k ∙ ap (λ f. range_with_len 0 n ++ range_with_len f k) from)
    ∙ filter-append (is_even_end quote e b) (range_with_len 0 n) (range_with_len n k)

even_ends_below-more : (quote : Option ℕ) (e : ℕ) (b : List ℕ) (n : ℕ) → even_ends_below quote e b (n + 1) ≡ even_ends_below quote e b n ++ cond (is_even_end quote e b n) (n ∷ []) []
even_ends_below-more quote e b n = even_ends_below-append quote e b n 1

-- ---- the size of the prefix that is counted

-- a test that holds from some number on finds the same among enough doublings
find-doublings : (p : ℕ → Bool) (most : ℕ) → ((n : ℕ) → most ≤ n → p n ≡ true) → (k j n : ℕ) → 0 < n → most ≤ n + k → most ≤ n + j
    → find p (doublings n (suc k)) ≡ find p (doublings n (suc j))
find-doublings p most enough zero zero n some h i = refl
find-doublings p most enough zero (suc j) n some h i = rw (enough n (omega arith)) refl
find-doublings p most enough (suc k) zero n some h i = rw (enough n (omega arith)) refl
find-doublings p most enough (suc k) (suc j) n some h i =
    ap (λ o. cond (p n) (Some n) o) (find-doublings p most enough k j (2 * n) (omega arith) (omega arith) (omega arith))

pub is_enough-long : (quote : Option ℕ) (e : ℕ) (b : List ℕ) (n : ℕ) → length b ≤ n → is_enough quote e b n ≡ true
is_enough-long quote e b n h = grind (arith, nat_tests)

unwrap-some : (p : ℕ → Bool) (most : ℕ) → ((n : ℕ) → most ≤ n → p n ≡ true) → (k n d c : ℕ) → 0 < n → most ≤ n + k
    → unwrap_or (find p (doublings n (suc k))) d ≡ unwrap_or (find p (doublings n (suc k))) c
unwrap-some p most enough zero n d c some h = rw (enough n (omega arith)) refl
unwrap-some p most enough (suc k) n d c some h = by_test (p n) (unwrap-some p most enough k (2 * n) d c (omega arith) (omega arith))
  where
    by_test : (t : Bool) → unwrap_or (find p (doublings (2 * n) (suc k))) d ≡ unwrap_or (find p (doublings (2 * n) (suc k))) c
        → unwrap_or (cond t (Some n) (find p (doublings (2 * n) (suc k)))) d ≡ unwrap_or (cond t (Some n) (find p (doublings (2 * n) (suc k)))) c
    by_test true e = refl
    by_test false e = e

-- the prefix of n bytes is enough
pub cut_size-here : (quote : Option ℕ) (e : ℕ) (b : List ℕ) (n : ℕ) → is_enough quote e b n ≡ true → cut_size quote e b n ≡ n
unfolding cut_size
cut_size-here quote e b n here = rw (add-one, here) refl

-- it is not, so twice as many are tried
pub cut_size-more : (quote : Option ℕ) (e : ℕ) (b : List ℕ) (n : ℕ) → 0 < n → is_enough quote e b n ≡ false → n < length b → cut_size quote e b n ≡ cut_size quote e b (2 * n)
unfolding cut_size
cut_size-more quote e [] n some short inside = absurd (omega arith)
cut_size-more quote e (x ∷ xs) n some short inside =
    let b = x ∷ xs in
    let p = is_enough quote e b in
    rw (add-one, short) (unwrap-some p (length b) (is_enough-long quote e b) (length xs) (2 * n) n (2 * n) (omega arith) (omega arith)
    ∙ ap (λ o. unwrap_or o (2 * n)) (find-doublings p (length b) (is_enough-long quote e b) (length xs) (suc (length xs)) (2 * n) (omega arith) (omega arith) (omega arith)))

-- where a search for a size stops, and where it goes on
pub is_enough-some : (quote : Option ℕ) (e : ℕ) (b : List ℕ) (n : ℕ) → 0 < length (even_ends quote e (take n b)) → is_enough quote e b n ≡ true
is_enough-some quote e b n h = grind (arith, nat_tests)

pub is_enough-not : (quote : Option ℕ) (e : ℕ) (b : List ℕ) (n : ℕ) → length (even_ends quote e (take n b)) ≡ 0 → n < length b → is_enough quote e b n ≡ false
is_enough-not quote e b n h i = grind (arith, nat_tests)

-- ---- without a quote every line end counts

quotes-none : (b : List ℕ) → count_by (is_quote None) b ≡ 0
quotes-none [] = refl
quotes-none (x ∷ xs) = sum_by-cons (λ y. cond (is_quote None y) 1 0) x xs ∙ zero-add (count_by (is_quote None) xs) ∙ quotes-none xs

-- the test of a place without a quote
is_even_end-none : (e : ℕ) (b : List ℕ) (n : ℕ) → n < length b → is_even_end None e b n ≡ (get_or b n 0 == e)
is_even_end-none e b n inside = ap (λ (l : List ℕ). begins_end None e l && count_by (is_quote None) (take n b) % 2 == 0) (drop_more b n 0 inside) ∙ ap (λ k. get_or b n 0 == e && true && k % 2 == 0) (quotes-none (take n b)) ∙ and-true (get_or b n 0 == e)
  where
    and-true : (t : Bool) → (t && true && true) ≡ t
    and-true true = refl
    and-true false = refl

pub length-if : (t : Bool) (xs : List ℕ) (n : ℕ) → length (xs ++ cond t (n ∷ []) []) ≡ length xs + cond t 1 0
length-if true xs n = length_push xs n
length-if false xs n = ap length (append-nil xs) ∙ sym (add-zero (length xs))

unquoted-below : (e : ℕ) (b : List ℕ) (n : ℕ) → n ≤ length b → length (even_ends_below None e b n) ≡ count_by (λ x. x == e) (take n b)
unquoted-below e b zero _ = refl
unquoted-below e b (suc n) inside =
    let one : suc n ≡ n + 1 = sym (add-one n) in
    let t = get_or b n 0 == e in
    ap (λ k. length (even_ends_below None e b k)) one
    ∙ ap length (even_ends_below-more None e b n ∙ ap (λ (t : Bool). even_ends_below None e b n ++ cond t (n ∷ []) []) (is_even_end-none e b n (omega arith)))
    ∙ length-if t (even_ends_below None e b n) n
    ∙ ap (λ k. k + cond t 1 0) (unquoted-below e b n (omega arith))
    ∙ sym (sum_by_push (λ x. cond (x == e) 1 0) (take n b) (get_or b n 0))
    ∙ ap (λ (l : List ℕ). count_by (λ x. x == e) l) (sym (take_more b n 0 (omega arith)) ∙ ap (λ k. take k b) (sym one))

-- without a quote these are all line ends
pub even_ends-unquoted : (e : ℕ) (b : List ℕ) → length (even_ends None e b) ≡ count_by (λ x. x == e) b
even_ends-unquoted e b =
    ap length (even_ends-all None e b) ∙ unquoted-below e b (length b) (omega arith) ∙ ap (λ (l : List ℕ). count_by (λ x. x == e) l) (take_all (length b) b (omega arith))
