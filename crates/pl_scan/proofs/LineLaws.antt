-- The laws of lines.
use Rattle.std.proofs.Common.{◌≡◌, ℕ, zero, suc, ◌+◌, ◌<◌, ◌≤◌, Bool, true, false, cond, not, ◌&&◌, ◌==◌, List, [], ◌∷◌, map, length, take, drop, get_or, refl, sym, ◌∙◌, ap, arith, zero-add, one-add, length-drop}
use Rattle.std.specs.Prelude.{Option, Some, unwrap_or, find, count_by, take_while}
use Rattle.std.proofs.lemmas.List.{drop_more, drop_all}
use Rattle.std.proofs.lemmas.List.Sums.{sum_by-cons}
use Rattle.std.proofs.lemmas.Bool.Decides.{nat_tests}
use Rattle.pl_scan.specs.Comment.{is_comment}
use Rattle.pl_scan.specs.Fields.{is_quote, splits}
use Rattle.pl_scan.specs.LineEnds.{begins_end, is_even_cut}
use Rattle.pl_scan.specs.Lines.{line, lines, lines_within}
use Rattle.pl_scan.proofs.Walk.{is_even, onto, find-same, unwrap_or-find-map}

-- the number of bytes up to a line end behind an even number of quotes, where `even` tells of those that came before
abbrev pub len_from : Option ℕ → ℕ → Bool → List ℕ → ℕ
len_from quote e even [] = 0
len_from quote e even (x ∷ xs) = cond (even && begins_end quote e (x ∷ xs)) 0 (1 + len_from quote e (cond (is_quote quote x) (not even) even) xs)

-- the number is even together with what came before
abbrev agrees : Bool → ℕ → Bool
agrees even n = cond even (is_even n) (not (is_even n))

-- the test of a cut behind what came before
abbrev ends_from : Option ℕ → ℕ → Bool → List ℕ × List ℕ → Bool
ends_from quote e even cut = begins_end quote e cut.1 && agrees even (count_by (is_quote quote) cut.0)

is_even-one : (n : ℕ) → is_even (1 + n) ≡ not (is_even n)
is_even-one n = grind (arith, nat_tests)

not-not : (t : Bool) → not (not t) ≡ t
not-not true = refl
not-not false = refl

agrees-cons : (quote : Option ℕ) (even : Bool) (x : ℕ) (f : List ℕ)
    → agrees even (count_by (is_quote quote) (x ∷ f)) ≡ agrees (cond (is_quote quote x) (not even) even) (count_by (is_quote quote) f)
agrees-cons quote even x f = ap (agrees even) (sum_by-cons (λ y. cond (is_quote quote y) 1 0) x f) ∙ by_test (is_quote quote x) even
  where
    by_test : (q even : Bool) → agrees even (cond q 1 0 + count_by (is_quote quote) f) ≡ agrees (cond q (not even) even) (count_by (is_quote quote) f)
    by_test true true = is_even-one (count_by (is_quote quote) f)
    by_test true false = ap not (is_even-one (count_by (is_quote quote) f)) ∙ not-not (is_even (count_by (is_quote quote) f))
    by_test false true = ap is_even (zero-add (count_by (is_quote quote) f))
    by_test false false = ap (λ n. not (is_even n)) (zero-add (count_by (is_quote quote) f))

agrees-none : (even t : Bool) → (t && agrees even 0) ≡ (even && t)
agrees-none true true = refl
agrees-none true false = refl
agrees-none false true = refl
agrees-none false false = refl

unwrap_or-if : {X : Type 0} (t : Bool) (x d : X) (o : Option X) → unwrap_or (cond t (Some x) o) d ≡ cond t x (unwrap_or o d)
unwrap_or-if true x d o = refl
unwrap_or-if false x d o = refl

take-if : (t : Bool) (n : ℕ) (x : ℕ) (xs : List ℕ) → cond t [] (x ∷ take n xs) ≡ take (cond t 0 (1 + n)) (x ∷ xs)
take-if true n x xs = refl
take-if false n x xs = rw one-add refl

first-if : (t : Bool) (p q : List ℕ × List ℕ) → (cond t p q).0 ≡ cond t p.0 q.0
first-if true p q = refl
first-if false p q = refl

-- the shortest prefix that ends so, or all
shortest-is : (quote : Option ℕ) (e : ℕ) (even : Bool) (b : List ℕ) → (unwrap_or (find (ends_from quote e even) (splits b)) (b, [])).0 ≡ take (len_from quote e even b) b
shortest-is quote e even [] = refl
shortest-is quote e even (x ∷ xs) =
    let next = cond (is_quote quote x) (not even) even in
    let here = even && begins_end quote e (x ∷ xs) in
    let same : (cut : List ℕ × List ℕ) → ends_from quote e even (onto x cut) ≡ ends_from quote e next cut =
    λ cut. ap (λ t. begins_end quote e cut.1 && t) (agrees-cons quote even x cut.0) in
    let rest = find (ends_from quote e even) (map (onto x) (splits xs)) in
    let deeper : unwrap_or rest (x ∷ xs, []) ≡ onto x (unwrap_or (find (ends_from quote e next) (splits xs)) (xs, [])) =
    unwrap_or-find-map (onto x) (ends_from quote e even) (splits xs) (xs, []) ∙ ap (λ o. onto x (unwrap_or o (xs, []))) (find-same _ _ same (splits xs)) in
    ap (λ t. (unwrap_or (cond t (Some ([], x ∷ xs)) rest) (x ∷ xs, [])).0) (agrees-none even (begins_end quote e (x ∷ xs)))
    ∙ ap (λ (cut : List ℕ × List ℕ). cut.0) (unwrap_or-if here ([], x ∷ xs) (x ∷ xs, []) rest)
    ∙ ap (λ (cut : List ℕ × List ℕ). (cond here ([], x ∷ xs) cut).0) deeper
    ∙ first-if here ([], x ∷ xs) (onto x (unwrap_or (find (ends_from quote e next) (splits xs)) (xs, [])))
    ∙ ap (λ (l : List ℕ). cond here [] (x ∷ l)) (shortest-is quote e next xs)
    ∙ take-if here (len_from quote e next xs) x xs

-- a line that is no comment
pub line-len : (quote : Option ℕ) (e : ℕ) (b : List ℕ) → (unwrap_or (find (is_even_cut quote e) (splits b)) (b, [])).0 ≡ take (len_from quote e true b) b
line-len quote e b = shortest-is quote e true b

pub len_from-stop : (quote : Option ℕ) (e : ℕ) (even : Bool) (b : List ℕ) (i : ℕ) → i < length b → (even && begins_end quote e (get_or b i 0 ∷ [])) ≡ true
    → len_from quote e even (drop i b) ≡ 0
len_from-stop quote e even b i inside stop = rw (drop_more b i 0 inside, stop) refl

pub len_from-end : (quote : Option ℕ) (e : ℕ) (even : Bool) (b : List ℕ) (i : ℕ) → length b ≤ i → len_from quote e even (drop i b) ≡ 0
len_from-end quote e even b i past = rw (drop_all i b past) refl

-- a comment is a line of its own
pub line-comment : (quote : Option ℕ) (e : ℕ) (comment : Option (List ℕ)) (b : List ℕ) (n : ℕ) → is_comment comment b ≡ true → take_while (λ x. not (x == e)) b ≡ take n b
    → take n b ≡ line quote e comment b
line-comment quote e comment b n is len = sym (rw is len)

-- ---- the lines one after another

lines-enough : (quote : Option ℕ) (e : ℕ) (comment : Option (List ℕ)) (n k : ℕ) (b : List ℕ) → length b ≤ n → length b ≤ k
    → lines_within quote e comment n b ≡ lines_within quote e comment k b
lines-enough quote e comment zero zero b _ _ = refl
lines-enough quote e comment zero (suc k) [] _ _ = refl
lines-enough quote e comment zero (suc k) (x ∷ xs) h _ = absurd (omega arith)
lines-enough quote e comment (suc n) zero [] _ _ = refl
lines-enough quote e comment (suc n) zero (x ∷ xs) _ h = absurd (omega arith)
lines-enough quote e comment (suc n) (suc k) [] _ _ = refl
lines-enough quote e comment (suc n) (suc k) (x ∷ xs) h i =
    let first = line quote e comment (x ∷ xs) in
    let rest = drop (length first + 1) (x ∷ xs) in
    ap (λ l. first ∷ l) (lines-enough quote e comment n k rest (omega (arith, length-drop (length first + 1) (x ∷ xs))) (omega (arith, length-drop (length first + 1) (x ∷ xs))))

pub lines-nil : (quote : Option ℕ) (e : ℕ) (comment : Option (List ℕ)) → lines quote e comment [] ≡ []
unfolding lines
lines-nil quote e comment = refl

-- the first line, and the lines of what is left
pub lines-step : (quote : Option ℕ) (e : ℕ) (comment : Option (List ℕ)) (b : List ℕ) → 0 < length b
    → lines quote e comment b ≡ line quote e comment b ∷ lines quote e comment (drop (length (line quote e comment b) + 1) b)
unfolding lines
lines-step quote e comment [] h = absurd (omega arith)
lines-step quote e comment (x ∷ xs) h =
    let first = line quote e comment (x ∷ xs) in
    let rest = drop (length first + 1) (x ∷ xs) in
    ap (λ l. first ∷ l) (lines-enough quote e comment (length xs) (length rest) rest (omega (arith, length-drop (length first + 1) (x ∷ xs))) (omega arith))

-- one step of an iterator over the lines
pub lines-at : (quote : Option ℕ) (e : ℕ) (comment : Option (List ℕ)) (b first : List ℕ) (n : ℕ) (rest : List ℕ) → 0 < length b → first ≡ line quote e comment b
    → n ≡ length first → rest ≡ drop (n + 1) b → lines quote e comment b ≡ first ∷ lines quote e comment rest
lines-at quote e comment b first n rest some is len left =
    lines-step quote e comment b some ∙ ap (λ (f : List ℕ). f ∷ lines quote e comment (drop (length f + 1) b)) (sym is)
    ∙ ap (λ (l : List ℕ). first ∷ lines quote e comment l) (sym (left ∙ ap (λ k. drop (k + 1) b) len))

few_lines : (quote : Option ℕ) (e : ℕ) (comment : Option (List ℕ)) (n : ℕ) (b : List ℕ) → length b < n → length (lines quote e comment b) ≤ length b
few_lines quote e comment zero b h = absurd (omega arith)
few_lines quote e comment (suc n) [] h = rw (lines-nil quote e comment) (omega arith)
few_lines quote e comment (suc n) (x ∷ xs) h =
    let k = length (line quote e comment (x ∷ xs)) in
    rw (lines-step quote e comment (x ∷ xs) (omega arith)) (omega (arith, length-drop (k + 1) (x ∷ xs), few_lines quote e comment n (drop (k + 1) (x ∷ xs)) (omega (arith, length-drop (k + 1) (x ∷ xs)))))

pub length-lines : (quote : Option ℕ) (e : ℕ) (comment : Option (List ℕ)) (b : List ℕ) → length (lines quote e comment b) ≤ length b
length-lines quote e comment b = few_lines quote e comment (length b + 1) b (omega arith)
