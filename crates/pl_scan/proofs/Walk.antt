-- The first field, read byte by byte with a count of the quotes so far.
use Rattle.std.proofs.Common.{◌≡◌, ℕ, ◌+◌, ◌%◌, ◌<◌, Bool, true, false, cond, not, ◌&&◌, ◌==◌, List, [], ◌∷◌, ◌++◌, map, length, take, drop, refl, sym, ◌∙◌, ap, add-zero, add_assoc, arith, inl, inr, append-nil, zero-add, get_or}
use Rattle.std.specs.Prelude.{Option, None, Some, unwrap_or, find}
use Rattle.std.proofs.lemmas.List.Sums.{sum_by-cons, sum_by_push}
use Rattle.std.proofs.lemmas.List.{drop_more, drop_all, take_more, take-append-drop}
use Rattle.std.proofs.lemmas.Bool.{cases_lt}
use Rattle.std.proofs.lemmas.Bool.Decides.{nat_tests}
use Rattle.pl_frame.specs.Dialect.{Marks}
use Rattle.pl_scan.specs.Fields.{is_quote, quotes, is_plain, is_stop, splits}

-- one for a quote
abbrev pub mark : Marks → ℕ → ℕ
mark m x = cond (is_quote m.quote x) 1 0

abbrev pub is_even : ℕ → Bool
is_even n = n % 2 == 0

-- the byte goes to the front of the first part
abbrev pub onto : ℕ → List ℕ × List ℕ → List ℕ × List ℕ
onto x cut = (x ∷ cut.0, cut.1)

-- up to the first stop at an even count of quotes, where n came before
abbrev pub walk : Marks → ℕ → List ℕ → List ℕ × List ℕ
walk m n [] = ([], [])
walk m n (x ∷ xs) = cond (is_even n && not (is_plain m x)) ([], x ∷ xs) (onto x (walk m (n + mark m x) xs))

pub quotes-cons : (m : Marks) (x : ℕ) (xs : List ℕ) → quotes m (x ∷ xs) ≡ mark m x + quotes m xs
quotes-cons m x xs = sum_by-cons (mark m) x xs

-- the test of a cut where n quotes came before
abbrev pub ends_from : Marks → ℕ → List ℕ × List ℕ → Bool
ends_from m n cut = is_even (n + quotes m cut.0) && is_stop m cut.1

pub find-same : {X : Type 0} (p q : X → Bool) → ((x : X) → p x ≡ q x) → (xs : List X) → find p xs ≡ find q xs
find-same p q same [] = refl
find-same p q same (x ∷ xs) = rw (same x) (ap (λ o. cond (q x) (Some x) o) (find-same p q same xs))

-- the first of the images, or the image of the default
pub unwrap_or-find-map : {X Y : Type 0} (g : X → Y) (p : Y → Bool) (xs : List X) (d : X) → unwrap_or (find p (map g xs)) (g d) ≡ g (unwrap_or (find (λ x. p (g x)) xs) d)
unwrap_or-find-map g p [] d = refl
unwrap_or-find-map g p (x ∷ xs) d = by_test (p (g x)) (unwrap_or-find-map g p xs d)
  where
    by_test : (t : Bool) → unwrap_or (find p (map g xs)) (g d) ≡ g (unwrap_or (find (λ x. p (g x)) xs) d)
        → unwrap_or (cond t (Some (g x)) (find p (map g xs))) (g d) ≡ g (unwrap_or (cond t (Some x) (find (λ x. p (g x)) xs)) d)
    by_test true e = refl
    by_test false e = e

pub unwrap_or-cond : {X : Type 0} (t : Bool) (x : X) → unwrap_or (cond t (Some x) None) x ≡ x
unwrap_or-cond true x = refl
unwrap_or-cond false x = refl

unwrap_or-if : {X : Type 0} (t : Bool) (x d : X) (o : Option X) → unwrap_or (cond t (Some x) o) d ≡ cond t x (unwrap_or o d)
unwrap_or-if true x d o = refl
unwrap_or-if false x d o = refl

pub walk-is : (m : Marks) (n : ℕ) (b : List ℕ) → unwrap_or (find (ends_from m n) (splits b)) (b, []) ≡ walk m n b
walk-is m n [] = unwrap_or-cond (is_even (n + 0) && true) ([], [])
walk-is m n (x ∷ xs) =
    let same : (cut : List ℕ × List ℕ) → ends_from m n (onto x cut) ≡ ends_from m (n + mark m x) cut =
    λ cut. ap (λ k. is_even (n + k) && is_stop m cut.1) (quotes-cons m x cut.0) ∙ ap (λ k. is_even k && is_stop m cut.1) (sym (add_assoc n (mark m x) (quotes m cut.0))) in
    unwrap_or-if (is_even (n + 0) && not (is_plain m x)) ([], x ∷ xs) (x ∷ xs, []) (find (ends_from m n) (map (onto x) (splits xs)))
    ∙ (rw (add-zero n) (ap (λ r. cond (is_even n && not (is_plain m x)) ([], x ∷ xs) r)
    (unwrap_or-find-map (onto x) (ends_from m n) (splits xs) (xs, [])
    ∙ ap (λ o. onto x (unwrap_or o (xs, []))) (find-same _ _ same (splits xs))
    ∙ ap (onto x) (walk-is m (n + mark m x) xs))))

-- ---- what a walk is

-- no stop stands at an even count in f, where n quotes came before
abbrev pub Runs : Marks → ℕ → List ℕ → Type 0
Runs m n [] = Unit {0}
Runs m n (x ∷ f) = ((is_even n && not (is_plain m x)) ≡ false) × Runs m (n + mark m x) f

-- a walk with this count ends before t
abbrev pub is_end : Marks → ℕ → List ℕ → Bool
is_end m n [] = true
is_end m n (x ∷ t) = is_even n && not (is_plain m x)

pub is_end-nil_count : (m : Marks) (n : ℕ) (t : List ℕ) → is_end m (n + 0) t ≡ is_end m n t
is_end-nil_count m n t = ap (λ k. is_end m k t) (add-zero n)

-- what the count is behind one more byte
pub count-cons : (m : Marks) (n x : ℕ) (f : List ℕ) → n + quotes m (x ∷ f) ≡ (n + mark m x) + quotes m f
count-cons m n x f = omega (arith, quotes-cons m x f)

-- a walk over a part without a stop goes on behind it
pub walk-append : (m : Marks) (n : ℕ) (a r : List ℕ) → Runs m n a → walk m n (a ++ r) ≡ (a ++ (walk m (n + quotes m a) r).0, (walk m (n + quotes m a) r).1)
walk-append m n [] r _ = ap (λ k. walk m k r) (sym (add-zero n))
walk-append m n (x ∷ a) r runs =
    rw runs.0 (ap (onto x) (walk-append m (n + mark m x) a r runs.1)
    ∙ ap (λ k. (x ∷ (a ++ (walk m k r).0), (walk m k r).1)) (sym (count-cons m n x a)))

walk-at_end : (m : Marks) (n : ℕ) (t : List ℕ) → is_end m n t ≡ true → walk m n t ≡ ([], t)
walk-at_end m n [] _ = refl
walk-at_end m n (x ∷ t) e = rw e refl

-- the one walk of such parts
pub walk-of : (m : Marks) (n : ℕ) (f t : List ℕ) → Runs m n f → is_end m (n + quotes m f) t ≡ true → walk m n (f ++ t) ≡ (f, t)
walk-of m n f t runs e = walk-append m n f t runs ∙ ap (λ cut. (f ++ cut.0, cut.1)) (walk-at_end m _ t e) ∙ ap (λ g. (g, t)) (append-nil f)

-- what a walk gives
pub record IsWalk (m : Marks) (n : ℕ) (b f t : List ℕ) : Type 0 where
  pub whole : f ++ t ≡ b
  pub runs : Runs m n f
  pub ended : is_end m (n + quotes m f) t ≡ true

pub IsWalk-walk : (m : Marks) (n : ℕ) (b : List ℕ) → IsWalk m n b (walk m n b).0 (walk m n b).1
IsWalk-walk m n [] = record { whole = refl; runs = tt; ended = refl }
IsWalk-walk m n (x ∷ xs) = by_test (is_even n && not (is_plain m x)) refl (IsWalk-walk m (n + mark m x) xs)
  where
    by_test : (t : Bool) → (is_even n && not (is_plain m x)) ≡ t
        → IsWalk m (n + mark m x) xs (walk m (n + mark m x) xs).0 (walk m (n + mark m x) xs).1
        → IsWalk m n (x ∷ xs) (cond t ([], x ∷ xs) (onto x (walk m (n + mark m x) xs))).0 (cond t ([], x ∷ xs) (onto x (walk m (n + mark m x) xs))).1
    by_test true e _ = record { whole = refl; runs = tt; ended = is_end-nil_count m n (x ∷ xs) ∙ e }
    by_test false e rest =
        record {
          whole = ap (λ l. x ∷ l) rest.whole;
          runs = (e, rest.runs);
          ended = rw (count-cons m n x (walk m (n + mark m x) xs).0) rest.ended;
        }

pub Runs-push : (m : Marks) (n : ℕ) (f : List ℕ) (x : ℕ) → Runs m n f → is_end m (n + quotes m f) (x ∷ []) ≡ false → Runs m n (f ++ x ∷ [])
Runs-push m n [] x _ e = (sym (is_end-nil_count m n (x ∷ [])) ∙ e, tt)
Runs-push m n (y ∷ f) x runs e = (runs.0, Runs-push m (n + mark m y) f x runs.1 (rw (← count-cons m n y f) e))

-- what a loop over a quoted field has read
pub record HasRead (m : Marks) (front : List ℕ) (even : Bool) : Type 0 where
  pub runs : Runs m 0 front
  pub parity : even ≡ is_even (quotes m front)

pub is_even-suc : (n : ℕ) → is_even (n + 1) ≡ not (is_even n)
is_even-suc n = grind (arith, nat_tests)

-- the parity behind one more byte
pub is_even-mark : (m : Marks) (n x : ℕ) → is_even (n + mark m x) ≡ cond (is_quote m.quote x) (not (is_even n)) (is_even n)
is_even-mark m n x = by_test (is_quote m.quote x)
  where
    by_test : (t : Bool) → is_even (n + cond t 1 0) ≡ cond t (not (is_even n)) (is_even n)
    by_test true = is_even-suc n
    by_test false = ap is_even (add-zero n)

pub quotes-push : (m : Marks) (f : List ℕ) (x : ℕ) → quotes m (f ++ x ∷ []) ≡ quotes m f + mark m x
quotes-push m f x = sum_by_push (mark m) f x

-- where a loop stops
pub walk-HasRead : (m : Marks) (b : List ℕ) (i : ℕ) (even : Bool) → HasRead m (take i b) even
    → (i < length b → (even ≡ true) × (is_plain m (get_or b i 0) ≡ false)) → walk m 0 b ≡ (take i b, drop i b)
walk-HasRead m b i even read stop = elim (cases_lt i (length b)) [
  | inl inside ↦
      let here = stop inside in
      let ended : is_end m (0 + quotes m (take i b)) (drop i b) ≡ true =
      rw (drop_more b i 0 inside, zero-add, ← read.parity, here.0, here.1) refl in
      ap (walk m 0) (sym (take-append-drop i b)) ∙ walk-of m 0 (take i b) (drop i b) read.runs ended
  | inr past ↦
      let ended : is_end m (0 + quotes m (take i b)) (drop i b) ≡ true = rw (drop_all i b past) refl in
      ap (walk m 0) (sym (take-append-drop i b)) ∙ walk-of m 0 (take i b) (drop i b) read.runs ended
]

-- one turn of a loop
pub HasRead-more : (m : Marks) (b : List ℕ) (i : ℕ) (even even' : Bool) → HasRead m (take i b) even → i < length b
    → (even && not (is_plain m (get_or b i 0))) ≡ false → even' ≡ cond (is_quote m.quote (get_or b i 0)) (not even) even → HasRead m (take (i + 1) b) even'
HasRead-more m b i even even' read inside on next = rw (take_more b i 0 inside) record {
  runs = Runs-push m 0 (take i b) (get_or b i 0) read.runs (rw (zero-add, ← read.parity) on);
  parity = rw (quotes-push, is_even-mark, ← read.parity) next;
}
