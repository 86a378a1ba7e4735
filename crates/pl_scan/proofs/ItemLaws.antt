-- The laws of records and items.
use Rattle.std.proofs.Common.{◌≡◌, ◌≢◌, ℕ, zero, suc, ◌+◌, ◌<◌, ◌≤◌, Bool, true, false, cond, not, ◌==◌, List, [], ◌∷◌, map, length, take, drop, refl, sym, ◌∙◌, ap, arith, inl, inr, length-append, length-drop, get_or}
use Rattle.std.specs.Prelude.{Option, None, Some, take_while, ◌⊎◌}
use Rattle.std.proofs.lemmas.List.Sums.{sum_by-cons, position_or_len_is}
use Rattle.std.proofs.lemmas.List.{drop_at, drop_more, drop_all, length-take-le, drop-drop}
use Rattle.std.proofs.lemmas.Bool.{cases_lt}
use Rattle.std.proofs.lemmas.Bool.Decides.{nat_tests}
use Rattle.pl_frame.specs.Dialect.{Marks}
use Rattle.pl_scan.specs.Comment.{is_comment}
use Rattle.pl_scan.specs.Fields.{is_stop, cut_field, cut_at, field, behind, fields, extent}
use Rattle.pl_scan.specs.Items.{items, items_behind_within, items_behind, item, ItemText, CommentText, text_of}
use Rattle.pl_scan.proofs.FieldLaws.{IsWalk-cut_field, is_stop-cut_field, behind-some, behind-shorter, fields_last, fields_more}

-- a record has a field
pub fields-some : (m : Marks) (b : List ℕ) → (f : List ℕ) × (fs : List (List ℕ)) × (fields m b ≡ f ∷ fs)
fields-some m b = by_rest (behind m.separator (cut_field m b).1) refl
  where
    by_rest : (o : Option (List ℕ)) → behind m.separator (cut_field m b).1 ≡ o → (f : List ℕ) × (fs : List (List ℕ)) × (fields m b ≡ f ∷ fs)
    by_rest None e = (field m b, [], fields_last m b e)
    by_rest (Some r) e = (field m b, fields m r, fields_more m b r e)

pub extent_last : (m : Marks) (b : List ℕ) → behind m.separator (cut_field m b).1 ≡ None → extent m b ≡ length (field m b)
extent_last m b e = rw (fields_last m b e) (omega (arith, sum_by-cons (λ (f : List ℕ). length f) (field m b) []))

pub extent_more : (m : Marks) (b r : List ℕ) → behind m.separator (cut_field m b).1 ≡ Some r → extent m b ≡ length (field m b) + 1 + extent m r
extent_more m b r e =
    let some = fields-some m r in
    rw (fields_more m b r e, some.2) (omega (arith, sum_by-cons (λ (f : List ℕ). length f) (field m b) (some.0 ∷ some.1)))

-- what a record is: it ends at the end or before a line end
pub record IsRecordAt (m : Marks) (b : List ℕ) (n : ℕ) : Type 0 where
  pub fits : n ≤ length b
  pub ended : (drop n b ≡ []) ⊎ ((rest : List ℕ) × (drop n b ≡ m.line_end ∷ rest))

behind-none : (m : Marks) (t : List ℕ) → is_stop m t ≡ true → behind m.separator t ≡ None → (t ≡ []) ⊎ ((rest : List ℕ) × (t ≡ m.line_end ∷ rest))
behind-none m [] _ _ = inl refl
behind-none m (x ∷ t) stop none = by_test (x == m.separator) refl none
  where
    by_test : (c : Bool) → (x == m.separator) ≡ c → cond c (Some t) None ≡ None → (x ∷ t ≡ []) ⊎ ((rest : List ℕ) × (x ∷ t ≡ m.line_end ∷ rest))
    by_test true same e = absurd (cc)
    by_test false other e =
        let is : x ≡ m.line_end = grind (arith, nat_tests) in
        inr (t, ap (λ y. y ∷ t) is)

record_within : (m : Marks) (n : ℕ) (b : List ℕ) → length b < n → IsRecordAt m b (extent m b)
record_within m zero b h = absurd (omega arith)
record_within m (suc n) b h = by_rest (behind m.separator (cut_field m b).1) refl (λ r l. record_within m n r l)
  where
    by_rest : (o : Option (List ℕ)) → behind m.separator (cut_field m b).1 ≡ o → ((r : List ℕ) → length r < n → IsRecordAt m r (extent m r)) → IsRecordAt m b (extent m b)
    by_rest None e _ =
        let whole = (IsWalk-cut_field m b).whole in
        let rest : drop (length (field m b)) b ≡ (cut_field m b).1 = ap (drop (length (field m b))) (sym whole) ∙ drop_at (field m b) (cut_field m b).1 (length (field m b)) refl in
        rw (extent_last m b e) record {
          fits = omega (arith, ap length whole, length-append (field m b) (cut_field m b).1);
          ended = rw rest (behind-none m (cut_field m b).1 (is_stop-cut_field m b) e);
        }
    by_rest (Some r) e deeper =
        let whole = (IsWalk-cut_field m b).whole in
        let t_is = behind-some m.separator (cut_field m b).1 r e in
        let inner = deeper r (let short = behind-shorter m b r e in omega arith) in
        let rest : drop (length (field m b) + 1 + extent m r) b ≡ drop (extent m r) r =
        sym (drop-drop (extent m r) (length (field m b) + 1) b)
        ∙ ap (drop (extent m r)) (sym (drop-drop 1 (length (field m b)) b)
        ∙ ap (drop 1) (ap (drop (length (field m b))) (sym whole) ∙ drop_at (field m b) (cut_field m b).1 (length (field m b)) refl ∙ t_is)) in
        rw (extent_more m b r e) record {
          fits = omega (arith, ap length whole, ap length t_is, length-append (field m b) (cut_field m b).1, inner.fits);
          ended = rw rest inner.ended;
        }

pub IsRecordAt-extent : (m : Marks) (b : List ℕ) → IsRecordAt m b (extent m b)
IsRecordAt-extent m b = record_within m (length b + 1) b (omega arith)

-- ---- items

behind-enough : (m : Marks) (comment : Option (List ℕ)) (n k : ℕ) (b : List ℕ) → length b ≤ n → length b ≤ k → items_behind_within m comment n b ≡ items_behind_within m comment k b
behind-enough m comment zero zero b h i = refl
behind-enough m comment zero (suc k) [] h i = refl
behind-enough m comment zero (suc k) (x ∷ xs) h i = absurd (omega arith)
behind-enough m comment (suc n) zero [] h i = refl
behind-enough m comment (suc n) zero (x ∷ xs) h i = absurd (omega arith)
behind-enough m comment (suc n) (suc k) [] h i = refl
behind-enough m comment (suc n) (suc k) (x ∷ xs) h i =
    let first = item m comment (x ∷ xs) in
    let size = length (text_of first) in
    ap (λ l. (first, drop size (x ∷ xs)) ∷ l)
    (behind-enough m comment n k (drop (size + 1) (x ∷ xs)) (omega (arith, length-drop (size + 1) (x ∷ xs))) (omega (arith, length-drop (size + 1) (x ∷ xs))))

pub items_behind-nil : (m : Marks) (comment : Option (List ℕ)) → items_behind m comment [] ≡ []
unfolding items_behind
items_behind-nil m comment = refl

-- the first item with what stands behind it, and those of what is left
pub items_behind-step : (m : Marks) (comment : Option (List ℕ)) (b : List ℕ) → 0 < length b
    → items_behind m comment b ≡ (item m comment b, drop (length (text_of (item m comment b))) b) ∷ items_behind m comment (drop (length (text_of (item m comment b)) + 1) b)
unfolding items_behind
items_behind-step m comment [] h = absurd (omega arith)
items_behind-step m comment (x ∷ xs) h =
    let first = item m comment (x ∷ xs) in
    let size = length (text_of first) in
    let rest = drop (size + 1) (x ∷ xs) in
    ap (λ l. (first, drop size (x ∷ xs)) ∷ l) (behind-enough m comment (length xs) (length rest) rest (omega (arith, length-drop (size + 1) (x ∷ xs))) (omega arith))

pub items-nil : (m : Marks) (comment : Option (List ℕ)) → items m comment [] ≡ []
items-nil m comment = ap (map (λ (part : ItemText × List ℕ). part.0)) (items_behind-nil m comment)

-- the first item, and the items of what is left
pub items-step : (m : Marks) (comment : Option (List ℕ)) (b : List ℕ) → 0 < length b
    → items m comment b ≡ item m comment b ∷ items m comment (drop (length (text_of (item m comment b)) + 1) b)
items-step m comment b some = ap (map (λ (part : ItemText × List ℕ). part.0)) (items_behind-step m comment b some)

-- ---- the steps of loops

behind-here : (s : ℕ) (b : List ℕ) (n : ℕ) → n < length b → get_or b n 0 ≡ s → behind s (drop n b) ≡ Some (drop (n + 1) b)
behind-here s b n inside is = rw (drop_more b n 0 inside, is) (by_test (s == s) (grind (arith, nat_tests)))
  where
    by_test : (c : Bool) → c ≡ true → cond c (Some (drop (n + 1) b)) None ≡ Some (drop (n + 1) b)
    by_test c e = rw e refl

behind-not : (s : ℕ) (b : List ℕ) (n : ℕ) → (n < length b → get_or b n 0 ≢ s) → behind s (drop n b) ≡ None
behind-not s b n other = elim (cases_lt n (length b)) [
  | inl inside ↦ let differs = other inside in rw (drop_more b n 0 inside) (by_test (get_or b n 0 == s) (grind (arith, nat_tests)))
  | inr past ↦ rw (drop_all n b past) refl
]
  where
    by_test : (c : Bool) → c ≡ false → cond c (Some (drop (n + 1) b)) None ≡ None
    by_test c e = rw e refl

-- one more field of n bytes, with a separator behind it
pub extent-at_more : (m : Marks) (b : List ℕ) (i n : ℕ) → cut_field m (drop i b) ≡ cut_at n (drop i b) → i + n < length b → get_or b (i + n) 0 ≡ m.separator
    → extent m (drop i b) ≡ n + 1 + extent m (drop (i + n + 1) b)
extent-at_more m b i n cut inside is =
    let rest : behind m.separator (cut_field m (drop i b)).1 ≡ Some (drop (i + n + 1) b) = rw (cut, drop-drop) (behind-here m.separator b (i + n) inside is) in
    let len : length (field m (drop i b)) ≡ n = ap (λ (c : List ℕ × List ℕ). length c.0) cut ∙ length-take-le n (drop i b) (omega (arith, length-drop i b)) in
    extent_more m (drop i b) (drop (i + n + 1) b) rest ∙ ap (λ k. k + 1 + extent m (drop (i + n + 1) b)) len

-- the last field
pub extent-at_last : (m : Marks) (b : List ℕ) (i n : ℕ) → cut_field m (drop i b) ≡ cut_at n (drop i b) → n ≤ length (drop i b) → (i + n < length b → get_or b (i + n) 0 ≢ m.separator)
    → extent m (drop i b) ≡ n
extent-at_last m b i n cut fits other =
    let rest : behind m.separator (cut_field m (drop i b)).1 ≡ None = rw (cut, drop-drop) (behind-not m.separator b (i + n) other) in
    extent_last m (drop i b) rest ∙ ap (λ (c : List ℕ × List ℕ). length c.0) cut ∙ length-take-le n (drop i b) fits

-- a comment ends before the first line end
pub comment-len : (e : ℕ) (b : List ℕ) (n : ℕ) → n ≤ length b → ((k : ℕ) → k < n → get_or b k 0 == e ≡ false) → (n < length b → get_or b n 0 == e ≡ true)
    → take_while (λ x. not (x == e)) b ≡ take n b
comment-len e b n fits before at = ap (λ k. take k b) (position_or_len_is (λ (x : ℕ). x == e) b n 0 fits before at)

pub item-comment : (m : Marks) (comment : Option (List ℕ)) (b : List ℕ) (n : ℕ) → is_comment comment b ≡ true → take_while (λ x. not (x == m.line_end)) b ≡ take n b
    → CommentText (take n b) ≡ item m comment b
item-comment m comment b n is len = rw (is, len) refl

-- one step of an iterator over the items
pub items-at : (m : Marks) (comment : Option (List ℕ)) (b : List ℕ) (first : ItemText) (n : ℕ) (rest : List ℕ) → 0 < length b → first ≡ item m comment b → n ≡ length (text_of first)
    → rest ≡ drop (n + 1) b → items m comment b ≡ first ∷ items m comment rest
items-at m comment b first n rest some is len left =
    items-step m comment b some ∙ ap (λ (f : ItemText). f ∷ items m comment (drop (length (text_of f) + 1) b)) (sym is)
    ∙ ap (λ (l : List ℕ). first ∷ items m comment l) (sym (left ∙ ap (λ k. drop (k + 1) b) len))

-- ---- how many there are

few_fields : (m : Marks) (n : ℕ) (b : List ℕ) → length b < n → length (fields m b) ≤ length b + 1
few_fields m zero b h = absurd (omega arith)
few_fields m (suc n) b h = by_rest (behind m.separator (cut_field m b).1) refl (λ r l. few_fields m n r l)
  where
    by_rest : (o : Option (List ℕ)) → behind m.separator (cut_field m b).1 ≡ o → ((r : List ℕ) → length r < n → length (fields m r) ≤ length r + 1) → length (fields m b) ≤ length b + 1
    by_rest None e _ = rw (fields_last m b e) (omega arith)
    by_rest (Some r) e deeper = let shorter = behind-shorter m b r e in rw (fields_more m b r e) (omega (arith, deeper r (omega arith)))

pub length-fields : (m : Marks) (b : List ℕ) → length (fields m b) ≤ length b + 1
length-fields m b = few_fields m (length b + 1) b (omega arith)

few_items : (m : Marks) (comment : Option (List ℕ)) (n : ℕ) (b : List ℕ) → length b < n → length (items m comment b) ≤ length b
few_items m comment zero b h = absurd (omega arith)
few_items m comment (suc n) [] h = rw (items-nil m comment) (omega arith)
few_items m comment (suc n) (x ∷ xs) h =
    let k = length (text_of (item m comment (x ∷ xs))) in
    rw (items-step m comment (x ∷ xs) (omega arith)) (omega (arith, length-drop (k + 1) (x ∷ xs), few_items m comment n (drop (k + 1) (x ∷ xs)) (omega (arith, length-drop (k + 1) (x ∷ xs)))))

pub length-items : (m : Marks) (comment : Option (List ℕ)) (b : List ℕ) → length (items m comment b) ≤ length b
length-items m comment b = few_items m comment (length b + 1) b (omega arith)
