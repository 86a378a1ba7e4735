-- A text that is cut where a record begins: what stands in front of that record, and behind.
use Rattle.std.proofs.Common.{◌≡◌, ℕ, zero, suc, ◌+◌, ◌-◌, ◌<◌, ◌≤◌, ◌==◌, ◌&&◌, ◌++◌, ◌⊎◌, Bool, true, false, cond, not, List, [], ◌∷◌, length, take, drop, Option, None, Some, refl, sym, ap, ◌∙◌, arith, inl, inr, zero-add, one-add, nat_eq, length-drop}
use Rattle.std.specs.Prelude.{sum_by}
use Rattle.std.specs.List.{prefix_len, starts_with, list_all}
use Rattle.std.proofs.lemmas.Bool.Decides.{nat_tests}
use Rattle.std.proofs.lemmas.List.{length-append, length-take-le}
use Rattle.std.proofs.lemmas.List.Sums.{prefix_len-le-length}
use Rattle.std.proofs.lemmas.List.Folds.{length-prefix_len}
use Rattle.pl_frame.specs.Dialect.{Marks, IsCommentPrefix}
use Rattle.pl_scan.specs.Comment.{is_comment}
use Rattle.pl_scan.specs.Fields.{quotes, begins_quoted, cut_field, field, behind, fields, extent}
use Rattle.pl_scan.specs.Items.{text_of, item}
use Rattle.pl_scan.proofs.Walk.{is_end}
use Rattle.pl_scan.proofs.FieldLaws.{mode, IsWalk-cut_field, behind-some, behind-shorter, fields_last, fields_more, both_left, both_right}
use Rattle.pl_scan.proofs.ItemLaws.{extent_last, extent_more, IsRecordAt-extent}
use Rattle.pl_scan.proofs.RecordLaws.{cut_field-before}
use Rattle.pl_table.specs.Rows.{row_at}
use Rattle.pl_seek.proofs.PlaceLaws.{item_by}

-- ---- a record that ends before the cut

take-plus : (f : List ℕ) (s : ℕ) (r : List ℕ) (k : ℕ) → take (length f + 1 + k) (f ++ s ∷ r) ≡ f ++ s ∷ take k r
take-plus [] s r k = rw (zero-add, one-add) refl
take-plus (x ∷ f) s r k = rw more (ap (λ (l : List ℕ). x ∷ l) (take-plus f s r k))
  where
    more : suc (length f) + 1 + k ≡ suc (length f + 1 + k)
    more = omega arith

begins-front : (q : Option ℕ) (f : List ℕ) (x : ℕ) (t r : List ℕ) → begins_quoted q (f ++ x ∷ t) ≡ begins_quoted q (f ++ x ∷ r)
begins-front q [] x t r = refl
begins-front q (y ∷ f) x t r = refl

behind-same : (s x : ℕ) (t r : List ℕ) → behind s (x ∷ t) ≡ None → behind s (x ∷ r) ≡ None
behind-same s x t r none = by (x == s) none
  where
    by : (c : Bool) → cond c (Some t) None ≡ None → cond c (Some r) None ≡ None
    by true none = cc
    by false none = refl

cut_within : (m : Marks) (k : ℕ) (b : List ℕ) (n : ℕ) → length b < k → extent m b < n → n ≤ length b → fields m (take n b) ≡ fields m b
cut_within m zero b n short inside fits = absurd (omega arith)
cut_within m (suc k) b n short inside fits = by_rest (behind m.separator (cut_field m b).1) refl (λ r less. cut_within m k r (n - (length (field m b) + 1)) less)
  where
    left : ℕ
    left = n - (length (field m b) + 1)

    size : length (field m b) + length (cut_field m b).1 ≡ length b
    size = sym (length-append (cut_field m b).0 (cut_field m b).1) ∙ ap length (IsWalk-cut_field m b).whole

    -- the first field, with a byte behind it
    text : (x : ℕ) (t : List ℕ) → (cut_field m b).1 ≡ x ∷ t → length (field m b) < n → take n b ≡ field m b ++ x ∷ take left t
    text x t is more =
        let whole : field m b ++ x ∷ t ≡ b = ap (λ (l : List ℕ). field m b ++ l) (sym is) ∙ (IsWalk-cut_field m b).whole in
        let all : n ≡ length (field m b) + 1 + left = omega (arith, more) in
        ap (take n) (sym whole) ∙ ap (λ j. take j (field m b ++ x ∷ t)) all ∙ take-plus (field m b) x t left

    cut : (x : ℕ) (t : List ℕ) → (cut_field m b).1 ≡ x ∷ t → cut_field m (field m b ++ x ∷ take left t) ≡ (field m b, x ∷ take left t)
    cut x t is =
        let w = IsWalk-cut_field m b in
        let whole : field m b ++ x ∷ t ≡ b = ap (λ (l : List ℕ). field m b ++ l) (sym is) ∙ w.whole in
        let ended : is_end (mode m b) (0 + quotes (mode m b) (field m b)) (x ∷ t) ≡ true = ap (is_end (mode m b) (0 + quotes (mode m b) (field m b))) (sym is) ∙ w.ended in
        cut_field-before m b (x ∷ take left t) ended (begins-front m.quote (field m b) x (take left t) t ∙ ap (begins_quoted m.quote) whole)

    by_left : (t : List ℕ) → (cut_field m b).1 ≡ t → behind m.separator (cut_field m b).1 ≡ None → fields m (take n b) ≡ fields m b
    by_left [] is none = absurd (omega (arith, extent_last m b none, size, ap length is, inside, fits))
    by_left (x ∷ t) is none =
        let cut_is = cut x t is in
        let last : behind m.separator (cut_field m (field m b ++ x ∷ take left t)).1 ≡ None =
        ap (λ (c : List ℕ × List ℕ). behind m.separator c.1) cut_is ∙ behind-same m.separator x t (take left t) (ap (behind m.separator) (sym is) ∙ none) in
        ap (fields m) (text x t is (omega (arith, extent_last m b none, inside))) ∙ fields_last m (field m b ++ x ∷ take left t) last ∙ ap (λ (c : List ℕ × List ℕ). c.0 ∷ []) cut_is ∙ sym (fields_last m b none)

    by_rest : (o : Option (List ℕ)) → behind m.separator (cut_field m b).1 ≡ o → ((r : List ℕ) → length r < k → extent m r < left → left ≤ length r → fields m (take left r) ≡ fields m r)
        → fields m (take n b) ≡ fields m b
    by_rest None e deeper = by_left (cut_field m b).1 refl e
    by_rest (Some r) e deeper =
        let is = behind-some m.separator (cut_field m b).1 r e in
        let cut_is = cut m.separator r is in
        let same : (m.separator == m.separator) ≡ true = grind (arith, nat_tests) in
        let more : behind m.separator (cut_field m (field m b ++ m.separator ∷ take left r)).1 ≡ Some (take left r) =
        ap (λ (c : List ℕ × List ℕ). behind m.separator c.1) cut_is ∙ ap (λ t. cond t (Some (take left r)) None) same in
        let all = extent_more m b r e in
        let rest = ap length is in
        ap (fields m) (text m.separator r is (omega (arith, all, inside)))
        ∙ fields_more m (field m b ++ m.separator ∷ take left r) (take left r) more ∙ ap (λ (c : List ℕ × List ℕ). c.0 ∷ fields m (take left r)) cut_is
        ∙ ap (λ (l : List (List ℕ)). field m b ∷ l) (deeper r (let shorter = behind-shorter m b r e in omega (arith, shorter, short)) (omega (arith, all, inside)) (omega (arith, size, rest, fits)))
        ∙ sym (fields_more m b r e)

module _ (m : Marks) (b : List ℕ) (n : ℕ) (inside : extent m b < n) (fits : n ≤ length b) where
  fields-cut : fields m (take n b) ≡ fields m b
  fields-cut = cut_within m (length b + 1) b n (omega arith) inside fits

  extent-cut : extent m (take n b) ≡ extent m b
  extent-cut = ap (λ (fs : List (List ℕ)). sum_by (λ (f : List ℕ). length f) fs + (length fs - 1)) fields-cut

  pub row-cut : row_at m (take n b) ≡ row_at m b
  row-cut =
      let long : (length (drop (extent m (take n b)) (take n b)) == 0) ≡ false = filled (length (drop (extent m (take n b)) (take n b))) (omega (arith, length-drop (extent m (take n b)) (take n b), length-take-le n b fits, extent-cut, inside)) in
      let all : (length (drop (extent m b) b) == 0) ≡ false = filled (length (drop (extent m b) b)) (omega (arith, length-drop (extent m b) b, inside, fits)) in
      (λ i. record { fields = fields-cut i; is_end = (long ∙ sym all) i })
    where
      filled : (l : ℕ) → 0 < l → (l == 0) ≡ false
      filled l some = grind (arith, nat_tests)

-- ---- the line at the front

at-line : (e k : ℕ) (b rest : List ℕ) → drop k b ≡ e ∷ rest → prefix_len (λ x. not (x == e)) b ≤ k
at-line e zero [] rest is = absurd cc
at-line e zero (x ∷ xs) rest is =
    let same : x ≡ e = cc in
    let test : not (x == e) ≡ false = grind (arith, nat_tests) in
    rw test (omega arith)
at-line e (suc k) [] rest is = absurd cc
at-line e (suc k) (x ∷ xs) rest is = by (not (x == e)) (at-line e k xs rest is)
  where
    by : (t : Bool) → prefix_len (λ y. not (y == e)) xs ≤ k → cond t (1 + prefix_len (λ y. not (y == e)) xs) 0 ≤ suc k
    by true later = omega (arith, later)
    by false later = omega arith

line-cut : (p : ℕ → Bool) (b : List ℕ) (n : ℕ) → prefix_len p b < n → prefix_len p (take n b) ≡ prefix_len p b
line-cut p [] zero inside = refl
line-cut p [] (suc n) inside = refl
line-cut p (x ∷ xs) zero inside = absurd (omega arith)
line-cut p (x ∷ xs) (suc n) inside = by (p x) (line-cut p xs n) inside
  where
    by : (t : Bool) → (prefix_len p xs < n → prefix_len p (take n xs) ≡ prefix_len p xs) → cond t (1 + prefix_len p xs) 0 < suc n → cond t (1 + prefix_len p (take n xs)) 0 ≡ cond t (1 + prefix_len p xs) 0
    by true later inside = ap (λ k. 1 + k) (later (omega (arith, inside)))
    by false later inside = refl

starts-cut : (e : ℕ) (needle b : List ℕ) (n : ℕ) → list_all (λ x. not (x == e)) needle ≡ true → prefix_len (λ x. not (x == e)) b < n → starts_with nat_eq (take n b) needle ≡ starts_with nat_eq b needle
starts-cut e [] b n free inside = refl
starts-cut e (y ∷ ys) [] zero free inside = refl
starts-cut e (y ∷ ys) [] (suc n) free inside = refl
starts-cut e (y ∷ ys) (x ∷ xs) zero free inside = absurd (omega arith)
starts-cut e (y ∷ ys) (x ∷ xs) (suc n) free inside = by (x == e) refl inside (starts-cut e ys xs n (both_right (not (y == e)) (list_all (λ z. not (z == e)) ys) free))
  where
    by : (t : Bool) → (x == e) ≡ t → cond (not (x == e)) (1 + prefix_len (λ z. not (z == e)) xs) 0 < suc n
        → (prefix_len (λ z. not (z == e)) xs < n → starts_with nat_eq (take n xs) ys ≡ starts_with nat_eq xs ys)
        → (nat_eq y x && starts_with nat_eq (take n xs) ys) ≡ (nat_eq y x && starts_with nat_eq xs ys)
    by true is inside later =
        let differs : not (y == e) ≡ true = both_left (not (y == e)) (list_all (λ z. not (z == e)) ys) free in
        let test : nat_eq y x ≡ false = grind (arith, nat_tests) in
        rw test refl
    by false is inside later =
        let step : cond (not (x == e)) (1 + prefix_len (λ z. not (z == e)) xs) 0 ≡ 1 + prefix_len (λ z. not (z == e)) xs = ap (λ t. cond (not t) (1 + prefix_len (λ z. not (z == e)) xs) 0) is in
        ap (λ t. nat_eq y x && t) (later (omega (arith, step, inside)))

comment-cut : (e : ℕ) (comment : Option (List ℕ)) (b : List ℕ) (n : ℕ) → IsCommentPrefix e comment → prefix_len (λ x. not (x == e)) b < n → is_comment comment (take n b) ≡ is_comment comment b
comment-cut e None b n free inside = refl
comment-cut e (Some prefix) b n free inside = starts-cut e prefix b n free.1 inside

-- ---- an item that ends before the cut

module _ (m : Marks) (comment : Option (List ℕ)) (b : List ℕ) where
  abbrev text_by : Bool → List ℕ → ℕ
  text_by t text = length (text_of (item_by t m text))

  line-within : prefix_len (λ x. not (x == m.line_end)) b ≤ length (text_of (item m comment b))
  line-within = by (is_comment comment b)
    where
      record-line : (drop (extent m b) b ≡ []) ⊎ ((rest : List ℕ) × (drop (extent m b) b ≡ m.line_end ∷ rest)) → prefix_len (λ x. not (x == m.line_end)) b ≤ extent m b
      record-line (inl none) = omega (arith, ap length none, length-drop (extent m b) b, prefix_len-le-length (λ x. not (x == m.line_end)) b)
      record-line (inr some) = at-line m.line_end (extent m b) b some.0 some.1

      by : (t : Bool) → prefix_len (λ x. not (x == m.line_end)) b ≤ text_by t b
      by true = omega (arith, length-prefix_len (λ x. not (x == m.line_end)) b)
      by false = omega (arith, length-take-le (extent m b) b (IsRecordAt-extent m b).fits, record-line (IsRecordAt-extent m b).ended)

  pub record-text : is_comment comment b ≡ false → extent m b ≡ length (text_of (item m comment b))
  record-text plain = sym (ap (λ t. text_by t b) plain ∙ length-take-le (extent m b) b (IsRecordAt-extent m b).fits)

  module _ (n : ℕ) (free : IsCommentPrefix m.line_end comment) (inside : length (text_of (item m comment b)) < n) (fits : n ≤ length b) where
    pub is-cut : is_comment comment (take n b) ≡ is_comment comment b
    is-cut = comment-cut m.line_end comment b n free (omega (arith, line-within, inside))

    pub text-cut : length (text_of (item m comment (take n b))) ≡ length (text_of (item m comment b))
    text-cut = ap (λ t. text_by t (take n b)) is-cut ∙ by (is_comment comment b) inside
      where
        by : (t : Bool) → text_by t b < n → text_by t (take n b) ≡ text_by t b
        by true inside =
            let p : ℕ → Bool = λ x. not (x == m.line_end) in
            length-prefix_len p (take n b) ∙ line-cut p b n (omega (arith, length-prefix_len p b, inside)) ∙ sym (length-prefix_len p b)
        by false inside =
            let size = length-take-le (extent m b) b (IsRecordAt-extent m b).fits in
            length-take-le (extent m (take n b)) (take n b) (IsRecordAt-extent m (take n b)).fits ∙ extent-cut m b n (omega (arith, size, inside)) fits ∙ sym size
