-- The laws of the first field and of the fields of a record.
use Rattle.std.proofs.Common.{◌≡◌, ℕ, zero, suc, ◌+◌, ◌<◌, Bool, true, false, cond, not, ◌&&◌, ◌||◌, ◌==◌, List, [], ◌∷◌, ◌++◌, length, take, drop, refl, sym, ◌∙◌, ap, subst, zero-add, arith, length-append, one-add, add-one}
use Rattle.std.specs.Prelude.{Option, None, Some, unwrap_or, IfSome, ◌≢◌}
use Rattle.std.specs.List.{prefix_len}
use Rattle.std.proofs.lemmas.Grind.{common_steps}
use Rattle.std.proofs.lemmas.Bool.{not-true}
use Rattle.std.proofs.lemmas.Bool.Decides.{nat_tests}
use Rattle.pl_frame.specs.Dialect.{Marks, AreDistinct}
use Rattle.pl_scan.specs.Fields.{is_quote, quotes, is_plain, is_stop, begins_quoted, splits, ends_quoted, cut_quoted, cut_plain, cut_field, cut_at, field, behind, fields_within, fields, marked_fields, fields_left}
use Rattle.pl_scan.proofs.Walk.{is_even, onto, walk, ends_from, find-same, walk-is, is_end, IsWalk, IsWalk-walk}

-- the marks that count in a list: the quote counts only where the list begins with it
abbrev pub mode : Marks → List ℕ → Marks
mode m b = record { separator = m.separator; quote = cond (begins_quoted m.quote b) m.quote None; line_end = m.line_end }

abbrev pub unquoted : Marks → Marks
unquoted m = record { separator = m.separator; quote = None; line_end = m.line_end }

plain-walk : (m : Marks) (b : List ℕ) → walk (unquoted m) 0 b ≡ (take (prefix_len (is_plain m) b) b, drop (prefix_len (is_plain m) b) b)
plain-walk m [] = refl
plain-walk m (x ∷ xs) = by_test (is_plain m x) (plain-walk m xs)
  where
    by_test : (t : Bool) → walk (unquoted m) 0 xs ≡ (take (prefix_len (is_plain m) xs) xs, drop (prefix_len (is_plain m) xs) xs)
        → cond (not t) ([], x ∷ xs) (onto x (walk (unquoted m) 0 xs))
        ≡ (take (cond t (1 + prefix_len (is_plain m) xs) 0) (x ∷ xs), drop (cond t (1 + prefix_len (is_plain m) xs) 0) (x ∷ xs))
    by_test true e = rw (one-add) (ap (onto x) e)
    by_test false _ = refl

pub cut_quoted-is : (m : Marks) (b : List ℕ) → cut_quoted m b ≡ walk m 0 b
unfolding cut_quoted
cut_quoted-is m b =
    ap (λ o. unwrap_or o (b, [])) (find-same (ends_quoted m) (ends_from m 0) (λ cut. ap (λ k. is_even k && is_stop m cut.1) (sym (zero-add (quotes m cut.0)))) (splits b))
    ∙ walk-is m 0 b

pub cut_field-is : (m : Marks) (b : List ℕ) → cut_field m b ≡ walk (mode m b) 0 b
unfolding cut_field
cut_field-is m b = by_test (begins_quoted m.quote b)
  where
    by_test : (t : Bool) → cond t (cut_quoted m b) (cut_plain m b)
        ≡ walk (record { separator = m.separator; quote = cond t m.quote None; line_end = m.line_end }) 0 b
    by_test true = cut_quoted-is m b
    by_test false = sym (plain-walk m b)

-- a field is a walk
pub IsWalk-cut_field : (m : Marks) (b : List ℕ) → IsWalk (mode m b) 0 b (cut_field m b).0 (cut_field m b).1
IsWalk-cut_field m b = subst (λ (cut : List ℕ × List ℕ). IsWalk (mode m b) 0 b cut.0 cut.1) (sym (cut_field-is m b)) (IsWalk-walk (mode m b) 0 b)

-- ---- the fields of a record

-- what stands behind a separator
pub behind-some : (s : ℕ) (t r : List ℕ) → behind s t ≡ Some r → t ≡ s ∷ r
behind-some s [] r e = cc
behind-some s (x ∷ t) r e = by_test (x == s) refl e
  where
    by_test : (c : Bool) → (x == s) ≡ c → cond c (Some t) None ≡ Some r → x ∷ t ≡ s ∷ r
    by_test true same e = grind (arith, common_steps)
    by_test false _ e = cc

pub behind-shorter : (m : Marks) (b r : List ℕ) → behind m.separator (cut_field m b).1 ≡ Some r → length r < length b
behind-shorter m b r e =
    let whole = ap length (IsWalk-cut_field m b).whole in
    let rest = ap length (behind-some m.separator (cut_field m b).1 r e) in
    omega (arith, length-append (cut_field m b).0 (cut_field m b).1)

enough : (m : Marks) (n k : ℕ) (b : List ℕ) → length b < n → length b < k → fields_within m n b ≡ fields_within m k b
enough m zero k b h _ = absurd (omega arith)
enough m (suc n) zero b _ h = absurd (omega arith)
enough m (suc n) (suc k) b h i = ap (λ l. field m b ∷ l) (at_rest (behind m.separator (cut_field m b).1) refl (λ r l j. enough m n k r l j))
  where
    at_rest : (o : Option (List ℕ)) → behind m.separator (cut_field m b).1 ≡ o
        → ((r : List ℕ) → length r < n → length r < k → fields_within m n r ≡ fields_within m k r)
        → ◌≡◌ {A = List (List ℕ)} (elim o [ None ↦ [] | Some r ↦ fields_within m n r ]) (elim o [ None ↦ [] | Some r ↦ fields_within m k r ])
    at_rest None _ _ = refl
    at_rest (Some r) e same = let shorter = behind-shorter m b r e in same r (omega arith) (omega arith)

pub fields-step : (m : Marks) (b : List ℕ) → fields m b ≡ field m b ∷ elim (behind m.separator (cut_field m b).1) [ None ↦ [] | Some r ↦ fields m r ]
unfolding fields
fields-step m b = rw add-one (ap (λ l. field m b ∷ l) (at_rest (behind m.separator (cut_field m b).1) refl))
  where
    at_rest : (o : Option (List ℕ)) → behind m.separator (cut_field m b).1 ≡ o
        → ◌≡◌ {A = List (List ℕ)} (elim o [ None ↦ [] | Some r ↦ fields_within m (length b) r ]) (elim o [ None ↦ [] | Some r ↦ fields_within m (length r + 1) r ])
    at_rest None _ = refl
    at_rest (Some r) e = let shorter = behind-shorter m b r e in enough m (length b) (length r + 1) r shorter (omega arith)

pub fields_last : (m : Marks) (b : List ℕ) → behind m.separator (cut_field m b).1 ≡ None → fields m b ≡ field m b ∷ []
fields_last m b e = fields-step m b ∙ rw e refl

pub fields_more : (m : Marks) (b r : List ℕ) → behind m.separator (cut_field m b).1 ≡ Some r → fields m b ≡ field m b ∷ fields m r
fields_more m b r e = fields-step m b ∙ rw e refl

pub both_left : (s t : Bool) → (s && t) ≡ true → s ≡ true
both_left true t e = refl
both_left false t e = cc

pub both_right : (s t : Bool) → (s && t) ≡ true → t ≡ true
both_right true t e = e
both_right false t e = cc

-- what is left behind a field is empty or begins with a separator or a line end
is_stop-end : (m : Marks) (n : ℕ) (t : List ℕ) → is_end m n t ≡ true → is_stop m t ≡ true
is_stop-end m n [] _ = refl
is_stop-end m n (x ∷ t) e = both_right (is_even n) (not (is_plain m x)) e

pub is_stop-cut_field : (m : Marks) (b : List ℕ) → is_stop m (cut_field m b).1 ≡ true
is_stop-cut_field m b =
    let stop = is_stop-end (mode m b) (0 + quotes (mode m b) (cut_field m b).0) (cut_field m b).1 (IsWalk-cut_field m b).ended in
    same_stop (cut_field m b).1 stop
  where
    same_stop : (t : List ℕ) → is_stop (mode m b) t ≡ true → is_stop m t ≡ true
    same_stop [] _ = refl
    same_stop (x ∷ t) e = e

pub is_quote-stop : (s e : ℕ) (q : Option ℕ) (x : ℕ) → IfSome q (λ c. (c ≢ s) × (c ≢ e)) → not (x == s || x == e) ≡ false → is_quote q x ≡ false
is_quote-stop s e None x _ _ = refl
is_quote-stop s e (Some c) x apart stop = grind (arith, nat_tests, apart.0, apart.1)

pub begins_quoted-stop : (m : Marks) (t : List ℕ) → AreDistinct m → is_stop m t ≡ true → begins_quoted m.quote t ≡ false
begins_quoted-stop m [] _ _ = refl
begins_quoted-stop m (x ∷ t) distinct e = is_quote-stop m.separator m.line_end m.quote x distinct.1 (not-true (is_plain m x) e)

begins_quoted-front : (m : Marks) (f t : List ℕ) → AreDistinct m → is_stop m t ≡ true → begins_quoted m.quote f ≡ begins_quoted m.quote (f ++ t)
begins_quoted-front m [] t distinct e = sym (begins_quoted-stop m t distinct e)
begins_quoted-front m (x ∷ f) t _ _ = refl

-- a field begins with the quote where its list does
pub begins_quoted-field : (m : Marks) (b : List ℕ) → AreDistinct m → begins_quoted m.quote (field m b) ≡ begins_quoted m.quote b
begins_quoted-field m b distinct = begins_quoted-front m (cut_field m b).0 (cut_field m b).1 distinct (is_stop-cut_field m b) ∙ ap (begins_quoted m.quote) (IsWalk-cut_field m b).whole

-- the fields that are left, one after another
pub marked_fields-step : (m : Marks) (b : List ℕ) → AreDistinct m → marked_fields m b ≡ (field m b, begins_quoted m.quote b) ∷ fields_left m (behind m.separator (cut_field m b).1)
marked_fields-step m b distinct = by_rest (behind m.separator (cut_field m b).1) refl
  where
    by_rest : (o : Option (List ℕ)) → behind m.separator (cut_field m b).1 ≡ o → marked_fields m b ≡ (field m b, begins_quoted m.quote b) ∷ fields_left m o
    by_rest None e = rw (fields_last m b e) (ap (λ t. (field m b, t) ∷ []) (begins_quoted-field m b distinct))
    by_rest (Some r) e = rw (fields_more m b r e) (ap (λ t. (field m b, t) ∷ marked_fields m r) (begins_quoted-field m b distinct))

pub cut_field-quoted : (m : Marks) (b : List ℕ) → begins_quoted m.quote b ≡ true → cut_field m b ≡ cut_quoted m b
unfolding cut_field
cut_field-quoted m b e = rw e refl

pub cut_field-plain : (m : Marks) (b : List ℕ) → begins_quoted m.quote b ≡ false → cut_field m b ≡ cut_plain m b
unfolding cut_field
cut_field-plain m b e = rw e refl

pub begins_quoted-none : (b : List ℕ) → begins_quoted None b ≡ false
begins_quoted-none [] = refl
begins_quoted-none (x ∷ b) = refl

-- one step of an iterator over the fields
pub marked_fields-at : (m : Marks) (b : List ℕ) (n : ℕ) (quoted : Bool) (o : Option (List ℕ)) → AreDistinct m → cut_field m b ≡ cut_at n b
    → quoted ≡ begins_quoted m.quote b → o ≡ behind m.separator (drop n b) → marked_fields m b ≡ (take n b, quoted) ∷ fields_left m o
marked_fields-at m b n quoted o distinct cut is_quoted rest =
    marked_fields-step m b distinct
    ∙ ap (λ (c : List ℕ × List ℕ). (c.0, begins_quoted m.quote b) ∷ fields_left m (behind m.separator c.1)) cut
    ∙ rw (rest, is_quoted) refl
