-- A record's own bytes have its fields, and a record with something behind it is not open.
use Rattle.std.proofs.Common.{◌≡◌, ℕ, zero, suc, ◌+◌, ◌%◌, ◌<◌, Bool, true, false, cond, not, ◌&&◌, ◌==◌, List, [], ◌∷◌, ◌++◌, length, take, drop, refl, sym, ◌∙◌, ap, zero-add, arith, append-nil, one-add}
use Rattle.std.specs.Prelude.{Option, None, Some}
use Rattle.std.proofs.lemmas.List.{take_at, drop_at}
use Rattle.std.proofs.lemmas.Bool.Decides.{nat_tests}
use Rattle.pl_frame.specs.Dialect.{Marks, AreDistinct}
use Rattle.pl_scan.specs.Fields.{quotes, is_plain, begins_quoted, cut_field, field, behind, fields, extent}
use Rattle.pl_scan.specs.Closing.{is_open, have_open_end}
use Rattle.pl_scan.proofs.Walk.{walk, is_even, is_end, walk-of}
use Rattle.pl_scan.proofs.FieldLaws.{both_left, mode, cut_field-is, IsWalk-cut_field, behind-some, behind-shorter, fields_last, fields_more, begins_quoted-field}
use Rattle.pl_scan.proofs.ItemLaws.{fields-some, extent_last, extent_more}

-- the first field before another rest
pub cut_field-before : (m : Marks) (b t : List ℕ) → is_end (mode m b) (0 + quotes (mode m b) (field m b)) t ≡ true
    → begins_quoted m.quote (field m b ++ t) ≡ begins_quoted m.quote b → cut_field m (field m b ++ t) ≡ (field m b, t)
cut_field-before m b t ended begins =
    let same : mode m (field m b ++ t) ≡ mode m b = ap (λ (c : Bool). record { separator = m.separator; quote = cond c m.quote None; line_end = m.line_end }) begins in
    cut_field-is m (field m b ++ t) ∙ ap (λ (k : Marks). walk k 0 (field m b ++ t)) same ∙ walk-of (mode m b) 0 (field m b) t (IsWalk-cut_field m b).runs ended

begins_quoted-before : (q : Option ℕ) (f : List ℕ) (x : ℕ) (t r : List ℕ) → begins_quoted q (f ++ x ∷ t) ≡ begins_quoted q (f ++ x ∷ r)
begins_quoted-before q [] x t r = refl
begins_quoted-before q (y ∷ f) x t r = refl

-- the first field alone
cut_field-alone : (m : Marks) (b : List ℕ) → AreDistinct m → cut_field m (field m b) ≡ (field m b, [])
cut_field-alone m b distinct =
    ap (cut_field m) (sym (append-nil (field m b))) ∙ cut_field-before m b [] refl (ap (begins_quoted m.quote) (append-nil (field m b)) ∙ begins_quoted-field m b distinct)

-- the first field before its separator
cut_field-separator : (m : Marks) (b r t : List ℕ) → behind m.separator (cut_field m b).1 ≡ Some r → cut_field m (field m b ++ m.separator ∷ t) ≡ (field m b, m.separator ∷ t)
cut_field-separator m b r t e =
    let w = IsWalk-cut_field m b in
    let rest = behind-some m.separator (cut_field m b).1 r e in
    let ended : is_end (mode m b) (0 + quotes (mode m b) (field m b)) (m.separator ∷ t) ≡ true = ap (is_end (mode m b) (0 + quotes (mode m b) (field m b))) (sym rest) ∙ w.ended in
    let whole : field m b ++ m.separator ∷ r ≡ b = ap (λ (l : List ℕ). field m b ++ l) (sym rest) ∙ w.whole in
    cut_field-before m b (m.separator ∷ t) ended (begins_quoted-before m.quote (field m b) m.separator t r ∙ ap (begins_quoted m.quote) whole)

take-plus : (f : List ℕ) (s : ℕ) (r : List ℕ) (k : ℕ) → take (length f + 1 + k) (f ++ s ∷ r) ≡ f ++ s ∷ take k r
take-plus [] s r k = rw (zero-add, one-add) refl
take-plus (x ∷ f) s r k = rw more (ap (λ (l : List ℕ). x ∷ l) (take-plus f s r k))
  where
    more : suc (length f) + 1 + k ≡ suc (length f + 1 + k)
    more = omega arith

pub drop-plus : (f : List ℕ) (s : ℕ) (r : List ℕ) (k : ℕ) → drop (length f + 1 + k) (f ++ s ∷ r) ≡ drop k r
drop-plus [] s r k = rw (zero-add, one-add) refl
drop-plus (x ∷ f) s r k = rw more (drop-plus f s r k)
  where
    more : suc (length f) + 1 + k ≡ suc (length f + 1 + k)
    more = omega arith

text_within : (m : Marks) → AreDistinct m → (n : ℕ) (b : List ℕ) → length b < n → fields m (take (extent m b) b) ≡ fields m b
text_within m distinct zero b h = absurd (omega arith)
text_within m distinct (suc n) b h = by_rest (behind m.separator (cut_field m b).1) refl (λ r l. text_within m distinct n r l)
  where
    by_rest : (o : Option (List ℕ)) → behind m.separator (cut_field m b).1 ≡ o → ((r : List ℕ) → length r < n → fields m (take (extent m r) r) ≡ fields m r)
        → fields m (take (extent m b) b) ≡ fields m b
    by_rest None e _ =
        let w = IsWalk-cut_field m b in
        let text : take (extent m b) b ≡ field m b = ap (λ k. take k b) (extent_last m b e) ∙ ap (take (length (field m b))) (sym w.whole) ∙ take_at (field m b) (cut_field m b).1 (length (field m b)) refl in
        let alone = cut_field-alone m b distinct in
        let last : behind m.separator (cut_field m (field m b)).1 ≡ None = rw alone refl in
        ap (fields m) text ∙ fields_last m (field m b) last ∙ ap (λ (c : List ℕ × List ℕ). c.0 ∷ []) alone ∙ sym (fields_last m b e)
    by_rest (Some r) e deeper =
        let w = IsWalk-cut_field m b in
        let rest = behind-some m.separator (cut_field m b).1 r e in
        let whole : field m b ++ m.separator ∷ r ≡ b = ap (λ (l : List ℕ). field m b ++ l) (sym rest) ∙ w.whole in
        let t = take (extent m r) r in
        let text : take (extent m b) b ≡ field m b ++ m.separator ∷ t = ap (λ k. take k b) (extent_more m b r e) ∙ ap (take (length (field m b) + 1 + extent m r)) (sym whole) ∙ take-plus (field m b) m.separator r (extent m r) in
        let cut = cut_field-separator m b r t e in
        let same : (m.separator == m.separator) ≡ true = grind (arith, nat_tests) in
        let more : behind m.separator (cut_field m (field m b ++ m.separator ∷ t)).1 ≡ Some t = rw (cut, same) refl in
        ap (fields m) text ∙ fields_more m (field m b ++ m.separator ∷ t) t more ∙ ap (λ (c : List ℕ × List ℕ). c.0 ∷ fields m t) cut
        ∙ ap (λ (l : List (List ℕ)). field m b ∷ l) (deeper r (let short = behind-shorter m b r e in omega arith)) ∙ sym (fields_more m b r e)

-- the fields of a record's own bytes
pub fields-text : (m : Marks) (b : List ℕ) → AreDistinct m → fields m (take (extent m b) b) ≡ fields m b
fields-text m b distinct = text_within m distinct (length b + 1) b (omega arith)

-- ---- a record before a line end is closed

even-odd : (n : ℕ) → is_even n ≡ true → (n % 2 == 1) ≡ false
even-odd n h = grind (arith, nat_tests)

-- a field before a byte is closed
pub closed_field : (m : Marks) (b : List ℕ) (x : ℕ) (t : List ℕ) → AreDistinct m → (cut_field m b).1 ≡ x ∷ t → is_open m (field m b) ≡ false
closed_field m b x t distinct is =
    let even : is_even (0 + quotes (mode m b) (field m b)) ≡ true =
    both_left (is_even (0 + quotes (mode m b) (field m b))) (not (is_plain m x)) (ap (is_end (mode m b) (0 + quotes (mode m b) (field m b))) (sym is) ∙ (IsWalk-cut_field m b).ended) in
    rw (begins_quoted-field m b distinct) (by_test (begins_quoted m.quote b) even)
  where
    by_test : (c : Bool) → is_even (0 + quotes (record { separator = m.separator; quote = cond c m.quote None; line_end = m.line_end }) (field m b)) ≡ true
        → (c && quotes m (field m b) % 2 == 1) ≡ false
    by_test true even = even-odd (quotes m (field m b)) (ap is_even (sym (zero-add (quotes m (field m b)))) ∙ even)
    by_test false _ = refl

closed_within : (m : Marks) → AreDistinct m → (n : ℕ) (b : List ℕ) (x : ℕ) (rest : List ℕ) → length b < n → drop (extent m b) b ≡ x ∷ rest → have_open_end m (fields m b) ≡ false
closed_within m distinct zero b x rest h _ = absurd (omega arith)
closed_within m distinct (suc n) b x rest h left = by_rest (behind m.separator (cut_field m b).1) refl (λ r l i. closed_within m distinct n r x rest l i)
  where
    by_rest : (o : Option (List ℕ)) → behind m.separator (cut_field m b).1 ≡ o
        → ((r : List ℕ) → length r < n → drop (extent m r) r ≡ x ∷ rest → have_open_end m (fields m r) ≡ false)
        → have_open_end m (fields m b) ≡ false
    by_rest None e _ =
        let w = IsWalk-cut_field m b in
        let t_is : (cut_field m b).1 ≡ x ∷ rest =
        sym (ap (λ k. drop k b) (extent_last m b e) ∙ ap (drop (length (field m b))) (sym w.whole) ∙ drop_at (field m b) (cut_field m b).1 (length (field m b)) refl) ∙ left in
        ap (λ (l : List (List ℕ)). have_open_end m l) (fields_last m b e) ∙ closed_field m b x rest distinct t_is
    by_rest (Some r) e deeper =
        let w = IsWalk-cut_field m b in
        let t_is = behind-some m.separator (cut_field m b).1 r e in
        let whole : field m b ++ m.separator ∷ r ≡ b = ap (λ (l : List ℕ). field m b ++ l) (sym t_is) ∙ w.whole in
        let inner : drop (extent m b) b ≡ drop (extent m r) r = ap (λ k. drop k b) (extent_more m b r e) ∙ ap (drop (length (field m b) + 1 + extent m r)) (sym whole) ∙ drop-plus (field m b) m.separator r (extent m r) in
        let some = fields-some m r in
        ap (λ (l : List (List ℕ)). have_open_end m l) (fields_more m b r e ∙ ap (λ (l : List (List ℕ)). field m b ∷ l) some.2)
        ∙ ap (λ (l : List (List ℕ)). have_open_end m l) (sym some.2)
        ∙ deeper r (let short = behind-shorter m b r e in omega arith) (sym inner ∙ left)

-- a record with something behind it is closed
pub have_open_end-closed : (m : Marks) (b : List ℕ) (x : ℕ) (rest : List ℕ) → AreDistinct m → drop (extent m b) b ≡ x ∷ rest → have_open_end m (fields m b) ≡ false
have_open_end-closed m b x rest distinct left = closed_within m distinct (length b + 1) b x rest (omega arith) left
