-- Fields that stand in a line with separators between them, and are cut out of it again.
use Rattle.std.proofs.Common.{◌≡◌, ℕ, ◌+◌, ◌<◌, ◌%◌, Bool, true, false, cond, not, ◌&&◌, ◌||◌, ◌==◌, if◌then◌else◌, List, [], ◌∷◌, ◌++◌, length, take, drop, Option, None, Some, refl, sym, ◌∙◌, ap, subst, inl, inr, arith, append_assoc, one-add}
use Rattle.std.specs.Prelude.{take_while}
use Rattle.std.specs.List.{AllByRecursion, join_with_byte, list_all, prefix_len}
use Rattle.std.proofs.lemmas.Bool.Decides.{nat_tests}
use Rattle.pl_frame.specs.Dialect.{Marks, AreDistinct}
use Rattle.pl_text.specs.FrameText.{doubled, quoted}
use Rattle.pl_scan.specs.Fields.{is_plain, is_stop, begins_quoted, cut_field, behind, fields}
use Rattle.pl_scan.proofs.Walk.{mark, is_even, onto, walk}
use Rattle.pl_scan.proofs.FieldLaws.{cut_field-is, cut_field-plain, begins_quoted-stop, fields_last, fields_more, both_left, both_right}
use Rattle.pl_round_trip.specs.RoundTrip.{is_inner, IsFieldText, EndsLine}

-- ---- a field between quotes

-- a walk ends at a stop behind an even number of quotes
walk-stop : (m : Marks) (n : ℕ) (rest : List ℕ) → is_even n ≡ true → is_stop m rest ≡ true → walk m n rest ≡ ([], rest)
walk-stop m n [] even stop = refl
walk-stop m n (x ∷ rest) even stop = rw (even, stop) refl

-- it goes on at an odd number
walk-odd : (m : Marks) (n x : ℕ) (rest : List ℕ) → is_even n ≡ false → walk m n (x ∷ rest) ≡ onto x (walk m (n + mark m x) rest)
walk-odd m n x rest odd = rw odd refl

-- and at a byte that is no stop
walk-plain : (m : Marks) (n x : ℕ) (rest : List ℕ) → is_plain m x ≡ true → walk m n (x ∷ rest) ≡ onto x (walk m (n + mark m x) rest)
walk-plain m n x rest plain = by (is_even n) (is_plain m x) plain
  where
    by : (s t : Bool) → t ≡ true → cond (s && not t) ([], x ∷ rest) (onto x (walk m (n + mark m x) rest)) ≡ onto x (walk m (n + mark m x) rest)
    by true true e = refl
    by false true e = refl
    by true false e = cc
    by false false e = refl

not-true-false : (t : Bool) → not t ≡ true → t ≡ false
not-true-false true e = cc
not-true-false false e = refl

flips : (n : ℕ) → is_even n ≡ false → is_even (n + 1) ≡ true
flips n odd = let is : n % 2 ≡ 1 = grind (arith, nat_tests, odd) in let even : (n + 1) % 2 ≡ 0 = omega (arith, is) in grind (arith, nat_tests, even)

flips-back : (n : ℕ) → is_even n ≡ false → is_even (n + 1 + 1) ≡ false
flips-back n odd = let is : n % 2 ≡ 1 = grind (arith, nat_tests, odd) in let more : (n + 1 + 1) % 2 ≡ 1 = omega (arith, is) in grind (arith, nat_tests, more)

module _ (s e q : ℕ) (plain : is_plain (record { separator = s; quote = Some q; line_end = e }) q ≡ true) where
  abbrev m : Marks
  m = record { separator = s; quote = Some q; line_end = e }

  marks : (n : ℕ) → n + mark m q ≡ n + 1
  marks n = let same : (q == q) ≡ true = grind (arith, nat_tests) in ap (λ (t : Bool). n + cond t 1 0) same

  -- behind the last quote
  walk-tail : (n : ℕ) (tail rest : List ℕ) → is_even n ≡ true → list_all (is_inner m q) tail ≡ true → is_stop m rest ≡ true → walk m n (tail ++ rest) ≡ (tail, rest)
  walk-tail n [] rest even all stop = walk-stop m n rest even stop
  walk-tail n (x ∷ tail) rest even all stop =
      let here = both_left (is_inner m q x) (list_all (is_inner m q) tail) all in
      let bare : (x == q) ≡ false = not-true-false (x == q) (both_right (is_plain m x) (not (x == q)) here) in
      walk-plain m n x (tail ++ rest) (both_left (is_plain m x) (not (x == q)) here)
      ∙ ap (λ (t : Bool). onto x (walk m (n + cond t 1 0) (tail ++ rest))) bare
      ∙ ap (λ k. onto x (walk m k (tail ++ rest))) (omega arith)
      ∙ ap (onto x) (walk-tail n tail rest even (both_right (is_inner m q x) (list_all (is_inner m q) tail) all) stop)

  -- what stands behind the first quote
  body : (n : ℕ) (text tail rest : List ℕ) → is_even n ≡ false → list_all (is_inner m q) tail ≡ true → is_stop m rest ≡ true → walk m n (doubled q text ++ q ∷ (tail ++ rest)) ≡ (doubled q text ++ q ∷ tail, rest)
  body n [] tail rest odd all stop =
      walk-odd m n q (tail ++ rest) odd ∙ ap (λ k. onto q (walk m k (tail ++ rest))) (marks n) ∙ ap (onto q) (walk-tail (n + 1) tail rest (flips n odd) all stop)
  body n (x ∷ text) tail rest odd all stop = by (x == q) refl (body n text tail rest odd all stop) (body (n + 1 + 1) text tail rest (flips-back n odd) all stop)
    where
      by : (t : Bool) → (x == q) ≡ t → walk m n (doubled q text ++ q ∷ (tail ++ rest)) ≡ (doubled q text ++ q ∷ tail, rest) → walk m (n + 1 + 1) (doubled q text ++ q ∷ (tail ++ rest)) ≡ (doubled q text ++ q ∷ tail, rest)
          → walk m n (((if t then q ∷ q ∷ [] else x ∷ []) ++ doubled q text) ++ q ∷ (tail ++ rest)) ≡ (((if t then q ∷ q ∷ [] else x ∷ []) ++ doubled q text) ++ q ∷ tail, rest)
      by true is here later =
          walk-odd m n q (q ∷ (doubled q text ++ q ∷ (tail ++ rest))) odd
          ∙ ap (λ k. onto q (walk m k (q ∷ (doubled q text ++ q ∷ (tail ++ rest))))) (marks n)
          ∙ ap (onto q) (walk-plain m (n + 1) q (doubled q text ++ q ∷ (tail ++ rest)) plain ∙ ap (λ k. onto q (walk m k (doubled q text ++ q ∷ (tail ++ rest)))) (marks (n + 1)) ∙ ap (onto q) later)
      by false is here later =
          walk-odd m n x (doubled q text ++ q ∷ (tail ++ rest)) odd
          ∙ ap (λ (t : Bool). onto x (walk m (n + cond t 1 0) (doubled q text ++ q ∷ (tail ++ rest)))) is
          ∙ ap (λ k. onto x (walk m k (doubled q text ++ q ∷ (tail ++ rest)))) (omega arith)
          ∙ ap (onto x) here

  first : (text tail rest : List ℕ) → list_all (is_inner m q) tail ≡ true → is_stop m rest ≡ true → walk m 0 ((quoted q text ++ tail) ++ rest) ≡ (quoted q text ++ tail, rest)
  first text tail rest all stop =
      let whole : (doubled q text ++ q ∷ []) ++ tail ≡ doubled q text ++ q ∷ tail = append_assoc (doubled q text) (q ∷ []) tail in
      ap (λ l. walk m 0 (q ∷ (l ++ rest))) whole
      ∙ ap (λ l. walk m 0 (q ∷ l)) (append_assoc (doubled q text) (q ∷ tail) rest)
      ∙ walk-plain m 0 q (doubled q text ++ q ∷ (tail ++ rest)) plain ∙ ap (λ k. onto q (walk m k (doubled q text ++ q ∷ (tail ++ rest)))) (marks 0)
      ∙ ap (onto q) (body 1 text tail rest refl all stop)
      ∙ ap (λ l. (q ∷ l, rest)) (sym whole)

  quoted-cut : (text tail rest : List ℕ) → list_all (is_inner m q) tail ≡ true → is_stop m rest ≡ true → cut_field m ((quoted q text ++ tail) ++ rest) ≡ (quoted q text ++ tail, rest)
  quoted-cut text tail rest all stop =
      let same : (q == q) ≡ true = grind (arith, nat_tests) in
      cut_field-is m ((quoted q text ++ tail) ++ rest)
      ∙ ap (λ (t : Bool). walk (record { separator = s; quote = cond t (Some q) None; line_end = e }) 0 ((quoted q text ++ tail) ++ rest)) same
      ∙ first text tail rest all stop

-- ---- any other field

plain-front : (m : Marks) (text rest : List ℕ) → list_all (is_plain m) text ≡ true → is_stop m rest ≡ true → (take_while (is_plain m) (text ++ rest) ≡ text) × (drop (prefix_len (is_plain m) (text ++ rest)) (text ++ rest) ≡ rest)
plain-front m [] [] all stop = (refl, refl)
plain-front m [] (x ∷ rest) all stop = by (is_plain m x) stop
  where
    by : (t : Bool) → not t ≡ true → (take (cond t (1 + prefix_len (is_plain m) rest) 0) (x ∷ rest) ≡ []) × (drop (cond t (1 + prefix_len (is_plain m) rest) 0) (x ∷ rest) ≡ x ∷ rest)
    by true e = cc
    by false e = (refl, refl)
plain-front m (x ∷ text) rest all stop = by (is_plain m x) (both_left (is_plain m x) (list_all (is_plain m) text) all) (plain-front m text rest (both_right (is_plain m x) (list_all (is_plain m) text) all) stop)
  where
    by : (t : Bool) → t ≡ true → (take_while (is_plain m) (text ++ rest) ≡ text) × (drop (prefix_len (is_plain m) (text ++ rest)) (text ++ rest) ≡ rest)
        → (take (cond t (1 + prefix_len (is_plain m) (text ++ rest)) 0) (x ∷ (text ++ rest)) ≡ x ∷ text) × (drop (cond t (1 + prefix_len (is_plain m) (text ++ rest)) 0) (x ∷ (text ++ rest)) ≡ rest)
    by true e h = rw one-add (ap (λ l. x ∷ l) h.0, h.1)
    by false e h = cc

unquoted : (m : Marks) (text rest : List ℕ) → AreDistinct m → begins_quoted m.quote text ≡ false → is_stop m rest ≡ true → begins_quoted m.quote (text ++ rest) ≡ false
unquoted m [] rest distinct bare stop = begins_quoted-stop m rest distinct stop
unquoted m (x ∷ text) rest distinct bare stop = bare

plain-cut : (m : Marks) (text rest : List ℕ) → AreDistinct m → begins_quoted m.quote text ≡ false → list_all (is_plain m) text ≡ true → is_stop m rest ≡ true → cut_field m (text ++ rest) ≡ (text, rest)
plain-cut m text rest distinct bare all stop =
    let both = plain-front m text rest all stop in
    cut_field-plain m (text ++ rest) (unquoted m text rest distinct bare stop) ∙ ap (λ l. (l, drop (prefix_len (is_plain m) (text ++ rest)) (text ++ rest))) both.0 ∙ ap (λ l. (text, l)) both.1

-- ---- the fields of a line

-- the text of a field is cut out whole, before a separator, a line end or the end
field-cut : (m : Marks) (text rest : List ℕ) → AreDistinct m → IsFieldText m text → is_stop m rest ≡ true → cut_field m (text ++ rest) ≡ (text, rest)
field-cut m text rest distinct (inr other) stop = plain-cut m text rest distinct other.0 other.1 stop
field-cut m text rest distinct (inl (q, inner, tail, is, same, all)) stop =
    subst (λ t. cut_field m (t ++ rest) ≡ (t, rest)) (sym same) (whole m.quote is refl)
  where
    distinct_quote : (o : Option ℕ) → o ≡ Some q → AreDistinct (record { separator = m.separator; quote = o; line_end = m.line_end }) → is_plain (record { separator = m.separator; quote = Some q; line_end = m.line_end }) q ≡ true
    distinct_quote None e d = cc
    distinct_quote (Some p) e d =
        let same : p ≡ q = cc in
        let no_separator : (q == m.separator) ≡ false = grind (arith, nat_tests, d, same) in
        let no_end : (q == m.line_end) ≡ false = grind (arith, nat_tests, d, same) in
        rw (no_separator, no_end) refl

    whole : (o : Option ℕ) → o ≡ Some q → m.quote ≡ o → cut_field m ((quoted q inner ++ tail) ++ rest) ≡ (quoted q inner ++ tail, rest)
    whole o e f =
        let quote : m.quote ≡ Some q = f ∙ e in
        let mine : record { separator = m.separator; quote = Some q; line_end = m.line_end } ≡ m = ap (λ p. record { separator = m.separator; quote = p; line_end = m.line_end }) (sym quote) in
        let here : is_stop (record { separator = m.separator; quote = Some q; line_end = m.line_end }) rest ≡ true = ap (λ (k : Marks). is_stop k rest) mine ∙ stop in
        let inside : list_all (is_inner (record { separator = m.separator; quote = Some q; line_end = m.line_end }) q) tail ≡ true = ap (λ (k : Marks). list_all (is_inner k q) tail) mine ∙ all in
        subst (λ (k : Marks). cut_field k ((quoted q inner ++ tail) ++ rest) ≡ (quoted q inner ++ tail, rest)) mine
        (quoted-cut m.separator m.line_end q (distinct_quote m.quote quote distinct) inner tail rest inside here)

ends-stop : (m : Marks) (rest : List ℕ) → EndsLine m rest → is_stop m rest ≡ true
ends-stop m rest (inl none) = ap (is_stop m) none
ends-stop m rest (inr (more, is)) =
    let same : (m.line_end == m.line_end) ≡ true = grind (arith, nat_tests) in
    ap (is_stop m) is ∙ by (m.line_end == m.separator) (m.line_end == m.line_end) same
  where
    by : (a b : Bool) → b ≡ true → not (not (a || b)) ≡ true
    by true b e = refl
    by false true e = refl
    by false false e = cc

ends-none : (m : Marks) (rest : List ℕ) → AreDistinct m → EndsLine m rest → behind m.separator rest ≡ None
ends-none m rest distinct (inl none) = ap (behind m.separator) none
ends-none m rest distinct (inr (more, is)) =
    let other : (m.line_end == m.separator) ≡ false = grind (arith, nat_tests, distinct.0) in
    ap (behind m.separator) is ∙ ap (λ (t : Bool). if t then Some more else None) other

separator-stop : (m : Marks) (rest : List ℕ) → is_stop m (m.separator ∷ rest) ≡ true
separator-stop m rest = let same : (m.separator == m.separator) ≡ true = grind (arith, nat_tests) in ap (λ (t : Bool). not (not (t || m.separator == m.line_end))) same

separator-behind : (m : Marks) (rest : List ℕ) → behind m.separator (m.separator ∷ rest) ≡ Some rest
separator-behind m rest = let same : (m.separator == m.separator) ≡ true = grind (arith, nat_tests) in ap (λ (t : Bool). if t then Some rest else None) same

pub line-returns : (m : Marks) (texts : List (List ℕ)) (rest : List ℕ) → AreDistinct m → 0 < length texts → AllByRecursion (IsFieldText m) texts → EndsLine m rest
    → fields m (join_with_byte m.separator texts ++ rest) ≡ texts
line-returns m [] rest distinct some all ends = absurd (omega (arith, some))
line-returns m (text ∷ []) rest distinct some all ends =
    let cut = field-cut m text rest distinct all.0 (ends-stop m rest ends) in
    fields_last m (text ++ rest) (ap (λ c. behind m.separator c.1) cut ∙ ends-none m rest distinct ends) ∙ ap (λ c. c.0 ∷ []) cut
line-returns m (text ∷ next ∷ texts) rest distinct some all ends =
    let left = join_with_byte m.separator (next ∷ texts) ++ rest in
    let is : (text ++ (m.separator ∷ join_with_byte m.separator (next ∷ texts))) ++ rest ≡ text ++ (m.separator ∷ left) = append_assoc text (m.separator ∷ join_with_byte m.separator (next ∷ texts)) rest in
    let cut = field-cut m text (m.separator ∷ left) distinct all.0 (separator-stop m left) in
    ap (fields m) is
    ∙ fields_more m (text ++ (m.separator ∷ left)) left (ap (λ c. behind m.separator c.1) cut ∙ separator-behind m left)
    ∙ ap (λ c. c.0 ∷ fields m left) cut
    ∙ ap (λ l. text ∷ l) (line-returns m (next ∷ texts) rest distinct (omega arith) all.1 ends)
