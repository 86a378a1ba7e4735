-- The places of records are those behind the line ends that end one.
use Rattle.std.proofs.Common.{◌≡◌, ℕ, zero, suc, ◌+◌, ◌-◌, ◌<◌, Bool, true, false, cond, not, ◌&&◌, ◌||◌, ◌==◌, List, [], ◌∷◌, ◌++◌, length, take, drop, Option, None, Some, refl, sym, ◌∙◌, ap, arith, length-drop}
use Rattle.std.proofs.lemmas.List.{drop_at, length-take-le, drop-drop}
use Rattle.std.proofs.lemmas.Bool.Decides.{nat_tests}
use Rattle.pl_frame.specs.Dialect.{Marks, AreDistinct}
use Rattle.pl_scan.specs.Fields.{is_quote, is_plain, is_stop, cut_field, field, behind, extent}
use Rattle.pl_scan.specs.Items.{item, text_of}
use Rattle.pl_scan.proofs.Walk.{is_even, is_even-mark, mark, onto, walk}
use Rattle.pl_scan.proofs.FieldLaws.{unquoted, cut_field-is, IsWalk-cut_field, is_stop-cut_field, behind-some, behind-shorter}
use Rattle.pl_scan.proofs.ItemLaws.{extent_last, extent_more, IsRecordAt-extent}
use Rattle.pl_seek.specs.Places.{record_places}
use Rattle.pl_seek.specs.RecordEnds.{Stand, AtField, InPlain, InOdd, InEven, is_odd, stand_on, ends_record, placed, begins}
use Rattle.pl_seek.proofs.PlaceLaws.{places-record, places-none}

module _ (m : Marks) (size : ℕ) (apart : AreDistinct m) where
  -- the places at a byte and behind it
  abbrev from : Bool → Stand → List ℕ → List ℕ
  from ends s xs = cond ends (placed size xs) [] ++ begins m size s xs

  -- no record ends at a plain byte
  plain-end : (x : ℕ) (s : Stand) → is_plain m x ≡ true → ends_record m s x ≡ false
  plain-end x s plain = by (x == m.separator) (x == m.line_end) refl plain
    where
      by : (t e : Bool) → (x == m.line_end) ≡ e → not (t || e) ≡ true → ends_record m s x ≡ false
      by false false is _ = ap (λ (e : Bool). e && not (is_odd s)) is
      by true e is h = absurd (cc)
      by false true is h = absurd (cc)

  -- at a byte that is not, all scans outside an odd number of quotes are one
  begins-stop : (x : ℕ) (xs : List ℕ) (s : Stand) → is_plain m x ≡ false → is_odd s ≡ false → begins m size s (x ∷ xs) ≡ begins m size InPlain (x ∷ xs)
  begins-stop x xs AtField stop even = ap (λ (p : Bool). from (ends_record m AtField x) (cond p (cond (is_quote m.quote x) InOdd InPlain) AtField) xs) stop ∙ sym (ap (λ (p : Bool). from (ends_record m InPlain x) (cond p InPlain AtField) xs) stop)
  begins-stop x xs InPlain stop even = refl
  begins-stop x xs InOdd stop even = absurd (cc)
  begins-stop x xs InEven stop even = ap (λ (p : Bool). from (ends_record m InEven x) (cond p (cond (is_quote m.quote x) InOdd InEven) AtField) xs) stop ∙ sym (ap (λ (p : Bool). from (ends_record m InPlain x) (cond p InPlain AtField) xs) stop)

  begins-plain : (b : List ℕ) → begins m size InPlain b ≡ begins m size InPlain (walk (unquoted m) 0 b).1
  begins-plain [] = refl
  begins-plain (x ∷ xs) = by (is_plain m x) refl (begins-plain xs)
    where
      by : (t : Bool) → is_plain m x ≡ t → begins m size InPlain xs ≡ begins m size InPlain (walk (unquoted m) 0 xs).1
          → begins m size InPlain (x ∷ xs) ≡ begins m size InPlain (cond (not t) ([], x ∷ xs) (onto x (walk (unquoted m) 0 xs))).1
      by true plain e = (λ i. from (plain-end x InPlain plain i) (stand_on InPlain (plain i) (is_quote m.quote x)) xs) ∙ e
      by false _ _ = refl

  -- in a quoted field, behind n quotes
  abbrev inside : ℕ → Stand
  inside n = cond (is_even n) InEven InOdd

  begins-quoted : (n : ℕ) (b : List ℕ) → begins m size (inside n) b ≡ begins m size InPlain (walk m n b).1
  begins-quoted n [] = refl
  begins-quoted n (x ∷ xs) = by (is_even n) (is_plain m x) (is_quote m.quote x) refl refl refl (begins-quoted (n + mark m x) xs)
    where
      next : (t q : Bool) → is_even n ≡ t → is_quote m.quote x ≡ q → inside (n + mark m x) ≡ cond (cond q (not t) t) InEven InOdd
      next t q even quote = ap (λ (u : Bool). cond u InEven InOdd) (is_even-mark m n x ∙ rw (even, quote) refl)

      odd-end : ends_record m InOdd x ≡ false
      odd-end = by_test (x == m.line_end)
        where
          by_test : (e : Bool) → (e && false) ≡ false
          by_test true = refl
          by_test false = refl

      by : (t u q : Bool) → is_even n ≡ t → is_plain m x ≡ u → is_quote m.quote x ≡ q
          → begins m size (inside (n + mark m x)) xs ≡ begins m size InPlain (walk m (n + mark m x) xs).1
          → begins m size (cond t InEven InOdd) (x ∷ xs) ≡ begins m size InPlain (cond (t && not u) ([], x ∷ xs) (onto x (walk m (n + mark m x) xs))).1
      by true false q _ stop _ _ = begins-stop x xs InEven stop refl
      by true true q even plain quote e =
          (λ i. from (plain-end x InEven plain i) (stand_on InEven (plain i) (quote i)) xs)
          ∙ ap (λ (s : Stand). begins m size s xs) (same q ∙ sym (next true q even quote)) ∙ e
        where
          same : (v : Bool) → cond v InOdd InEven ≡ cond (cond v false true) InEven InOdd
          same true = refl
          same false = refl
      by false u q even plain quote e =
          (λ i. from (odd-end i) (stand_on InOdd (is_plain m x) (quote i)) xs)
          ∙ ap (λ (s : Stand). begins m size s xs) (same q ∙ sym (next false q even quote)) ∙ e
        where
          same : (v : Bool) → cond v InEven InOdd ≡ cond (cond v true false) InEven InOdd
          same true = refl
          same false = refl

  -- a field begins
  begins-field : (b : List ℕ) → begins m size AtField b ≡ begins m size InPlain (cut_field m b).1
  begins-field [] = sym (ap (λ (c : List ℕ × List ℕ). begins m size InPlain c.1) (cut_field-is m []))
  begins-field (x ∷ xs) = by (is_quote m.quote x) refl ∙ sym (ap (λ (c : List ℕ × List ℕ). begins m size InPlain c.1) (cut_field-is m (x ∷ xs)))
    where
      by : (q : Bool) → is_quote m.quote x ≡ q → begins m size AtField (x ∷ xs)
          ≡ begins m size InPlain (walk (record { separator = m.separator; quote = cond q m.quote None; line_end = m.line_end }) 0 (x ∷ xs)).1
      by true quote = (λ i. from (ends_record m AtField x) (cond (is_plain m x) (cond (quote i) InOdd InPlain) AtField) xs)
          ∙ sym (λ i. from (ends_record m InEven x) (cond (is_plain m x) (cond (quote i) InOdd InEven) AtField) xs)
          ∙ begins-quoted 0 (x ∷ xs)
      by false quote = (λ i. from (ends_record m AtField x) (cond (is_plain m x) (cond (quote i) InOdd InPlain) AtField) xs) ∙ begins-plain (x ∷ xs)

  -- behind a record
  abbrev behind_record : List ℕ → List ℕ
  behind_record r = placed size r ++ begins m size AtField r

  left-none : (t : List ℕ) → is_stop m t ≡ true → behind m.separator t ≡ None → begins m size InPlain t ≡ behind_record (drop 1 t)
  left-none [] _ _ = refl
  left-none (x ∷ t) stop none = by (x == m.separator) (x == m.line_end) refl refl stop none
    where
      by : (s e : Bool) → (x == m.separator) ≡ s → (x == m.line_end) ≡ e → not (not (s || e)) ≡ true → cond s (Some t) None ≡ None → begins m size InPlain (x ∷ t) ≡ behind_record t
      by true e _ _ _ h = absurd (cc)
      by false true at is _ _ = (λ i. from (is i && true) (cond (not (at i || is i)) InPlain AtField) t)
      by false false _ _ h _ = absurd (cc)

  left-some : (t r : List ℕ) → behind m.separator t ≡ Some r → begins m size InPlain t ≡ begins m size AtField r
  left-some [] r h = absurd (cc)
  left-some (x ∷ t) r some = by (x == m.separator) (x == m.line_end) refl refl some
    where
      by : (s e : Bool) → (x == m.separator) ≡ s → (x == m.line_end) ≡ e → cond s (Some t) None ≡ Some r → begins m size InPlain (x ∷ t) ≡ begins m size AtField r
      by true false at is h = let same : t ≡ r = cc in (λ i. from (is i && true) (cond (not (at i || is i)) InPlain AtField) t) ∙ ap (begins m size AtField) same
      by true true at is h = absurd (let one : x ≡ m.separator = grind (arith, nat_tests, at) in let other : x ≡ m.line_end = grind (arith, nat_tests, is) in apart.0 (sym one ∙ other))
      by false e at is h = absurd (cc)

  record_within : (n : ℕ) (b : List ℕ) → length b < n → begins m size AtField b ≡ behind_record (drop (extent m b + 1) b)
  record_within zero b h = absurd (omega arith)
  record_within (suc n) b h = begins-field b ∙ by (behind m.separator (cut_field m b).1) refl (λ r l. record_within n r l)
    where
      rest : drop (length (field m b)) b ≡ (cut_field m b).1
      rest = ap (drop (length (field m b))) (sym (IsWalk-cut_field m b).whole) ∙ drop_at (field m b) (cut_field m b).1 (length (field m b)) refl

      by : (o : Option (List ℕ)) → behind m.separator (cut_field m b).1 ≡ o
          → ((r : List ℕ) → length r < n → begins m size AtField r ≡ behind_record (drop (extent m r + 1) r))
          → begins m size InPlain (cut_field m b).1 ≡ behind_record (drop (extent m b + 1) b)
      by None e _ =
          let left : drop 1 (cut_field m b).1 ≡ drop (extent m b + 1) b =
          ap (drop 1) (sym rest) ∙ drop-drop 1 (length (field m b)) b ∙ ap (λ k. drop (k + 1) b) (sym (extent_last m b e)) in
          left-none (cut_field m b).1 (is_stop-cut_field m b) e ∙ ap behind_record left
      by (Some r) e deeper =
          let at_r : r ≡ drop (length (field m b) + 1) b =
          sym (ap (drop 1) (behind-some m.separator (cut_field m b).1 r e)) ∙ ap (drop 1) (sym rest) ∙ drop-drop 1 (length (field m b)) b in
          let sum : length (field m b) + 1 + (extent m r + 1) ≡ extent m b + 1 = omega (arith, extent_more m b r e) in
          let left : drop (extent m r + 1) r ≡ drop (extent m b + 1) b =
          ap (drop (extent m r + 1)) at_r ∙ drop-drop (extent m r + 1) (length (field m b) + 1) b ∙ ap (λ k. drop k b) sum in
          left-some (cut_field m b).1 r e ∙ deeper r (let shorter = behind-shorter m b r e in omega arith) ∙ ap behind_record left

  -- the records that begin behind the first one
  pub begins-record : (b : List ℕ) → begins m size AtField b ≡ behind_record (drop (extent m b + 1) b)
  begins-record b = record_within (length b + 1) b (omega arith)

  places_within : (n : ℕ) (b : List ℕ) → length b < n → record_places m None size b ≡ behind_record b
  places_within zero b h = absurd (omega arith)
  places_within (suc n) [] h = places-none m None size
  places_within (suc n) (x ∷ xs) h =
      let b = x ∷ xs in
      let long : length (take (extent m b) b) ≡ extent m b = length-take-le (extent m b) b (IsRecordAt-extent m b).fits in
      let rest = drop (length (text_of (item m None b)) + 1) b in
      places-record m None size b (omega arith) refl
      ∙ ap (λ l. (size - length b) ∷ l) (places_within n rest (omega (arith, length-drop (length (text_of (item m None b)) + 1) b)))
      ∙ ap (λ k. (size - length b) ∷ behind_record (drop (k + 1) b)) long
      ∙ ap (λ l. (size - length b) ∷ l) (sym (begins-record b))

  -- the records of a text begin at its front and behind its line ends that end one
  pub places-begin : (b : List ℕ) → record_places m None size b ≡ behind_record b
  places-begin b = places_within (length b + 1) b (omega arith)
