-- Where the records of a text begin, item by item.
use Rattle.std.proofs.Common.{◌≡◌, ℕ, zero, suc, ◌+◌, ◌-◌, ◌*◌, ◌<◌, ◌≤◌, ◌==◌, ◌||◌, ◌++◌, Bool, true, false, cond, not, List, [], ◌∷◌, length, take, drop, get_or, Option, None, Some, refl, sym, ap, subst, ◌∙◌, arith, length-drop}
use Rattle.std.specs.Prelude.{take_while}
use Rattle.std.specs.List.{filter_map, cons_option, prefix_len}
use Rattle.std.proofs.Math.Nat.{suc-mul}
use Rattle.std.proofs.lemmas.Bool.Decides.{nat_tests}
use Rattle.std.proofs.lemmas.List.{length-take, get_or-drop, append_assoc, append-nil, length-append}
use Rattle.std.proofs.lemmas.List.Sums.{position_or_len_is}
use Rattle.std.proofs.lemmas.List.Folds.{length-prefix_len}
use Rattle.memchr.specs.Find.{is_byte2}
use Rattle.pl_frame.specs.Dialect.{Marks, AreDistinct}
use Rattle.pl_scan.specs.Comment.{is_comment}
use Rattle.pl_scan.specs.Fields.{is_quote, is_plain, is_stop, begins_quoted, behind, cut_plain, cut_field, field, extent}
use Rattle.pl_scan.specs.Items.{ItemText, CommentText, RecordText, text_of, item}
use Rattle.pl_scan.proofs.FieldLaws.{behind-some, behind-shorter, cut_field-plain, is_stop-cut_field, is_quote-stop}
use Rattle.pl_scan.proofs.ItemLaws.{extent_last, extent_more, items_behind-nil, items_behind-step}
use Rattle.pl_scan.specs.Comment as scan
use Rattle.pl_seek.specs.Places.{place_of, record_places, group_places}
use Rattle.pl_seek.specs.Grouping.{HasSeen, HasCome, unless_comment}
use Rattle.pl_seek.specs.declared.places.Groups.{Groups}
use Rattle.pl_seek.proofs.GroupLaws.{Rise, rise-from, groups-first, groups-other}

-- ---- items

-- the item at the front, by whether a comment begins there
abbrev pub item_by : Bool → Marks → List ℕ → ItemText
item_by t m b = cond t (CommentText (take_while (λ x. not (x == m.line_end)) b)) (RecordText (take (extent m b) b))

-- the places of the records at the front of a list that a comment begins, and of one that a record begins
module _ (m : Marks) (comment : Option (List ℕ)) (size : ℕ) (b : List ℕ) (some : 0 < length b) where
  abbrev rest_at : ℕ → List ℕ
  rest_at n = record_places m comment size (drop (n + 1) b)

  abbrev step_by : Bool → List ℕ
  step_by t = let n = length (text_of (item_by t m b)) in cons_option (place_of size (item_by t m b, drop n b)) (rest_at n)

  step : record_places m comment size b ≡ step_by (is_comment comment b)
  step = ap (filter_map (place_of size)) (items_behind-step m comment b some)

  pub places-comment : is_comment comment b ≡ true → record_places m comment size b ≡ record_places m comment size (drop (length (text_of (item m comment b)) + 1) b)
  places-comment starts = step ∙ ap step_by starts ∙ sym (ap (λ t. rest_at (length (text_of (item_by t m b)))) starts)

  pub places-record : is_comment comment b ≡ false
      → record_places m comment size b ≡ (size - length b) ∷ record_places m comment size (drop (length (text_of (item m comment b)) + 1) b)
  places-record plain =
      let n = length (take (extent m b) b) in
      let fits : n ≤ length b = omega (arith, length-take (extent m b) b) in
      let whole : n + length (drop n b) ≡ length b = omega (arith, length-drop n b, fits) in
      step ∙ ap step_by plain
      ∙ ap (λ k. (size - k) ∷ rest_at n) whole
      ∙ sym (ap (λ t. (size - length b) ∷ rest_at (length (text_of (item_by t m b)))) plain)

pub places-none : (m : Marks) (comment : Option (List ℕ)) (size : ℕ) → record_places m comment size [] ≡ []
places-none m comment size = ap (filter_map (place_of size)) (items_behind-nil m comment)

-- ---- they rise

rise_within : (m : Marks) (comment : Option (List ℕ)) (size n : ℕ) (b : List ℕ) → length b ≤ n → length b ≤ size → Rise (size - length b) (record_places m comment size b)
rise_within m comment size n [] few fits = subst (Rise (size - 0)) (sym (places-none m comment size)) tt
rise_within m comment size zero (x ∷ b) few fits = absurd (omega arith)
rise_within m comment size (suc n) (x ∷ b) few fits =
    let k = length (text_of (item m comment (x ∷ b))) in
    let rest = drop (k + 1) (x ∷ b) in
    let shorter = length-drop (k + 1) (x ∷ b) in
    let others = rise_within m comment size n rest (omega (arith, shorter, few)) (omega (arith, shorter, fits)) in
    let behind = rise-from ((size - length (x ∷ b)) + 1) (size - length rest) (record_places m comment size rest) (omega (arith, shorter, fits)) others in
    by (is_comment comment (x ∷ b)) refl behind
  where
    by : (t : Bool) → is_comment comment (x ∷ b) ≡ t
        → Rise ((size - length (x ∷ b)) + 1) (record_places m comment size (drop (length (text_of (item m comment (x ∷ b))) + 1) (x ∷ b)))
        → Rise (size - length (x ∷ b)) (record_places m comment size (x ∷ b))
    by true e behind = subst (Rise (size - length (x ∷ b))) (sym (places-comment m comment size (x ∷ b) (omega arith) e)) (rise-from (size - length (x ∷ b)) ((size - length (x ∷ b)) + 1) _ (omega arith) behind)
    by false e behind = subst (Rise (size - length (x ∷ b))) (sym (places-record m comment size (x ∷ b) (omega arith) e)) (omega arith, behind)

pub places-rise : (m : Marks) (comment : Option (List ℕ)) (size : ℕ) (b : List ℕ) → length b ≤ size → Rise (size - length b) (record_places m comment size b)
places-rise m comment size b fits = rise_within m comment size (length b) b (omega arith) fits

-- ---- a record without a quote

-- how far the first line goes behind a place where no field goes on
abbrev tail_len : ℕ → List ℕ → ℕ
tail_len e [] = 0
tail_len e (y ∷ ys) = cond (y == e) 0 (1 + prefix_len (λ x. not (x == e)) ys)

abbrev line_by : ℕ → List ℕ → Bool → ℕ
line_by e xs is_e = cond (not is_e) (1 + prefix_len (λ y. not (y == e)) xs) 0

abbrev plain_by : Marks → List ℕ → Bool → Bool → ℕ
plain_by m xs is_s is_e = cond (not (is_s || is_e)) (1 + prefix_len (is_plain m) xs) 0

-- the first line is its first plain field, and what stands behind that
line-split : (m : Marks) (b : List ℕ) → prefix_len (λ x. not (x == m.line_end)) b ≡ prefix_len (is_plain m) b + tail_len m.line_end (drop (prefix_len (is_plain m) b) b)
line-split m [] = refl
line-split m (x ∷ xs) = by (x == m.separator) (x == m.line_end) refl refl (line-split m xs)
  where
    end_of : (c : Bool) → (x == m.line_end) ≡ c → tail_len m.line_end (x ∷ xs) ≡ cond c 0 (1 + prefix_len (λ y. not (y == m.line_end)) xs)
    end_of c e = ap (λ d. cond d 0 (1 + prefix_len (λ y. not (y == m.line_end)) xs)) e

    by : (s e : Bool) → (x == m.separator) ≡ s → (x == m.line_end) ≡ e
        → prefix_len (λ y. not (y == m.line_end)) xs ≡ prefix_len (is_plain m) xs + tail_len m.line_end (drop (prefix_len (is_plain m) xs) xs)
        → line_by m.line_end xs (x == m.line_end) ≡ plain_by m xs (x == m.separator) (x == m.line_end) + tail_len m.line_end (drop (plain_by m xs (x == m.separator) (x == m.line_end)) (x ∷ xs))
    by true true is_s is_e deeper =
        ap (line_by m.line_end xs) is_e ∙ sym (end_of true is_e)
        ∙ sym ((λ i. plain_by m xs (is_s i) (is_e i) + tail_len m.line_end (drop (plain_by m xs (is_s i) (is_e i)) (x ∷ xs))) ∙ omega arith)
    by false true is_s is_e deeper =
        ap (line_by m.line_end xs) is_e ∙ sym (end_of true is_e)
        ∙ sym ((λ i. plain_by m xs (is_s i) (is_e i) + tail_len m.line_end (drop (plain_by m xs (is_s i) (is_e i)) (x ∷ xs))) ∙ omega arith)
    by true false is_s is_e deeper =
        ap (line_by m.line_end xs) is_e ∙ sym (end_of false is_e)
        ∙ sym ((λ i. plain_by m xs (is_s i) (is_e i) + tail_len m.line_end (drop (plain_by m xs (is_s i) (is_e i)) (x ∷ xs))) ∙ omega arith)
    by false false is_s is_e deeper =
        let n = prefix_len (is_plain m) xs in
        let up : 1 + n ≡ suc n = omega arith in
        let cut : tail_len m.line_end (drop (1 + n) (x ∷ xs)) ≡ tail_len m.line_end (drop n xs) = ap (λ k. tail_len m.line_end (drop k (x ∷ xs))) up in
        let middle : 1 + prefix_len (λ y. not (y == m.line_end)) xs ≡ (1 + n) + tail_len m.line_end (drop (1 + n) (x ∷ xs)) = omega (arith, deeper, cut) in
        ap (line_by m.line_end xs) is_e ∙ middle
        ∙ sym (λ i. plain_by m xs (is_s i) (is_e i) + tail_len m.line_end (drop (plain_by m xs (is_s i) (is_e i)) (x ∷ xs)))

-- what stands behind the last field of a record begins no further line
tail-none : (m : Marks) (t : List ℕ) → is_stop m t ≡ true → behind m.separator t ≡ None → tail_len m.line_end t ≡ 0
tail-none m [] stop none = refl
tail-none m (x ∷ t) stop none = by (x == m.separator) (x == m.line_end) refl refl stop none
  where
    by : (s e : Bool) → (x == m.separator) ≡ s → (x == m.line_end) ≡ e → not (not (x == m.separator || x == m.line_end)) ≡ true → cond (x == m.separator) (Some t) None ≡ None → cond (x == m.line_end) 0 (1 + prefix_len (λ y. not (y == m.line_end)) t) ≡ 0
    by s true is_s is_e stop none = rw is_e refl
    by true false is_s is_e stop none = let some : cond true (Some t) None ≡ None = subst (λ c. cond c (Some t) None ≡ None) is_s none in absurd cc
    by false false is_s is_e stop none = let no : not (not (false || false)) ≡ true = subst (λ c. not (not (false || c)) ≡ true) is_e (subst (λ c. not (not (c || x == m.line_end)) ≡ true) is_s stop) in absurd cc

-- no quote stands in the first line
abbrev pub Lacks : Marks → List ℕ → Type 0
Lacks m b = (k : ℕ) → k < prefix_len (λ x. not (x == m.line_end)) b → is_quote m.quote (get_or b k 0) ≡ false

lacks-first : (m : Marks) (b : List ℕ) → AreDistinct m → Lacks m b → begins_quoted m.quote b ≡ false
lacks-first m [] distinct lacks = refl
lacks-first m (x ∷ xs) distinct lacks = by (x == m.line_end) refl
  where
    by : (e : Bool) → (x == m.line_end) ≡ e → is_quote m.quote x ≡ false
    by true e = is_quote-stop m.separator m.line_end m.quote x distinct.1 (by_sep (x == m.separator))
      where
        by_sep : (s : Bool) → not (s || x == m.line_end) ≡ false
        by_sep true = refl
        by_sep false = rw e refl
    by false e = lacks 0 (rw e (omega arith))

extent_within : (m : Marks) (n : ℕ) (b : List ℕ) → length b < n → AreDistinct m → Lacks m b → extent m b ≡ prefix_len (λ x. not (x == m.line_end)) b
extent_within m zero b short distinct lacks = absurd (omega arith)
extent_within m (suc n) b short distinct lacks = by_rest (behind m.separator (cut_field m b).1) refl (λ r less free. extent_within m n r less distinct free)
  where
    p : ℕ
    p = prefix_len (is_plain m) b

    cut : cut_field m b ≡ cut_plain m b
    cut = cut_field-plain m b (lacks-first m b distinct lacks)

    len : length (field m b) ≡ p
    len = ap (λ (c : List ℕ × List ℕ). length c.0) cut ∙ length-prefix_len (is_plain m) b

    left : (cut_field m b).1 ≡ drop p b
    left = ap (λ (c : List ℕ × List ℕ). c.1) cut

    line : prefix_len (λ x. not (x == m.line_end)) b ≡ p + tail_len m.line_end (cut_field m b).1
    line = line-split m b ∙ ap (λ t. p + tail_len m.line_end t) (sym left)

    by_rest : (o : Option (List ℕ)) → behind m.separator (cut_field m b).1 ≡ o
        → ((r : List ℕ) → length r < n → Lacks m r → extent m r ≡ prefix_len (λ x. not (x == m.line_end)) r)
        → extent m b ≡ prefix_len (λ x. not (x == m.line_end)) b
    by_rest None e deeper =
        let none = tail-none m (cut_field m b).1 (is_stop-cut_field m b) e in
        omega (arith, extent_last m b e, len, line, none)
    by_rest (Some r) e deeper =
        let rest : (cut_field m b).1 ≡ m.separator ∷ r = behind-some m.separator (cut_field m b).1 r e in
        let other : (m.separator == m.line_end) ≡ false = (let differs = distinct.0 in grind (arith, nat_tests)) in
        let tail : tail_len m.line_end (cut_field m b).1 ≡ 1 + prefix_len (λ x. not (x == m.line_end)) r =
        ap (tail_len m.line_end) rest ∙ ap (λ c. cond c 0 (1 + prefix_len (λ x. not (x == m.line_end)) r)) other in
        let byte : (k : ℕ) → get_or r k 0 ≡ get_or b (p + suc k) 0 = (λ k. ap (λ (l : List ℕ). get_or l (suc k) 0) (sym rest ∙ left) ∙ get_or-drop p b (suc k) 0) in
        let free : Lacks m r = (λ k inside. ap (is_quote m.quote) (byte k) ∙ lacks (p + suc k) (omega (arith, line, tail, inside))) in
        let shorter = behind-shorter m b r e in
        omega (arith, extent_more m b r e, len, line, tail, deeper r (omega (arith, shorter, short)) free)

-- a record in whose first line no quote stands is that line
pub extent-line : (m : Marks) (b : List ℕ) → AreDistinct m → Lacks m b → extent m b ≡ prefix_len (λ x. not (x == m.line_end)) b
extent-line m b distinct lacks = extent_within m (length b + 1) b (omega arith) distinct lacks

or-left : (s t : Bool) → (s || t) ≡ false → s ≡ false
or-left true t e = e
or-left false t e = refl

or-right : (s t : Bool) → (s || t) ≡ false → t ≡ false
or-right true t e = absurd (cc)
or-right false t e = e

-- a line up to a line end or the end, in which neither a line end nor a quote stands
module _ (e q : ℕ) (b : List ℕ) (n : ℕ) (fits : n ≤ length b) (before : (k : ℕ) → k < n → is_byte2 e q (get_or b k 0) ≡ false) where
  pub line-at : (n < length b → (get_or b n 0 == e) ≡ true) → n ≡ prefix_len (λ x. not (x == e)) b
  line-at at = sym (position_or_len_is (λ (x : ℕ). x == e) b n 0 fits (λ k less. or-left (get_or b k 0 == e) (get_or b k 0 == q) (before k less)) at)

  pub lacks-at : (k : ℕ) → k < n → (get_or b k 0 == q) ≡ false
  lacks-at k less = or-right (get_or b k 0 == e) (get_or b k 0 == q) (before k less)

pub lacks-none : (m : Marks) (b : List ℕ) → m.quote ≡ None → Lacks m b
lacks-none m b none k inside = ap (λ o. is_quote o (get_or b k 0)) none

pub lacks-some : (m : Marks) (b : List ℕ) (q n : ℕ) → m.quote ≡ Some q → n ≡ prefix_len (λ x. not (x == m.line_end)) b → ((k : ℕ) → k < n → (get_or b k 0 == q) ≡ false) → Lacks m b
lacks-some m b q n is len lacks k inside = ap (λ o. is_quote o (get_or b k 0)) is ∙ lacks k (omega (arith, len, inside))

-- ---- the steps of the loop

pub come-more : (m : Marks) (comment : Option (List ℕ)) (input : List ℕ) (start : ℕ) (groups now : Groups) (rest behind : List ℕ) (is_comment : Bool) (len place : ℕ) → 0 < length rest
    → is_comment ≡ scan.is_comment comment rest → len ≡ length (text_of (item m comment rest)) → place ≡ length input - length rest → behind ≡ drop (len + 1) rest
    → ((seen : List ℕ) → HasSeen groups seen → HasSeen now (seen ++ unless_comment is_comment place))
    → HasCome m comment input start groups rest → HasCome m comment input start now behind
come-more m comment input start groups now rest behind is_comment len place some is len_is at left more come = by is_comment is more
  where
    next : behind ≡ drop (length (text_of (item m comment rest)) + 1) rest
    next = left ∙ ap (λ k. drop (k + 1) rest) len_is

    short : length behind + 1 ≤ length rest
    short = omega (arith, ap length next, length-drop (length (text_of (item m comment rest)) + 1) rest, some)

    by : (t : Bool) → t ≡ scan.is_comment comment rest → ((seen : List ℕ) → HasSeen groups seen → HasSeen now (seen ++ unless_comment t place)) → HasCome m comment input start now behind
    by true starts more = record {
      seen = come.seen ++ [];
      has = more come.seen come.has;
      all = ap (λ s. s ++ record_places m comment (length input) behind) (append-nil come.seen)
          ∙ ap (λ r. come.seen ++ record_places m comment (length input) r) next
          ∙ sym (ap (λ r. come.seen ++ r) (places-comment m comment (length input) rest some (sym starts))) ∙ come.all;
      few = omega (arith, ap length (append-nil come.seen), short, come.few);
    }
    by false plain more = record {
      seen = come.seen ++ place ∷ [];
      has = more come.seen come.has;
      all = append_assoc come.seen (place ∷ []) (record_places m comment (length input) behind)
          ∙ (λ i. come.seen ++ at i ∷ record_places m comment (length input) (next i))
          ∙ sym (ap (λ r. come.seen ++ r) (places-record m comment (length input) rest some (sym plain))) ∙ come.all;
      few = omega (arith, length-append come.seen (place ∷ []), short, come.few);
    }

pub come-all : (m : Marks) (comment : Option (List ℕ)) (input : List ℕ) (start : ℕ) (groups : Groups) (rest : List ℕ) → rest ≡ [] → HasCome m comment input start groups rest
    → HasSeen groups (record_places m comment (length input) (drop start input))
come-all m comment input start groups rest none come =
    subst (HasSeen groups) (sym (append-nil come.seen) ∙ ap (λ r. come.seen ++ r) (sym (places-none m comment (length input))) ∙ sym (ap (λ r. come.seen ++ record_places m comment (length input) r) none) ∙ come.all) come.has

-- ---- the places so far

module _ (groups now : Groups) (place : ℕ) (every : now.every ≡ groups.every) (records : now.records ≡ groups.records + 1) (seen : List ℕ) (has : HasSeen groups seen) where
  pub seen-first : groups.wait ≡ 0 → now.wait ≡ groups.every - 1 → now.places.items ≡ groups.places.items ++ place ∷ [] → HasSeen now (seen ++ place ∷ [])
  seen-first none wait places = record {
    every = omega (arith, every, has.every);
    records = omega (arith, records, has.records, length-append seen (place ∷ []));
    places = places ∙ ap (λ ps. ps ++ place ∷ []) has.places ∙ sym (groups-first groups.every (length groups.places.items) groups.wait place seen has.every has.counted has.wait none)
        ∙ ap (λ e. group_places e (seen ++ place ∷ [])) (sym every);
    wait = omega (arith, wait, every, has.every);
    counted =
        let up = suc-mul (length groups.places.items) groups.every in
        let one : length now.places.items ≡ suc (length groups.places.items) = omega (arith, ap length places, length-append groups.places.items (place ∷ [])) in
        (λ i. one i * every i) ∙ omega (arith, up, has.counted, none, wait, has.every, length-append seen (place ∷ []));
  }

  pub seen-other : 0 < groups.wait → now.wait ≡ groups.wait - 1 → now.places.items ≡ groups.places.items → HasSeen now (seen ++ place ∷ [])
  seen-other some wait places = record {
    every = omega (arith, every, has.every);
    records = omega (arith, records, has.records, length-append seen (place ∷ []));
    places = places ∙ has.places ∙ sym (groups-other groups.every (length groups.places.items) groups.wait place seen has.every has.counted has.wait some)
        ∙ ap (λ e. group_places e (seen ++ place ∷ [])) (sym every);
    wait = omega (arith, wait, every, has.wait);
    counted = (λ i. length (places i) * every i) ∙ omega (arith, has.counted, wait, some, length-append seen (place ∷ []));
  }
