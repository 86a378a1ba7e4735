-- The laws of the place where the data begins.
use Rattle.std.proofs.Common.{◌≡◌, ℕ, zero, suc, ◌+◌, ◌-◌, ◌<◌, ◌≤◌, Bool, true, false, not, ◌||◌, ◌==◌, cond, List, [], ◌∷◌, length, drop, refl, sym, ◌∙◌, ap, arith, length-drop, drop-drop, nat_eq, inl, inr}
use Rattle.std.specs.Prelude.{Option, None, Some}
use Rattle.std.specs.List.{prefix_len, starts_with}
use Rattle.std.specs.Option.{option_and_then}
use Rattle.std.proofs.lemmas.Bool.{cases_lt}
use Rattle.std.proofs.lemmas.List.{drop_all}
use Rattle.pl_frame.specs.Dialect.{Marks}
use Rattle.pl_frame.specs.ByteOrderMark.{byte_order_mark}
use Rattle.pl_scan.specs.Comment.{is_comment}
use Rattle.pl_scan.specs.Items.{ItemText, text_of, item}
use Rattle.pl_scan.specs.Start.{unless_empty, skip_line, skip_lines, cut_ends, behind_item, pass_items, pass_comments, pass_comments_within, pass_header, cut_mark, cut_head, Skips, data_left}

unless_empty-some : (b l : List ℕ) → 0 < length l → unless_empty b l ≡ l
unless_empty-some b [] h = absurd (omega arith)
unless_empty-some b (x ∷ l) h = refl

pub skip_line-some : (e : ℕ) (b : List ℕ) (n : ℕ) → prefix_len (λ x. not (x == e)) b ≡ n → n + 1 < length b → skip_line e b ≡ drop (n + 1) b
skip_line-some e b n is inside = ap (λ k. unless_empty b (drop (k + 1) b)) is ∙ unless_empty-some b (drop (n + 1) b) (omega (arith, length-drop (n + 1) b))

pub skip_line-none : (e : ℕ) (b : List ℕ) (n : ℕ) → prefix_len (λ x. not (x == e)) b ≡ n → length b ≤ n + 1 → skip_line e b ≡ b
skip_line-none e b n is past = ap (λ k. unless_empty b (drop (k + 1) b)) is ∙ ap (unless_empty b) (drop_all (n + 1) b past)

pub skip_lines-fixed : (e n : ℕ) (b : List ℕ) → skip_line e b ≡ b → skip_lines e n b ≡ b
skip_lines-fixed e zero b is = refl
skip_lines-fixed e (suc n) b is = ap (skip_lines e n) is ∙ skip_lines-fixed e n b is

-- one turn of a loop over i below n
pub skip_lines-turn : (e n i : ℕ) (b : List ℕ) → i < n → skip_lines e (n - i) b ≡ skip_lines e (n - (i + 1)) (skip_line e b)
skip_lines-turn e n i b h = let more : n - i ≡ suc (n - (i + 1)) = omega arith in ap (λ k. skip_lines e k b) more

pub pass_items-turn : (m : Marks) (comment : Option (List ℕ)) (n i : ℕ) (b : List ℕ) → i < n → 0 < length b → pass_items m comment (n - i) b ≡ pass_items m comment (n - (i + 1)) (behind_item m comment b)
pass_items-turn m comment n i [] h some = absurd (omega arith)
pass_items-turn m comment n i (x ∷ xs) h some = let more : n - i ≡ suc (n - (i + 1)) = omega arith in ap (λ k. pass_items m comment k (x ∷ xs)) more

-- ---- comments

comments-enough : (m : Marks) (comment : Option (List ℕ)) (n k : ℕ) (b : List ℕ) → length b ≤ n → length b ≤ k → pass_comments_within m comment n b ≡ pass_comments_within m comment k b
comments-enough m comment zero zero b _ _ = refl
comments-enough m comment zero (suc k) [] _ _ = refl
comments-enough m comment zero (suc k) (x ∷ xs) h _ = absurd (omega arith)
comments-enough m comment (suc n) zero [] _ _ = refl
comments-enough m comment (suc n) zero (x ∷ xs) _ h = absurd (omega arith)
comments-enough m comment (suc n) (suc k) [] _ _ = refl
comments-enough m comment (suc n) (suc k) (x ∷ xs) h i =
    let len = length (text_of (item m comment (x ∷ xs))) in
    by_test (is_comment comment (x ∷ xs)) (comments-enough m comment n k (behind_item m comment (x ∷ xs)) (omega (arith, length-drop (len + 1) (x ∷ xs))) (omega (arith, length-drop (len + 1) (x ∷ xs))))
  where
    by_test : (t : Bool) → pass_comments_within m comment n (behind_item m comment (x ∷ xs)) ≡ pass_comments_within m comment k (behind_item m comment (x ∷ xs))
        → ◌≡◌ {A = List ℕ} (elim t [ true ↦ pass_comments_within m comment n (behind_item m comment (x ∷ xs)) | false ↦ x ∷ xs ])
        (elim t [ true ↦ pass_comments_within m comment k (behind_item m comment (x ∷ xs)) | false ↦ x ∷ xs ])
    by_test true e = e
    by_test false _ = refl

pub pass_comments-turn : (m : Marks) (comment : Option (List ℕ)) (b : List ℕ) → 0 < length b → is_comment comment b ≡ true → pass_comments m comment b ≡ pass_comments m comment (behind_item m comment b)
pass_comments-turn m comment [] some _ = absurd (omega arith)
pass_comments-turn m comment (x ∷ xs) some is =
    let len = length (text_of (item m comment (x ∷ xs))) in
    let left = behind_item m comment (x ∷ xs) in
    chosen is ∙ comments-enough m comment (length xs) (length left) left (omega (arith, length-drop (len + 1) (x ∷ xs))) (omega arith)
  where
    chosen : is_comment comment (x ∷ xs) ≡ true → pass_comments m comment (x ∷ xs) ≡ pass_comments_within m comment (length xs) (behind_item m comment (x ∷ xs))
    chosen is = ap (λ (t : Bool). elim t as (λ _. List ℕ) [ true ↦ pass_comments_within m comment (length xs) (behind_item m comment (x ∷ xs)) | false ↦ x ∷ xs ]) is

pub pass_comments-end : (m : Marks) (comment : Option (List ℕ)) (b : List ℕ) → is_comment comment b ≡ false → pass_comments m comment b ≡ b
pass_comments-end m comment [] _ = refl
pass_comments-end m comment (x ∷ xs) is =
    ap (λ (t : Bool). elim t as (λ _. List ℕ) [ true ↦ pass_comments_within m comment (length xs) (behind_item m comment (x ∷ xs)) | false ↦ x ∷ xs ]) is

pub cut_ends-stop : (e x : ℕ) (b : List ℕ) → (x == e || x == 13) ≡ false → cut_ends e (x ∷ b) ≡ x ∷ b
cut_ends-stop e x b is = rw is refl

-- what a loop leaves behind an item
pub behind_item-is : (m : Marks) (comment : Option (List ℕ)) (b : List ℕ) (first : ItemText) (n : ℕ) (rest : List ℕ) → first ≡ item m comment b → n ≡ length (text_of first) → rest ≡ drop (n + 1) b
    → rest ≡ behind_item m comment b
behind_item-is m comment b first n rest is len left = left ∙ ap (λ k. drop (k + 1) b) (len ∙ ap (λ (f : ItemText). length (text_of f)) is)

some-same : (b r : List ℕ) → ◌≡◌ {A = Option (List ℕ)} (Some b) (Some r) → b ≡ r
some-same b r is = cc

-- ---- what is left, behind the skipped rows

pub data_left-none : (o : Skips) (keep : Bool) (m : Marks) (comment : Option (List ℕ)) (b : List ℕ) → pass_items m comment o.rows (cut_head o.lines keep m.line_end b) ≡ None
    → data_left o keep m comment b ≡ None
unfolding data_left
data_left-none o keep m comment b is =
    ap (option_and_then (λ rest. pass_items m comment o.after_header (pass_header o.has_header m comment (pass_comments m comment rest)))) is

pub data_left-some : (o : Skips) (keep : Bool) (m : Marks) (comment : Option (List ℕ)) (b rest : List ℕ) → pass_items m comment o.rows (cut_head o.lines keep m.line_end b) ≡ Some rest
    → data_left o keep m comment b ≡ pass_items m comment o.after_header (pass_header o.has_header m comment (pass_comments m comment rest))
unfolding data_left
data_left-some o keep m comment b rest is =
    ap (option_and_then (λ rest. pass_items m comment o.after_header (pass_header o.has_header m comment (pass_comments m comment rest)))) is

-- ---- what is left is an end of the text

-- the second list is what some number of bytes at the front of the first leave
abbrev pub IsEndOf : List ℕ → List ℕ → Type 0
IsEndOf b r = (n : ℕ) × (drop n b ≡ r)

IsEndOf-trans : (b r t : List ℕ) → IsEndOf b r → IsEndOf r t → IsEndOf b t
IsEndOf-trans b r t first second = (first.0 + second.0, sym (drop-drop second.0 first.0 b) ∙ ap (drop second.0) first.1 ∙ second.1)

IsEndOf-unless_empty : (b l : List ℕ) → IsEndOf b l → IsEndOf b (unless_empty b l)
IsEndOf-unless_empty b [] _ = (0, refl)
IsEndOf-unless_empty b (x ∷ l) is = is

IsEndOf-skip_lines : (e n : ℕ) (b : List ℕ) → IsEndOf b (skip_lines e n b)
IsEndOf-skip_lines e zero b = (0, refl)
IsEndOf-skip_lines e (suc n) b =
    let line = IsEndOf-unless_empty b (drop (prefix_len (λ x. not (x == e)) b + 1) b) (prefix_len (λ x. not (x == e)) b + 1, refl) in
    IsEndOf-trans b (skip_line e b) (skip_lines e n (skip_line e b)) line (IsEndOf-skip_lines e n (skip_line e b))

-- one of two ends
IsEndOf-cond : (t : Bool) (b r s : List ℕ) → IsEndOf b r → IsEndOf b s → IsEndOf b (cond t r s)
IsEndOf-cond true b r s is _ = is
IsEndOf-cond false b r s _ is = is

IsEndOf-cut_head : (lines : ℕ) (keep : Bool) (e : ℕ) (b : List ℕ) → IsEndOf b (cut_head lines keep e b)
IsEndOf-cut_head lines keep e b =
    let text = cond (lines == 0) (cut_mark b) (skip_lines e lines b) in
    let mark = IsEndOf-cond (starts_with nat_eq b byte_order_mark) b (drop 3 b) b (3, refl) (0, refl) in
    let whole = IsEndOf-cond (lines == 0) b (cut_mark b) (skip_lines e lines b) mark (IsEndOf-skip_lines e lines b) in
    IsEndOf-cond keep b text (cut_ends e text) whole (IsEndOf-trans b text (cut_ends e text) whole (prefix_len (λ x. x == e || x == 13) text, refl))

IsEndOf-behind_item : (m : Marks) (comment : Option (List ℕ)) (b : List ℕ) → IsEndOf b (behind_item m comment b)
IsEndOf-behind_item m comment b = (length (text_of (item m comment b)) + 1, refl)

IsEndOf-pass_items : (m : Marks) (comment : Option (List ℕ)) (n : ℕ) (b r : List ℕ) → pass_items m comment n b ≡ Some r → IsEndOf b r
IsEndOf-pass_items m comment zero b r is = (0, some-same b r is)
IsEndOf-pass_items m comment (suc n) [] r is = cc
IsEndOf-pass_items m comment (suc n) (x ∷ xs) r is =
    let next = behind_item m comment (x ∷ xs) in
    IsEndOf-trans (x ∷ xs) next r (IsEndOf-behind_item m comment (x ∷ xs)) (IsEndOf-pass_items m comment n next r is)

IsEndOf-comments : (m : Marks) (comment : Option (List ℕ)) (n : ℕ) (b : List ℕ) → IsEndOf b (pass_comments_within m comment n b)
IsEndOf-comments m comment zero b = (0, refl)
IsEndOf-comments m comment (suc n) [] = (0, refl)
IsEndOf-comments m comment (suc n) (x ∷ xs) = by_test (is_comment comment (x ∷ xs)) (IsEndOf-comments m comment n (behind_item m comment (x ∷ xs)))
  where
    by_test : (t : Bool) → IsEndOf (behind_item m comment (x ∷ xs)) (pass_comments_within m comment n (behind_item m comment (x ∷ xs)))
        → IsEndOf (x ∷ xs) (elim t [ true ↦ pass_comments_within m comment n (behind_item m comment (x ∷ xs)) | false ↦ x ∷ xs ])
    by_test true is =
        let next = behind_item m comment (x ∷ xs) in
        IsEndOf-trans (x ∷ xs) next (pass_comments_within m comment n next) (IsEndOf-behind_item m comment (x ∷ xs)) is
    by_test false _ = (0, refl)

IsEndOf-pass_header : (has_header : Bool) (m : Marks) (comment : Option (List ℕ)) (b : List ℕ) → IsEndOf b (pass_header has_header m comment b)
IsEndOf-pass_header has_header m comment [] = IsEndOf-cond has_header [] [] [] (0, refl) (0, refl)
IsEndOf-pass_header has_header m comment (x ∷ xs) =
    IsEndOf-cond has_header (x ∷ xs) (behind_item m comment (x ∷ xs)) (x ∷ xs) (IsEndOf-behind_item m comment (x ∷ xs)) (0, refl)

pub IsEndOf-data_left : (o : Skips) (keep : Bool) (m : Marks) (comment : Option (List ℕ)) (b r : List ℕ) → data_left o keep m comment b ≡ Some r → IsEndOf b r
unfolding data_left
IsEndOf-data_left o keep m comment b r is = by_rest (pass_items m comment o.rows (cut_head o.lines keep m.line_end b)) refl is
  where
    by_rest : (some : Option (List ℕ)) → pass_items m comment o.rows (cut_head o.lines keep m.line_end b) ≡ some
        → option_and_then (λ rest. pass_items m comment o.after_header (pass_header o.has_header m comment (pass_comments m comment rest))) some ≡ Some r
        → IsEndOf b r
    by_rest None _ is = cc
    by_rest (Some rest) e is =
        let head = cut_head o.lines keep m.line_end b in
        let body = pass_comments m comment rest in
        let behind = pass_header o.has_header m comment body in
        let one = IsEndOf-trans b head rest (IsEndOf-cut_head o.lines keep m.line_end b) (IsEndOf-pass_items m comment o.rows head rest e) in
        let two = IsEndOf-trans b rest body one (IsEndOf-comments m comment (length rest) rest) in
        let three = IsEndOf-trans b body behind two (IsEndOf-pass_header o.has_header m comment body) in
        IsEndOf-trans b behind r three (IsEndOf-pass_items m comment o.after_header behind r is)

-- an end is no longer than the list, and begins where so many bytes are left
pub IsEndOf-place : (b r : List ℕ) → IsEndOf b r → (length r ≤ length b) × (drop (length b - length r) b ≡ r)
IsEndOf-place b r is =
    let len : length r ≡ length b - is.0 = sym (ap length is.1) ∙ length-drop is.0 b in (
      omega arith,
      elim (cases_lt is.0 (length b)) [
        | inl inside ↦ ap (λ n. drop n b) (let same : length b - length r ≡ is.0 = omega arith in same) ∙ is.1
        | inr past ↦
            let all : length b - length r ≡ length b = omega arith in
            ap (λ n. drop n b) all ∙ drop_all (length b) b (omega arith) ∙ sym (drop_all is.0 b past) ∙ is.1
      ],
    )
