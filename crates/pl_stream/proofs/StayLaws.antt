-- A read of bytes, and of more: what is left of each step stays in front of what follows, or else nothing whole is left.
use Rattle.std.proofs.Common.{◌≡◌, ℕ, zero, suc, ◌+◌, ◌-◌, ◌<◌, ◌≤◌, Bool, true, false, cond, not, ◌&&◌, ◌||◌, ◌==◌, List, [], ◌∷◌, ◌++◌, length, take, drop, Option, None, Some, refl, sym, ◌∙◌, ap, subst, arith, inl, inr, append-nil, length-append, length-drop, nat_eq, nat_le, nat_lt}
use Rattle.std.specs.Prelude.{◌⊎◌, filter, unwrap_or}
use Rattle.std.specs.List.{prefix_len, filter_map}
use Rattle.std.specs.Option.{option_and_then}
use Rattle.std.proofs.lemmas.Bool.{cases_lt}
use Rattle.std.proofs.lemmas.Bool.Decides.{nat_tests}
use Rattle.std.proofs.lemmas.List.{drop_all, drop-append-le}
use Rattle.std.proofs.lemmas.List.Sums.{prefix_len-le-length}
use Rattle.pl_frame.specs.Dialect.{Marks, IsDialect, IsCommentPrefix}
use Rattle.pl_options.specs.declared.read_options.CsvReadOptions.{CsvReadOptions}
use Rattle.pl_options.specs.Text.{marks_of, comment_of}
use Rattle.pl_read.specs.Options.{keeps_ends, data_of}
use Rattle.pl_scan.specs.Comment.{is_comment}
use Rattle.pl_scan.specs.Items.{ItemText, text_of, item}
use Rattle.pl_scan.specs.Start.{skip_line, skip_lines, cut_ends, cut_head, cut_mark, behind_item, pass_items, pass_comments, pass_header, data_left}
use Rattle.pl_scan.proofs.AppendLaws.{prefix_len-front}
use Rattle.pl_scan.proofs.FieldLaws.{both_left, both_right}
use Rattle.pl_scan.proofs.StartLaws.{skip_line-some, pass_comments-turn, pass_comments-end}
use Rattle.pl_stream.specs.Settled.{has_lines, tells_head}
use Rattle.pl_stream.specs.Stream.{behind_header}
use Rattle.pl_stream.proofs.WholeLaws.{comment-stays, behind-stays, text-fits}
use Rattle.pl_stream.proofs.HeadLaws.{lines-step, mark-step}

-- ---- what is left

-- what is left of bytes stays in front of whatever follows
abbrev pub Stays : (List ℕ → Option (List ℕ)) → List ℕ → Type 0
Stays f b = (left : List ℕ) × (f b ≡ Some left) × ((more : List ℕ) → f (b ++ more) ≡ Some (left ++ more))

-- no line end stands behind the first item
abbrev pub IsBroken : Marks → Option (List ℕ) → List ℕ → Type 0
IsBroken m comment b = length (text_of (item m comment b)) ≡ length b

-- nothing is left, or nothing whole
abbrev pub IsStuck : Marks → Option (List ℕ) → Option (List ℕ) → Type 0
IsStuck m comment None = Unit {0}
IsStuck m comment (Some b) = IsBroken m comment b

abbrev pub Goes : Marks → Option (List ℕ) → (List ℕ → Option (List ℕ)) → List ℕ → Type 0
Goes m comment f b = Stays f b ⊎ IsStuck m comment (f b)

-- one step behind another
pub goes-on : (m : Marks) (comment : Option (List ℕ)) (f g : List ℕ → Option (List ℕ)) (b : List ℕ) → Goes m comment f b → ((l : List ℕ) → Goes m comment g l) → ((l : List ℕ) → IsBroken m comment l → IsStuck m comment (g l))
    → Goes m comment (λ l. option_and_then g (f l)) b
goes-on m comment f g b (inl (left, is, stays)) next stuck = by (next left)
  where
    by : Goes m comment g left → Goes m comment (λ l. option_and_then g (f l)) b
    by (inl (last, last_is, goes)) = inl (last, ap (option_and_then g) is ∙ last_is, λ more. ap (option_and_then g) (stays more) ∙ goes more)
    by (inr none) = inr (subst (λ o. IsStuck m comment (option_and_then g o)) (sym is) none)
goes-on m comment f g b (inr none) next stuck = inr (by (f b) none)
  where
    by : (o : Option (List ℕ)) → IsStuck m comment o → IsStuck m comment (option_and_then g o)
    by None none = tt
    by (Some l) none = stuck l none

module _ (m : Marks) (comment : Option (List ℕ)) (free : IsCommentPrefix m.line_end comment) where
  abbrev size : List ℕ → ℕ
  size b = length (text_of (item m comment b))

  fits : (b : List ℕ) → size b ≤ length b
  fits b = text-fits m comment b

  pub broken-nil : IsBroken m comment []
  broken-nil = omega (arith, fits [])

  gone : (b : List ℕ) → IsBroken m comment b → behind_item m comment b ≡ []
  gone b none = drop_all (size b + 1) b (omega (arith, none))

  -- ---- items

  pub items-stuck : (n : ℕ) (b : List ℕ) → IsBroken m comment b → IsStuck m comment (pass_items m comment n b)
  items-stuck zero b none = none
  items-stuck (suc n) [] none = tt
  items-stuck (suc n) (x ∷ xs) none = subst (λ l. IsStuck m comment (pass_items m comment n l)) (sym (gone (x ∷ xs) none)) (items-stuck n [] broken-nil)

  pub items-go : (n : ℕ) (b : List ℕ) → Goes m comment (pass_items m comment n) b
  items-go zero b = inl (b, refl, λ more. refl)
  items-go (suc n) [] = inr tt
  items-go (suc n) (x ∷ xs) = elim (cases_lt (size (x ∷ xs)) (length (x ∷ xs))) [
    | inl inside ↦ by inside (items-go n (behind_item m comment (x ∷ xs)))
    | inr past ↦ inr (items-stuck (suc n) (x ∷ xs) (let most = fits (x ∷ xs) in omega (arith, past, most)))
  ]
    where
      by : size (x ∷ xs) < length (x ∷ xs) → Goes m comment (pass_items m comment n) (behind_item m comment (x ∷ xs)) → Goes m comment (pass_items m comment (suc n)) (x ∷ xs)
      by inside (inl (left, is, stays)) = inl (left, is, λ more. ap (pass_items m comment n) (behind-stays m comment (x ∷ xs) more free inside) ∙ stays more)
      by inside (inr none) = inr none

  -- ---- comments

  pub comments-stuck : (b : List ℕ) → IsBroken m comment b → IsBroken m comment (pass_comments m comment b)
  comments-stuck [] none = none
  comments-stuck (x ∷ xs) none = by (is_comment comment (x ∷ xs)) refl
    where
      by : (t : Bool) → is_comment comment (x ∷ xs) ≡ t → IsBroken m comment (pass_comments m comment (x ∷ xs))
      by true is =
          let all : pass_comments m comment (x ∷ xs) ≡ [] = pass_comments-turn m comment (x ∷ xs) (omega arith) is ∙ ap (pass_comments m comment) (gone (x ∷ xs) none) in
          subst (IsBroken m comment) (sym all) broken-nil
      by false is = subst (IsBroken m comment) (sym (pass_comments-end m comment (x ∷ xs) is)) none

  comments_within : (n : ℕ) (b : List ℕ) → length b < n → Goes m comment (λ l. Some (pass_comments m comment l)) b
  comments_within zero b h = absurd (omega arith)
  comments_within (suc n) [] h = inr broken-nil
  comments_within (suc n) (x ∷ xs) h = elim (cases_lt (size (x ∷ xs)) (length (x ∷ xs))) [
    | inl inside ↦ by (is_comment comment (x ∷ xs)) refl inside (comments_within n (behind_item m comment (x ∷ xs)) (omega (arith, length-drop (size (x ∷ xs) + 1) (x ∷ xs))))
    | inr past ↦ inr (comments-stuck (x ∷ xs) (let most = fits (x ∷ xs) in omega (arith, past, most)))
  ]
    where
      by : (t : Bool) → is_comment comment (x ∷ xs) ≡ t → size (x ∷ xs) < length (x ∷ xs) → Goes m comment (λ l. Some (pass_comments m comment l)) (behind_item m comment (x ∷ xs))
          → Goes m comment (λ l. Some (pass_comments m comment l)) (x ∷ xs)
      by false is inside deeper =
          inl (x ∷ xs, ap (λ l. Some l) (pass_comments-end m comment (x ∷ xs) is), λ more. ap (λ l. Some l) (pass_comments-end m comment ((x ∷ xs) ++ more) (comment-stays m comment (x ∷ xs) more free inside ∙ is)))
      by true is inside (inl (left, left_is, stays)) =
          inl (
            left,
            ap (λ l. Some l) (pass_comments-turn m comment (x ∷ xs) (omega arith) is) ∙ left_is,
            λ more.
                ap (λ l. Some l) (pass_comments-turn m comment ((x ∷ xs) ++ more) (omega arith) (comment-stays m comment (x ∷ xs) more free inside ∙ is)
                ∙ ap (pass_comments m comment) (behind-stays m comment (x ∷ xs) more free inside)) ∙ stays more,
          )
      by true is inside (inr none) = inr (subst (IsBroken m comment) (sym (pass_comments-turn m comment (x ∷ xs) (omega arith) is)) none)

  pub comments-go : (b : List ℕ) → Goes m comment (λ l. Some (pass_comments m comment l)) b
  comments-go b = comments_within (length b + 1) b (omega arith)

  -- ---- the header

  pub header-stuck : (has : Bool) (b : List ℕ) → IsBroken m comment b → IsBroken m comment (pass_header has m comment b)
  header-stuck false b none = none
  header-stuck true [] none = none
  header-stuck true (x ∷ xs) none = subst (IsBroken m comment) (sym (gone (x ∷ xs) none)) broken-nil

  pub header-go : (has : Bool) (b : List ℕ) → Goes m comment (λ l. Some (pass_header has m comment l)) b
  header-go false b = inl (b, refl, λ more. refl)
  header-go true [] = inr broken-nil
  header-go true (x ∷ xs) = elim (cases_lt (size (x ∷ xs)) (length (x ∷ xs))) [
    | inl inside ↦ inl (behind_item m comment (x ∷ xs), refl, λ more. ap (λ l. Some l) (behind-stays m comment (x ∷ xs) more free inside))
    | inr past ↦ inr (header-stuck true (x ∷ xs) (let most = fits (x ∷ xs) in omega (arith, past, most)))
  ]

-- ---- the head

module _ (o : CsvReadOptions) where
  abbrev e : ℕ
  e = o.parse_options.eol_char

  -- lines that can be skipped
  pub lines-stay : (n : ℕ) (b more : List ℕ) → has_lines e n b ≡ true → skip_lines e n (b ++ more) ≡ skip_lines e n b ++ more
  lines-stay zero b more has = refl
  lines-stay (suc n) b more has =
      let k : ℕ = prefix_len (λ x. not (x == e)) b in
      let inside : k + 1 < length b = let test = both_left (nat_lt (k + 1) (length b)) (has_lines e n (skip_line e b)) has in grind (arith, nat_tests, test) in
      let next : skip_line e b ≡ drop (k + 1) b = skip_line-some e b k refl inside in
      lines-step o n b more k refl inside
      ∙ lines-stay n (drop (k + 1) b) more (ap (has_lines e n) (sym next) ∙ both_right (nat_lt (k + 1) (length b)) (has_lines e n (skip_line e b)) has)
      ∙ ap (λ l. skip_lines e n l ++ more) (sym next)

  -- and they can be in more
  pub lines-tell : (n : ℕ) (b more : List ℕ) → has_lines e n b ≡ true → has_lines e n (b ++ more) ≡ true
  lines-tell zero b more has = refl
  lines-tell (suc n) b more has =
      let k : ℕ = prefix_len (λ x. not (x == e)) b in
      let inside : k + 1 < length b = let test = both_left (nat_lt (k + 1) (length b)) (has_lines e n (skip_line e b)) has in grind (arith, nat_tests, test) in
      let next : skip_line e b ≡ drop (k + 1) b = skip_line-some e b k refl inside in
      let long : prefix_len (λ x. not (x == e)) (b ++ more) ≡ k = prefix_len-front (λ x. not (x == e)) b more (omega (arith, inside)) in
      let room : k + 1 < length (b ++ more) = omega (arith, inside, length-append b more) in
      let next_more : skip_line e (b ++ more) ≡ drop (k + 1) b ++ more = skip_line-some e (b ++ more) k long room ∙ drop-append-le (k + 1) b more (omega (arith, inside)) in
      let deeper : has_lines e n (drop (k + 1) b ++ more) ≡ true =
      lines-tell n (drop (k + 1) b) more (ap (has_lines e n) (sym next) ∙ both_right (nat_lt (k + 1) (length b)) (has_lines e n (skip_line e b)) has) in
      let test : nat_lt (k + 1) (length (b ++ more)) ≡ true = grind (arith, nat_tests, room) in
      ap (λ j. nat_lt (j + 1) (length (b ++ more)) && has_lines e n (skip_line e (b ++ more))) long
      ∙ ap (λ t. t && has_lines e n (skip_line e (b ++ more))) test ∙ ap (has_lines e n) next_more ∙ deeper

  pub tells-more : (b more : List ℕ) → tells_head o b ≡ true → tells_head o (b ++ more) ≡ true
  tells-more b more told =
      let four : nat_le 4 (length b) ≡ true = both_left (nat_le 4 (length b)) (has_lines e o.skip_lines b) told in
      let size : length (b ++ more) ≡ length b + length more = length-append b more in
      let many : nat_le 4 (length (b ++ more)) ≡ true = grind (arith, nat_tests, four, size) in
      ap (λ t. t && has_lines e o.skip_lines (b ++ more)) many ∙ lines-tell o.skip_lines b more (both_right (nat_le 4 (length b)) (has_lines e o.skip_lines b) told)

  -- the text behind skipped lines or a byte order mark
  abbrev text_by : Bool → List ℕ → List ℕ
  text_by t l = cond t (cut_mark l) (skip_lines e o.skip_lines l)

  text-stays : (b more : List ℕ) → tells_head o b ≡ true → text_by (o.skip_lines == 0) (b ++ more) ≡ text_by (o.skip_lines == 0) b ++ more
  text-stays b more told = by (o.skip_lines == 0)
    where
      by : (t : Bool) → text_by t (b ++ more) ≡ text_by t b ++ more
      by true = mark-step o b more (let four = both_left (nat_le 4 (length b)) (has_lines e o.skip_lines b) told in grind (arith, nat_tests, four))
      by false = lines-stay o.skip_lines b more (both_right (nat_le 4 (length b)) (has_lines e o.skip_lines b) told)

  module _ (m : Marks) (comment : Option (List ℕ)) (free : IsCommentPrefix m.line_end comment) where
    abbrev is_end : ℕ → Bool
    is_end x = x == e || x == 13

    ends-go : (keep : Bool) (text b : List ℕ) → (whole : List ℕ → List ℕ) → whole b ≡ text → ((more : List ℕ) → whole (b ++ more) ≡ text ++ more)
        → Goes m comment (λ l. Some (cond keep (whole l) (cut_ends e (whole l)))) b
    ends-go true text b whole is stays = inl (text, ap (λ l. Some l) is, λ more. ap (λ l. Some l) (stays more))
    ends-go false text b whole is stays = elim (cases_lt (prefix_len is_end text) (length text)) [
      | inl inside ↦ inl (
        cut_ends e text,
        ap (λ l. Some (cut_ends e l)) is,
        λ more.
            ap (λ l. Some (cut_ends e l)) (stays more)
            ∙ ap (λ l. Some l) (ap (λ k. drop k (text ++ more)) (prefix_len-front is_end text more inside) ∙ drop-append-le (prefix_len is_end text) text more (omega (arith, inside))),
      )
      | inr past ↦ inr (subst (IsBroken m comment) (sym (ap (cut_ends e) is ∙ drop_all (prefix_len is_end text) text (omega (arith, past)))) (broken-nil m comment free))
    ]

    pub head-goes : (b : List ℕ) → tells_head o b ≡ true → Goes m comment (λ l. Some (cut_head o.skip_lines (keeps_ends o) e l)) b
    head-goes b told = ends-go (keeps_ends o) (text_by (o.skip_lines == 0) b) b (text_by (o.skip_lines == 0)) refl (λ more. text-stays b more told)

  data-is : (l : List ℕ) → data_of o l ≡ option_and_then (behind_header o) (pass_items (marks_of o.parse_options) (comment_of o.parse_options) o.skip_rows (cut_head o.skip_lines (keeps_ends o) e l))
  unfolding data_left
  data-is l = refl

  -- ---- all steps

  module _ (apart : IsDialect (marks_of o.parse_options) (comment_of o.parse_options)) where
    abbrev m : Marks
    m = marks_of o.parse_options

    abbrev comment : Option (List ℕ)
    comment = comment_of o.parse_options

    tail-go : (l : List ℕ) → Goes m comment (behind_header o) l
    tail-go l =
        goes-on m comment (λ b. Some (pass_header o.has_header m comment (pass_comments m comment b))) (pass_items m comment o.skip_rows_after_header) l
        (goes-on m comment (λ b. Some (pass_comments m comment b)) (λ b. Some (pass_header o.has_header m comment b)) l
        (comments-go m comment apart.prefix l) (header-go m comment apart.prefix o.has_header) (header-stuck m comment apart.prefix o.has_header))
        (items-go m comment apart.prefix o.skip_rows_after_header) (items-stuck m comment apart.prefix o.skip_rows_after_header)

    pub tail-stuck : (l : List ℕ) → IsBroken m comment l → IsStuck m comment (behind_header o l)
    tail-stuck l none = items-stuck m comment apart.prefix o.skip_rows_after_header _ (header-stuck m comment apart.prefix o.has_header _ (comments-stuck m comment apart.prefix l none))

    rows-go : (l : List ℕ) → Goes m comment (λ b. option_and_then (behind_header o) (pass_items m comment o.skip_rows b)) l
    rows-go l = goes-on m comment (pass_items m comment o.skip_rows) (behind_header o) l (items-go m comment apart.prefix o.skip_rows l) tail-go tail-stuck

    pub stuck-items : (n : ℕ) (l : List ℕ) → IsBroken m comment l → IsStuck m comment (option_and_then (behind_header o) (pass_items m comment n l))
    stuck-items n l none = by (pass_items m comment n l) (items-stuck m comment apart.prefix n l none)
      where
        by : (given : Option (List ℕ)) → IsStuck m comment given → IsStuck m comment (option_and_then (behind_header o) given)
        by None none = tt
        by (Some b) none = tail-stuck b none

    rows-stuck : (l : List ℕ) → IsBroken m comment l → IsStuck m comment (option_and_then (behind_header o) (pass_items m comment o.skip_rows l))
    rows-stuck l none = stuck-items o.skip_rows l none

    -- the data of bytes whose head is told stay in front of whatever follows, or nothing whole is left
    pub data-goes : (b : List ℕ) → tells_head o b ≡ true → Goes m comment (data_of o) b
    data-goes b told =
        by (goes-on m comment (λ l. Some (cut_head o.skip_lines (keeps_ends o) e l)) (λ l. option_and_then (behind_header o) (pass_items m comment o.skip_rows l)) b
        (head-goes m comment apart.prefix b told) rows-go rows-stuck)
      where
        by : Goes m comment (λ l. option_and_then (behind_header o) (pass_items m comment o.skip_rows (cut_head o.skip_lines (keeps_ends o) e l))) b → Goes m comment (data_of o) b
        by (inl (left, is, stays)) = inl (left, data-is b ∙ is, λ more. data-is (b ++ more) ∙ stays more)
        by (inr none) = inr (subst (IsStuck m comment) (sym (data-is b)) none)
