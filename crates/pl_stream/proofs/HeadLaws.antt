-- The steps of the way to the records.
use Rattle.std.proofs.Common.{◌≡◌, ℕ, zero, suc, ◌+◌, ◌-◌, ◌<◌, ◌≤◌, Bool, true, false, cond, not, ◌&&◌, ◌||◌, ◌==◌, List, [], ◌∷◌, ◌++◌, length, take, drop, refl, sym, ◌∙◌, ap, subst, arith, append_assoc, length-append, length-drop, drop-drop, nat_eq, nat_lt}
use Rattle.std.specs.Prelude.{Option}
use Rattle.std.specs.List.{prefix_len, starts_with}
use Rattle.std.specs.Option.{option_and_then}
use Rattle.std.proofs.lemmas.Bool.Decides.{nat_tests}
use Rattle.std.proofs.lemmas.List.{drop-append-le, drop_all, take-append-drop}
use Rattle.std.proofs.lemmas.List.Sums.{prefix_len-le-length}
use Rattle.pl_frame.specs.ByteOrderMark.{byte_order_mark}
use Rattle.pl_frame.specs.Dialect.{IsDialect}
use Rattle.pl_options.specs.declared.read_options.CsvReadOptions.{CsvReadOptions}
use Rattle.pl_options.specs.Text.{marks_of, comment_of}
use Rattle.pl_read.specs.Options.{keeps_ends, data_of}
use Rattle.pl_scan.specs.Comment.{is_comment}
use Rattle.pl_scan.specs.Items.{text_of, item}
use Rattle.pl_scan.specs.Start.{unless_empty, skip_line, skip_lines, cut_ends, cut_mark, behind_item, pass_items, pass_comments, pass_header, data_left}
use Rattle.pl_scan.proofs.AppendLaws.{prefix_len-front}
use Rattle.pl_scan.proofs.StartLaws.{skip_line-some, pass_comments-turn, pass_comments-end}
use Rattle.pl_stream.specs.Head.{IsReached}
use Rattle.pl_stream.specs.Settled.{has_lines}
use Rattle.pl_stream.specs.Stream.{behind_header, behind_items, behind_ends, data_at, unless_kept, head_at, lines_at}
use Rattle.pl_stream.specs.Whole.{AreWholeItems}
use Rattle.pl_stream.specs.declared.head.Reached.{Reached}
use Rattle.pl_stream.specs.declared.place.Place.{Place}
use Rattle.pl_stream.specs.declared.place.Place.TheVariants as place
use Rattle.pl_stream.proofs.WholeItemLaws.{whole-nil, whole-item, whole-append}
use Rattle.pl_stream.proofs.WholeLaws.{drop-one, comment-stays, behind-stays}

-- the number of bytes of the first item
abbrev pub size_in : CsvReadOptions → List ℕ → ℕ
size_in o b = length (text_of (item (marks_of o.parse_options) (comment_of o.parse_options) b))

module _ (o : CsvReadOptions) (dialect : IsDialect (marks_of o.parse_options) (comment_of o.parse_options)) where
  abbrev size : List ℕ → ℕ
  size b = size_in o b

  -- ---- items

  pub items-step : (n : ℕ) (b more : List ℕ) → size b < length b → pass_items (marks_of o.parse_options) (comment_of o.parse_options) (suc n) (b ++ more)
      ≡ pass_items (marks_of o.parse_options) (comment_of o.parse_options) n (drop (size b + 1) b ++ more)
  items-step n [] more within = absurd (omega arith)
  items-step n (x ∷ xs) more within =
      ap (pass_items (marks_of o.parse_options) (comment_of o.parse_options) n) (behind-stays (marks_of o.parse_options) (comment_of o.parse_options) (x ∷ xs) more dialect.prefix within)

  -- a comment in front of the header
  pub comment-step : (b more : List ℕ) → size b < length b → is_comment (comment_of o.parse_options) b ≡ true → behind_header o (b ++ more) ≡ behind_header o (drop (size b + 1) b ++ more)
  comment-step b more within is =
      let m = marks_of o.parse_options in
      let comment = comment_of o.parse_options in
      let there = comment-stays m comment b more dialect.prefix within ∙ is in
      ap (λ l. pass_items m comment o.skip_rows_after_header (pass_header o.has_header m comment l))
      (pass_comments-turn m comment (b ++ more) (omega (arith, length-append b more)) there
      ∙ ap (pass_comments m comment) (behind-stays m comment b more dialect.prefix within))

  -- the header, or where there is none the first item
  pub header-step : (b more : List ℕ) → size b < length b → is_comment (comment_of o.parse_options) b ≡ false
      → behind_header o (b ++ more) ≡ pass_items (marks_of o.parse_options) (comment_of o.parse_options) o.skip_rows_after_header (drop (cond o.has_header (size b + 1) 0) b ++ more)
  header-step [] more within none = absurd (omega arith)
  header-step (x ∷ xs) more within none =
      let m = marks_of o.parse_options in
      let comment = comment_of o.parse_options in
      let b : List ℕ = x ∷ xs in
      let there = comment-stays m comment b more dialect.prefix within ∙ none in
      ap (λ l. pass_items m comment o.skip_rows_after_header (pass_header o.has_header m comment l)) (pass_comments-end m comment (b ++ more) there)
      ∙ ap (pass_items m comment o.skip_rows_after_header) (by o.has_header)
    where
      by : (t : Bool) → pass_header t (marks_of o.parse_options) (comment_of o.parse_options) ((x ∷ xs) ++ more) ≡ drop (cond t (size (x ∷ xs) + 1) 0) (x ∷ xs) ++ more
      by true = behind-stays (marks_of o.parse_options) (comment_of o.parse_options) (x ∷ xs) more dialect.prefix within
      by false = refl

  -- ---- the same, as places that are reached

  -- an item with its line end is let go
  one-item : (len : ℕ) (b : List ℕ) → len ≡ size_in o b + 1 → len ≤ length b → AreWholeItems o.parse_options (take len b)
  one-item len b is fits = subst (λ n. AreWholeItems o.parse_options (take n b)) (sym is) (whole-item o.parse_options b dialect (omega (arith, is, fits)))

  split-at : (at : ℕ) (b more : List ℕ) → b ++ more ≡ take at b ++ (drop at b ++ more)
  split-at at b more = ap (λ l. l ++ more) (sym (take-append-drop at b)) ∙ append_assoc (take at b) (drop at b) more

  header-items : (t : Bool) (len : ℕ) (b : List ℕ) → len ≡ size_in o b + 1 → len ≤ length b → AreWholeItems o.parse_options (take (cond t len 0) b)
  header-items true len b is fits = one-item len b is fits
  header-items false len b is fits = whole-nil o.parse_options

  pub reach_rows : (left len : ℕ) (b : List ℕ) → 0 < left → len ≡ size_in o b + 1 → len ≤ length b → IsReached o (place.Rows left) b (record { place = place.Rows (left - 1); at = len })
  reach_rows left len b some is fits =
      let more_left : left ≡ suc (left - 1) = omega arith in
      record {
        within = fits;
        stays = λ more. ap (λ n. behind_items o n (b ++ more)) more_left
            ∙ ap (option_and_then (behind_header o)) (items-step (left - 1) b more (omega arith)) ∙ ap (λ k. behind_items o (left - 1) (drop k b ++ more)) (sym is);
        lines = λ more. refl;
        items = take len b;
        whole = one-item len b is fits;
        head = λ more. split-at len b more;
      }

  pub reach_behind : (left len : ℕ) (b : List ℕ) → 0 < left → len ≡ size_in o b + 1 → len ≤ length b → IsReached o (place.Behind left) b (record { place = place.Behind (left - 1); at = len })
  reach_behind left len b some is fits =
      let m = marks_of o.parse_options in
      let comment = comment_of o.parse_options in
      let more_left : left ≡ suc (left - 1) = omega arith in
      record {
        within = fits;
        stays = λ more. ap (λ n. pass_items m comment n (b ++ more)) more_left
            ∙ items-step (left - 1) b more (omega arith) ∙ ap (λ k. pass_items m comment (left - 1) (drop k b ++ more)) (sym is);
        lines = λ more. refl;
        items = take len b;
        whole = one-item len b is fits;
        head = λ more. split-at len b more;
      }

  pub reach_comment : (len : ℕ) (b : List ℕ) → len ≡ size_in o b + 1 → len ≤ length b → is_comment (comment_of o.parse_options) b ≡ true → IsReached o place.Header b (record { place = place.Header; at = len })
  reach_comment len b is fits there = record {
    within = fits;
    stays = λ more. comment-step b more (omega arith) there ∙ ap (λ k. behind_header o (drop k b ++ more)) (sym is);
    lines = λ more. refl;
    items = take len b;
    whole = one-item len b is fits;
    head = λ more. split-at len b more;
  }

  pub reach_header : (len at : ℕ) (b : List ℕ) → len ≡ size_in o b + 1 → len ≤ length b → is_comment (comment_of o.parse_options) b ≡ false → at ≡ cond o.has_header len 0 → at ≤ length b
      → IsReached o place.Header b (record { place = place.Behind o.skip_rows_after_header; at = at })
  reach_header len at b is fits none at_is within = record {
    within = within;
    stays = λ more. header-step b more (omega arith) none
        ∙ ap (λ k. pass_items (marks_of o.parse_options) (comment_of o.parse_options) o.skip_rows_after_header (drop (cond o.has_header k 0) b ++ more)) (sym is)
        ∙ ap (λ k. pass_items (marks_of o.parse_options) (comment_of o.parse_options) o.skip_rows_after_header (drop k b ++ more)) (sym at_is);
    lines = λ more. refl;
    items = take at b;
    whole = subst (λ n. AreWholeItems o.parse_options (take n b)) (sym at_is) (header-items o.has_header len b is fits);
    head = λ more. split-at at b more;
  }

module _ (o : CsvReadOptions) where
  abbrev e : ℕ
  e = o.parse_options.eol_char

  -- ---- leading line ends

  abbrev is_end : ℕ → Bool
  is_end x = x == e || x == 13

  all-pass : (p : ℕ → Bool) (b more : List ℕ) → prefix_len p b ≡ length b → drop (prefix_len p (b ++ more)) (b ++ more) ≡ drop (prefix_len p more) more
  all-pass p [] more all = refl
  all-pass p (x ∷ xs) more all = by (p x) all (all-pass p xs more)
    where
      by : (t : Bool) → cond t (1 + prefix_len p xs) 0 ≡ suc (length xs) → (prefix_len p xs ≡ length xs → drop (prefix_len p (xs ++ more)) (xs ++ more) ≡ drop (prefix_len p more) more)
          → drop (cond t (1 + prefix_len p (xs ++ more)) 0) (x ∷ (xs ++ more)) ≡ drop (prefix_len p more) more
      by true all deeper = drop-one (prefix_len p (xs ++ more)) x (xs ++ more) ∙ deeper (omega arith)
      by false all deeper = absurd (omega arith)

  -- some are left
  pub ends-step : (b more : List ℕ) → keeps_ends o ≡ false → prefix_len is_end b < length b → behind_ends o (b ++ more) ≡ behind_items o o.skip_rows (drop (prefix_len is_end b) b ++ more)
  ends-step b more not_kept inside =
      ap (λ t. behind_items o o.skip_rows (cond t (b ++ more) (cut_ends e (b ++ more)))) not_kept
      ∙ ap (behind_items o o.skip_rows) (ap (λ k. drop k (b ++ more)) (prefix_len-front is_end b more inside) ∙ drop-append-le (prefix_len is_end b) b more (omega arith))

  -- all are line ends
  pub ends-all : (b more : List ℕ) → keeps_ends o ≡ false → prefix_len is_end b ≡ length b → behind_ends o (b ++ more) ≡ behind_ends o more
  ends-all b more not_kept all =
      ap (λ t. behind_items o o.skip_rows (cond t (b ++ more) (cut_ends e (b ++ more)))) not_kept
      ∙ ap (behind_items o o.skip_rows) (all-pass is_end b more all)
      ∙ sym (ap (λ t. behind_items o o.skip_rows (cond t more (cut_ends e more))) not_kept)

  -- they are kept
  pub ends-kept : (l : List ℕ) → keeps_ends o ≡ true → behind_ends o l ≡ behind_items o o.skip_rows l
  ends-kept l kept = ap (λ t. behind_items o o.skip_rows (cond t l (cut_ends e l))) kept

  -- ---- lines

  pub lines-step : (n : ℕ) (b more : List ℕ) (k : ℕ) → prefix_len (λ x. not (x == e)) b ≡ k → k + 1 < length b → skip_lines e (suc n) (b ++ more) ≡ skip_lines e n (drop (k + 1) b ++ more)
  lines-step n b more k is inside =
      let p : ℕ → Bool = λ x. not (x == e) in
      let long : prefix_len p (b ++ more) ≡ k = prefix_len-front p b more (omega arith) ∙ is in
      ap (skip_lines e n) (skip_line-some e (b ++ more) k long (omega (arith, length-append b more)) ∙ drop-append-le (k + 1) b more (omega arith))

  has-step : (n : ℕ) (b more : List ℕ) (k : ℕ) → prefix_len (λ x. not (x == e)) b ≡ k → k + 1 < length b → has_lines e (suc n) (b ++ more) ≡ has_lines e n (drop (k + 1) b ++ more)
  has-step n b more k is inside =
      let p : ℕ → Bool = λ x. not (x == e) in
      let long : prefix_len p (b ++ more) ≡ k = prefix_len-front p b more (omega arith) ∙ is in
      let room : k + 1 < length (b ++ more) = omega (arith, inside, length-append b more) in
      let test : nat_lt (k + 1) (length (b ++ more)) ≡ true = grind (arith, nat_tests, room) in
      ap (λ j. nat_lt (j + 1) (length (b ++ more)) && has_lines e n (skip_line e (b ++ more))) long ∙ ap (λ t. t && has_lines e n (skip_line e (b ++ more))) test
      ∙ ap (has_lines e n) (skip_line-some e (b ++ more) k long room ∙ drop-append-le (k + 1) b more (omega arith))

  return-line : (n : ℕ) (l : List ℕ) → (13 == e) ≡ false → cut_ends e (skip_lines e n (13 ∷ l)) ≡ cut_ends e (skip_lines e n l)
  return-line zero l other = ap (λ t. drop (cond (t || true) (1 + prefix_len is_end l) 0) (13 ∷ l)) other ∙ drop-one (prefix_len is_end l) 13 l
  return-line (suc n) l other =
      let size : ℕ = prefix_len (λ x. not (x == e)) l in
      let one : 1 + size + 1 ≡ suc (size + 1) = omega arith in
      let shift : drop (prefix_len (λ x. not (x == e)) (13 ∷ l) + 1) (13 ∷ l) ≡ drop (size + 1) l =
      ap (λ t. drop (cond (not t) (1 + size) 0 + 1) (13 ∷ l)) other ∙ ap (λ k. drop k (13 ∷ l)) one in
      ap (λ d. cut_ends e (skip_lines e n (unless_empty (13 ∷ l) d))) shift ∙ by (drop (size + 1) l) (return-line n l other)
    where
      by : (d : List ℕ) → cut_ends e (skip_lines e n (13 ∷ l)) ≡ cut_ends e (skip_lines e n l) → cut_ends e (skip_lines e n (unless_empty (13 ∷ l) d)) ≡ cut_ends e (skip_lines e n (unless_empty l d))
      by [] deeper = deeper
      by (y ∷ ys) deeper = refl

  -- the same of whether lines can be skipped
  return-has : (n : ℕ) (l : List ℕ) → (13 == e) ≡ false → has_lines e n (13 ∷ l) ≡ has_lines e n l
  return-has zero l other = refl
  return-has (suc n) l other =
      let size : ℕ = prefix_len (λ x. not (x == e)) l in
      let long : prefix_len (λ x. not (x == e)) (13 ∷ l) ≡ 1 + size = ap (λ t. cond (not t) (1 + size) 0) other in
      let one : 1 + size + 1 ≡ suc (size + 1) = omega arith in
      ap (λ k. nat_lt (k + 1) (suc (length l)) && has_lines e n (unless_empty (13 ∷ l) (drop (k + 1) (13 ∷ l)))) long
      ∙ ap (λ k. nat_lt k (suc (length l)) && has_lines e n (unless_empty (13 ∷ l) (drop k (13 ∷ l)))) one
      ∙ ap (λ t. t && has_lines e n (unless_empty (13 ∷ l) (drop (size + 1) l))) (shift (size + 1) (length l)) ∙ by (nat_lt (size + 1) (length l)) refl (drop (size + 1) l) refl
    where
      shift : (k m : ℕ) → nat_lt (suc k) (suc m) ≡ nat_lt k m
      shift k m = grind (arith, nat_tests)

      by : (t : Bool) → nat_lt (prefix_len (λ x. not (x == e)) l + 1) (length l) ≡ t → (d : List ℕ) → drop (prefix_len (λ x. not (x == e)) l + 1) l ≡ d
          → (t && has_lines e n (unless_empty (13 ∷ l) d)) ≡ (t && has_lines e n (unless_empty l d))
      by false is d d_is = refl
      by true is [] d_is =
          let inside : prefix_len (λ x. not (x == e)) l + 1 < length l = grind (arith, nat_tests, is) in
          absurd (omega (arith, inside, ap length d_is, length-drop (prefix_len (λ x. not (x == e)) l + 1) l))
      by true is (y ∷ ys) d_is = refl

  -- so many carriage returns in front of a line whose end did not come
  returns-more : {X : Type 0} (f : List ℕ → X) → ((l : List ℕ) → f (13 ∷ l) ≡ f l) → (b more : List ℕ) (k : ℕ) → k ≤ prefix_len (λ x. x == 13 || x == 13) b → f (b ++ more) ≡ f (drop k b ++ more)
  returns-more f one b more zero h = refl
  returns-more f one [] more (suc k) h = absurd (omega arith)
  returns-more f one (x ∷ xs) more (suc k) h = by (x == 13) refl h (returns-more f one xs more k)
    where
      by : (t : Bool) → (x == 13) ≡ t → suc k ≤ cond (t || t) (1 + prefix_len (λ y. y == 13 || y == 13) xs) 0 → (k ≤ prefix_len (λ y. y == 13 || y == 13) xs → f (xs ++ more) ≡ f (drop k xs ++ more)) → f (x ∷ (xs ++ more)) ≡ f (drop k xs ++ more)
      by false is h deeper = absurd (omega arith)
      by true is h deeper = let same : x ≡ 13 = grind (arith, nat_tests, is) in ap (λ y. f (y ∷ (xs ++ more))) same ∙ one (xs ++ more) ∙ deeper (omega arith)

  pub returns-step : (n : ℕ) (b more : List ℕ) (k : ℕ) → keeps_ends o ≡ false → (13 == e) ≡ false → k ≤ prefix_len (λ x. x == 13 || x == 13) b
      → behind_ends o (skip_lines e n (b ++ more)) ≡ behind_ends o (skip_lines e n (drop k b ++ more))
  returns-step n b more zero not_kept other h = refl
  returns-step n [] more (suc k) not_kept other h = absurd (omega arith)
  returns-step n (x ∷ xs) more (suc k) not_kept other h = by (x == 13) refl h (returns-step n xs more k not_kept other)
    where
      by : (t : Bool) → (x == 13) ≡ t → suc k ≤ cond (t || t) (1 + prefix_len (λ y. y == 13 || y == 13) xs) 0
          → (k ≤ prefix_len (λ y. y == 13 || y == 13) xs → behind_ends o (skip_lines e n (xs ++ more)) ≡ behind_ends o (skip_lines e n (drop k xs ++ more)))
          → behind_ends o (skip_lines e n (x ∷ (xs ++ more))) ≡ behind_ends o (skip_lines e n (drop k xs ++ more))
      by false is h deeper = absurd (omega arith)
      by true is h deeper =
          let same : x ≡ 13 = grind (arith, nat_tests, is) in
          let cut : List ℕ → Option (List ℕ) = λ l. behind_items o o.skip_rows l in
          ap (λ y. behind_ends o (skip_lines e n (y ∷ (xs ++ more)))) same
          ∙ ap (λ t. cut (cond t (skip_lines e n (13 ∷ (xs ++ more))) (cut_ends e (skip_lines e n (13 ∷ (xs ++ more)))))) not_kept
          ∙ ap cut (return-line n (xs ++ more) other)
          ∙ sym (ap (λ t. cut (cond t (skip_lines e n (xs ++ more)) (cut_ends e (skip_lines e n (xs ++ more))))) not_kept)
          ∙ deeper (omega arith)

  -- ---- the first bytes

  pub start-lines : (l : List ℕ) → (o.skip_lines == 0) ≡ false → data_of o l ≡ behind_ends o (skip_lines e o.skip_lines l)
  unfolding data_left
  start-lines l some = ap (λ t. behind_items o o.skip_rows (cond (keeps_ends o) (cond t (cut_mark l) (skip_lines e o.skip_lines l)) (cut_ends e (cond t (cut_mark l) (skip_lines e o.skip_lines l))))) some

  pub start-mark : (l : List ℕ) → (o.skip_lines == 0) ≡ true → data_of o l ≡ behind_ends o (cut_mark l)
  unfolding data_left
  start-mark l none = ap (λ t. behind_items o o.skip_rows (cond (keeps_ends o) (cond t (cut_mark l) (skip_lines e o.skip_lines l)) (cut_ends e (cond t (cut_mark l) (skip_lines e o.skip_lines l))))) none

  -- a byte order mark is told by three bytes
  pub mark-step : (b more : List ℕ) → 4 ≤ length b → cut_mark (b ++ more) ≡ cut_mark b ++ more
  mark-step [] more h = absurd (omega arith)
  mark-step (x ∷ []) more h = absurd (omega arith)
  mark-step (x ∷ y ∷ []) more h = absurd (omega arith)
  mark-step (x ∷ y ∷ z ∷ zs) more h = by (starts_with nat_eq (x ∷ y ∷ z ∷ zs) byte_order_mark)
    where
      by : (t : Bool) → cond t (zs ++ more) (x ∷ y ∷ z ∷ (zs ++ more)) ≡ cond t zs (x ∷ y ∷ z ∷ zs) ++ more
      by true = refl
      by false = refl

  mark-at : (b : List ℕ) → cut_mark b ≡ drop (length b - length (cut_mark b)) b
  mark-at b = by (starts_with nat_eq b byte_order_mark)
    where
      size : (l : List ℕ) → length (drop 3 l) ≤ length l
      size l = omega (arith, length-drop 3 l)

      third : (l : List ℕ) → drop 3 l ≡ drop (length l - length (drop 3 l)) l
      third [] = refl
      third (x ∷ []) = refl
      third (x ∷ y ∷ []) = refl
      third (x ∷ y ∷ z ∷ zs) = let three : suc (suc (suc (length zs))) - length zs ≡ 3 = omega arith in ap (λ k. drop k (x ∷ y ∷ z ∷ zs)) (sym three)

      by : (t : Bool) → cond t (drop 3 b) b ≡ drop (length b - length (cond t (drop 3 b) b)) b
      by true = third b
      by false = let none : length b - length b ≡ 0 = omega arith in ap (λ k. drop k b) (sym none)

  -- ---- the same, as places that are reached

  pub reach_lines : (b : List ℕ) → 0 < o.skip_lines → IsReached o place.Start b (record { place = place.Lines o.skip_lines; at = 0 })
  reach_lines b some = record {
    within = omega arith;
    stays = λ more. start-lines (b ++ more) (grind (arith, nat_tests, some));
    lines = λ more. refl;
    items = [];
    whole = whole-nil o.parse_options;
    head = λ more. let lines : (o.skip_lines == 0) ≡ false = grind (arith, nat_tests, some) in ap (λ t. unless_kept o (cond t (cut_mark (b ++ more)) (skip_lines e o.skip_lines (b ++ more)))) lines;
  }

  pub reach_mark : (at : ℕ) (b : List ℕ) → 4 ≤ length b → o.skip_lines ≡ 0 → at ≡ length b - length (cut_mark b) → IsReached o place.Start b (record { place = place.Ends; at = at })
  reach_mark at b enough none is = record {
    within = omega arith;
    stays = λ more. start-mark (b ++ more) (grind (arith, nat_tests, none)) ∙ ap (behind_ends o) (mark-step b more enough ∙ ap (λ l. l ++ more) (mark-at b ∙ ap (λ k. drop k b) (sym is)));
    lines = λ more. ap (λ n. has_lines e n (b ++ more)) none;
    items = [];
    whole = whole-nil o.parse_options;
    head = λ more.
        let marked : (o.skip_lines == 0) ≡ true = grind (arith, nat_tests, none) in
        ap (λ t. unless_kept o (cond t (cut_mark (b ++ more)) (skip_lines e o.skip_lines (b ++ more)))) marked
        ∙ ap (unless_kept o) (mark-step b more enough ∙ ap (λ l. l ++ more) (mark-at b ∙ ap (λ k. drop k b) (sym is)));
  }

  pub reach_line : (left k : ℕ) (b : List ℕ) → 0 < left → prefix_len (λ x. not (x == e)) b ≡ k → k + 1 < length b → IsReached o (place.Lines left) b (record { place = place.Lines (left - 1); at = k + 1 })
  reach_line left k b some is inside =
      let more_left : left ≡ suc (left - 1) = omega arith in
      record {
        within = omega arith;
        stays = λ more. ap (λ n. behind_ends o (skip_lines e n (b ++ more))) more_left ∙ ap (behind_ends o) (lines-step (left - 1) b more k is inside);
        lines = λ more. ap (λ n. has_lines e n (b ++ more)) more_left ∙ has-step (left - 1) b more k is inside;
        items = [];
        whole = whole-nil o.parse_options;
        head = λ more. ap (λ n. unless_kept o (skip_lines e n (b ++ more))) more_left ∙ ap (unless_kept o) (lines-step (left - 1) b more k is inside);
      }

  pub reach_returns : (left at : ℕ) (b : List ℕ) → keeps_ends o ≡ false → (13 == e) ≡ false → at ≡ length b - length (cut_ends 13 b) → at ≤ length b → IsReached o (place.Lines left) b (record { place = place.Lines left; at = at })
  reach_returns left at b not_kept other is fits = record {
    within = fits;
    stays = λ more. returns-step left b more at not_kept other few;
    lines = λ more. returns-more (has_lines e left) (λ l. return-has left l other) b more at few;
    items = [];
    whole = whole-nil o.parse_options;
    head = λ more. ap (λ t. cond t (skip_lines e left (b ++ more)) (cut_ends e (skip_lines e left (b ++ more)))) not_kept
        ∙ returns-more (λ l. cut_ends e (skip_lines e left l)) (λ l. return-line left l other) b more at few
        ∙ sym (ap (λ t. cond t (skip_lines e left (drop at b ++ more)) (cut_ends e (skip_lines e left (drop at b ++ more)))) not_kept);
  }
    where
      few : at ≤ prefix_len (λ x. x == 13 || x == 13) b
      few = omega (arith, is, length-drop (prefix_len (λ x. x == 13 || x == 13) b) b, prefix_len-le-length (λ x. x == 13 || x == 13) b)

  pub reach_ends : (at : ℕ) (b : List ℕ) → keeps_ends o ≡ false → at ≡ length b - length (cut_ends e b) → at < length b → IsReached o place.Ends b (record { place = place.Rows o.skip_rows; at = at })
  reach_ends at b not_kept is inside = record {
    within = omega arith;
    stays = λ more. ends-step b more not_kept (omega (arith, same)) ∙ ap (λ k. behind_items o o.skip_rows (drop k b ++ more)) (sym same);
    lines = λ more. refl;
    items = [];
    whole = whole-nil o.parse_options;
    head = λ more. ap (λ t. cond t (b ++ more) (cut_ends e (b ++ more))) not_kept
        ∙ ap (λ k. drop k (b ++ more)) (prefix_len-front is_end b more (omega (arith, same, inside))) ∙ drop-append-le (prefix_len is_end b) b more (omega (arith, same, inside)) ∙ ap (λ k. drop k b ++ more) (sym same);
  }
    where
      same : at ≡ prefix_len is_end b
      same = omega (arith, is, length-drop (prefix_len is_end b) b, prefix_len-le-length is_end b)

  pub reach_all : (at : ℕ) (b : List ℕ) → keeps_ends o ≡ false → at ≡ length b - length (cut_ends e b) → length b ≤ at → IsReached o place.Ends b (record { place = place.Ends; at = at })
  reach_all at b not_kept is all = record {
    within = omega arith;
    stays = λ more. ends-all b more not_kept all_are ∙ ap (λ l. behind_ends o (l ++ more)) (sym (drop_all at b (omega arith)));
    lines = λ more. refl;
    items = [];
    whole = whole-nil o.parse_options;
    head = λ more. ap (λ t. cond t (b ++ more) (cut_ends e (b ++ more))) not_kept ∙ all-pass is_end b more all_are ∙ sym (ap (λ t. cond t more (cut_ends e more)) not_kept)
        ∙ ap (λ l. unless_kept o (l ++ more)) (sym (drop_all at b (omega arith)));
  }
    where
      all_are : prefix_len is_end b ≡ length b
      all_are = omega (arith, is, length-drop (prefix_len is_end b) b, prefix_len-le-length is_end b)

  pub reach_kept : (b : List ℕ) → keeps_ends o ≡ true → IsReached o place.Ends b (record { place = place.Rows o.skip_rows; at = 0 })
  reach_kept b kept = record {
    within = omega arith;
    stays = λ more. ends-kept (b ++ more) kept;
    lines = λ more. refl;
    items = [];
    whole = whole-nil o.parse_options;
    head = λ more. ap (λ t. cond t (b ++ more) (cut_ends e (b ++ more))) kept;
  }

  pub reach_none-left : (b : List ℕ) → IsReached o (place.Lines 0) b (record { place = place.Ends; at = 0 })
  reach_none-left b = record { within = omega arith; stays = λ more. refl; lines = λ more. refl; items = []; whole = whole-nil o.parse_options; head = λ more. refl }

  pub reach_header-next : (b : List ℕ) → IsReached o (place.Rows 0) b (record { place = place.Header; at = 0 })
  reach_header-next b = record { within = omega arith; stays = λ more. refl; lines = λ more. refl; items = []; whole = whole-nil o.parse_options; head = λ more. refl }

  pub reach_records : (b : List ℕ) → IsReached o (place.Behind 0) b (record { place = place.Records; at = 0 })
  reach_records b = record { within = omega arith; stays = λ more. refl; lines = λ more. refl; items = []; whole = whole-nil o.parse_options; head = λ more. refl }

  -- a line that can't be skipped
  pub no-line : (b : List ℕ) (len : ℕ) → prefix_len (λ x. not (x == e)) b ≡ len → length b ≤ len + 1 → has_lines e 1 b ≡ false
  no-line b len is short =
      let test : nat_lt (len + 1) (length b) ≡ false = grind (arith, nat_tests, short) in
      ap (λ k. nat_lt (k + 1) (length b) && has_lines e 0 (skip_line e b)) is ∙ ap (λ t. t && has_lines e 0 (skip_line e b)) test

  -- ---- one step behind others

  pub reach_on : (from : Place) (b : List ℕ) (first next : Reached) → IsDialect (marks_of o.parse_options) (comment_of o.parse_options) → IsReached o from b first → IsReached o first.place (drop first.at b) next
      → IsReached o from b (record { place = next.place; at = first.at + next.at })
  reach_on from b first next apart one two = record {
    within = omega (arith, one.within, two.within, length-drop first.at b);
    stays = λ more. one.stays more ∙ two.stays more ∙ ap (λ (l : List ℕ). data_at o next.place (l ++ more)) (drop-drop next.at first.at b);
    lines = λ more. one.lines more ∙ two.lines more ∙ ap (λ (l : List ℕ). lines_at o next.place (l ++ more)) (drop-drop next.at first.at b);
    items = one.items ++ two.items;
    whole = whole-append o.parse_options one.items two.items apart one.whole two.whole;
    head = λ more. one.head more ∙ ap (λ l. one.items ++ l) (two.head more ∙ ap (λ (l : List ℕ). two.items ++ head_at o next.place (l ++ more)) (drop-drop next.at first.at b))
        ∙ sym (append_assoc one.items two.items (head_at o next.place (drop (first.at + next.at) b ++ more)));
  }

  pub reach_none : (from : Place) (b : List ℕ) → IsReached o from b (record { place = from; at = 0 })
  reach_none from b = record { within = omega arith; stays = λ more. refl; lines = λ more. refl; items = []; whole = whole-nil o.parse_options; head = λ more. refl }

-- the steps that need no bytes
pub ruleset reach_turns = (reach_none-left, reach_header-next, reach_records)
