-- Whole items at the front of a text, one more at a time.
use Rattle.std.proofs.Common.{◌≡◌, ℕ, zero, suc, ◌+◌, ◌-◌, ◌<◌, ◌≤◌, Bool, true, false, cond, not, ◌==◌, List, [], ◌∷◌, ◌++◌, length, take, drop, Option, None, Some, refl, sym, ◌∙◌, ap, subst, append_assoc, arith, inl, inr, length-append, length-take, length-drop}
use Rattle.std.specs.Prelude.{◌⊎◌, take_while}
use Rattle.std.specs.List.{prefix_len, last_or}
use Rattle.std.proofs.lemmas.List.{length-take-le, take-append-drop, drop_all}
use Rattle.std.proofs.lemmas.List.Folds.{length-prefix_len}
use Rattle.std.proofs.Math.Seq.{take-append_seam}
use Rattle.pl_frame.specs.Dialect.{Marks, IsDialect}
use Rattle.pl_options.specs.declared.parse_options.CsvParseOptions.{CsvParseOptions}
use Rattle.pl_options.specs.Text.{marks_of, comment_of}
use Rattle.pl_scan.specs.Closing.{have_open_end, is_open_item, ends_open}
use Rattle.pl_scan.specs.Comment.{is_comment}
use Rattle.pl_scan.specs.Fields.{fields, extent}
use Rattle.pl_scan.specs.Items.{ItemText, CommentText, RecordText, text_of, item, items}
use Rattle.pl_scan.proofs.AppendLaws.{ended-front}
use Rattle.pl_scan.proofs.ItemLaws.{IsRecordAt-extent, items-nil, items-step}
use Rattle.pl_scan.proofs.RecordLaws.{fields-text, have_open_end-closed}
use Rattle.pl_table.specs.Rows.{row_at, rows}
use Rattle.pl_table.proofs.PieceLaws.{rows-append}
use Rattle.pl_rows.proofs.RangeLaws.{rows-nil, rows-step, rows-comment, few_rows}
use Rattle.pl_rows.proofs.SoundTextLaws.{ended-append, closed-append}
use Rattle.pl_verbatim.proofs.PrintingLaws.{front-slice}
use Rattle.pl_seek.proofs.CutLaws.{is-cut, text-cut}
use Rattle.pl_stream.specs.Whole.{AreWholeItems, IsWholeFront, count_of}
use Rattle.pl_stream.specs.declared.whole.Whole.{Whole}
use Rattle.pl_stream.proofs.WholeLaws.{cut-item}

-- ---- whole items, one behind the other

pub whole-nil : (o : CsvParseOptions) → AreWholeItems o []
whole-nil o = record { ended = refl; closed = ap (λ l. is_open_item (marks_of o) (last_or None l)) (items-nil (marks_of o) (comment_of o)) }

pub whole-append : (o : CsvParseOptions) (a b : List ℕ) → IsDialect (marks_of o) (comment_of o) → AreWholeItems o a → AreWholeItems o b → AreWholeItems o (a ++ b)
whole-append o a b apart first second = record {
  ended = ended-append o.eol_char a b first.ended second.ended;
  closed = closed-append (marks_of o) (comment_of o) a b apart.distinct apart.prefix first.ended first.closed second.closed;
}

pub rows-whole : (o : CsvParseOptions) (a b : List ℕ) → IsDialect (marks_of o) (comment_of o) → AreWholeItems o a
    → rows (marks_of o) (comment_of o) (a ++ b) ≡ rows (marks_of o) (comment_of o) a ++ rows (marks_of o) (comment_of o) b
rows-whole o a b apart whole = rows-append (marks_of o) (comment_of o) a b apart.distinct apart.prefix whole.ended whole.closed

-- ---- one item with its line end

take-one-more : (k e : ℕ) (b rest : List ℕ) → drop k b ≡ e ∷ rest → take (k + 1) b ≡ take k b ++ e ∷ []
take-one-more k e b rest cut =
    let front : List ℕ = take k b ++ e ∷ [] in
    let fits : k < length b = omega (arith, ap length cut, length-drop k b) in
    let size : length front ≡ k + 1 = omega (arith, length-append (take k b) (e ∷ []), length-take-le k b (omega arith)) in
    let whole : b ≡ front ++ rest = sym (take-append-drop k b) ∙ ap (λ l. take k b ++ l) cut ∙ sym (append_assoc (take k b) (e ∷ []) rest) in
    ap (λ n. take n b) (sym size) ∙ ap (take (length front)) whole ∙ take-append_seam front rest

module _ (o : CsvParseOptions) (b : List ℕ) (apart : IsDialect (marks_of o) (comment_of o)) (within : length (text_of (item (marks_of o) (comment_of o) b)) < length b) where
  abbrev m : Marks
  m = marks_of o

  abbrev comment : Option (List ℕ)
  comment = comment_of o

  abbrev size : ℕ
  size = length (text_of (item m comment b))

  -- the item with its line end
  abbrev front : List ℕ
  front = take (size + 1) b

  long : length front ≡ size + 1
  long = length-take-le (size + 1) b (omega (arith, within))

  same : length (text_of (item m comment front)) ≡ size
  same = text-cut m comment b (size + 1) apart.prefix (omega arith) (omega (arith, within))

  starts : is_comment comment front ≡ is_comment comment b
  starts = is-cut m comment b (size + 1) apart.prefix (omega arith) (omega (arith, within))

  ended : last_or (Some m.line_end) front ≡ Some m.line_end
  ended = let cut = cut-item m comment b within in ap (last_or (Some m.line_end)) (take-one-more size m.line_end b cut.0 cut.1) ∙ ended-front m.line_end (Some m.line_end) (take size b)

  one-item : items m comment front ≡ item m comment front ∷ []
  one-item =
      let none : drop (length (text_of (item m comment front)) + 1) front ≡ [] = drop_all (length (text_of (item m comment front)) + 1) front (omega (arith, long, same)) in
      items-step m comment front (omega (arith, long)) ∙ ap (λ l. item m comment front ∷ l) (ap (items m comment) none ∙ items-nil m comment)

  -- by whether a comment begins there
  abbrev by_start : Bool → ItemText
  by_start t = cond t (CommentText (take_while (λ x. not (x == m.line_end)) front)) (RecordText (take (extent m front) front))

  comment-size : is_comment comment front ≡ true → prefix_len (λ x. not (x == m.line_end)) front ≡ size
  comment-size is = sym (length-prefix_len (λ x. not (x == m.line_end)) front) ∙ ap (λ t. length (text_of (by_start t))) (sym is) ∙ same

  record-size : is_comment comment front ≡ false → extent m front ≡ size
  record-size is = sym (length-take-le (extent m front) front (IsRecordAt-extent m front).fits) ∙ ap (λ t. length (text_of (by_start t))) (sym is) ∙ same

  shut : is_comment comment front ≡ false → (drop (extent m front) front ≡ []) ⊎ ((rest : List ℕ) × (drop (extent m front) front ≡ m.line_end ∷ rest)) → have_open_end m (fields m front) ≡ false
  shut is (inl none) = absurd (omega (arith, ap length none, length-drop (extent m front) front, long, record-size is))
  shut is (inr some) = have_open_end-closed m front m.line_end some.0 apart.distinct some.1

  closed_by : (t : Bool) → is_comment comment front ≡ t → is_open_item m (Some (item m comment front)) ≡ false
  closed_by true is = ap (λ t. is_open_item m (Some (by_start t))) is
  closed_by false is = ap (λ t. is_open_item m (Some (by_start t))) is ∙ ap (have_open_end m) (fields-text m front apart.distinct) ∙ shut is (IsRecordAt-extent m front).ended

  pub whole-item : AreWholeItems o front
  whole-item = record { ended = ended; closed = ap (λ l. is_open_item m (last_or None l)) one-item ∙ closed_by (is_comment comment front) refl }

  nothing-left : (k : ℕ) → k ≡ size → drop (k + 1) front ≡ []
  nothing-left k is = drop_all (k + 1) front (omega (arith, long, is))

  count_by : (t : Bool) → is_comment comment front ≡ t → length (rows m comment front) ≡ count_of t
  count_by true is =
      let k = prefix_len (λ x. not (x == m.line_end)) front in
      ap length (rows-comment m comment front (omega (arith, long)) is ∙ ap (rows m comment) (nothing-left k (comment-size is)) ∙ rows-nil m comment)
  count_by false is =
      ap length (rows-step m comment front apart.distinct (omega (arith, long)) is ∙ ap (λ l. row_at m front ∷ rows m comment l) (nothing-left (extent m front) (record-size is)) ∙ ap (λ l. row_at m front ∷ l) (rows-nil m comment))

  pub count-item : length (rows m comment front) ≡ count_of (is_comment comment b)
  count-item = count_by (is_comment comment front) refl ∙ ap count_of starts

-- ---- fronts

pub front-nil : (o : CsvParseOptions) (text : List ℕ) → IsWholeFront o text (record { end = 0; rows = 0 })
front-nil o text = record { within = omega arith; items = whole-nil o; count_is = sym (ap length (rows-nil (marks_of o) (comment_of o))) }

pub front-more : (o : CsvParseOptions) (text : List ℕ) (whole next : Whole) (len : ℕ) → IsDialect (marks_of o) (comment_of o) → IsWholeFront o text whole
    → len ≡ length (text_of (item (marks_of o) (comment_of o) (drop whole.end text))) + 1 → len ≤ length (drop whole.end text)
    → next.end ≡ whole.end + len → next.rows ≡ whole.rows + count_of (is_comment (comment_of o) (drop whole.end text)) → IsWholeFront o text next
front-more o text whole next len apart front len_is fits end_is rows_is =
    let m = marks_of o in
    let comment = comment_of o in
    let b : List ℕ = drop whole.end text in
    let inside : length (text_of (item m comment b)) < length b = omega (arith, len_is, fits) in
    let size : next.end - whole.end ≡ len = omega (arith, end_is) in
    let room : next.end ≤ length text = omega (arith, end_is, fits, length-drop whole.end text, front.within) in
    let both : take whole.end text ++ take len b ≡ take next.end text = ap (λ n. take whole.end text ++ take n b) (sym size) ∙ front-slice text whole.end next.end (omega (arith, end_is)) room in
    let item_is : AreWholeItems o (take len b) = subst (λ n. AreWholeItems o (take n b)) (sym len_is) (whole-item o b apart inside) in
    let count : length (rows m comment (take len b)) ≡ count_of (is_comment comment b) = ap (λ n. length (rows m comment (take n b))) len_is ∙ count-item o b apart inside in
    record {
      within = room;
      items = subst (AreWholeItems o) both (whole-append o (take whole.end text) (take len b) apart front.items item_is);
      count_is = rows_is ∙ omega (arith, front.count_is, count, length-append (rows m comment (take whole.end text)) (rows m comment (take len b)))
          ∙ ap length (sym (rows-whole o (take whole.end text) (take len b) apart front.items)) ∙ ap (λ l. length (rows m comment l)) both;
    }

-- each record has a byte at least
pub front-few : (o : CsvParseOptions) (text : List ℕ) (whole : Whole) → IsDialect (marks_of o) (comment_of o) → IsWholeFront o text whole → whole.rows ≤ whole.end
front-few o text whole apart front =
    let t : List ℕ = take whole.end text in
    omega (arith, front.count_is, few_rows (marks_of o) (comment_of o) apart.distinct (length t) t (omega arith), length-take-le whole.end text front.within)
