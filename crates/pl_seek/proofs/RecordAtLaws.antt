-- The records of a text in front of one of them, and from it on.
use Rattle.std.proofs.Common.{◌≡◌, ℕ, zero, suc, ◌+◌, ◌-◌, ◌<◌, ◌≤◌, Bool, true, false, List, [], ◌∷◌, length, take, drop, get_or, Option, refl, sym, ap, ◌∙◌, arith, length-drop}
use Rattle.std.proofs.lemmas.List.{length-take-le, drop-drop, drop-take}
use Rattle.pl_frame.specs.Dialect.{Marks, AreDistinct, IsCommentPrefix}
use Rattle.pl_scan.specs.Comment.{is_comment}
use Rattle.pl_scan.specs.Items.{text_of, item}
use Rattle.pl_rows.proofs.RangeLaws.{rows-nil}
use Rattle.pl_table.specs.Rows.{rows, row_at}
use Rattle.pl_seek.specs.Places.{record_places}
use Rattle.pl_seek.proofs.CutLaws.{row-cut, is-cut, text-cut, record-text}
use Rattle.pl_seek.proofs.PartLaws.{rows-behind_comment, rows-behind_record}
use Rattle.pl_seek.proofs.PlaceLaws.{places-none, places-comment, places-record}

module _ (m : Marks) (comment : Option (List ℕ)) (size : ℕ) where
  -- so many bytes of a text stand in front of its record of this number
  pub record IsAt (b : List ℕ) (j n : ℕ) : Type 0 where
    pub inside : n < length b
    pub place : get_or (record_places m comment size b) j 0 ≡ n + (size - length b)
    pub front : rows m comment (take n b) ≡ take j (rows m comment b)
    pub behind : rows m comment (drop n b) ≡ drop j (rows m comment b)
    pub places : record_places m comment size (drop n b) ≡ drop j (record_places m comment size b)

  module _ (distinct : AreDistinct m) (free : IsCommentPrefix m.line_end comment) where
    -- the first item of a text, and what stands behind it
    module _ (b : List ℕ) (some : 0 < length b) where
      abbrev len : ℕ
      len = length (text_of (item m comment b))

      abbrev rest : List ℕ
      rest = drop (len + 1) b

      -- an item further
      further : (n : ℕ) → n < length rest → (len + 1 + n < length b) × (length rest ≡ length b - (len + 1))
      further n inside = let short = length-drop (len + 1) b in (omega (arith, short, inside), short)

      -- what stands behind the first item of what is cut
      left-cut : (n : ℕ) → n < length rest → drop (length (text_of (item m comment (take (len + 1 + n) b))) + 1) (take (len + 1 + n) b) ≡ take n rest
      left-cut n inside =
          let more = (further n inside).0 in
          ap (λ k. drop (k + 1) (take (len + 1 + n) b)) (text-cut m comment b (len + 1 + n) free (omega arith) (omega (arith, more))) ∙ drop-take (len + 1) n b

      filled : (n : ℕ) → n < length rest → 0 < length (take (len + 1 + n) b)
      filled n inside = let more = (further n inside).0 in omega (arith, length-take-le (len + 1 + n) b (omega (arith, more)))

      at-comment : is_comment comment b ≡ true → (j n : ℕ) → IsAt rest j n → length b ≤ size → IsAt b j (len + 1 + n)
      at-comment is j n at fits =
          let more = further n at.inside in
          let begins : is_comment comment (take (len + 1 + n) b) ≡ true = is-cut m comment b (len + 1 + n) free (omega arith) (omega (arith, more.0)) ∙ is in
          let all = places-comment m comment size b some is in
          let others = rows-behind_comment m comment b some is in
          record {
            inside = more.0;
            place = ap (λ ps. get_or ps j 0) all ∙ at.place ∙ omega (arith, more.0, more.1, fits);
            front = rows-behind_comment m comment (take (len + 1 + n) b) (filled n at.inside) begins ∙ ap (rows m comment) (left-cut n at.inside) ∙ at.front ∙ ap (take j) (sym others);
            behind = ap (rows m comment) (sym (drop-drop n (len + 1) b)) ∙ at.behind ∙ ap (drop j) (sym others);
            places = ap (record_places m comment size) (sym (drop-drop n (len + 1) b)) ∙ at.places ∙ ap (drop j) (sym all);
          }

      at-first : is_comment comment b ≡ false → IsAt b 0 0
      at-first plain = record {
        inside = some;
        place = ap (λ ps. get_or ps 0 0) (places-record m comment size b some plain) ∙ omega arith;
        front = rows-nil m comment;
        behind = refl;
        places = refl;
      }

      at-record : is_comment comment b ≡ false → (j n : ℕ) → IsAt rest j n → length b ≤ size → IsAt b (suc j) (len + 1 + n)
      at-record plain j n at fits =
          let more = further n at.inside in
          let begins : is_comment comment (take (len + 1 + n) b) ≡ false = is-cut m comment b (len + 1 + n) free (omega arith) (omega (arith, more.0)) ∙ plain in
          let all = places-record m comment size b some plain in
          let others = rows-behind_record m comment b some distinct plain in
          let size_is = record-text m comment b plain in
          record {
            inside = more.0;
            place = ap (λ ps. get_or ps (suc j) 0) all ∙ at.place ∙ omega (arith, more.0, more.1, fits);
            front =
                rows-behind_record m comment (take (len + 1 + n) b) (filled n at.inside) distinct begins
                ∙ (λ i. row-cut m b (len + 1 + n) (omega (arith, size_is)) (omega (arith, more.0)) i ∷ rows m comment (left-cut n at.inside i))
                ∙ ap (λ l. row_at m b ∷ l) at.front ∙ ap (take (suc j)) (sym others);
            behind = ap (rows m comment) (sym (drop-drop n (len + 1) b)) ∙ at.behind ∙ ap (drop (suc j)) (sym others);
            places = ap (record_places m comment size) (sym (drop-drop n (len + 1) b)) ∙ at.places ∙ ap (drop (suc j)) (sym all);
          }

    at_within : (k : ℕ) (b : List ℕ) (j : ℕ) → length b < k → length b ≤ size → j < length (record_places m comment size b) → (n : ℕ) × IsAt b j n
    at_within zero b j short fits inside = absurd (omega arith)
    at_within (suc k) [] j short fits inside = absurd (omega (arith, ap length (places-none m comment size), inside))
    at_within (suc k) (x ∷ xs) j short fits inside =
        let b = x ∷ xs in
        let shorter = length-drop (len b (omega arith) + 1) b in
        by (is_comment comment b) refl j inside (λ i. at_within k (rest b (omega arith)) i (omega (arith, shorter, short)) (omega (arith, shorter, fits)))
      where
        by : (t : Bool) → is_comment comment (x ∷ xs) ≡ t → (i : ℕ) → i < length (record_places m comment size (x ∷ xs))
            → ((i : ℕ) → i < length (record_places m comment size (rest (x ∷ xs) (omega arith))) → (n : ℕ) × IsAt (rest (x ∷ xs) (omega arith)) i n)
            → (n : ℕ) × IsAt (x ∷ xs) i n
        by true is i below deeper =
            let found = deeper i (omega (arith, ap length (places-comment m comment size (x ∷ xs) (omega arith) is), below)) in
            (len (x ∷ xs) (omega arith) + 1 + found.0, at-comment (x ∷ xs) (omega arith) is i found.0 found.1 fits)
        by false plain zero below deeper = (0, at-first (x ∷ xs) (omega arith) plain)
        by false plain (suc i) below deeper =
            let found = deeper i (omega (arith, ap length (places-record m comment size (x ∷ xs) (omega arith) plain), below)) in
            (len (x ∷ xs) (omega arith) + 1 + found.0, at-record (x ∷ xs) (omega arith) plain i found.0 found.1 fits)

    -- each record stands behind so many bytes
    pub is-at : (b : List ℕ) (j : ℕ) → length b ≤ size → j < length (record_places m comment size b) → (n : ℕ) × IsAt b j n
    is-at b j fits inside = at_within (length b + 1) b j (omega arith) fits inside

    same_within : (k : ℕ) (b : List ℕ) → length b < k → length (record_places m comment size b) ≡ length (rows m comment b)
    same_within zero b short = absurd (omega arith)
    same_within (suc k) [] short = ap length (places-none m comment size) ∙ sym (ap length (rows-nil m comment))
    same_within (suc k) (x ∷ xs) short =
        let shorter = length-drop (len (x ∷ xs) (omega arith) + 1) (x ∷ xs) in
        by (is_comment comment (x ∷ xs)) refl (same_within k (rest (x ∷ xs) (omega arith)) (omega (arith, shorter, short)))
      where
        by : (t : Bool) → is_comment comment (x ∷ xs) ≡ t → length (record_places m comment size (rest (x ∷ xs) (omega arith))) ≡ length (rows m comment (rest (x ∷ xs) (omega arith)))
            → length (record_places m comment size (x ∷ xs)) ≡ length (rows m comment (x ∷ xs))
        by true is deeper = ap length (places-comment m comment size (x ∷ xs) (omega arith) is) ∙ deeper ∙ sym (ap length (rows-behind_comment m comment (x ∷ xs) (omega arith) is))
        by false plain deeper =
            ap length (places-record m comment size (x ∷ xs) (omega arith) plain) ∙ ap suc deeper ∙ sym (ap length (rows-behind_record m comment (x ∷ xs) (omega arith) distinct plain))

    -- there are as many places as records
    pub same-count : (b : List ℕ) → length (record_places m comment size b) ≡ length (rows m comment b)
    same-count b = same_within (length b + 1) b (omega arith)
