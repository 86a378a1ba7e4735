-- The records of a table are those of its text.
use Rattle.std.proofs.Common.{◌≡◌, ℕ, zero, suc, ◌+◌, ◌-◌, ◌<◌, Bool, true, false, cond, ◌==◌, List, [], ◌∷◌, ◌++◌, map, length, take, drop, refl, sym, ap, subst, ◌∙◌, arith, inl, inr, append_assoc, length-append, length-drop}
use Rattle.std.specs.Prelude.{Option, None, Some, ◌⊎◌, slice_range}
use Rattle.std.specs.List.{filter_map}
use Rattle.std.proofs.lemmas.List.{drop_at, take_at, drop-drop, take-append-le, drop-append-le, length-take-le}
use Rattle.std.proofs.lemmas.Bool.Decides.{nat_tests}
use Rattle.pl_frame.specs.Dialect.{Marks, AreDistinct}
use Rattle.pl_scan.specs.Fields.{quotes, begins_quoted, cut_field, field, behind, fields, extent}
use Rattle.pl_scan.proofs.Walk.{is_end}
use Rattle.pl_scan.proofs.FieldLaws.{mode, IsWalk-cut_field, behind-some, behind-shorter, fields_last, fields_more}
use Rattle.pl_scan.proofs.ItemLaws.{extent_last, extent_more, IsRecordAt-extent, items_behind-step}
use Rattle.pl_scan.proofs.RecordLaws.{cut_field-before, fields-text, have_open_end-closed}
use Rattle.pl_table.specs.declared.block.Spot.TheVariants.{Begin}
use Rattle.pl_table.specs.Entries.{End, end_at, entries, place_behind}
use Rattle.pl_table.specs.Tables.{Cut, cut_text, fields_of, AreClosed}
use Rattle.pl_table.specs.Rows.{Row, row_of, rows, ended_row}
use Rattle.pl_table.proofs.CutLaws.{entries_left, entries-field}

-- ---- records by the ends of their fields

abbrev cut : ℕ → ℕ → Cut
cut start p = record { start = start; end = p }

-- the field in front of the first record, if there is one
abbrev pub onto_first : {X : Type 0} → X → List (List X) → List (List X)
onto_first c [] = []
onto_first c (r ∷ rs) = (c ∷ r) ∷ rs

-- the records that a line end ends, where a field begins at a place and the ends of fields from there on are these
abbrev pub records_at : ℕ → List End → List (List Cut)
records_at start [] = []
records_at start (e ∷ es) =
    cond e.last ((record { start = start; end = e.place } ∷ []) ∷ records_at (place_behind e) es) (onto_first (record { start = start; end = e.place }) (records_at (place_behind e) es))

-- the place behind the last of the line ends, or else the first place
abbrev pub behind_lines : ℕ → List End → ℕ
behind_lines start [] = start
behind_lines start (e ∷ es) = cond e.last (behind_lines (place_behind e) es) (behind_lines start es)

map-onto_first : {X Y : Type 0} (g : X → Y) (c : X) (rs : List (List X)) → map (λ r. map g r) (onto_first c rs) ≡ onto_first (g c) (map (λ r. map g r) rs)
map-onto_first g c [] = refl
map-onto_first g c (r ∷ rs) = refl

abbrev row : List (List ℕ) → Bool → Row
row fs end = record { fields = fs; is_end = end }

-- ---- one field

module _ (m : Marks) (text : List ℕ) (distinct : AreDistinct m) where
  abbrev pub rows_from : ℕ → List ℕ → List (List (List ℕ))
  rows_from k b = fields_of text (records_at k (entries m Begin k b))

  abbrev pub left_behind : ℕ → ℕ → List ℕ → ℕ
  left_behind s k b = behind_lines s (entries m Begin k b)

  text-field : (k : ℕ) (b : List ℕ) → drop k text ≡ b → slice_range text k (k + length (field m b)) ≡ field m b
  text-field k b at =
      let f = field m b in
      let long : (k + length f) - k ≡ length f = omega arith in
      (λ j. take (long j) (at j)) ∙ ap (take (length f)) (sym (IsWalk-cut_field m b).whole) ∙ take_at f (cut_field m b).1 (length f) refl

  left-field : (b : List ℕ) → drop (length (field m b)) b ≡ (cut_field m b).1
  left-field b = ap (drop (length (field m b))) (sym (IsWalk-cut_field m b).whole) ∙ drop_at (field m b) (cut_field m b).1 (length (field m b)) refl

  drop-left : (b : List ℕ) (x : ℕ) (r : List ℕ) → (cut_field m b).1 ≡ x ∷ r → drop (length (field m b) + 1) b ≡ r
  drop-left b x r e = sym (drop-drop 1 (length (field m b)) b) ∙ ap (drop 1) (left-field b ∙ e)

  drop-record : (b : List ℕ) (x : ℕ) (r : List ℕ) → (cut_field m b).1 ≡ x ∷ r → drop (length (field m b) + 1 + extent m r) b ≡ drop (extent m r) r
  drop-record b x r e = sym (drop-drop (extent m r) (length (field m b) + 1) b) ∙ ap (drop (extent m r)) (drop-left b x r e)

  -- the entry of a field, and the entries of what stands behind its end
  entries-more : (k : ℕ) (b : List ℕ) (x : ℕ) (r : List ℕ) → (cut_field m b).1 ≡ x ∷ r
      → entries m Begin k b ≡ end_at (k + length (field m b)) (x == m.line_end) ∷ entries m Begin (k + length (field m b) + 1) r
  entries-more k b x r e = entries-field m k b distinct ∙ ap (entries_left m (k + length (field m b))) e

  rows-last : (k : ℕ) (b r : List ℕ) → drop k text ≡ b → (cut_field m b).1 ≡ m.line_end ∷ r
      → rows_from k b ≡ (field m b ∷ []) ∷ rows_from (k + length (field m b) + 1) r
  rows-last k b r at e =
      let p = k + length (field m b) in
      let same : (m.line_end == m.line_end) ≡ true = grind (arith, nat_tests) in
      ap (λ es. fields_of text (records_at k es)) (entries-more k b m.line_end r e)
      ∙ ap (fields_of text) (ap (λ t. cond t ((cut k p ∷ []) ∷ records_at (p + 1) (entries m Begin (p + 1) r)) (onto_first (cut k p) (records_at (p + 1) (entries m Begin (p + 1) r)))) same)
      ∙ ap (λ (f : List ℕ). (f ∷ []) ∷ rows_from (p + 1) r) (text-field k b at)

  rows-more : (k : ℕ) (b r : List ℕ) → drop k text ≡ b → (cut_field m b).1 ≡ m.separator ∷ r
      → rows_from k b ≡ onto_first (field m b) (rows_from (k + length (field m b) + 1) r)
  rows-more k b r at e =
      let p = k + length (field m b) in
      let no = distinct.0 in
      let other : (m.separator == m.line_end) ≡ false = grind (arith, nat_tests) in
      ap (λ es. fields_of text (records_at k es)) (entries-more k b m.separator r e)
      ∙ ap (fields_of text) (ap (λ t. cond t ((cut k p ∷ []) ∷ records_at (p + 1) (entries m Begin (p + 1) r)) (onto_first (cut k p) (records_at (p + 1) (entries m Begin (p + 1) r)))) other)
      ∙ map-onto_first (cut_text text) (cut k p) (records_at (p + 1) (entries m Begin (p + 1) r))
      ∙ ap (λ (f : List ℕ). onto_first f (rows_from (p + 1) r)) (text-field k b at)

  left-last : (s k : ℕ) (b r : List ℕ) → (cut_field m b).1 ≡ m.line_end ∷ r → left_behind s k b ≡ left_behind (k + length (field m b) + 1) (k + length (field m b) + 1) r
  left-last s k b r e =
      let p = k + length (field m b) in
      let same : (m.line_end == m.line_end) ≡ true = grind (arith, nat_tests) in
      ap (behind_lines s) (entries-more k b m.line_end r e)
      ∙ ap (λ t. cond t (left_behind (p + 1) (p + 1) r) (left_behind s (p + 1) r)) same

  left-more : (s k : ℕ) (b r : List ℕ) → (cut_field m b).1 ≡ m.separator ∷ r → left_behind s k b ≡ left_behind s (k + length (field m b) + 1) r
  left-more s k b r e =
      let p = k + length (field m b) in
      let no = distinct.0 in
      let other : (m.separator == m.line_end) ≡ false = grind (arith, nat_tests) in
      ap (behind_lines s) (entries-more k b m.separator r e)
      ∙ ap (λ t. cond t (left_behind (p + 1) (p + 1) r) (left_behind s (p + 1) r)) other

  -- ---- one record

  -- the record at the front of b ends before a line end, behind which the rest stands
  pub record Closed (k : ℕ) (b rest : List ℕ) : Type 0 where
    pub rows : rows_from k b ≡ fields m b ∷ rows_from (k + extent m b + 1) rest
    pub left : (s : ℕ) → left_behind s k b ≡ left_behind (k + extent m b + 1) (k + extent m b + 1) rest

  -- the record at the front of b goes on behind it
  pub record Open (k : ℕ) (b : List ℕ) : Type 0 where
    pub rows : rows_from k b ≡ []
    pub left : (s : ℕ) → left_behind s k b ≡ s

  closed_within : (n k : ℕ) (b rest : List ℕ) → length b < n → drop k text ≡ b → drop (extent m b) b ≡ m.line_end ∷ rest → Closed k b rest
  closed_within zero k b rest h at ended = absurd (omega arith)
  closed_within (suc n) k b rest h at ended = by_rest (behind m.separator (cut_field m b).1) refl (λ r l. closed_within n (k + length (field m b) + 1) r rest l)
    where
      by_rest : (o : Option (List ℕ)) → behind m.separator (cut_field m b).1 ≡ o
          → ((r : List ℕ) → length r < n → drop (k + length (field m b) + 1) text ≡ r → drop (extent m r) r ≡ m.line_end ∷ rest → Closed (k + length (field m b) + 1) r rest) → Closed k b rest
      by_rest None e _ =
          let size = extent_last m b e in
          let t : (cut_field m b).1 ≡ m.line_end ∷ rest = sym (left-field b) ∙ ap (λ j. drop j b) (sym size) ∙ ended in
          let step = fields_last m b e in
          record {
            rows = rows-last k b rest at t ∙ (λ j. sym step j ∷ rows_from (k + sym size j + 1) rest);
            left = λ s. left-last s k b rest t ∙ ap (λ i. left_behind (k + i + 1) (k + i + 1) rest) (sym size);
          }
      by_rest (Some r) e deeper =
          let size = extent_more m b r e in
          let t = behind-some m.separator (cut_field m b).1 r e in
          let short = behind-shorter m b r e in
          let here : drop (k + length (field m b) + 1) text ≡ r =
          ap (λ j. drop j text) (omega arith) ∙ sym (drop-drop (length (field m b) + 1) k text) ∙ ap (drop (length (field m b) + 1)) at ∙ drop-left b m.separator r t in
          let inner = deeper r (omega arith) here (sym (drop-record b m.separator r t) ∙ ap (λ j. drop j b) (sym size) ∙ ended) in
          let place : k + length (field m b) + 1 + extent m r + 1 ≡ k + extent m b + 1 = omega (arith, size) in
          let step = fields_more m b r e in
          record {
            rows = rows-more k b r at t ∙ ap (onto_first (field m b)) inner.rows ∙ (λ j. sym step j ∷ rows_from (place j) rest);
            left = λ s. left-more s k b r t ∙ inner.left s ∙ ap (λ j. left_behind j j rest) place;
          }

  open_within : (n k : ℕ) (b : List ℕ) → length b < n → drop k text ≡ b → drop (extent m b) b ≡ [] → Open k b
  open_within zero k b h at ended = absurd (omega arith)
  open_within (suc n) k b h at ended = by_rest (behind m.separator (cut_field m b).1) refl (λ r l. open_within n (k + length (field m b) + 1) r l)
    where
      by_rest : (o : Option (List ℕ)) → behind m.separator (cut_field m b).1 ≡ o
          → ((r : List ℕ) → length r < n → drop (k + length (field m b) + 1) text ≡ r → drop (extent m r) r ≡ [] → Open (k + length (field m b) + 1) r) → Open k b
      by_rest None e _ =
          let t : (cut_field m b).1 ≡ [] = sym (left-field b) ∙ ap (λ j. drop j b) (sym (extent_last m b e)) ∙ ended in
          let none : entries m Begin k b ≡ [] = entries-field m k b distinct ∙ ap (entries_left m (k + length (field m b))) t in
          record {
            rows = ap (λ es. fields_of text (records_at k es)) none;
            left = λ s. ap (behind_lines s) none;
          }
      by_rest (Some r) e deeper =
          let size = extent_more m b r e in
          let t = behind-some m.separator (cut_field m b).1 r e in
          let short = behind-shorter m b r e in
          let here : drop (k + length (field m b) + 1) text ≡ r =
          ap (λ j. drop j text) (omega arith) ∙ sym (drop-drop (length (field m b) + 1) k text) ∙ ap (drop (length (field m b) + 1)) at ∙ drop-left b m.separator r t in
          let inner = deeper r (omega arith) here (sym (drop-record b m.separator r t) ∙ ap (λ j. drop j b) (sym size) ∙ ended) in
          record {
            rows = rows-more k b r at t ∙ ap (onto_first (field m b)) inner.rows;
            left = λ s. left-more s k b r t ∙ inner.left s;
          }

  -- ---- a record before more bytes

  begins_quoted-before : (q : Option ℕ) (f : List ℕ) (x : ℕ) (t r : List ℕ) → begins_quoted q (f ++ x ∷ t) ≡ begins_quoted q (f ++ x ∷ r)
  begins_quoted-before q [] x t r = refl
  begins_quoted-before q (y ∷ f) x t r = refl

  cut_field-more : (b : List ℕ) (x : ℕ) (r more : List ℕ) → (cut_field m b).1 ≡ x ∷ r → cut_field m (b ++ more) ≡ (field m b, x ∷ (r ++ more))
  cut_field-more b x r more e =
      let w = IsWalk-cut_field m b in
      let ended : is_end (mode m b) (0 + quotes (mode m b) (field m b)) (x ∷ (r ++ more)) ≡ true = ap (is_end (mode m b) (0 + quotes (mode m b) (field m b))) (sym e) ∙ w.ended in
      let whole : field m b ++ x ∷ r ≡ b = ap (λ (l : List ℕ). field m b ++ l) (sym e) ∙ w.whole in
      let longer : b ++ more ≡ field m b ++ x ∷ (r ++ more) = ap (λ (l : List ℕ). l ++ more) (sym whole) ∙ append_assoc (field m b) (x ∷ r) more in
      ap (cut_field m) longer ∙ cut_field-before m b (x ∷ (r ++ more)) ended (begins_quoted-before m.quote (field m b) x (r ++ more) r ∙ ap (begins_quoted m.quote) whole)

  extent_within : (n : ℕ) (b rest more : List ℕ) → length b < n → drop (extent m b) b ≡ m.line_end ∷ rest → extent m (b ++ more) ≡ extent m b
  extent_within zero b rest more h ended = absurd (omega arith)
  extent_within (suc n) b rest more h ended = by_rest (behind m.separator (cut_field m b).1) refl (λ r l. extent_within n r rest more l)
    where
      by_rest : (o : Option (List ℕ)) → behind m.separator (cut_field m b).1 ≡ o
          → ((r : List ℕ) → length r < n → drop (extent m r) r ≡ m.line_end ∷ rest → extent m (r ++ more) ≡ extent m r) → extent m (b ++ more) ≡ extent m b
      by_rest None e _ =
          let t : (cut_field m b).1 ≡ m.line_end ∷ rest = sym (left-field b) ∙ ap (λ j. drop j b) (sym (extent_last m b e)) ∙ ended in
          let cut = cut_field-more b m.line_end rest more t in
          let no = distinct.0 in
          let other : (m.line_end == m.separator) ≡ false = grind (arith, nat_tests) in
          let last : behind m.separator (cut_field m (b ++ more)).1 ≡ None = rw (cut, other) refl in
          extent_last m (b ++ more) last ∙ ap (λ (c : List ℕ × List ℕ). length c.0) cut ∙ sym (extent_last m b e)
      by_rest (Some r) e deeper =
          let size = extent_more m b r e in
          let t = behind-some m.separator (cut_field m b).1 r e in
          let short = behind-shorter m b r e in
          let cut = cut_field-more b m.separator r more t in
          let same : (m.separator == m.separator) ≡ true = grind (arith, nat_tests) in
          let on : behind m.separator (cut_field m (b ++ more)).1 ≡ Some (r ++ more) = rw (cut, same) refl in
          extent_more m (b ++ more) (r ++ more) on ∙ ap (λ (c : List ℕ × List ℕ). length c.0 + 1 + extent m (r ++ more)) cut
          ∙ ap (λ j. length (field m b) + 1 + j) (deeper r (omega arith) (sym (drop-record b m.separator r t) ∙ ap (λ j. drop j b) (sym size) ∙ ended)) ∙ sym size

  -- the rows of a text begin with a record that ends before a line end
  rows-step : (b rest more : List ℕ) → drop (extent m b) b ≡ m.line_end ∷ rest → rows m None (b ++ more) ≡ ended_row (fields m b) ∷ rows m None (rest ++ more)
  rows-step b rest more ended =
      let size = extent_within (length b + 1) b rest more (omega arith) ended in
      let n = extent m b in
      let inside : n < length b = omega (arith, ap length ended, length-drop n b) in
      let some : 0 < length (b ++ more) = omega (arith, length-append b more) in
      let text_is : take (extent m (b ++ more)) (b ++ more) ≡ take n b = ap (λ j. take j (b ++ more)) size ∙ take-append-le n b more (omega arith) in
      let long : length (take (extent m (b ++ more)) (b ++ more)) ≡ n = ap length text_is ∙ length-take-le n b (omega arith) in
      let behind_is : drop (length (take (extent m (b ++ more)) (b ++ more))) (b ++ more) ≡ m.line_end ∷ (rest ++ more) =
      ap (λ j. drop j (b ++ more)) long ∙ drop-append-le n b more (omega arith) ∙ ap (λ (l : List ℕ). l ++ more) ended in
      let left : drop (length (take (extent m (b ++ more)) (b ++ more)) + 1) (b ++ more) ≡ rest ++ more =
      ap (λ j. drop (j + 1) (b ++ more)) long ∙ drop-append-le (n + 1) b more (omega arith) ∙ ap (λ (l : List ℕ). l ++ more) (sym (drop-drop 1 n b) ∙ ap (drop 1) ended) in
      let whole : fields m (take (extent m (b ++ more)) (b ++ more)) ≡ fields m b = ap (fields m) text_is ∙ fields-text m b distinct in
      let not_end : (length (m.line_end ∷ (rest ++ more)) == 0) ≡ false = grind (arith, nat_tests) in
      let end_is : (length (drop (length (take (extent m (b ++ more)) (b ++ more))) (b ++ more)) == 0) ≡ false = ap (λ (l : List ℕ). length l == 0) behind_is ∙ not_end in
      ap (filter_map (row_of m)) (items_behind-step m None (b ++ more) some) ∙ (λ j. row (whole j) (end_is j) ∷ rows m None (left j))

  -- ---- all records

  records_within : (n k : ℕ) (b more : List ℕ) → length b < n → drop k text ≡ b
      → rows m None (b ++ more) ≡ map ended_row (rows_from k b) ++ rows m None (drop (left_behind k k b) text ++ more)
  records_within zero k b more h at = absurd (omega arith)
  records_within (suc n) k b more h at = by_end (IsRecordAt-extent m b).ended (λ j r l. records_within n j r more l)
    where
      by_end : (drop (extent m b) b ≡ []) ⊎ ((rest : List ℕ) × (drop (extent m b) b ≡ m.line_end ∷ rest))
          → ((j : ℕ) (r : List ℕ) → length r < n → drop j text ≡ r → rows m None (r ++ more) ≡ map ended_row (rows_from j r) ++ rows m None (drop (left_behind j j r) text ++ more))
          → rows m None (b ++ more) ≡ map ended_row (rows_from k b) ++ rows m None (drop (left_behind k k b) text ++ more)
      by_end (inl ended) _ =
          let o = open_within (length b + 1) k b (omega arith) at ended in
          sym ((λ j. map ended_row (o.rows j) ++ rows m None (drop (o.left k j) text ++ more)) ∙ ap (λ (l : List ℕ). rows m None (l ++ more)) at)
      by_end (inr some) deeper =
          let rest = some.0 in
          let ended = some.1 in
          let c = closed_within (length b + 1) k b rest (omega arith) at ended in
          let n = extent m b in
          let shorter : length rest < length b = omega (arith, ap length ended, length-drop n b) in
          let here : drop (k + n + 1) text ≡ rest =
          ap (λ j. drop j text) (omega arith) ∙ sym (drop-drop (n + 1) k text) ∙ ap (drop (n + 1)) at ∙ sym (drop-drop 1 n b) ∙ ap (drop 1) ended in
          rows-step b rest more ended
          ∙ ap (λ l. ended_row (fields m b) ∷ l) (deeper (k + n + 1) rest (omega arith) here)
          ∙ sym (λ j. map ended_row (c.rows j) ++ rows m None (drop (c.left k j) text ++ more))

  -- the rows that a text begins with, whatever follows it
  pub rows-whole : (more : List ℕ) → rows m None (text ++ more) ≡ map ended_row (rows_from 0 text) ++ rows m None (drop (left_behind 0 0 text) text ++ more)
  rows-whole more = records_within (length text + 1) 0 text more (omega arith) refl

  -- no record of them ends within a quoted field
  all_closed : (n k : ℕ) (b : List ℕ) → length b < n → drop k text ≡ b → AreClosed m (rows_from k b)
  all_closed zero k b h at = absurd (omega arith)
  all_closed (suc n) k b h at = by_end (IsRecordAt-extent m b).ended (λ j r l. all_closed n j r l)
    where
      by_end : (drop (extent m b) b ≡ []) ⊎ ((rest : List ℕ) × (drop (extent m b) b ≡ m.line_end ∷ rest))
          → ((j : ℕ) (r : List ℕ) → length r < n → drop j text ≡ r → AreClosed m (rows_from j r)) → AreClosed m (rows_from k b)
      by_end (inl ended) _ =
          let o = open_within (length b + 1) k b (omega arith) at ended in
          subst (AreClosed m) (sym o.rows) tt
      by_end (inr some) deeper =
          let rest = some.0 in
          let ended = some.1 in
          let c = closed_within (length b + 1) k b rest (omega arith) at ended in
          let n = extent m b in
          let shorter : length rest < length b = omega (arith, ap length ended, length-drop n b) in
          let here : drop (k + n + 1) text ≡ rest =
          ap (λ j. drop j text) (omega arith) ∙ sym (drop-drop (n + 1) k text) ∙ ap (drop (n + 1)) at ∙ sym (drop-drop 1 n b) ∙ ap (drop 1) ended in
          subst (AreClosed m) (sym c.rows) (have_open_end-closed m b m.line_end rest distinct ended, deeper (k + n + 1) rest (omega arith) here)

  pub rows-closed : AreClosed m (rows_from 0 text)
  rows-closed = all_closed (length text + 1) 0 text (omega arith) refl

  -- what is left of a text behind its last record that a line end ends
  left_within : (n k : ℕ) (b : List ℕ) → length b < n → drop k text ≡ b → drop (extent m (drop (left_behind k k b) text)) (drop (left_behind k k b) text) ≡ []
  left_within zero k b h at = absurd (omega arith)
  left_within (suc n) k b h at = by_end (IsRecordAt-extent m b).ended (λ j r l. left_within n j r l)
    where
      by_end : (drop (extent m b) b ≡ []) ⊎ ((rest : List ℕ) × (drop (extent m b) b ≡ m.line_end ∷ rest))
          → ((j : ℕ) (r : List ℕ) → length r < n → drop j text ≡ r → drop (extent m (drop (left_behind j j r) text)) (drop (left_behind j j r) text) ≡ [])
          → drop (extent m (drop (left_behind k k b) text)) (drop (left_behind k k b) text) ≡ []
      by_end (inl ended) _ =
          let o = open_within (length b + 1) k b (omega arith) at ended in
          let same : drop (left_behind k k b) text ≡ b = ap (λ j. drop j text) (o.left k) ∙ at in
          ap (λ (l : List ℕ). drop (extent m l) l) same ∙ ended
      by_end (inr some) deeper =
          let rest = some.0 in
          let ended = some.1 in
          let c = closed_within (length b + 1) k b rest (omega arith) at ended in
          let n = extent m b in
          let shorter : length rest < length b = omega (arith, ap length ended, length-drop n b) in
          let here : drop (k + n + 1) text ≡ rest =
          ap (λ j. drop j text) (omega arith) ∙ sym (drop-drop (n + 1) k text) ∙ ap (drop (n + 1)) at ∙ sym (drop-drop 1 n b) ∙ ap (drop 1) ended in
          ap (λ j. drop (extent m (drop j text)) (drop j text)) (c.left k) ∙ deeper (k + n + 1) rest (omega arith) here

  pub left-open : drop (extent m (drop (left_behind 0 0 text) text)) (drop (left_behind 0 0 text) text) ≡ []
  left-open = left_within (length text + 1) 0 text (omega arith) refl
