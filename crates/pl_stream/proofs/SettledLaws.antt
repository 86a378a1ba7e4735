-- Settled records of bytes, and of more.
use Rattle.std.proofs.Common.{◌≡◌, ℕ, zero, suc, ◌+◌, ◌-◌, ◌<◌, ◌≤◌, Bool, true, false, cond, not, ◌==◌, List, [], ◌∷◌, ◌++◌, length, take, drop, Option, None, Some, refl, sym, ◌∙◌, ap, subst, arith, inl, inr, append_assoc, length-append, length-drop}
use Rattle.std.specs.Prelude.{filter, unwrap_or}
use Rattle.std.specs.List.{filter_map}
use Rattle.std.proofs.lemmas.Bool.{cases_lt}
use Rattle.std.proofs.lemmas.Bool.Decides.{nat_tests}
use Rattle.std.proofs.lemmas.List.{drop_all, drop-append-le}
use Rattle.pl_frame.specs.Dialect.{Marks, IsDialect, IsCommentPrefix}
use Rattle.pl_options.specs.declared.read_options.CsvReadOptions.{CsvReadOptions}
use Rattle.pl_options.specs.Text.{marks_of, comment_of}
use Rattle.pl_read.specs.Options.{data_of}
use Rattle.pl_read.specs.Rows.{rows_in}
use Rattle.pl_rows.specs.Ranges.{limited}
use Rattle.pl_rows.proofs.RangeLaws.{rows-nil}
use Rattle.pl_scan.specs.Fields.{fields}
use Rattle.pl_scan.specs.Items.{ItemText, CommentText, RecordText, text_of, item, items_behind}
use Rattle.pl_scan.proofs.ItemLaws.{items_behind-step, items_behind-nil}
use Rattle.pl_table.specs.Rows.{Row, row_of, rows}
use Rattle.pl_stream.specs.Laws.{SettledRowsStay}
use Rattle.pl_stream.specs.Settled.{tells_head, is_whole, rows_so_far, settled_rows}
use Rattle.pl_stream.proofs.StayLaws.{Goes, IsBroken, IsStuck, data-goes, tells-more}
use Rattle.pl_stream.proofs.WholeLaws.{item-stays, text-fits}

-- the first elements of a list
abbrev pub Begins : {X : Type 0} → List X → List X → Type 0
Begins {X} xs all = (others : List X) × (all ≡ xs ++ others)

begins-take : {X : Type 0} (n : ℕ) (xs ys : List X) → Begins (take n xs) (take n (xs ++ ys))
begins-take zero xs ys = ([], refl)
begins-take (suc n) [] ys = (take (suc n) ys, refl)
begins-take (suc n) (x ∷ xs) ys = let deeper = begins-take n xs ys in (deeper.0, ap (λ l. x ∷ l) deeper.1)

begins-limited : {X : Type 0} (limit : Option ℕ) (xs ys : List X) → Begins (limited limit xs) (limited limit (xs ++ ys))
begins-limited None xs ys = (ys, refl)
begins-limited (Some n) xs ys = begins-take n xs ys

pub limited-nil : {X : Type 0} (limit : Option ℕ) → limited {X = X} limit [] ≡ []
limited-nil None = refl
limited-nil (Some zero) = refl
limited-nil (Some (suc n)) = refl

-- ---- whole records of a text

abbrev pub whole_rows : Marks → Option (List ℕ) → List ℕ → List Row
whole_rows m comment b = filter is_whole (rows m comment b)

abbrev whole_of : Marks → List (ItemText × List ℕ) → List Row
whole_of m parts = filter is_whole (filter_map (row_of m) parts)

-- an item with nothing behind it has no whole record
last-none : (m : Marks) (f : ItemText) → whole_of m ((f, []) ∷ []) ≡ []
last-none m (CommentText text) = refl
last-none m (RecordText text) = refl

-- one with something behind it has the same, whatever that is
abbrev own_rows : Marks → ItemText → List Row
own_rows m (CommentText text) = []
own_rows m (RecordText text) = record { fields = fields m text; is_end = false } ∷ []

first-whole : (m : Marks) (f : ItemText) (behind : List ℕ) (others : List (ItemText × List ℕ)) → 0 < length behind → whole_of m ((f, behind) ∷ others) ≡ own_rows m f ++ whole_of m others
first-whole m (CommentText text) behind others some = refl
first-whole m (RecordText text) behind others some =
    let none : (length behind == 0) ≡ false = grind (arith, nat_tests, some) in
    ap (λ t. filter is_whole (record { fields = fields m text; is_end = t } ∷ filter_map (row_of m) others)) none

-- no record is whole where no line end stands behind the first item
pub broken-none : (m : Marks) (comment : Option (List ℕ)) (b : List ℕ) → IsBroken m comment b → whole_rows m comment b ≡ []
broken-none m comment [] none = ap (filter is_whole) (rows-nil m comment)
broken-none m comment (x ∷ xs) none =
    let b : List ℕ = x ∷ xs in
    let size : ℕ = length (text_of (item m comment b)) in
    ap (whole_of m) (items_behind-step m comment b (omega arith)
    ∙ ap (λ l. (item m comment b, l) ∷ items_behind m comment (drop (size + 1) b)) (drop_all size b (omega (arith, none)))
    ∙ ap (λ l. (item m comment b, []) ∷ items_behind m comment l) (drop_all (size + 1) b (omega (arith, none)))
    ∙ ap (λ l. (item m comment b, []) ∷ l) (items_behind-nil m comment)) ∙ last-none m (item m comment b)

module _ (m : Marks) (comment : Option (List ℕ)) (more : List ℕ) (free : IsCommentPrefix m.line_end comment) where
  stay_within : (n : ℕ) (b : List ℕ) → length b < n → Begins (whole_rows m comment b) (whole_rows m comment (b ++ more))
  stay_within zero b h = absurd (omega arith)
  stay_within (suc n) [] h = (whole_rows m comment more, ap (λ l. filter is_whole l ++ whole_rows m comment more) (sym (rows-nil m comment)))
  stay_within (suc n) (x ∷ xs) h = elim (cases_lt (length (text_of (item m comment (x ∷ xs)))) (length (x ∷ xs))) [
    | inl inside ↦
        let b : List ℕ = x ∷ xs in
        let size : ℕ = length (text_of (item m comment b)) in
        let left : List ℕ = drop (size + 1) b in
        let deeper = stay_within n left (omega (arith, length-drop (size + 1) b)) in
        let own = own_rows m (item m comment b) in
        let here : whole_rows m comment b ≡ own ++ whole_rows m comment left =
        ap (whole_of m) (items_behind-step m comment b (omega arith)) ∙ first-whole m (item m comment b) (drop size b) (items_behind m comment left) (omega (arith, length-drop size b, inside)) in
        let there : whole_rows m comment (b ++ more) ≡ own ++ whole_rows m comment (left ++ more) =
        ap (whole_of m) (items_behind-step m comment (b ++ more) (omega arith)
        ∙ ap (λ (f : ItemText). (f, drop (length (text_of f)) (b ++ more)) ∷ items_behind m comment (drop (length (text_of f) + 1) (b ++ more))) (item-stays m comment b more free inside)
        ∙ ap (λ l. (item m comment b, drop size (b ++ more)) ∷ items_behind m comment l) (drop-append-le (size + 1) b more (omega (arith, inside))))
        ∙ first-whole m (item m comment b) (drop size (b ++ more)) (items_behind m comment (left ++ more)) (omega (arith, length-drop size (b ++ more), length-append b more, inside)) in
        (deeper.0, there ∙ ap (λ l. own ++ l) deeper.1 ∙ sym (append_assoc own (whole_rows m comment left) deeper.0) ∙ ap (λ l. l ++ deeper.0) (sym here))
    | inr past ↦
        let none : IsBroken m comment (x ∷ xs) = let most = text-fits m comment (x ∷ xs) in omega (arith, past, most) in
        (whole_rows m comment ((x ∷ xs) ++ more), ap (λ l. l ++ whole_rows m comment ((x ∷ xs) ++ more)) (sym (broken-none m comment (x ∷ xs) none)))
  ]

  pub whole-stay : (b : List ℕ) → Begins (whole_rows m comment b) (whole_rows m comment (b ++ more))
  whole-stay b = stay_within (length b + 1) b (omega arith)

-- ---- settled records

-- where nothing whole is left, no record is settled
pub stuck-none : (o : CsvReadOptions) (b : List ℕ) → IsStuck (marks_of o.parse_options) (comment_of o.parse_options) (data_of o b) → filter is_whole (rows_so_far o b) ≡ []
stuck-none o b none = by (data_of o b) none
  where
    by : (given : Option (List ℕ)) → IsStuck (marks_of o.parse_options) (comment_of o.parse_options) given → whole_rows (marks_of o.parse_options) (comment_of o.parse_options) (unwrap_or given []) ≡ []
    by None none = ap (filter is_whole) (rows-nil (marks_of o.parse_options) (comment_of o.parse_options))
    by (Some l) none = broken-none (marks_of o.parse_options) (comment_of o.parse_options) l none

-- by whether the head is told
abbrev by_head : CsvReadOptions → Bool → List ℕ → List Row
by_head o t l = cond t (limited o.n_rows (filter is_whole (rows_so_far o l))) []

pub settled_rows_stay : SettledRowsStay
settled_rows_stay o b more apart = by (tells_head o b) refl
  where
    told_by : tells_head o b ≡ true → Goes (marks_of o.parse_options) (comment_of o.parse_options) (data_of o) b → Begins (by_head o true b) (by_head o true (b ++ more))
    told_by told (inl (left, is, stays)) =
        let whole = whole-stay (marks_of o.parse_options) (comment_of o.parse_options) more apart.prefix left in
        let few = begins-limited o.n_rows (whole_rows (marks_of o.parse_options) (comment_of o.parse_options) left) whole.0 in
        let rows_of : Option (List ℕ) → List Row = λ given. limited o.n_rows (whole_rows (marks_of o.parse_options) (comment_of o.parse_options) (unwrap_or given [])) in
        (few.0, ap rows_of (stays more) ∙ ap (limited o.n_rows) whole.1 ∙ few.1 ∙ ap (λ given. rows_of given ++ few.0) (sym is))
    told_by told (inr none) =
        let here : by_head o true b ≡ [] = ap (limited o.n_rows) (stuck-none o b none) ∙ limited-nil o.n_rows in
        (by_head o true (b ++ more), ap (λ l. l ++ by_head o true (b ++ more)) (sym here))

    by : (t : Bool) → tells_head o b ≡ t → Begins (settled_rows o b) (settled_rows o (b ++ more))
    by false is = (settled_rows o (b ++ more), ap (λ t. by_head o t b ++ settled_rows o (b ++ more)) (sym is))
    by true is =
        let found = told_by is (data-goes o apart b is) in
        (found.0, ap (λ t. by_head o t (b ++ more)) (tells-more o b more is) ∙ found.1 ∙ ap (λ t. by_head o t b ++ found.0) (sym is))

-- ---- all rows

module _ (m : Marks) (comment : Option (List ℕ)) where
  -- the whole rows of a text are the first of all
  first-all : (f : ItemText) (behind : List ℕ) (others : List (ItemText × List ℕ)) → 0 < length behind → filter_map (row_of m) ((f, behind) ∷ others) ≡ own_rows m f ++ filter_map (row_of m) others
  first-all (CommentText text) behind others some = refl
  first-all (RecordText text) behind others some =
      let none : (length behind == 0) ≡ false = grind (arith, nat_tests, some) in
      ap (λ t. record { fields = fields m text; is_end = t } ∷ filter_map (row_of m) others) none

  all_within : (n : ℕ) (b : List ℕ) → length b < n → Begins (whole_rows m comment b) (rows m comment b)
  all_within zero b h = absurd (omega arith)
  all_within (suc n) [] h = ([], ap (λ l. l) (rows-nil m comment) ∙ ap (λ l. filter is_whole l ++ []) (sym (rows-nil m comment)))
  all_within (suc n) (x ∷ xs) h = elim (cases_lt (length (text_of (item m comment (x ∷ xs)))) (length (x ∷ xs))) [
    | inl inside ↦
        let b : List ℕ = x ∷ xs in
        let size : ℕ = length (text_of (item m comment b)) in
        let left : List ℕ = drop (size + 1) b in
        let deeper = all_within n left (omega (arith, length-drop (size + 1) b)) in
        let own = own_rows m (item m comment b) in
        let some : 0 < length (drop size b) = omega (arith, length-drop size b, inside) in
        let whole : whole_rows m comment b ≡ own ++ whole_rows m comment left = ap (whole_of m) (items_behind-step m comment b (omega arith)) ∙ first-whole m (item m comment b) (drop size b) (items_behind m comment left) some in
        let all : rows m comment b ≡ own ++ rows m comment left = ap (filter_map (row_of m)) (items_behind-step m comment b (omega arith)) ∙ first-all (item m comment b) (drop size b) (items_behind m comment left) some in
        (deeper.0, all ∙ ap (λ l. own ++ l) deeper.1 ∙ sym (append_assoc own (whole_rows m comment left) deeper.0) ∙ ap (λ l. l ++ deeper.0) (sym whole))
    | inr past ↦
        let none : IsBroken m comment (x ∷ xs) = let most = text-fits m comment (x ∷ xs) in omega (arith, past, most) in
        (rows m comment (x ∷ xs), ap (λ l. l ++ rows m comment (x ∷ xs)) (sym (broken-none m comment (x ∷ xs) none)))
  ]

-- the settled records are the first of all rows
pub settled-all : (o : CsvReadOptions) (b : List ℕ) → IsDialect (marks_of o.parse_options) (comment_of o.parse_options) → Begins (settled_rows o b) (rows_in o (unwrap_or (data_of o b) []))
settled-all o b apart = by (tells_head o b) refl
  where
    by : (t : Bool) → tells_head o b ≡ t → Begins (settled_rows o b) (rows_in o (unwrap_or (data_of o b) []))
    by false is = (rows_in o (unwrap_or (data_of o b) []), ap (λ t. by_head o t b ++ rows_in o (unwrap_or (data_of o b) [])) (sym is))
    by true is =
        let m = marks_of o.parse_options in
        let comment = comment_of o.parse_options in
        let d : List ℕ = unwrap_or (data_of o b) [] in
        let found = all_within m comment (length d + 1) d (omega arith) in
        let few = begins-limited o.n_rows (whole_rows m comment d) found.0 in
        (few.0, ap (limited o.n_rows) found.1 ∙ few.1 ∙ ap (λ t. by_head o t b ++ few.0) (sym is))
