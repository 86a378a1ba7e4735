-- The laws of a count of rows: the number of rows behind a state is the number of items.
use Rattle.std.proofs.Common.{◌≡◌, ◌≢◌, ℕ, zero, suc, ◌+◌, ◌<◌, ◌≤◌, Bool, true, false, cond, not, ◌&&◌, ◌||◌, ◌==◌, List, [], ◌∷◌, ◌++◌, length, take, drop, get_or, refl, sym, ◌∙◌, ap, arith, zero-add, add-zero, add_assoc, one-add, length-drop}
use Rattle.std.specs.Prelude.{Option, None, Some, count_by}
use Rattle.std.specs.List.{prefix_len}
use Rattle.std.proofs.lemmas.List.Sums.{sum_by-cons}
use Rattle.std.proofs.lemmas.List.{drop_at, length-take-le, drop-drop}
use Rattle.std.proofs.lemmas.Bool.Decides.{nat_tests}
use Rattle.pl_frame.specs.Dialect.{Marks}
use Rattle.pl_scan.specs.declared.row_counter.RowState.{RowState}
use Rattle.pl_scan.specs.declared.row_counter.RowState.TheVariants.{Front, Start, Field, Plain, Even, Odd}
use Rattle.pl_scan.specs.Fields.{is_quote, is_plain, is_stop, cut_field, field, behind, extent}
use Rattle.pl_scan.specs.Items.{items, item, text_of}
use Rattle.pl_scan.specs.RowCount.{cut_line_ends, is_row}
use Rattle.pl_scan.specs.RowStates.{next_at_stop, next_state, begun, rows_behind, is_unquoted, is_run_state, state_behind}
use Rattle.pl_scan.proofs.Walk.{is_even, is_even-mark, mark, onto, walk}
use Rattle.pl_scan.proofs.FieldLaws.{unquoted, cut_field-is, IsWalk-cut_field, is_stop-cut_field, behind-some, behind-shorter}
use Rattle.pl_scan.proofs.ItemLaws.{extent_last, extent_more, IsRecordAt-extent, items-nil, items-step}

-- ---- one byte

next-plain : (m : Marks) (x : ℕ) (p : RowState) → is_plain m x ≡ true → next_at_stop m x p ≡ (p, 0)
next-plain m x p plain = by_tests (x == m.separator) (x == m.line_end) plain
  where
    by_tests : (s e : Bool) → not (s || e) ≡ true → ◌≡◌ {A = RowState × ℕ} (cond s (Field, 0) (cond e (Start, 1) (p, 0))) (p, 0)
    by_tests false false _ = refl
    by_tests true e h = absurd (cc)
    by_tests false true h = absurd (cc)

next-stop : (m : Marks) (x : ℕ) (p q : RowState) → is_plain m x ≡ false → next_at_stop m x p ≡ next_at_stop m x q
next-stop m x p q stop = by_tests (x == m.separator) (x == m.line_end) stop
  where
    by_tests : (s e : Bool) → not (s || e) ≡ false → ◌≡◌ {A = RowState × ℕ} (cond s (Field, 0) (cond e (Start, 1) (p, 0))) (cond s (Field, 0) (cond e (Start, 1) (q, 0)))
    by_tests true e _ = refl
    by_tests false true _ = refl
    by_tests false false h = absurd (cc)

-- the rows that end at a byte and behind it
abbrev pub rows_from : Marks → RowState × ℕ → List ℕ → ℕ
rows_from m next xs = next.1 + rows_behind m next.0 xs

-- ---- what is left behind a field

-- the rows behind a field, with what is left behind it
abbrev pub rows_left : Marks → List ℕ → ℕ
rows_left m [] = 1
rows_left m (x ∷ t) = rows_from m (next_at_stop m x Plain) t

rows-plain : (m : Marks) (b : List ℕ) → rows_behind m Plain b ≡ rows_left m (walk (unquoted m) 0 b).1
rows-plain m [] = refl
rows-plain m (x ∷ xs) = by_test (is_plain m x) refl (rows-plain m xs)
  where
    by_test : (t : Bool) → is_plain m x ≡ t → rows_behind m Plain xs ≡ rows_left m (walk (unquoted m) 0 xs).1
        → rows_from m (next_at_stop m x Plain) xs ≡ rows_left m (cond (not t) ([], x ∷ xs) (onto x (walk (unquoted m) 0 xs))).1
    by_test true plain e = ap (λ (n : RowState × ℕ). rows_from m n xs) (next-plain m x Plain plain) ∙ zero-add (rows_behind m Plain xs) ∙ e
    by_test false _ _ = refl

-- in a quoted field, behind n quotes
abbrev pub inside : ℕ → RowState
inside n = cond (is_even n) Even Odd

rows-quoted : (m : Marks) (n : ℕ) (b : List ℕ) → rows_behind m (inside n) b ≡ rows_left m (walk m n b).1
rows-quoted m n [] = by_test (is_even n)
  where
    by_test : (t : Bool) → begun (cond t Even Odd) ≡ 1
    by_test true = refl
    by_test false = refl
rows-quoted m n (x ∷ xs) = by_tests (is_even n) (is_plain m x) (is_quote m.quote x) refl refl refl (rows-quoted m (n + mark m x) xs)
  where
    next : (t q : Bool) → is_even n ≡ t → is_quote m.quote x ≡ q → inside (n + mark m x) ≡ cond (cond q (not t) t) Even Odd
    next t q even quote = ap (λ (u : Bool). cond u Even Odd) (is_even-mark m n x ∙ rw (even, quote) refl)

    by_tests : (t u q : Bool) → is_even n ≡ t → is_plain m x ≡ u → is_quote m.quote x ≡ q
        → rows_behind m (inside (n + mark m x)) xs ≡ rows_left m (walk m (n + mark m x) xs).1
        → rows_from m (next_state m (cond t Even Odd) x) xs ≡ rows_left m (cond (t && not u) ([], x ∷ xs) (onto x (walk m (n + mark m x) xs))).1
    by_tests true false q _ stop _ _ = ap (λ (k : RowState × ℕ). rows_from m k xs) (next-stop m x _ Plain stop)
    by_tests true true q even plain quote e =
        ap (λ (k : RowState × ℕ). rows_from m k xs) (next-plain m x _ plain) ∙ zero-add _
        ∙ ap (λ (p : RowState). rows_behind m p xs) (ap (λ (v : Bool). cond v Odd Even) quote ∙ same q ∙ sym (next true q even quote)) ∙ e
      where
        same : (v : Bool) → cond v Odd Even ≡ cond (cond v false true) Even Odd
        same true = refl
        same false = refl
    by_tests false u q even plain quote e =
        zero-add _ ∙ ap (λ (p : RowState). rows_behind m p xs) (ap (λ (v : Bool). cond v Even Odd) quote ∙ same q ∙ sym (next false q even quote)) ∙ e
      where
        same : (v : Bool) → cond v Even Odd ≡ cond (cond v true false) Even Odd
        same true = refl
        same false = refl

-- a field begins
rows-field : (m : Marks) (b : List ℕ) → rows_behind m Field b ≡ rows_left m (cut_field m b).1
rows-field m [] = sym (ap (λ (c : List ℕ × List ℕ). rows_left m c.1) (cut_field-is m []))
rows-field m (x ∷ xs) = by_test (is_quote m.quote x) refl ∙ sym (ap (λ (c : List ℕ × List ℕ). rows_left m c.1) (cut_field-is m (x ∷ xs)))
  where
    by_test : (q : Bool) → is_quote m.quote x ≡ q → rows_from m (next_at_stop m x (cond q Odd Plain)) xs
        ≡ rows_left m (walk (record { separator = m.separator; quote = cond q m.quote None; line_end = m.line_end }) 0 (x ∷ xs)).1
    by_test true quote = ap (λ (v : Bool). rows_from m (next_at_stop m x (cond v Odd Even)) xs) (sym quote) ∙ rows-quoted m 0 (x ∷ xs)
    by_test false _ = rows-plain m (x ∷ xs)

left-none : (m : Marks) (t : List ℕ) → is_stop m t ≡ true → behind m.separator t ≡ None → rows_left m t ≡ 1 + rows_behind m Start (drop 1 t)
left-none m [] _ _ = refl
left-none m (x ∷ t) stop none = by_tests (x == m.separator) (x == m.line_end) stop none
  where
    by_tests : (s e : Bool) → not (not (s || e)) ≡ true → cond s (Some t) None ≡ None
        → rows_from m (cond s (Field, 0) (cond e (Start, 1) (Plain, 0))) t ≡ 1 + rows_behind m Start t
    by_tests true e _ h = absurd (cc)
    by_tests false true _ _ = refl
    by_tests false false h _ = absurd (cc)

left-some : (m : Marks) (t r : List ℕ) → behind m.separator t ≡ Some r → rows_left m t ≡ rows_behind m Field r
left-some m [] r h = absurd (cc)
left-some m (x ∷ t) r some = by_test (x == m.separator) some
  where
    by_test : (s : Bool) → cond s (Some t) None ≡ Some r → rows_from m (cond s (Field, 0) (cond (x == m.line_end) (Start, 1) (Plain, 0))) t ≡ rows_behind m Field r
    by_test true h = let same : t ≡ r = cc in zero-add (rows_behind m Field t) ∙ ap (rows_behind m Field) same
    by_test false h = absurd (cc)

-- ---- a record, and the items

record_within : (m : Marks) (n : ℕ) (b : List ℕ) → length b < n → rows_behind m Field b ≡ 1 + rows_behind m Start (drop (extent m b + 1) b)
record_within m zero b h = absurd (omega arith)
record_within m (suc n) b h = rows-field m b ∙ by_rest (behind m.separator (cut_field m b).1) refl (λ r l. record_within m n r l)
  where
    rest : drop (length (field m b)) b ≡ (cut_field m b).1
    rest = ap (drop (length (field m b))) (sym (IsWalk-cut_field m b).whole) ∙ drop_at (field m b) (cut_field m b).1 (length (field m b)) refl

    by_rest : (o : Option (List ℕ)) → behind m.separator (cut_field m b).1 ≡ o
        → ((r : List ℕ) → length r < n → rows_behind m Field r ≡ 1 + rows_behind m Start (drop (extent m r + 1) r))
        → rows_left m (cut_field m b).1 ≡ 1 + rows_behind m Start (drop (extent m b + 1) b)
    by_rest None e _ =
        let left : drop 1 (cut_field m b).1 ≡ drop (extent m b + 1) b =
        ap (drop 1) (sym rest) ∙ drop-drop 1 (length (field m b)) b ∙ ap (λ k. drop (k + 1) b) (sym (extent_last m b e)) in
        left-none m (cut_field m b).1 (is_stop-cut_field m b) e ∙ ap (λ (l : List ℕ). 1 + rows_behind m Start l) left
    by_rest (Some r) e deeper =
        let at_r : r ≡ drop (length (field m b) + 1) b =
        sym (ap (drop 1) (behind-some m.separator (cut_field m b).1 r e)) ∙ ap (drop 1) (sym rest) ∙ drop-drop 1 (length (field m b)) b in
        let size : length (field m b) + 1 + (extent m r + 1) ≡ extent m b + 1 = omega (arith, extent_more m b r e) in
        let left : drop (extent m r + 1) r ≡ drop (extent m b + 1) b =
        ap (drop (extent m r + 1)) at_r ∙ drop-drop (extent m r + 1) (length (field m b) + 1) b ∙ ap (λ k. drop k b) size in
        left-some m (cut_field m b).1 r e ∙ deeper r (let shorter = behind-shorter m b r e in omega arith) ∙ ap (λ (l : List ℕ). 1 + rows_behind m Start l) left

rows-record : (m : Marks) (b : List ℕ) → rows_behind m Field b ≡ 1 + rows_behind m Start (drop (extent m b + 1) b)
rows-record m b = record_within m (length b + 1) b (omega arith)

items_from : (m : Marks) (n : ℕ) (b : List ℕ) → length b < n → rows_behind m Start b ≡ count_by (is_row None) (items m None b)
items_from m zero b h = absurd (omega arith)
items_from m (suc n) [] h = sym (ap (count_by (is_row None)) (items-nil m None))
items_from m (suc n) (x ∷ xs) h =
    let b = x ∷ xs in
    let size : length (take (extent m b) b) ≡ extent m b = length-take-le (extent m b) b (IsRecordAt-extent m b).fits in
    let rest = drop (length (text_of (item m None b)) + 1) b in
    let deeper = items_from m n rest (omega (arith, length-drop (length (text_of (item m None b)) + 1) b)) in
    rows-record m b
    ∙ ap (λ k. 1 + rows_behind m Start (drop (k + 1) b)) (sym size)
    ∙ ap (λ k. 1 + k) deeper
    ∙ sym (sum_by-cons (λ i. cond (is_row None i) 1 0) (item m None b) (items m None rest))
    ∙ ap (count_by (is_row None)) (sym (items-step m None b (omega arith)))

-- behind a line end the rows are the items
pub rows-start : (m : Marks) (b : List ℕ) → rows_behind m Start b ≡ count_by (is_row None) (items m None b)
rows-start m b = items_from m (length b + 1) b (omega arith)

-- the rows of a text
pub rows-front : (m : Marks) (b : List ℕ) → rows_behind m Front b ≡ count_by (is_row None) (items m None (cut_line_ends m.line_end b))
rows-front m [] = sym (ap (count_by (is_row None)) (items-nil m None))
rows-front m (x ∷ xs) = by_test (x == m.line_end) (rows-front m xs)
  where
    by_test : (t : Bool) → rows_behind m Front xs ≡ count_by (is_row None) (items m None (cut_line_ends m.line_end xs))
        → rows_from m (cond t (Front, 0) (next_state m Start x)) xs
        ≡ count_by (is_row None) (items m None (drop (cond t (1 + prefix_len (λ y. y == m.line_end) xs) 0) (x ∷ xs)))
    by_test true e = rw (one-add) (zero-add (rows_behind m Front xs) ∙ e)
    by_test false _ = rows-start m (x ∷ xs)

-- ---- bytes without quotes

stop-unquoted : (m : Marks) (x : ℕ) → m.separator ≢ m.line_end
    → next_at_stop m x Plain ≡ (state_behind m.separator m.line_end x, cond (x == m.line_end) 1 0)
stop-unquoted m x apart = by_tests (x == m.separator) (x == m.line_end) refl refl
  where
    by_tests : (s e : Bool) → (x == m.separator) ≡ s → (x == m.line_end) ≡ e
        → ◌≡◌ {A = RowState × ℕ} (cond s (Field, 0) (cond e (Start, 1) (Plain, 0))) (cond s Field (cond e Start Plain), cond e 1 0)
    by_tests true true s e = absurd (grind (arith, nat_tests, apart))
    by_tests true false _ _ = refl
    by_tests false true _ _ = refl
    by_tests false false _ _ = refl

-- one byte that is no quote, from a state where no quoted field is open
next-unquoted : (m : Marks) (p : RowState) (x : ℕ) → is_unquoted p ≡ true → m.separator ≢ m.line_end → is_quote m.quote x ≡ false
    → next_state m p x ≡ (state_behind m.separator m.line_end x, cond (x == m.line_end) 1 0)
next-unquoted m Front x h _ _ = absurd (cc)
next-unquoted m Even x h _ _ = absurd (cc)
next-unquoted m Odd x h _ _ = absurd (cc)
next-unquoted m Start x _ apart plain = rw plain (stop-unquoted m x apart)
next-unquoted m Field x _ apart plain = rw plain (stop-unquoted m x apart)
next-unquoted m Plain x _ apart _ = stop-unquoted m x apart

is_unquoted-state : (s e x : ℕ) → is_unquoted (state_behind s e x) ≡ true
is_unquoted-state s e x = by_tests (x == s) (x == e)
  where
    by_tests : (t u : Bool) → is_unquoted (cond t Field (cond u Start Plain)) ≡ true
    by_tests true u = refl
    by_tests false true = refl
    by_tests false false = refl

-- bytes without quotes, of which there is one: the rows that end in them are their line ends
pub rows-unquoted : (m : Marks) (p : RowState) (xs : List ℕ) (last : ℕ) (rest : List ℕ) → is_unquoted p ≡ true → m.separator ≢ m.line_end
    → ((k : ℕ) → k < length xs → is_quote m.quote (get_or xs k 0) ≡ false) → last + 1 ≡ length xs
    → count_by (λ x. x == m.line_end) xs + rows_behind m (state_behind m.separator m.line_end (get_or xs last 0)) rest ≡ rows_behind m p (xs ++ rest)
rows-unquoted m p [] last rest _ _ _ h = absurd (omega arith)
rows-unquoted m p (x ∷ []) (suc last) rest _ _ _ h = absurd (omega arith)
rows-unquoted m p (x ∷ y ∷ xs) zero rest _ _ _ h = absurd (omega arith)
rows-unquoted m p (x ∷ []) zero rest unquoted_p apart plain _ =
    let next = next-unquoted m p x unquoted_p apart (plain 0 (omega arith)) in
    ap (λ k. k + rows_behind m (state_behind m.separator m.line_end x) rest) (sum_by-cons (λ y. cond (y == m.line_end) 1 0) x [] ∙ add-zero _)
    ∙ sym (ap (λ (n : RowState × ℕ). rows_from m n rest) next)
rows-unquoted m p (x ∷ y ∷ xs) (suc last) rest unquoted_p apart plain h =
    let next = next-unquoted m p x unquoted_p apart (plain 0 (omega arith)) in
    let q = state_behind m.separator m.line_end x in
    let more = rows-unquoted m q (y ∷ xs) last rest (is_unquoted-state m.separator m.line_end x) apart (λ k i. plain (suc k) (omega arith)) (omega arith) in
    ap (λ k. k + rows_behind m (state_behind m.separator m.line_end (get_or (y ∷ xs) last 0)) rest) (sum_by-cons (λ z. cond (z == m.line_end) 1 0) x (y ∷ xs))
    ∙ add_assoc _ _ _
    ∙ ap (λ k. cond (x == m.line_end) 1 0 + k) more
    ∙ sym (ap (λ (n : RowState × ℕ). rows_from m n (y ∷ xs ++ rest)) next)

-- in a quoted field at an odd number of quotes no row ends before the next quote
rows-odd : (m : Marks) (xs rest : List ℕ) → ((k : ℕ) → k < length xs → is_quote m.quote (get_or xs k 0) ≡ false)
    → rows_behind m Odd rest ≡ rows_behind m Odd (xs ++ rest)
rows-odd m [] rest _ = refl
rows-odd m (x ∷ xs) rest plain =
    rows-odd m xs rest (λ k h. plain (suc k) (omega arith))
    ∙ sym (zero-add (rows_behind m Odd (xs ++ rest)))
    ∙ ap (λ q. rows_from m (cond q Even Odd, 0) (xs ++ rest)) (sym (plain 0 (omega arith)))

pub rows-inside : (m : Marks) (p : RowState) (xs rest : List ℕ) → is_run_state p ≡ true → is_unquoted p ≡ false
    → ((k : ℕ) → k < length xs → is_quote m.quote (get_or xs k 0) ≡ false) → 0 + rows_behind m p rest ≡ rows_behind m p (xs ++ rest)
rows-inside m Front xs rest h _ _ = absurd (cc)
rows-inside m Start xs rest _ h _ = absurd (cc)
rows-inside m Field xs rest _ h _ = absurd (cc)
rows-inside m Plain xs rest _ h _ = absurd (cc)
rows-inside m Even xs rest h _ _ = absurd (cc)
rows-inside m Odd xs rest _ _ plain = zero-add (rows_behind m Odd rest) ∙ rows-odd m xs rest plain

-- ---- how many there are

few-begun : (p : RowState) → begun p ≤ 1
few-begun Front = omega arith
few-begun Start = omega arith
few-begun Field = omega arith
few-begun Plain = omega arith
few-begun Even = omega arith
few-begun Odd = omega arith

-- the rows that end at a byte, and the one that has begun behind it
abbrev pub rows_at : RowState × ℕ → ℕ
rows_at next = next.1 + begun next.0

few-stop : (m : Marks) (x : ℕ) (p : RowState) → rows_at (next_at_stop m x p) ≤ 1
few-stop m x p = by_tests (x == m.separator) (x == m.line_end)
  where
    by_tests : (s e : Bool) → rows_at (cond s (Field, 0) (cond e (Start, 1) (p, 0))) ≤ 1
    by_tests true e = omega arith
    by_tests false true = omega arith
    by_tests false false = omega (arith, few-begun p)

few-next : (m : Marks) (p : RowState) (x : ℕ) → rows_at (next_state m p x) ≤ begun p + 1
few-next m Front x = by_test (x == m.line_end)
  where
    by_test : (t : Bool) → rows_at (cond t (Front, 0) (next_state m Start x)) ≤ 0 + 1
    by_test true = omega arith
    by_test false = omega (arith, few-stop m x (cond (is_quote m.quote x) Odd Plain))
few-next m Start x = omega (arith, few-stop m x (cond (is_quote m.quote x) Odd Plain))
few-next m Field x = omega (arith, few-stop m x (cond (is_quote m.quote x) Odd Plain))
few-next m Plain x = omega (arith, few-stop m x Plain)
few-next m Even x = omega (arith, few-stop m x (cond (is_quote m.quote x) Odd Even))
few-next m Odd x = omega (arith, few-begun (cond (is_quote m.quote x) Even Odd))

-- each byte ends or begins one row at most
pub few-rows : (m : Marks) (p : RowState) (xs : List ℕ) → rows_behind m p xs ≤ begun p + length xs
few-rows m p [] = omega arith
few-rows m p (x ∷ xs) = omega (arith, few-next m p x, few-rows m (next_state m p x).0 xs)
