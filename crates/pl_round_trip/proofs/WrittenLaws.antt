-- What is written of cells and names that come back: a text between quotes, or one without marks.
use Rattle.std.proofs.Common.{◌≡◌, ◌≢◌, ℕ, ◌-◌, ◌<◌, Bool, true, false, ◌||◌, ◌==◌, if◌then◌else◌, List, [], ◌∷◌, ◌++◌, length, None, Some, Option, nat_eq, refl, sym, ◌∙◌, ap, subst, inl, inr, arith}
use Rattle.std.specs.Prelude.{◌⊎◌}
use Rattle.std.specs.List.{list_any, ends_with}
use Rattle.std.proofs.lemmas.Bool.Decides.{nat_tests}
use Rattle.pl_frame.specs.declared.data_type.DataType.{DataType}
use Rattle.pl_frame.specs.Frame.{Scalar, Truth, Number, Letters}
use Rattle.pl_text.specs.ValueText.{printed}
use Rattle.pl_text.specs.FrameText.{WriteOptions, is_special, is_bare, doubled, quoted, quoted_null, needs_quotes, written_text, written_value, written_null, written_cell}
use Rattle.pl_frame.specs.Types.{is_numeric, is_text, is_readable}
use Rattle.pl_round_trip.specs.RoundTrip.{IsReadable, AreApart, IsFieldText, IsLineTail, line_marks, are_plain}
use Rattle.pl_round_trip.specs.Fits.{has_special, FitsOptions, FitsValue, FitsCell}
use Rattle.pl_round_trip.proofs.FieldLaws.{lacks, lacks-first, lacks-plain, neither, doubled-lacks, bare-lacks, no_end, quoted-end, some, text_type, number_type, truth_type}
use Rattle.pl_round_trip.proofs.CellTextLaws.{bare-field, quoted-field, needless}
use Rattle.pl_round_trip.proofs.PlainLaws.{printed-plain}

-- a text between quotes with its quotes doubled, or one that holds none of the bytes that only a quoted text may hold
abbrev pub IsWritten : WriteOptions → List ℕ → Type 0
IsWritten o text = ((inner : List ℕ) × (text ≡ quoted o.quote inner)) ⊎ (has_special o text ≡ false)

-- the marks of a way of writing that can be read again
pub are-apart : (o : WriteOptions) → FitsOptions o → AreApart o
are-apart o h = record { distinct = h.dialect.distinct; no_return = h.dialect.quote.1; separator_no_return = h.dialect.separator.1; separator_no_number = h.separator }

-- ---- what is written

bare-of : (s q : ℕ) (xs : List ℕ) → lacks s xs ≡ true → lacks 10 xs ≡ true → lacks 13 xs ≡ true → lacks q xs ≡ true → list_any (is_special s q) xs ≡ false
bare-of s q [] a b c d = refl
bare-of s q (x ∷ xs) a b c d =
    let p = lacks-first s x xs a in
    let e = lacks-first 10 x xs b in
    let r = lacks-first 13 x xs c in
    let u = lacks-first q x xs d in
    rw (p.0, e.0, r.0, u.0) (bare-of s q xs p.1 e.1 r.1 u.1)

plain-bare : (o : WriteOptions) (xs : List ℕ) → FitsOptions o → are_plain xs ≡ true → has_special o xs ≡ false
plain-bare o xs h plain = bare-of o.separator o.quote xs (lacks-plain o.separator xs h.separator plain) (lacks-plain 10 xs refl plain) (lacks-plain 13 xs refl plain) (lacks-plain o.quote xs h.quote plain)

-- of a text or a name
pub written-text : (o : WriteOptions) (text : List ℕ) → (o.style ≡ 3 → has_special o text ≡ false) → IsWritten o (written_text o text)
written-text o text bare = by (o.style == 3) refl
  where
    by_need : (t : Bool) → needs_quotes o.separator o.quote text ≡ t → IsWritten o (if t then quoted o.quote text else text)
    by_need true k = inl (text, refl)
    by_need false k = inr (neither (length text == 0) (list_any (is_special o.separator o.quote) text) k).1

    by_style : (t : Bool) → IsWritten o (if t then (if needs_quotes o.separator o.quote text then quoted o.quote text else text) else quoted o.quote text)
    by_style true = by_need (needs_quotes o.separator o.quote text) refl
    by_style false = inl (text, refl)

    by : (t : Bool) → (o.style == 3) ≡ t → IsWritten o (if t then text else (if o.style == 0 then (if needs_quotes o.separator o.quote text then quoted o.quote text else text) else quoted o.quote text))
    by true k = let is : o.style ≡ 3 = grind (arith, nat_tests, k) in inr (bare is)
    by false k = by_style (o.style == 0)

-- of what is no text
written-value : (o : WriteOptions) (numeric : Bool) (text : List ℕ) → has_special o text ≡ false → IsWritten o (written_value o numeric text)
written-value o numeric text bare = by (is_bare o.style numeric)
  where
    by : (t : Bool) → IsWritten o (if t then text else quoted o.quote text)
    by true = inr bare
    by false = inl (text, refl)

-- of a null
pub written-null : (o : WriteOptions) (type : DataType) → FitsOptions o → IsWritten o (written_cell o type None)
written-null o type h = by (o.style == 1)
  where
    same : doubled o.quote o.null ≡ o.null
    same = doubled-lacks o.quote o.null (bare-lacks o.separator o.quote o.null h.null).0

    by : (t : Bool) → IsWritten o (if t then quoted_null o.quote o.null else o.null)
    by true = inl (o.null, ap (λ l. o.quote ∷ (l ++ o.quote ∷ [])) (sym same))
    by false = inr h.null

-- a value that comes back is one of a type that can be read
pub readable : (o : WriteOptions) (type : DataType) (value : Scalar) → is_readable type ≡ true → FitsValue o type value → IsReadable type value
readable o type value can h = record { can = can; held = h.held; counted = h.counted }

plain-value : (o : WriteOptions) (type : DataType) (value : Scalar) → FitsOptions o → is_text type ≡ false → IsReadable type value → has_special o (printed type value) ≡ false
plain-value o type value h e is = plain-bare o (printed type value) h (printed-plain type value e is).1

written-letters : (o : WriteOptions) (type : DataType) (text : List ℕ) → is_text type ≡ true → FitsValue o type (Letters text) → IsWritten o (written_text o text)
written-letters o type text e h = written-text o text (λ is. (neither (length text == 0) (has_special o text) (h.bare is e)).1)

-- of a value it is not empty
filled-text : (o : WriteOptions) (text : List ℕ) → (o.style ≡ 3 → needs_quotes o.separator o.quote text ≡ false) → 0 < length (written_text o text)
filled-text o text bare = by (o.style == 3) refl
  where
    by_need : (t : Bool) → needs_quotes o.separator o.quote text ≡ t → 0 < length (if t then quoted o.quote text else text)
    by_need true k = omega arith
    by_need false k = some text (neither (length text == 0) (list_any (is_special o.separator o.quote) text) k).0

    by_style : (t : Bool) → 0 < length (if t then (if needs_quotes o.separator o.quote text then quoted o.quote text else text) else quoted o.quote text)
    by_style true = by_need (needs_quotes o.separator o.quote text) refl
    by_style false = omega arith

    by : (t : Bool) → (o.style == 3) ≡ t → 0 < length (if t then text else (if o.style == 0 then (if needs_quotes o.separator o.quote text then quoted o.quote text else text) else quoted o.quote text))
    by true k = let is : o.style ≡ 3 = grind (arith, nat_tests, k) in by_need false (bare is)
    by false k = by_style (o.style == 0)

filled-value : (o : WriteOptions) (numeric : Bool) (text : List ℕ) → 0 < length text → 0 < length (written_value o numeric text)
filled-value o numeric text long = by (is_bare o.style numeric)
  where
    by : (t : Bool) → 0 < length (if t then text else quoted o.quote text)
    by true = long
    by false = omega arith

pub filled-cell : (o : WriteOptions) (type : DataType) (value : Scalar) → IsReadable type value
    → (o.style ≡ 3 → is_text type ≡ true → needs_quotes o.separator o.quote (printed type value) ≡ false) → 0 < length (written_cell o type (Some value))
filled-cell o type (Letters text) is bare = filled-text o text (λ never. bare never (text_type type text is))
filled-cell o type (Number n) is bare = filled-value o (is_numeric type) (printed type (Number n)) (printed-plain type (Number n) (number_type type n is) is).0
filled-cell o type (Truth b) is bare = filled-value o (is_numeric type) (printed type (Truth b)) (printed-plain type (Truth b) (truth_type type b is) is).0

-- so where nothing is written of a null, it is told apart
pub filled-apart : (o : WriteOptions) (type : DataType) (value : Scalar) → IsReadable type value
    → (o.style ≡ 3 → is_text type ≡ true → needs_quotes o.separator o.quote (printed type value) ≡ false) → written_null o ≡ [] → written_cell o type (Some value) ≢ written_null o
filled-apart o type value is bare none same = let long = filled-cell o type value is bare in omega (arith, long, ap length (same ∙ none))

-- of a cell
pub written-cell : (o : WriteOptions) (type : DataType) (cell : Option Scalar) → FitsOptions o → is_readable type ≡ true → FitsCell o type cell → IsWritten o (written_cell o type cell)
written-cell o type None h can fits = written-null o type h
written-cell o type (Some (Letters text)) h can fits = written-letters o type text (text_type type text (readable o type (Letters text) can fits)) fits
written-cell o type (Some (Number n)) h can fits =
    let is = readable o type (Number n) can fits in
    written-value o (is_numeric type) (printed type (Number n)) (plain-value o type (Number n) h (number_type type n is) is)
written-cell o type (Some (Truth b)) h can fits =
    let is = readable o type (Truth b) can fits in
    written-value o (is_numeric type) (printed type (Truth b)) (plain-value o type (Truth b) h (truth_type type b is) is)

-- ---- what such a text is

-- the text of a field, also at the end of a line
pub written-field : (o : WriteOptions) (text tail : List ℕ) → FitsOptions o → IsWritten o text → IsLineTail tail → IsFieldText (line_marks o) (text ++ tail)
written-field o text tail h (inl (inner, is)) ends = subst (λ t. IsFieldText (line_marks o) (t ++ tail)) (sym is) (quoted-field o (are-apart o h) inner tail ends)
written-field o text tail h (inr bare) ends = bare-field o (are-apart o h) text tail (needless o (are-apart o h) text bare) ends

-- it does not end with a carriage return
pub written-end : (o : WriteOptions) (text : List ℕ) → FitsOptions o → IsWritten o text → ends_with nat_eq text (13 ∷ []) ≡ false
written-end o text h (inl (inner, is)) = ap (λ t. ends_with nat_eq t (13 ∷ [])) is ∙ quoted-end o.quote (doubled o.quote inner) h.dialect.quote.1
written-end o text h (inr bare) = no_end 13 (length text - 1) text (bare-lacks o.separator o.quote text bare).1

-- and it does not begin with a line feed or a carriage return
pub written-begin : (o : WriteOptions) (x : ℕ) (text : List ℕ) → FitsOptions o → IsWritten o (x ∷ text) → (x == 10 || x == 13) ≡ false
written-begin o x text h (inl (inner, is)) =
    let same : x ≡ o.quote = cc in
    let no_feed : (x == 10) ≡ false = grind (arith, nat_tests, same, h.dialect.distinct.1.1) in
    let no_return : (x == 13) ≡ false = grind (arith, nat_tests, same, h.dialect.quote.1) in
    rw (no_feed, no_return) refl
written-begin o x text h (inr bare) =
    let parts = neither (is_special o.separator o.quote x) (list_any (is_special o.separator o.quote) text) bare in
    let last = neither ((x == o.separator || x == 10) || x == 13) (x == o.quote) parts.0 in
    let return = neither (x == o.separator || x == 10) (x == 13) last.0 in
    let first = neither (x == o.separator) (x == 10) return.0 in
    rw (first.1, return.1) refl
