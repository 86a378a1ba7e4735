-- The field of a value, as it is written and read.
use Rattle.std.proofs.Common.{◌≡◌, ◌≢◌, ℕ, zero, suc, ◌-◌, ◌<◌, Bool, true, false, not, ◌&&◌, ◌||◌, ◌==◌, if◌then◌else◌, List, [], ◌∷◌, ◌++◌, length, drop, Option, None, Some, Ok, Err, ℤ, nat_eq, refl, ◌∙◌, ap, arith}
use Rattle.std.specs.Cmp.Lexicographic.{pointwise}
use Rattle.std.specs.List.{ends_with, list_any}
use Rattle.std.specs.Str.{is_utf8}
use Rattle.std.proofs.lemmas.Bool.Decides.{nat_tests}
use Rattle.pl_frame.specs.declared.data_type.DataType.{DataType}
use Rattle.pl_frame.specs.declared.data_type.DataType.TheVariants as dtype
use Rattle.pl_frame.specs.Frame.{Scalar, Truth, Number, Letters}
use Rattle.pl_text.specs.ValueText.{printed}
use Rattle.pl_text.specs.FrameText.{WriteOptions, is_special, is_bare, doubled, quoted, needs_quotes, written_text, written_value, written_cell}
use Rattle.pl_frame.specs.Types.{is_numeric, is_text}
use Rattle.pl_scan.specs.Fields.{begins_quoted}
use Rattle.pl_cells.specs.Cells.{Reading, Cell, text_cell, plain_cell, quoted_cell, softened, stripped_cell, cell}
use Rattle.pl_cells.specs.Faults as fault
use Rattle.pl_cells.specs.NullTest.{NullTest}
use Rattle.pl_cells.specs.Quoting.{strip, quote_of, is_well_quoted, inside, undouble}
use Rattle.pl_cells.proofs.IntegerLaws.{and_true}
use Rattle.pl_round_trip.specs.RoundTrip.{IsReadable, IsWritable, are_plain, is_printed_byte}
use Rattle.pl_round_trip.proofs.PartLaws.{drop-front}
use Rattle.pl_round_trip.proofs.PlainLaws.{printed-plain}
use Rattle.pl_round_trip.proofs.UndoubleLaws.{undouble-doubled, inside-quotes, well-quoted, quoted-length, doubled-other}
use Rattle.pl_round_trip.proofs.ValueLaws.{cell-returns}

-- ---- bytes that a text lacks

pub lacks : ℕ → List ℕ → Bool
lacks c [] = true
lacks c (x ∷ xs) = not (x == c) && lacks c xs

not_false : (t : Bool) → not t ≡ true → t ≡ false
not_false true h = cc
not_false false h = refl

pub lacks-both : (c x : ℕ) (xs : List ℕ) → (x == c) ≡ false → lacks c xs ≡ true → lacks c (x ∷ xs) ≡ true
unfolding lacks
lacks-both c x xs e h = rw (e, h) refl

pub lacks-first : (c x : ℕ) (xs : List ℕ) → lacks c (x ∷ xs) ≡ true → ((x == c) ≡ false) × (lacks c xs ≡ true)
unfolding lacks
lacks-first c x xs h = let parts = and_true (not (x == c)) (lacks c xs) h in (not_false (x == c) parts.0, parts.1)

pub lacks-none : (c : ℕ) → lacks c [] ≡ true
unfolding lacks
lacks-none c = refl

-- a byte that is not plain is none of a plain text
pub lacks-plain : (c : ℕ) (xs : List ℕ) → is_printed_byte c ≡ false → are_plain xs ≡ true → lacks c xs ≡ true
lacks-plain c [] e h = lacks-none c
lacks-plain c (x ∷ xs) e h =
    let parts = and_true (is_printed_byte x) (are_plain xs) h in
    lacks-both c x xs (by (x == c) refl parts.0) (lacks-plain c xs e parts.1)
  where
    by : (t : Bool) → (x == c) ≡ t → is_printed_byte x ≡ true → (x == c) ≡ false
    by false k p = k
    by true k p = let is : x ≡ c = grind (arith, nat_tests, k) in let same = ap is_printed_byte is in absurd (cc)

pub neither : (a b : Bool) → (a || b) ≡ false → (a ≡ false) × (b ≡ false)
neither true b h = cc
neither false b h = (refl, h)

pub bare-lacks : (s q : ℕ) (xs : List ℕ) → list_any (is_special s q) xs ≡ false → (lacks q xs ≡ true) × (lacks 13 xs ≡ true)
bare-lacks s q [] h = (lacks-none q, lacks-none 13)
bare-lacks s q (x ∷ xs) h =
    let parts = neither (is_special s q x) (list_any (is_special s q) xs) h in
    let last = neither ((x == s || x == 10) || x == 13) (x == q) parts.0 in
    let return = neither (x == s || x == 10) (x == 13) last.0 in
    let rest = bare-lacks s q xs parts.1 in
    (lacks-both q x xs last.1 rest.0, lacks-both 13 x xs return.1 rest.1)

pub some : (xs : List ℕ) → (length xs == 0) ≡ false → 0 < length xs
some xs h = grind (arith, nat_tests, h)

pub doubled-lacks : (q : ℕ) (xs : List ℕ) → lacks q xs ≡ true → doubled q xs ≡ xs
doubled-lacks q [] h = refl
doubled-lacks q (x ∷ xs) h = let parts = lacks-first q x xs h in doubled-other q x xs parts.0 ∙ ap (λ l. x ∷ l) (doubled-lacks q xs parts.1)

-- ---- the carriage return at the end

other_end : (c x : ℕ) (xs : List ℕ) → (x == c) ≡ false → pointwise nat_eq (c ∷ []) (x ∷ xs) ≡ false
other_end c x xs e = let turned : (c == x) ≡ false = grind (arith, nat_tests, e) in rw turned refl

pub no_end : (c k : ℕ) (xs : List ℕ) → lacks c xs ≡ true → pointwise nat_eq (c ∷ []) (drop k xs) ≡ false
no_end c zero [] h = refl
no_end c (suc k) [] h = refl
no_end c zero (x ∷ xs) h = other_end c x xs (lacks-first c x xs h).0
no_end c (suc k) (x ∷ xs) h = no_end c k xs (lacks-first c x xs h).1

pub stripped : (f : List ℕ) → ends_with nat_eq f (13 ∷ []) ≡ false → strip f ≡ f
stripped f e = rw e refl

pub quoted-end : (q : ℕ) (body : List ℕ) → q ≢ 13 → ends_with nat_eq (q ∷ (body ++ q ∷ [])) (13 ∷ []) ≡ false
quoted-end q body other =
    let all : length (q ∷ (body ++ q ∷ [])) - 1 ≡ suc (length body) = omega (arith, quoted-length q body) in
    let last : (q == 13) ≡ false = grind (arith, nat_tests, other) in
    ap (λ k. pointwise nat_eq (13 ∷ []) (drop k (q ∷ (body ++ q ∷ [])))) all ∙ ap (pointwise nat_eq (13 ∷ [])) (drop-front (length body) body (q ∷ []) refl)
    ∙ other_end 13 q [] last

-- ---- fields

pub softened-ok : (t : Bool) (value : Option Scalar) → softened t (Ok value) ≡ Ok value
softened-ok true value = refl
softened-ok false value = refl

-- a field between quotes
inside-cell : (reading : Reading) (q : ℕ) (type : DataType) (value : Scalar) → IsReadable type value → is_printed_byte q ≡ false
    → quoted_cell reading q type (doubled q (printed type value)) ≡ Ok (Some value)
inside-cell reading q type value h mark = by (is_text type) (λ e. doubled-lacks q (printed type value) (lacks-plain q (printed type value) mark (printed-plain type value e h).1))
  where
    p : List ℕ
    p = printed type value

    by : (t : Bool) → (t ≡ false → doubled q (printed type value) ≡ printed type value)
        → (if t then text_cell reading type (undouble q (doubled q (printed type value))) else text_cell reading type (doubled q (printed type value))) ≡ Ok (Some value)
    by true f = ap (text_cell reading type) (undouble-doubled q (printed type value)) ∙ cell-returns reading type value h
    by false f = ap (text_cell reading type) (f refl) ∙ cell-returns reading type value h

-- what is well quoted or plain, and does not mean null, is read by its type
read-on : (ill null missing : Bool) (own : Cell) (value : Option Scalar) → ill ≡ false → null ≡ false → own ≡ Ok value
    → (if ill then Err fault.Escape else (if null && not missing then Ok None else own)) ≡ Ok value
read-on false false missing own value e f k = k
read-on true null missing own value e f k = cc
read-on false true missing own value e f k = cc

first-false : (a b : Bool) → a ≡ false → (a && b) ≡ false
first-false true b e = cc
first-false false b e = refl

tested-quoted : (reading : Reading) (is_null : NullTest) (q : ℕ) (type : DataType) (body : List ℕ) (value : Scalar) → is_null (q ∷ (body ++ q ∷ [])) ≡ false
    → quoted_cell reading q type body ≡ Ok (Some value) → stripped_cell reading is_null (Some q) type (q ∷ (body ++ q ∷ [])) ≡ Ok (Some value)
tested-quoted reading is_null q type body value meant h =
    let field = q ∷ (body ++ q ∷ []) in
    read-on (not (is_well_quoted q field)) (is_null field && is_well_quoted q field) false
    (softened reading.ignore_errors (quoted_cell reading q type (inside field))) (Some value) (ap not (well-quoted q body))
    (first-false (is_null field) (is_well_quoted q field) meant)
    (ap (λ l. softened reading.ignore_errors (quoted_cell reading q type l)) (inside-quotes q body) ∙ ap (softened reading.ignore_errors) h ∙ softened-ok reading.ignore_errors (Some value))

pub same_byte : (q : ℕ) → (q == q) ≡ true
same_byte q = grind (arith, nat_tests)

quoted-field : (reading : Reading) (is_null : NullTest) (q : ℕ) (type : DataType) (value : Scalar) → IsReadable type value → is_printed_byte q ≡ false → q ≢ 13
    → is_null (quoted q (printed type value)) ≡ false → cell reading is_null (Some q) type (quoted q (printed type value)) ≡ Ok (Some value)
quoted-field reading is_null q type value h mark other meant =
    let body = doubled q (printed type value) in
    let field = q ∷ (body ++ q ∷ []) in
    ap (stripped_cell reading is_null (quote_of (Some q) field) type) (stripped field (quoted-end q body other))
    ∙ ap (λ (t : Bool). stripped_cell reading is_null (if t then Some q else None) type field) (same_byte q)
    ∙ tested-quoted reading is_null q type body value meant (inside-cell reading q type value h mark)

-- a field as it is
pub not_quoted : (q : ℕ) (p : List ℕ) → lacks q p ≡ true → begins_quoted (Some q) p ≡ false
not_quoted q [] h = refl
not_quoted q (x ∷ p) h = (lacks-first q x p h).0

plain-text : (reading : Reading) (type : DataType) (p : List ℕ) → 0 < length p → plain_cell reading type p ≡ text_cell reading type p
plain-text reading type [] h = absurd (omega arith)
plain-text reading type (x ∷ p) h = refl

tested-plain : (reading : Reading) (is_null : NullTest) (type : DataType) (p : List ℕ) → is_null p ≡ false → stripped_cell reading is_null None type p ≡ softened reading.ignore_errors (plain_cell reading type p)
tested-plain reading is_null type p e = rw e refl

plain-field : (reading : Reading) (is_null : NullTest) (q : ℕ) (type : DataType) (value : Scalar) → IsReadable type value → is_null (printed type value) ≡ false
    → 0 < length (printed type value) → lacks q (printed type value) ≡ true → lacks 13 (printed type value) ≡ true
    → cell reading is_null (Some q) type (printed type value) ≡ Ok (Some value)
plain-field reading is_null q type value h meant long quote return =
    let p = printed type value in
    ap (stripped_cell reading is_null (quote_of (Some q) p) type) (stripped p (no_end 13 (length p - 1) p return))
    ∙ ap (λ (t : Bool). stripped_cell reading is_null (if t then Some q else None) type p) (not_quoted q p quote)
    ∙ tested-plain reading is_null type p meant
    ∙ ap (softened reading.ignore_errors) (plain-text reading type p long ∙ cell-returns reading type value h)
    ∙ softened-ok reading.ignore_errors (Some value)

-- a field of a way of writing is read as the value, where it does not mean null
abbrev ReturnsUnlessNull : Reading → NullTest → WriteOptions → DataType → Scalar → List ℕ → Type 0
ReturnsUnlessNull reading is_null o type value field = is_null field ≡ false → cell reading is_null (Some o.quote) type field ≡ Ok (Some value)

quoted-returns : (reading : Reading) (is_null : NullTest) (o : WriteOptions) (type : DataType) (value : Scalar) → IsWritable o is_null type value
    → ReturnsUnlessNull reading is_null o type value (quoted o.quote (printed type value))
quoted-returns reading is_null o type value h meant = quoted-field reading is_null o.quote type value h.readable h.mark h.no_return meant

-- a text that needs no quotes
bare-returns : (reading : Reading) (is_null : NullTest) (o : WriteOptions) (type : DataType) (value : Scalar) → IsWritable o is_null type value
    → needs_quotes o.separator o.quote (printed type value) ≡ false → ReturnsUnlessNull reading is_null o type value (printed type value)
bare-returns reading is_null o type value h bare meant =
    let p = printed type value in
    let parts = neither (length p == 0) (list_any (is_special o.separator o.quote) p) bare in
    let none = bare-lacks o.separator o.quote p parts.1 in
    plain-field reading is_null o.quote type value h.readable meant (some p parts.0) none.0 none.1

-- what is no text, without quotes
other-returns : (reading : Reading) (is_null : NullTest) (o : WriteOptions) (type : DataType) (value : Scalar) → is_text type ≡ false → IsWritable o is_null type value
    → ReturnsUnlessNull reading is_null o type value (printed type value)
other-returns reading is_null o type value e h meant =
    let p = printed type value in
    let plain = printed-plain type value e h.readable in
    plain-field reading is_null o.quote type value h.readable meant plain.0 (lacks-plain o.quote p h.mark plain.1) (lacks-plain 13 p refl plain.1)

-- a text under each style
text-field : (reading : Reading) (is_null : NullTest) (o : WriteOptions) (type : DataType) (text : List ℕ) → is_text type ≡ true → IsWritable o is_null type (Letters text)
    → ReturnsUnlessNull reading is_null o type (Letters text) (written_text o text)
text-field reading is_null o type text e h = by (o.style == 3) refl
  where
    by_need : (t : Bool) → needs_quotes o.separator o.quote text ≡ t → ReturnsUnlessNull reading is_null o type (Letters text) (if t then quoted o.quote text else text)
    by_need true k = quoted-returns reading is_null o type (Letters text) h
    by_need false k = bare-returns reading is_null o type (Letters text) h k

    by_style : (t : Bool) → ReturnsUnlessNull reading is_null o type (Letters text) (if t then (if needs_quotes o.separator o.quote text then quoted o.quote text else text) else quoted o.quote text)
    by_style true = by_need (needs_quotes o.separator o.quote text) refl
    by_style false = quoted-returns reading is_null o type (Letters text) h

    by : (t : Bool) → (o.style == 3) ≡ t
        → ReturnsUnlessNull reading is_null o type (Letters text) (if t then text else (if o.style == 0 then (if needs_quotes o.separator o.quote text then quoted o.quote text else text) else quoted o.quote text))
    by true k = let is : o.style ≡ 3 = grind (arith, nat_tests, k) in bare-returns reading is_null o type (Letters text) h (h.bare is e)
    by false k = by_style (o.style == 0)

-- what is no text, under each style
value-field : (reading : Reading) (is_null : NullTest) (o : WriteOptions) (numeric : Bool) (type : DataType) (value : Scalar) → is_text type ≡ false → IsWritable o is_null type value
    → ReturnsUnlessNull reading is_null o type value (written_value o numeric (printed type value))
value-field reading is_null o numeric type value e h = by (is_bare o.style numeric)
  where
    by : (t : Bool) → ReturnsUnlessNull reading is_null o type value (if t then printed type value else quoted o.quote (printed type value))
    by true = other-returns reading is_null o type value e h
    by false = quoted-returns reading is_null o type value h

-- texts are values of the types of texts alone
pub text_type : (type : DataType) (text : List ℕ) → IsReadable type (Letters text) → is_text type ≡ true
text_type dtype.String text h = refl
text_type dtype.Categorical text h = refl
text_type (dtype.Enum d) text h = refl
text_type type text h = let no = (and_true (is_utf8 text) false h.held).1 in cc

pub number_type : (type : DataType) (n : ℤ) → IsReadable type (Number n) → is_text type ≡ false
number_type dtype.String n h = let no = h.held in cc
number_type dtype.Categorical n h = let no = h.held in cc
number_type (dtype.Enum d) n h = let no = h.held in cc
number_type type n h = refl

pub truth_type : (type : DataType) (b : Bool) → IsReadable type (Truth b) → is_text type ≡ false
truth_type dtype.String b h = let no = h.held in cc
truth_type dtype.Categorical b h = let no = h.held in cc
truth_type (dtype.Enum d) b h = let no = h.held in cc
truth_type type b h = refl

pub field-returns : (reading : Reading) (is_null : NullTest) (o : WriteOptions) (type : DataType) (value : Scalar) → IsWritable o is_null type value
    → cell reading is_null (Some o.quote) type (written_cell o type (Some value)) ≡ Ok (Some value)
field-returns reading is_null o type (Letters text) h = text-field reading is_null o type text (text_type type text h.readable) h h.meant
field-returns reading is_null o type (Number n) h = value-field reading is_null o (is_numeric type) type (Number n) (number_type type n h.readable) h h.meant
field-returns reading is_null o type (Truth b) h = value-field reading is_null o (is_numeric type) type (Truth b) (truth_type type b h.readable) h h.meant
