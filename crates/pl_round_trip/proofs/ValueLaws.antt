-- Values of all types that are printed and read, as values and as cells.
use Rattle.std.proofs.Common.{◌≡◌, ℕ, ◌<◌, Bool, true, false, ◌==◌, if◌then◌else◌, List, [], ◌∷◌, length, Option, None, Some, Ok, Err, refl, ◌∙◌, ap, arith}
use Rattle.std.specs.Str.{is_utf8}
use Rattle.std.proofs.lemmas.Bool.Decides.{nat_tests}
use Rattle.std.proofs.lemmas.Str.{IsUtf8-from_is_utf8, utf8_lossy-IsUtf8}
use Rattle.pl_frame.specs.declared.data_type.DataType.{DataType}
use Rattle.pl_frame.specs.declared.data_type.DataType.TheVariants as dtype
use Rattle.pl_frame.specs.Columns.{is_text_of}
use Rattle.pl_frame.specs.Frame.{Scalar, Truth, Number, Letters}
use Rattle.pl_text.specs.ValueText.{printed}
use Rattle.pl_frame.specs.Types.{is_text, is_whole_number}
use Rattle.pl_cells.specs.declared.utf8.CsvEncoding.{CsvEncoding}
use Rattle.pl_cells.specs.declared.utf8.CsvEncoding.TheVariants as encoding
use Rattle.pl_cells.specs.Cells.{Reading, Cell, string_cell, value_cell, category_cell, value_or_null, value_text, text_cell}
use Rattle.pl_cells.specs.Faults as fault
use Rattle.pl_cells.specs.Integers.{without_blanks}
use Rattle.pl_cells.specs.Values.{value_of_text}
use Rattle.pl_cells.proofs.IntegerLaws.{and_true}
use Rattle.pl_round_trip.specs.RoundTrip.{IsReadable, Returns}
use Rattle.pl_round_trip.proofs.DayLaws.{day-returns}
use Rattle.pl_round_trip.proofs.ClockLaws.{time_of_day-returns}
use Rattle.pl_round_trip.proofs.MomentLaws.{moment-returns}
use Rattle.pl_round_trip.proofs.PointLaws.{scaled-returns}
use Rattle.pl_round_trip.proofs.TextLaws.{boolean-returns, text-returns}
use Rattle.pl_round_trip.proofs.WholeLaws.{whole-returns}

pub value-returns : (type : DataType) (value : Scalar) → IsReadable type value → Returns type value
value-returns dtype.Boolean (Truth b) h = boolean-returns b
value-returns type (Letters text) h = text-returns type text h.held
value-returns dtype.Int8 (Number n) h = whole-returns dtype.Int8 n refl h.held
value-returns dtype.Int16 (Number n) h = whole-returns dtype.Int16 n refl h.held
value-returns dtype.Int32 (Number n) h = whole-returns dtype.Int32 n refl h.held
value-returns dtype.Int64 (Number n) h = whole-returns dtype.Int64 n refl h.held
value-returns dtype.Int128 (Number n) h = whole-returns dtype.Int128 n refl h.held
value-returns dtype.UInt8 (Number n) h = whole-returns dtype.UInt8 n refl h.held
value-returns dtype.UInt16 (Number n) h = whole-returns dtype.UInt16 n refl h.held
value-returns dtype.UInt32 (Number n) h = whole-returns dtype.UInt32 n refl h.held
value-returns dtype.UInt64 (Number n) h = whole-returns dtype.UInt64 n refl h.held
value-returns dtype.Date (Number n) h = day-returns n h.held
value-returns dtype.Time (Number n) h = time_of_day-returns n h.held
value-returns (dtype.Datetime unit) (Number n) h = moment-returns unit n h.held h.counted
value-returns (dtype.Decimal precision (Some scale)) (Number n) h = scaled-returns precision scale n h.can h.held
value-returns (dtype.Decimal precision None) (Number n) h = let no = h.can in cc
value-returns type value h = let no = h.held in cc

-- ---- cells

-- no text is no value of a type that holds no texts
nothing : (type : DataType) → is_text type ≡ false → value_of_text type [] ≡ None
nothing (dtype.Enum (Some d)) e = cc
nothing (dtype.Decimal precision None) e = refl
nothing (dtype.Decimal precision (Some scale)) e = refl
nothing dtype.String e = cc
nothing dtype.Categorical e = cc
nothing type e = refl

pub some_text : (type : DataType) (text : List ℕ) (value : Scalar) → is_text type ≡ false → value_of_text type text ≡ Some value → 0 < length text
some_text type [] value e h = let no = nothing type e in absurd (cc)
some_text type (x ∷ text) value e h = omega arith

abbrev cell_of : Option Scalar → Cell
cell_of None = Err fault.Value
cell_of (Some value) = Ok (Some value)

valued : (type : DataType) (text : List ℕ) (value : Scalar) → value_of_text type text ≡ Some value → value_cell type text ≡ Ok (Some value)
valued type text value h = ap cell_of h

value-cell : (type : DataType) (text : List ℕ) (value : Scalar) → value_of_text type text ≡ Some value → 0 < length text → value_or_null type text ≡ Ok (Some value)
value-cell type [] value h some = absurd (omega arith)
value-cell type (x ∷ xs) value h some = valued type (x ∷ xs) value h

-- a whole number does not begin with a blank
blank-none : (type : DataType) (xs : List ℕ) → is_whole_number type ≡ true → (value_of_text type (32 ∷ xs) ≡ None) × (value_of_text type (9 ∷ xs) ≡ None)
blank-none dtype.Int8 xs h = (refl, refl)
blank-none dtype.Int16 xs h = (refl, refl)
blank-none dtype.Int32 xs h = (refl, refl)
blank-none dtype.Int64 xs h = (refl, refl)
blank-none dtype.Int128 xs h = (refl, refl)
blank-none dtype.UInt8 xs h = (refl, refl)
blank-none dtype.UInt16 xs h = (refl, refl)
blank-none dtype.UInt32 xs h = (refl, refl)
blank-none dtype.UInt64 xs h = (refl, refl)
blank-none type xs h = cc

no_blank : (x : ℕ) (xs : List ℕ) → (x == 32) ≡ false → (x == 9) ≡ false → without_blanks (x ∷ xs) ≡ x ∷ xs
no_blank x xs e f = rw (e, f, without_blanks) refl

not_blank : (type : DataType) (text : List ℕ) (value : Scalar) → is_whole_number type ≡ true → value_of_text type text ≡ Some value → without_blanks text ≡ text
not_blank type [] value whole h = refl
not_blank type (x ∷ xs) value whole h = by (x == 32) (x == 9) refl refl
  where
    by : (s t : Bool) → (x == 32) ≡ s → (x == 9) ≡ t → without_blanks (x ∷ xs) ≡ x ∷ xs
    by false false e f = no_blank x xs e f
    by true t e f =
        let is : x ≡ 32 = grind (arith, nat_tests, e) in
        let same = ap (λ y. value_of_text type (y ∷ xs)) is in
        let none = (blank-none type xs whole).0 in
        absurd (cc)
    by false true e f =
        let is : x ≡ 9 = grind (arith, nat_tests, f) in
        let same = ap (λ y. value_of_text type (y ∷ xs)) is in
        let none = (blank-none type xs whole).1 in
        absurd (cc)

counted-is : (type : DataType) (text : List ℕ) (value : Scalar) → value_of_text type text ≡ Some value → value_text type text ≡ text
counted-is type text value h = by (is_whole_number type) (λ whole. not_blank type text value whole h)
  where
    by : (t : Bool) → (t ≡ true → without_blanks text ≡ text) → (if t then without_blanks text else text) ≡ text
    by true f = f refl
    by false f = refl

-- a cell of what is no text
other : (reading : Reading) (type : DataType) (text : List ℕ) → is_text type ≡ false → text_cell reading type text ≡ value_or_null type (value_text type text)
other reading (dtype.Enum (Some d)) text e = cc
other reading (dtype.Enum None) text e = cc
other reading dtype.String text e = cc
other reading dtype.Categorical text e = cc
other reading type text e = refl

other-returns : (reading : Reading) (type : DataType) (value : Scalar) → is_text type ≡ false → IsReadable type value → text_cell reading type (printed type value) ≡ Ok (Some value)
other-returns reading type value e h =
    let back = value-returns type value h in
    other reading type (printed type value) e ∙ ap (value_or_null type) (counted-is type (printed type value) value back)
    ∙ value-cell type (printed type value) value back (some_text type (printed type value) value e back)

string-cell : (e : CsvEncoding) (text : List ℕ) → is_utf8 text ≡ true → string_cell e text ≡ Ok (Some (Letters text))
string-cell encoding.Utf8 text u = rw u refl
string-cell encoding.LossyUtf8 text u = ap (λ (l : List ℕ). Ok (Some (Letters l))) (utf8_lossy-IsUtf8 text (IsUtf8-from_is_utf8 text u))

category-cell : (type : DataType) (text : List ℕ) (value : Scalar) → is_utf8 text ≡ true → value_of_text type text ≡ Some value → category_cell type text ≡ Ok (Some value)
category-cell type text value u h = rw u (valued type text value h)

utf8 : (type : DataType) (text : List ℕ) → IsReadable type (Letters text) → is_utf8 text ≡ true
utf8 type text h = (and_true (is_utf8 text) (is_text_of type text) h.held).0

pub cell-returns : (reading : Reading) (type : DataType) (value : Scalar) → IsReadable type value → text_cell reading type (printed type value) ≡ Ok (Some value)
cell-returns reading dtype.String (Letters text) h = string-cell reading.encoding text (utf8 dtype.String text h)
cell-returns reading dtype.Categorical (Letters text) h = category-cell dtype.Categorical text (Letters text) (utf8 dtype.Categorical text h) refl
cell-returns reading (dtype.Enum (Some d)) (Letters text) h = category-cell (dtype.Enum (Some d)) text (Letters text) (utf8 (dtype.Enum (Some d)) text h) (value-returns (dtype.Enum (Some d)) (Letters text) h)
cell-returns reading type (Letters text) h = let no = (and_true (is_utf8 text) false h.held).1 in cc
cell-returns reading dtype.String (Truth b) h = let no = h.held in cc
cell-returns reading dtype.Categorical (Truth b) h = let no = h.held in cc
cell-returns reading (dtype.Enum d) (Truth b) h = let no = h.held in cc
cell-returns reading dtype.String (Number n) h = let no = h.held in cc
cell-returns reading dtype.Categorical (Number n) h = let no = h.held in cc
cell-returns reading (dtype.Enum d) (Number n) h = let no = h.held in cc
cell-returns reading type value h = other-returns reading type value refl h
