-- How the cells of a column stand in rows that are written as they were read.
use Rattle.std.specs.Prelude.{◌≡◌, ℕ, ◌+◌, ◌<◌, ◌^◌, ℤ, unsigned_abs, Bool, true, false, ◌&&◌, ◌==◌, nat_le, if◌then◌else◌, List, [], ◌∷◌, Option, None, Some, IfSome}
use Rattle.std.specs.Int.{is_negative}
use Rattle.std.specs.List.{AllByRecursion}
use Rattle.pl_frame.specs.declared.data_type.DataType.{DataType}
use Rattle.pl_frame.specs.declared.data_type.DataType.TheVariants as dtype
use Rattle.pl_frame.specs.declared.data_type.TimeUnit.{TimeUnit}
use Rattle.pl_frame.specs.Columns.{is_value_of}
use Rattle.pl_frame.specs.Frame.{Number}
use Rattle.pl_text.specs.ValueText.{places_of}
use Rattle.pl_frame.specs.Schema.{Entry}
use Rattle.pl_frame.specs.Types.{is_readable, is_whole_number, datetime_range, is_narrow, units_in_second}
use Rattle.pl_verbatim.specs.declared.kinds.Kind.{Kind}
use Rattle.pl_verbatim.specs.declared.kinds.Kind.TheVariants as kind

-- ---- kinds

-- a whole number has at most 38 digits, a decimal too, at least one of them behind the point, and a datetime 1 to 9 behind it
abbrev pub is_sound_kind : Kind → Bool
is_sound_kind (kind.Whole digits is_signed) = nat_le digits 38
is_sound_kind (kind.Decimal digits scale) = nat_le digits 38 && nat_le 1 scale
is_sound_kind (kind.Datetime places) = nat_le 1 places && nat_le places 9
is_sound_kind _ = true

-- a column is not read
abbrev pub is_passed : Kind → Bool
is_passed kind.Passed = true
is_passed _ = false

-- ---- kinds of types

-- a type holds each whole number of at most so many digits, below zero only where numbers are signed
pub record HoldsWholes (digits : ℕ) (is_signed : Bool) (type : DataType) : Type 0 where
  pub whole : is_whole_number type ≡ true
  pub held : (n : ℤ) → unsigned_abs n < 10 ^ digits → (is_signed ≡ false → is_negative n ≡ false) → is_value_of type (Number n) ≡ true

-- a type holds each decimal of at most so many digits, with so many of them behind the point
pub record HoldsDecimals (digits scale : ℕ) (type : DataType) : Type 0 where
  pub precision : Option ℕ
  pub type_is : type ≡ dtype.Decimal precision (Some scale)
  pub some : 0 < scale
  pub can : is_readable type ≡ true
  pub held : (n : ℤ) → unsigned_abs n < 10 ^ digits → is_value_of type (Number n) ≡ true

-- a type holds each datetime with a fraction in so many digits: it counts what one of the last of these is, and each count fits 64 bits
pub record HoldsMoments (places : ℕ) (type : DataType) : Type 0 where
  pub unit : TimeUnit
  pub type_is : type ≡ dtype.Datetime unit
  pub places_is : places ≡ places_of unit
  pub fits : is_narrow (datetime_range (units_in_second unit)) ≡ true

-- the cells of a type are texts, and each text that is UTF-8 may be one
abbrev pub is_any_text : DataType → Bool
is_any_text dtype.String = true
is_any_text dtype.Categorical = true
is_any_text _ = false

-- a kind is one of a type: each of its texts is that of a value of the type
abbrev pub IsKindOf : DataType → Kind → Type 0
IsKindOf type kind.Text = is_any_text type ≡ true
IsKindOf type (kind.Whole digits is_signed) = HoldsWholes digits is_signed type
IsKindOf type kind.Boolean = type ≡ dtype.Boolean
IsKindOf type kind.Date = type ≡ dtype.Date
IsKindOf type (kind.Decimal digits scale) = HoldsDecimals digits scale type
IsKindOf type (kind.Datetime places) = HoldsMoments places type
IsKindOf type kind.Passed = ⊥

-- ---- kinds of columns

-- the columns of a schema, numbered from a number on: each that is read, where these are the places of those, in order
abbrev pub read_columns : ℕ → List Entry → List ℕ → List (Option Entry)
read_columns number [] places = []
read_columns number (entry ∷ schema) [] = None ∷ read_columns (number + 1) schema []
read_columns number (entry ∷ schema) (place ∷ places) =
    if place == number then Some entry ∷ read_columns (number + 1) schema places else None ∷ read_columns (number + 1) schema (place ∷ places)

-- each is one of its column's type, where the column is read
abbrev pub AreKindsOf : List (Option Entry) → List Kind → Type 0
AreKindsOf [] [] = Unit {0}
AreKindsOf (None ∷ columns) (own ∷ kinds) = (is_passed own ≡ true) × AreKindsOf columns kinds
AreKindsOf (Some entry ∷ columns) (own ∷ kinds) = IsKindOf entry.1 own × AreKindsOf columns kinds
AreKindsOf columns kinds = ⊥

-- the type of each column that is read can be read
abbrev pub AreReadable : List (Option Entry) → Type 0
AreReadable columns = AllByRecursion (λ column. IfSome column (λ entry. is_readable entry.1 ≡ true)) columns
