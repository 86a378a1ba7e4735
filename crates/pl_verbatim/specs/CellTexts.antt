-- Texts of cells, as they are written (docs/types.md, "Printed"; docs/quoting.md).
use Rattle.std.specs.Prelude.{◌≡◌, ℕ, zero, suc, ◌<◌, ◌^◌, ℤ, unsigned_abs, Bool, true, false, if◌then◌else◌, List, [], ◌∷◌, ◌++◌, replicate, Option, Some, Ok}
use Rattle.std.specs.Fmt.{signed_decimal}
use Rattle.std.specs.Int.{is_negative}
use Rattle.std.specs.Str.{is_utf8}
use Rattle.pl_frame.specs.declared.data_type.DataType.{DataType}
use Rattle.pl_frame.specs.declared.data_type.DataType.TheVariants as dtype
use Rattle.pl_frame.specs.Frame.{Scalar, Truth}
use Rattle.pl_text.specs.ValueText.{padded, date_text, clock_text, decimal_text, printed}
use Rattle.pl_text.specs.FrameText.{WriteOptions, needs_quotes, quoted, written_cell}
use Rattle.pl_frame.specs.Types.{is_within, day_range}
use Rattle.pl_cells.specs.Cells.{Reading, cell}
use Rattle.pl_cells.specs.NullTest.{NullTest, nothing_is_null}
use Rattle.pl_round_trip.specs.Fits.{FitsCell}
use Rattle.pl_round_trip.specs.RoundTrip.{IsFieldText, line_marks}

-- ---- values

-- a text is that of a whole number of at most so many digits, below zero only where numbers are signed
pub record IsWholeText (digits : ℕ) (is_signed : Bool) (text : List ℕ) : Type 0 where
  pub number : ℤ
  pub few : unsigned_abs number < 10 ^ digits
  pub sign : is_signed ≡ false → is_negative number ≡ false
  pub text_is : text ≡ signed_decimal number

-- a text is that of a decimal of at most so many digits, with so many of them behind the point
pub record IsDecimalText (digits scale : ℕ) (text : List ℕ) : Type 0 where
  pub number : ℤ
  pub few : unsigned_abs number < 10 ^ digits
  pub text_is : text ≡ decimal_text scale number

-- a text is that of a truth value
pub record IsBooleanText (text : List ℕ) : Type 0 where
  pub truth : Bool
  pub text_is : text ≡ printed dtype.Boolean (Truth truth)

-- a text is that of a day of the years 0000 to 9999
pub record IsDateText (text : List ℕ) : Type 0 where
  pub day : ℤ
  pub within : is_within day_range day ≡ true
  pub text_is : text ≡ date_text day

-- a text is that of a second of the day
pub record IsClockText (text : List ℕ) : Type 0 where
  pub second : ℕ
  pub few : second < 86400
  pub text_is : text ≡ clock_text second

-- a text is that of a second: a day of the years 0000 to 9999, and a second of the day
pub record IsSecondsText (text : List ℕ) : Type 0 where
  pub day : ℤ
  pub within : is_within day_range day ≡ true
  pub second : ℕ
  pub few : second < 86400
  pub text_is : text ≡ date_text day ++ 84 ∷ clock_text second

-- a text is that of a second, with a fraction in so many digits behind a point
pub record IsMomentText (places : ℕ) (text : List ℕ) : Type 0 where
  pub day : ℤ
  pub within : is_within day_range day ≡ true
  pub second : ℕ
  pub few : second < 86400
  pub fraction : ℕ
  pub small : fraction < 10 ^ places
  pub text_is : text ≡ date_text day ++ 84 ∷ (clock_text second ++ 46 ∷ padded places fraction)

-- what is written of a text: it, or where it needs quotes, it between quotes
abbrev pub written : ℕ → ℕ → List ℕ → List ℕ
written separator quote text = if needs_quotes separator quote text then quoted quote text else text

-- a text is what is written of one that is UTF-8
pub record IsWrittenText (separator quote : ℕ) (text : List ℕ) : Type 0 where
  pub inner : List ℕ
  pub utf8 : is_utf8 inner ≡ true
  pub text_is : text ≡ written separator quote inner

-- a text stands between quotes, each quote in it doubled, and is UTF-8
pub record IsQuotedText (quote : ℕ) (text : List ℕ) : Type 0 where
  pub inner : List ℕ
  pub utf8 : is_utf8 inner ≡ true
  pub text_is : text ≡ quoted quote inner

-- a text stands between quotes, each quote in it doubled
abbrev pub IsBetweenQuotes : ℕ → List ℕ → Type 0
IsBetweenQuotes quote text = (inner : List ℕ) × (text ≡ quoted quote inner)

-- a text that is UTF-8 and needs no quotes, and so is not empty
pub record IsBareText (separator quote : ℕ) (text : List ℕ) : Type 0 where
  pub utf8 : is_utf8 text ≡ true
  pub bare : needs_quotes separator quote text ≡ false

-- ---- cells

-- cells are written with this separator and this quote, quoted where necessary, and with nothing for a null
pub record IsCellOptions (o : WriteOptions) (separator quote : ℕ) : Type 0 where
  pub separator_is : o.separator ≡ separator
  pub quote_is : o.quote ≡ quote
  pub style_is : o.style ≡ 0
  pub null_is : o.null ≡ []

-- a text is what is written of a cell of a type that comes back
pub record IsCellOf (o : WriteOptions) (type : DataType) (text : List ℕ) : Type 0 where
  pub value : Option Scalar
  pub fits : FitsCell o type value
  pub text_is : text ≡ written_cell o type value

-- behind the seconds of a datetime: a point and so many zeros, or nothing
abbrev pub zeros_text : ℕ → List ℕ
zeros_text zero = []
zeros_text (suc n) = 46 ∷ replicate (suc n) 48

-- how lines are written in which cells stand as in those that are read: by this separator, with nothing for a null, quoted where necessary, with a line
-- feed behind each
abbrev pub as_read : ℕ → WriteOptions → WriteOptions
as_read separator o = record o { separator = separator; null = []; terminator = 10 ∷ []; style = 0 }

-- A field stands in a line that is written by the first options, and is read as a cell of a type, where these texts mean null and a missing one; and
-- another text is written of that cell by the second.
pub record IsChangeOf (r o : WriteOptions) (is_null : NullTest) (type : DataType) (field written : List ℕ) : Type 0 where
  pub value : Option Scalar
  pub cell_is : (reading : Reading) → reading.missing_is_null ≡ true → cell reading is_null (Some r.quote) type field ≡ Ok value
  pub field_text : IsFieldText (line_marks r) field
  pub written_is : written ≡ written_cell o type value

-- both are the same, and no text means null but a missing one
abbrev pub IsCopyOf : WriteOptions → DataType → List ℕ → List ℕ → Type 0
IsCopyOf o type field written = IsChangeOf o o nothing_is_null type field written
