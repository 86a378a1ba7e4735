-- The types of columns: which can be read, and which numbers they hold (docs/types.md, "Ranges").
use Rattle.std.specs.Prelude.{ℕ, ◌-◌, ◌*◌, ◌^◌, ◌≤◌, Bool, true, false, not, ◌&&◌, nat_le, ℤ, pos, neg_ℤ, int_le, List, Option, None, Some, is_none, unwrap_or}
use Rattle.pl_frame.specs.declared.data_type.DataType.{DataType}
use Rattle.pl_frame.specs.declared.data_type.DataType.TheVariants as dtype
use Rattle.pl_frame.specs.declared.data_type.TimeUnit.{TimeUnit}
use Rattle.pl_frame.specs.declared.data_type.TimeUnit.TheVariants as unit
use Rattle.pl_frame.specs.Names.{first_repeat}

-- ---- which types can be read

-- a number of digits from 1 to 38 that is at least the scale, where it is set
abbrev pub is_precision : Option ℕ → ℕ → Bool
is_precision None scale = true
is_precision (Some digits) scale = nat_le 1 digits && (nat_le digits 38 && nat_le scale digits)

-- a scale of at most 38, which must be set, and a precision that goes with it
abbrev pub is_readable_decimal : Option ℕ → Option ℕ → Bool
is_readable_decimal precision None = false
is_readable_decimal precision (Some scale) = nat_le scale 38 && is_precision precision scale

-- the categories are set, and none stands twice
abbrev pub is_readable_enum : Option (List (List ℕ)) → Bool
is_readable_enum None = false
is_readable_enum (Some categories) = is_none (first_repeat categories)

-- cells of the type can be read from text
abbrev pub is_readable : DataType → Bool
is_readable (dtype.Enum categories) = is_readable_enum categories
is_readable (dtype.Decimal precision scale) = is_readable_decimal precision scale
is_readable dtype.Null = false
is_readable _ = true

-- ---- what the types hold

-- whole numbers, in the narrow sense: numbers that are no dates, times or decimals
abbrev pub is_whole_number : DataType → Bool
is_whole_number dtype.Int8 = true
is_whole_number dtype.Int16 = true
is_whole_number dtype.Int32 = true
is_whole_number dtype.Int64 = true
is_whole_number dtype.Int128 = true
is_whole_number dtype.UInt8 = true
is_whole_number dtype.UInt16 = true
is_whole_number dtype.UInt32 = true
is_whole_number dtype.UInt64 = true
is_whole_number _ = false

-- whole numbers and decimals
abbrev pub is_numeric : DataType → Bool
is_numeric (dtype.Decimal precision scale) = true
is_numeric type = is_whole_number type

-- texts
abbrev pub is_text : DataType → Bool
is_text dtype.String = true
is_text dtype.Categorical = true
is_text (dtype.Enum categories) = true
is_text _ = false

-- ---- ranges

-- the numbers from one to another, both included
pub record Range : Type 0 where
  pub low : ℤ
  pub high : ℤ

-- the numbers from one to another, both included
abbrev pub from_to : ℤ → ℤ → Range
from_to low high = record { low = low; high = high }

-- the numbers of so many bits with a sign
abbrev pub signed_range : ℕ → Range
signed_range bits = from_to (neg_ℤ (pos (2 ^ (bits - 1)))) (pos (2 ^ (bits - 1) - 1))

-- the numbers of so many bits without a sign
abbrev pub unsigned_range : ℕ → Range
unsigned_range bits = from_to (pos 0) (pos (2 ^ bits - 1))

-- so many units make a second
abbrev pub units_in_second : TimeUnit → ℕ
units_in_second unit.Milliseconds = 10 ^ 3
units_in_second unit.Microseconds = 10 ^ 6
units_in_second unit.Nanoseconds = 10 ^ 9

-- the days from 1970-01-01 of the years 0000 to 9999
abbrev pub day_range : Range
day_range = from_to (neg_ℤ (pos 719528)) (pos 2932896)

-- the nanoseconds of a day
abbrev pub time_range : Range
time_range = from_to (pos 0) (pos (86400 * 10 ^ 9 - 1))

-- the units from 1970-01-01T00:00:00 of the years 0000 to 9999, of which so many make a second
abbrev pub datetime_range : ℕ → Range
datetime_range units = from_to (neg_ℤ (pos (719528 * 86400 * units))) (pos (2932897 * 86400 * units - 1))

-- the numbers of so many digits, 38 where that is not set
abbrev pub decimal_range : Option ℕ → Range
decimal_range precision = from_to (neg_ℤ (pos (10 ^ unwrap_or precision 38 - 1))) (pos (10 ^ unwrap_or precision 38 - 1))

-- the numbers that a column of the type may hold, where it holds numbers
abbrev pub range_of : DataType → Option Range
range_of dtype.Int8 = Some (signed_range 8)
range_of dtype.Int16 = Some (signed_range 16)
range_of dtype.Int32 = Some (signed_range 32)
range_of dtype.Int64 = Some (signed_range 64)
range_of dtype.Int128 = Some (signed_range 128)
range_of dtype.UInt8 = Some (unsigned_range 8)
range_of dtype.UInt16 = Some (unsigned_range 16)
range_of dtype.UInt32 = Some (unsigned_range 32)
range_of dtype.UInt64 = Some (unsigned_range 64)
range_of dtype.Date = Some day_range
range_of dtype.Time = Some time_range
range_of (dtype.Datetime unit) = Some (datetime_range (units_in_second unit))
range_of (dtype.Decimal precision scale) = Some (decimal_range precision)
range_of _ = None

-- the number lies in the range
abbrev pub is_within : Range → ℤ → Bool
is_within range n = int_le range.low n && int_le n range.high

-- there is a number, and it lies outside the range
abbrev pub is_outside : Range → Option ℤ → Bool
is_outside range None = false
is_outside range (Some n) = not (is_within range n)

-- each number of the range fits 64 bits with a sign
abbrev pub is_narrow : Range → Bool
is_narrow range = int_le (neg_ℤ (pos (2 ^ 63))) range.low && int_le range.high (pos (2 ^ 63 - 1))

-- at most 38 digits, where they are set
abbrev pub HasFewDigits : Option ℕ → Type 0
HasFewDigits digits = unwrap_or digits 38 ≤ 38
