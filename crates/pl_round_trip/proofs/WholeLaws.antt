-- Whole numbers that are printed and read.
use Rattle.std.proofs.Common.{◌≡◌, ℕ, ◌-◌, ◌^◌, ◌<◌, true, Some, ℤ, pos, negsuc, unsigned_abs, ap, arith}
use Rattle.std.specs.Fmt.{signed_decimal}
use Rattle.std.specs.Option.{option_map}
use Rattle.std.proofs.lemmas.Bool.Decides.{nat_tests}
use Rattle.jiff_core.proofs.SignedLemmas.{signed_arith}
use Rattle.pl_frame.specs.declared.data_type.DataType.{DataType}
use Rattle.pl_frame.specs.declared.data_type.DataType.TheVariants as dtype
use Rattle.pl_frame.specs.Columns.{is_value_of}
use Rattle.pl_frame.specs.Frame.{Number}
use Rattle.pl_frame.specs.Types.{is_whole_number, is_within, signed_range, from_to}
use Rattle.pl_cells.specs.Integers.{unsigned_value}
use Rattle.pl_round_trip.specs.RoundTrip.{Returns}
use Rattle.pl_round_trip.proofs.NumeralLaws.{signed-returns, unsigned-returns}

small_8 : (z : ℤ) → is_within (signed_range 8) z ≡ true → unsigned_abs z < 10 ^ 64
small_8 z h = grind (arith, signed_arith, h)

small_16 : (z : ℤ) → is_within (signed_range 16) z ≡ true → unsigned_abs z < 10 ^ 64
small_16 z h = grind (arith, signed_arith, h)

small_32 : (z : ℤ) → is_within (signed_range 32) z ≡ true → unsigned_abs z < 10 ^ 64
small_32 z h = grind (arith, signed_arith, h)

small_64 : (z : ℤ) → is_within (signed_range 64) z ≡ true → unsigned_abs z < 10 ^ 64
small_64 z h = grind (arith, signed_arith, h)

small_128 : (z : ℤ) → is_within (signed_range 128) z ≡ true → unsigned_abs z < 10 ^ 64
small_128 z h = grind (arith, signed_arith, h)

-- unsigned numbers of at most 64 bits
unsigned : (high : ℕ) (z : ℤ) → high < 10 ^ 64 → is_within (from_to (pos 0) (pos high)) z ≡ true → unsigned_value (from_to (pos 0) (pos high)) (signed_decimal z) ≡ Some z
unsigned high (pos n) few h = unsigned-returns (from_to (pos 0) (pos high)) n (grind (arith, signed_arith, nat_tests, h, few)) h
unsigned high (negsuc n) few h = cc

low_64 : (high : ℕ) (z : ℤ) → high < 10 ^ 64 → is_within (from_to (pos 0) (pos high)) z ≡ true → unsigned_abs z < 10 ^ 64
low_64 high (pos n) few h = grind (arith, signed_arith, nat_tests, h, few)
low_64 high (negsuc n) few h = cc

-- no whole number has more than 64 digits
pub whole-small : (type : DataType) (n : ℤ) → is_whole_number type ≡ true → is_value_of type (Number n) ≡ true → unsigned_abs n < 10 ^ 64
whole-small dtype.Int8 n is h = small_8 n h
whole-small dtype.Int16 n is h = small_16 n h
whole-small dtype.Int32 n is h = small_32 n h
whole-small dtype.Int64 n is h = small_64 n h
whole-small dtype.Int128 n is h = small_128 n h
whole-small dtype.UInt8 n is h = low_64 (2 ^ 8 - 1) n (omega arith) h
whole-small dtype.UInt16 n is h = low_64 (2 ^ 16 - 1) n (omega arith) h
whole-small dtype.UInt32 n is h = low_64 (2 ^ 32 - 1) n (omega arith) h
whole-small dtype.UInt64 n is h = low_64 (2 ^ 64 - 1) n (omega arith) h
whole-small type n is h = cc

pub whole-returns : (type : DataType) (n : ℤ) → is_whole_number type ≡ true → is_value_of type (Number n) ≡ true → Returns type (Number n)
whole-returns dtype.Int8 n is h = ap (option_map Number) (signed-returns (signed_range 8) n (small_8 n h) h)
whole-returns dtype.Int16 n is h = ap (option_map Number) (signed-returns (signed_range 16) n (small_16 n h) h)
whole-returns dtype.Int32 n is h = ap (option_map Number) (signed-returns (signed_range 32) n (small_32 n h) h)
whole-returns dtype.Int64 n is h = ap (option_map Number) (signed-returns (signed_range 64) n (small_64 n h) h)
whole-returns dtype.Int128 n is h = ap (option_map Number) (signed-returns (signed_range 128) n (small_128 n h) h)
whole-returns dtype.UInt8 n is h = ap (option_map Number) (unsigned (2 ^ 8 - 1) n (omega arith) h)
whole-returns dtype.UInt16 n is h = ap (option_map Number) (unsigned (2 ^ 16 - 1) n (omega arith) h)
whole-returns dtype.UInt32 n is h = ap (option_map Number) (unsigned (2 ^ 32 - 1) n (omega arith) h)
whole-returns dtype.UInt64 n is h = ap (option_map Number) (unsigned (2 ^ 64 - 1) n (omega arith) h)
whole-returns dtype.Boolean n is h = cc
whole-returns dtype.String n is h = cc
whole-returns dtype.Categorical n is h = cc
whole-returns (dtype.Enum categories) n is h = cc
whole-returns dtype.Date n is h = cc
whole-returns dtype.Time n is h = cc
whole-returns (dtype.Datetime unit) n is h = cc
whole-returns (dtype.Decimal precision scale) n is h = cc
whole-returns dtype.Null n is h = cc
