-- The texts of types (docs/command-line.md, "Schema text").
use Rattle.std.specs.Prelude.{ℕ, ◌&&◌, nat_le, if◌then◌else◌, List, length, codes, Option, None, Some}
use Rattle.std.specs.Option.{option_map, option_and_then}
use Rattle.std.specs.Str.{bytes_eq}
use Rattle.pl_frame.specs.declared.data_type.DataType.{DataType}
use Rattle.pl_frame.specs.declared.data_type.DataType.TheVariants as dtype
use Rattle.pl_frame.specs.declared.data_type.TimeUnit.{TimeUnit}
use Rattle.pl_frame.specs.declared.data_type.TimeUnit.TheVariants as unit
use Rattle.pl_cells.specs.Integers.{is_digits, number_of}
use Rattle.pl_words.specs.Splitting.{cut_at, parts_at}

-- the type that a name means alone; an enum without categories and a decimal without a scale can't be read
abbrev pub plain_type : List ℕ → Option DataType
plain_type text =
    if bytes_eq text (codes "boolean") then Some dtype.Boolean
    else if bytes_eq text (codes "int8") then Some dtype.Int8
    else if bytes_eq text (codes "int16") then Some dtype.Int16
    else if bytes_eq text (codes "int32") then Some dtype.Int32
    else if bytes_eq text (codes "int64") then Some dtype.Int64
    else if bytes_eq text (codes "int128") then Some dtype.Int128
    else if bytes_eq text (codes "uint8") then Some dtype.UInt8
    else if bytes_eq text (codes "uint16") then Some dtype.UInt16
    else if bytes_eq text (codes "uint32") then Some dtype.UInt32
    else if bytes_eq text (codes "uint64") then Some dtype.UInt64
    else if bytes_eq text (codes "string") then Some dtype.String
    else if bytes_eq text (codes "category") then Some dtype.Categorical
    else if bytes_eq text (codes "enum") then Some (dtype.Enum None)
    else if bytes_eq text (codes "date") then Some dtype.Date
    else if bytes_eq text (codes "time") then Some dtype.Time
    else if bytes_eq text (codes "decimal") then Some (dtype.Decimal None None)
    else if bytes_eq text (codes "null") then Some dtype.Null
    else None

-- the unit of a datetime
abbrev pub unit_named : List ℕ → Option TimeUnit
unit_named text =
    if bytes_eq text (codes "ms") then Some unit.Milliseconds
    else if bytes_eq text (codes "us") then Some unit.Microseconds
    else if bytes_eq text (codes "ns") then Some unit.Nanoseconds
    else None

-- a number of one or two digits
abbrev pub small_number : List ℕ → Option ℕ
small_number text = if is_digits text && nat_le (length text) 2 then Some (number_of text) else None

-- a precision, or a minus where there is none
abbrev pub precision_of : List ℕ → Option (Option ℕ)
precision_of text = if bytes_eq text (codes "-") then Some None else option_map (λ n. Some n) (small_number text)

-- a decimal of a precision and a scale
abbrev pub decimal_of : List ℕ → List ℕ → Option DataType
decimal_of precision scale = option_and_then (λ p. option_map (λ s. dtype.Decimal p (Some s)) (small_number scale)) (precision_of precision)

-- the type of a name with parts: `enum/A/B/..` has the categories between slashes, `datetime/ms`, `datetime/us` and `datetime/ns`
-- have a unit, `decimal/P/S` and `decimal/-/S` a precision and a scale
abbrev pub type_with : List ℕ → List ℕ → Option DataType
type_with name parts =
    if bytes_eq name (codes "enum") then Some (dtype.Enum (Some (parts_at 47 parts)))
    else if bytes_eq name (codes "datetime") then option_map (λ unit. dtype.Datetime unit) (unit_named parts)
    else if bytes_eq name (codes "decimal") then option_and_then (λ cut. decimal_of cut.0 cut.1) (cut_at 47 parts)
    else None

-- the type that a text names
abbrev pub named_type : List ℕ → Option DataType
named_type text = elim (cut_at 47 text) [ None ↦ plain_type text | Some cut ↦ type_with cut.0 cut.1 ]
