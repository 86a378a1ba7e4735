-- The text of a schema (docs/command-line.md, "Schema text").
use Rattle.std.specs.Prelude.{ℕ, List, [], ◌∷◌, ◌++◌, map, codes, decimal, Option, None, Some}
use Rattle.std.specs.List.{join_with_byte}
use Rattle.pl_frame.specs.declared.data_type.DataType.{DataType}
use Rattle.pl_frame.specs.declared.data_type.DataType.TheVariants as dtype
use Rattle.pl_frame.specs.declared.data_type.TimeUnit.{TimeUnit}
use Rattle.pl_frame.specs.declared.data_type.TimeUnit.TheVariants as unit
use Rattle.pl_frame.specs.Schema.{Entry}

-- what a type is called, without its parts
abbrev pub type_name : DataType → List ℕ
type_name dtype.Boolean = codes "boolean"
type_name dtype.Int8 = codes "int8"
type_name dtype.Int16 = codes "int16"
type_name dtype.Int32 = codes "int32"
type_name dtype.Int64 = codes "int64"
type_name dtype.Int128 = codes "int128"
type_name dtype.UInt8 = codes "uint8"
type_name dtype.UInt16 = codes "uint16"
type_name dtype.UInt32 = codes "uint32"
type_name dtype.UInt64 = codes "uint64"
type_name dtype.String = codes "string"
type_name dtype.Categorical = codes "category"
type_name (dtype.Enum categories) = codes "enum"
type_name dtype.Date = codes "date"
type_name dtype.Time = codes "time"
type_name (dtype.Datetime unit) = codes "datetime"
type_name (dtype.Decimal precision scale) = codes "decimal"
type_name dtype.Null = codes "null"

-- what a unit is called
abbrev pub unit_name : TimeUnit → List ℕ
unit_name unit.Milliseconds = codes "ms"
unit_name unit.Microseconds = codes "us"
unit_name unit.Nanoseconds = codes "ns"

-- a precision, or a minus where there is none
abbrev pub precision_text : Option ℕ → List ℕ
precision_text None = codes "-"
precision_text (Some digits) = decimal digits

-- the parts of a type, a slash in front of each: the categories of an enum, the unit of a datetime, precision and scale of a decimal
abbrev pub type_parts : DataType → List ℕ
type_parts (dtype.Enum (Some categories)) = 47 ∷ join_with_byte 47 categories
type_parts (dtype.Datetime unit) = 47 ∷ unit_name unit
type_parts (dtype.Decimal precision (Some scale)) = 47 ∷ (precision_text precision ++ (47 ∷ decimal scale))
type_parts _ = []

-- the text of a type
abbrev pub type_text : DataType → List ℕ
type_text type = type_name type ++ type_parts type

-- a name, a colon and the text of a type
abbrev pub entry_text : Entry → List ℕ
entry_text entry = entry.0 ++ (58 ∷ type_text entry.1)

-- the text of a schema: its entries with commas between them
abbrev pub schema_text : List Entry → List ℕ
schema_text schema = join_with_byte 44 (map entry_text schema)
