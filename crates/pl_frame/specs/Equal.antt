-- When schemas, columns and frames are equal (docs/types.md, "Columns and frames").
use Rattle.std.specs.Prelude.{◌≡◌, Bool, false, ◌&&◌, Option}
use Rattle.std.specs.Bool.{beq, Decides}
use Rattle.std.specs.Cmp.Lexicographic.{pointwise}
use Rattle.std.specs.Option.{option_eq}
use Rattle.std.specs.Ordering.{int_eq}
use Rattle.std.specs.Str.{bytes_eq}
use Rattle.pl_frame.specs.contracts.data_type.DataTypePartialEq.TheImpl as types
use Rattle.pl_frame.specs.declared.data_type.DataType.{DataType}
use Rattle.pl_frame.specs.Frame.{Scalar, Truth, Number, Letters, ColumnValue}
use Rattle.pl_frame.specs.Schema.{Entry}

-- the same type, with the same categories, unit, precision and scale: what `==` of types answers
abbrev pub types_equal : DataType → DataType → Bool
types_equal = types.ghosts.eq

-- it tells whether two types are one
abbrev pub TypesAreTold : Type 0
TypesAreTold = (a b : DataType) → Decides (types_equal a b) (a ≡ b)

-- the same name and the same type
abbrev pub entries_equal : Entry → Entry → Bool
entries_equal a b = bytes_eq a.0 b.0 && types_equal a.1 b.1

-- two truth values, two numbers or two texts, which are the same
abbrev pub scalars_equal : Scalar → Scalar → Bool
scalars_equal (Truth a) (Truth b) = beq a b
scalars_equal (Truth a) (Number n) = false
scalars_equal (Truth a) (Letters t) = false
scalars_equal (Number m) (Truth b) = false
scalars_equal (Number m) (Number n) = int_eq m n
scalars_equal (Number m) (Letters t) = false
scalars_equal (Letters s) (Truth b) = false
scalars_equal (Letters s) (Number n) = false
scalars_equal (Letters s) (Letters t) = bytes_eq s t

-- two nulls, or two values that are the same
abbrev pub cells_equal : Option Scalar → Option Scalar → Bool
cells_equal a b = option_eq scalars_equal a b

-- the same name, the same type, and the same cells in order
abbrev pub columns_equal : ColumnValue → ColumnValue → Bool
columns_equal a b = bytes_eq a.name b.name && (types_equal a.dtype b.dtype && pointwise cells_equal a.values b.values)
