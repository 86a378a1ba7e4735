-- A serializer: in each of its arms, the cells that are left of a column.
use Rattle.pl_frame.specs.declared.data_type.DataType.{DataType}
use Rattle.pl_frame.specs.declared.data_type.DataType.TheVariants as dtype
use Rattle.pl_write.specs.CellsLeft.{CellsLeft, without_next}
use Rattle.pl_write.specs.declared.serializer.Serializer.{Serializer}
use Rattle.pl_write.specs.declared.serializer.Serializer.TheVariants as serializer

-- the cells that are left
abbrev pub left_of : Serializer → CellsLeft
left_of (serializer.Boolean left) = left
left_of (serializer.Int8 left) = left
left_of (serializer.Int16 left) = left
left_of (serializer.Int32 left) = left
left_of (serializer.Int64 left) = left
left_of (serializer.Int128 left) = left
left_of (serializer.UInt8 left) = left
left_of (serializer.UInt16 left) = left
left_of (serializer.UInt32 left) = left
left_of (serializer.UInt64 left) = left
left_of (serializer.String left) = left
left_of (serializer.Categorical left) = left
left_of (serializer.Enum left) = left
left_of (serializer.Date left) = left
left_of (serializer.Time left) = left
left_of (serializer.Datetime left) = left
left_of (serializer.Decimal left) = left
left_of (serializer.Null left) = left

-- the next cell is taken off
abbrev pub after_one : Serializer → Serializer
after_one (serializer.Boolean left) = serializer.Boolean (without_next left)
after_one (serializer.Int8 left) = serializer.Int8 (without_next left)
after_one (serializer.Int16 left) = serializer.Int16 (without_next left)
after_one (serializer.Int32 left) = serializer.Int32 (without_next left)
after_one (serializer.Int64 left) = serializer.Int64 (without_next left)
after_one (serializer.Int128 left) = serializer.Int128 (without_next left)
after_one (serializer.UInt8 left) = serializer.UInt8 (without_next left)
after_one (serializer.UInt16 left) = serializer.UInt16 (without_next left)
after_one (serializer.UInt32 left) = serializer.UInt32 (without_next left)
after_one (serializer.UInt64 left) = serializer.UInt64 (without_next left)
after_one (serializer.String left) = serializer.String (without_next left)
after_one (serializer.Categorical left) = serializer.Categorical (without_next left)
after_one (serializer.Enum left) = serializer.Enum (without_next left)
after_one (serializer.Date left) = serializer.Date (without_next left)
after_one (serializer.Time left) = serializer.Time (without_next left)
after_one (serializer.Datetime left) = serializer.Datetime (without_next left)
after_one (serializer.Decimal left) = serializer.Decimal (without_next left)
after_one (serializer.Null left) = serializer.Null (without_next left)

-- the arm is that of the type
abbrev pub IsArmOf : DataType → Serializer → Type 0
IsArmOf dtype.Boolean (serializer.Boolean left) = Unit {0}
IsArmOf dtype.Int8 (serializer.Int8 left) = Unit {0}
IsArmOf dtype.Int16 (serializer.Int16 left) = Unit {0}
IsArmOf dtype.Int32 (serializer.Int32 left) = Unit {0}
IsArmOf dtype.Int64 (serializer.Int64 left) = Unit {0}
IsArmOf dtype.Int128 (serializer.Int128 left) = Unit {0}
IsArmOf dtype.UInt8 (serializer.UInt8 left) = Unit {0}
IsArmOf dtype.UInt16 (serializer.UInt16 left) = Unit {0}
IsArmOf dtype.UInt32 (serializer.UInt32 left) = Unit {0}
IsArmOf dtype.UInt64 (serializer.UInt64 left) = Unit {0}
IsArmOf dtype.String (serializer.String left) = Unit {0}
IsArmOf dtype.Categorical (serializer.Categorical left) = Unit {0}
IsArmOf (dtype.Enum categories) (serializer.Enum left) = Unit {0}
IsArmOf dtype.Date (serializer.Date left) = Unit {0}
IsArmOf dtype.Time (serializer.Time left) = Unit {0}
IsArmOf (dtype.Datetime unit) (serializer.Datetime left) = Unit {0}
IsArmOf (dtype.Decimal precision scale) (serializer.Decimal left) = Unit {0}
IsArmOf dtype.Null (serializer.Null left) = Unit {0}
IsArmOf _ _ = ⊥
