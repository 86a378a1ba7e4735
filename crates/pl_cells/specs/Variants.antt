-- The variant of a buffer for each type (docs/types.md, "Buffers").
use Rattle.pl_frame.specs.declared.data_type.DataType.{DataType}
use Rattle.pl_frame.specs.declared.data_type.DataType.TheVariants as dtype
use Rattle.pl_cells.specs.declared.buffer.Buffer.{Buffer}
use Rattle.pl_cells.specs.declared.buffer.Buffer.TheVariants as buffer
use Rattle.pl_cells.specs.BufferValue.{BufferValue}

-- the buffer of the variant for a type that holds this; for `Null`, which has no buffer, any
abbrev pub buffer_for : DataType → BufferValue → Buffer
buffer_for dtype.Boolean value = buffer.Boolean value
buffer_for dtype.Int8 value = buffer.Int8 value
buffer_for dtype.Int16 value = buffer.Int16 value
buffer_for dtype.Int32 value = buffer.Int32 value
buffer_for dtype.Int64 value = buffer.Int64 value
buffer_for dtype.Int128 value = buffer.Int128 value
buffer_for dtype.UInt8 value = buffer.UInt8 value
buffer_for dtype.UInt16 value = buffer.UInt16 value
buffer_for dtype.UInt32 value = buffer.UInt32 value
buffer_for dtype.UInt64 value = buffer.UInt64 value
buffer_for dtype.String value = buffer.String value
buffer_for dtype.Categorical value = buffer.Categorical value
buffer_for (dtype.Enum categories) value = buffer.Enum value
buffer_for dtype.Date value = buffer.Date value
buffer_for dtype.Time value = buffer.Time value
buffer_for (dtype.Datetime unit) value = buffer.Datetime value
buffer_for (dtype.Decimal precision scale) value = buffer.Decimal value
buffer_for dtype.Null value = buffer.String value
