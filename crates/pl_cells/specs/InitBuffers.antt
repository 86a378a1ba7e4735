-- A buffer of any type, by what it holds, and the buffers that a reader begins with (docs/types.md, "Buffers").
use Rattle.std.specs.Prelude.{◌≡◌, ℕ, not, List, [], map, find, Option, slice_get, unwrap_or, Some}
use Rattle.pl_frame.specs.declared.data_type.DataType.TheVariants as dtype
use Rattle.pl_frame.specs.declared.error.ComputeFault.TheVariants as compute
use Rattle.pl_frame.specs.declared.error.PolarsError.{PolarsError}
use Rattle.pl_frame.specs.declared.error.PolarsError.TheVariants as error
use Rattle.pl_frame.specs.Schema.{Entry}
use Rattle.pl_frame.specs.Types.{is_readable}
use Rattle.pl_cells.specs.declared.buffer.Buffer.{Buffer}
use Rattle.pl_cells.specs.declared.buffer.Buffer.TheVariants as buffer
use Rattle.pl_cells.specs.declared.utf8.CsvEncoding.{CsvEncoding}
use Rattle.pl_cells.specs.BufferValue.{BufferValue}

-- what a buffer holds
abbrev pub state_of : Buffer → BufferValue
state_of (buffer.Boolean b) = b
state_of (buffer.Int8 b) = b
state_of (buffer.Int16 b) = b
state_of (buffer.Int32 b) = b
state_of (buffer.Int64 b) = b
state_of (buffer.Int128 b) = b
state_of (buffer.UInt8 b) = b
state_of (buffer.UInt16 b) = b
state_of (buffer.UInt32 b) = b
state_of (buffer.UInt64 b) = b
state_of (buffer.String b) = b
state_of (buffer.Categorical b) = b
state_of (buffer.Enum b) = b
state_of (buffer.Date b) = b
state_of (buffer.Time b) = b
state_of (buffer.Datetime b) = b
state_of (buffer.Decimal b) = b

-- the name and the type at a place of a schema
abbrev pub entry_at : List Entry → ℕ → Entry
entry_at schema place = unwrap_or (slice_get schema place) ([], dtype.Null)

-- a column without cells
abbrev pub empty_buffer : Option ℕ → CsvEncoding → Entry → BufferValue
empty_buffer quote encoding entry = record { name = entry.0; dtype = entry.1; quote_char = quote; encoding = encoding; values = [] }

-- the columns at these places of a schema, without cells
abbrev pub empty_buffers : Option ℕ → CsvEncoding → List Entry → List ℕ → List BufferValue
empty_buffers quote encoding schema places = map (λ place. empty_buffer quote encoding (entry_at schema place)) places

-- the first of these places whose type can't be read
abbrev pub first_unreadable : List Entry → List ℕ → Option ℕ
first_unreadable schema places = find (λ place. not (is_readable (entry_at schema place).1)) places

-- the type at this place can't be read, and those at earlier ones can; want of memory may come at any time
abbrev pub IsTypeFault : Option ℕ → PolarsError → Type 0
IsTypeFault first (error.ComputeError (compute.Dtype column)) = first ≡ Some column
IsTypeFault first error.OutOfMemory = Unit {0}
IsTypeFault first fault = ⊥
