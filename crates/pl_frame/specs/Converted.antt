-- The faults of single calls as the error that a read or a write answers (docs/library.md, "Faults").
use Rattle.pl_frame.specs.declared.column.ColumnFault.{ColumnFault}
use Rattle.pl_frame.specs.declared.column.ColumnFault.TheVariants as column
use Rattle.pl_frame.specs.declared.error.ComputeFault.TheVariants as compute
use Rattle.pl_frame.specs.declared.error.FaultKind.TheVariants as kind
use Rattle.pl_frame.specs.declared.error.PolarsError.{PolarsError}
use Rattle.pl_frame.specs.declared.error.PolarsError.TheVariants as error
use Rattle.pl_frame.specs.declared.read_all.ReadAllFault.{ReadAllFault}
use Rattle.pl_frame.specs.declared.read_all.ReadAllFault.TheVariants as read_all
use Rattle.pl_frame.specs.declared.sink.SinkFault.{SinkFault}
use Rattle.pl_frame.specs.declared.sink.SinkFault.TheVariants as sink

-- a value outside the range of a column's type, as the fault of a record: its row, and column 0, since a column that is not in a table has no place there
abbrev pub error_of_column : ColumnFault → PolarsError
error_of_column (column.OutOfRange row) = error.ComputeError (compute.Record row 0 kind.Value)
error_of_column column.OutOfMemory = error.OutOfMemory

-- a source that failed; one that gave too many bytes counts as out of memory
abbrev pub error_of_read_all : ReadAllFault → PolarsError
error_of_read_all read_all.Source = error.IO
error_of_read_all read_all.TooLong = error.OutOfMemory
error_of_read_all read_all.OutOfMemory = error.OutOfMemory

-- a sink that failed
abbrev pub error_of_sink : SinkFault → PolarsError
error_of_sink sink.Device = error.IO
error_of_sink sink.OutOfMemory = error.OutOfMemory
