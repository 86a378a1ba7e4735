-- Statuses and fault lines of a run over a stream (docs/command-line.md, "A stream").
use Rattle.std.specs.Prelude.{ℕ, List, ◌++◌, codes, decimal}
use Rattle.pl_frame.specs.declared.error.PolarsError.TheVariants as error
use Rattle.pl_csv.specs.declared.run.Refusal.TheVariants as refusal
use Rattle.pl_csv.specs.Telling.{status_of, fault_line}
use Rattle.pl_stream.specs.declared.fault.StreamFault.{StreamFault}
use Rattle.pl_stream.specs.declared.fault.StreamFault.TheVariants as fault
use Rattle.pl_stream.specs.declared.run.StreamRefusal.{StreamRefusal}
use Rattle.pl_stream.specs.declared.run.StreamRefusal.TheVariants as stream

-- the status of a refusal
abbrev pub stream_status : StreamRefusal → ℕ
stream_status (stream.Run given) = status_of given
stream_status stream.NoSchema = 30
stream_status (stream.Category column) = 31
stream_status stream.NoColumn = 32

-- the fault line of a refusal
abbrev pub stream_line : StreamRefusal → List ℕ
stream_line (stream.Run given) = fault_line given
stream_line stream.NoSchema = codes "no schema\n"
stream_line (stream.Category column) = (codes "category column " ++ decimal column) ++ codes "\n"
stream_line stream.NoColumn = codes "no column\n"

-- the refusal for a fault of a stream
abbrev pub refusal_of : StreamFault → StreamRefusal
refusal_of fault.NoSchema = stream.NoSchema
refusal_of (fault.Category column) = stream.Category column
refusal_of fault.NoColumn = stream.NoColumn
refusal_of (fault.Polars cause) = stream.Run (refusal.Polars cause)
refusal_of fault.Source = stream.Run refusal.Source
refusal_of fault.Sink = stream.Run (refusal.Polars error.IO)
refusal_of fault.TooLong = stream.Run refusal.TooLong
refusal_of fault.OutOfMemory = stream.Run (refusal.Polars error.OutOfMemory)
