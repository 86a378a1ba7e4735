-- Statuses and fault lines of a run over an index (docs/command-line.md, "An index").
use Rattle.std.specs.Prelude.{ℕ, List, ◌++◌, codes, decimal}
use Rattle.pl_frame.specs.declared.error.ComputeFault.TheVariants as compute_fault
use Rattle.pl_frame.specs.declared.error.PolarsError.TheVariants as error
use Rattle.pl_frame.specs.declared.sink.SinkFault.{SinkFault}
use Rattle.pl_frame.specs.declared.sink.SinkFault.TheVariants as sink
use Rattle.pl_csv.specs.declared.run.Refusal.TheVariants as refusal
use Rattle.pl_csv.specs.Telling.{status_of, fault_line}
use Rattle.pl_seek.specs.declared.fault.SeekFault.{SeekFault}
use Rattle.pl_seek.specs.declared.fault.SeekFault.TheVariants as fault
use Rattle.pl_seek.specs.declared.run.SeekRefusal.{SeekRefusal}
use Rattle.pl_seek.specs.declared.run.SeekRefusal.TheVariants as seek

-- the status of a refusal
abbrev pub seek_status : SeekRefusal → ℕ
seek_status (seek.Run given) = status_of given
seek_status seek.Format = 30
seek_status seek.Input = 31
seek_status seek.Settings = 32
seek_status (seek.Places number) = 33

-- the fault line of a refusal
abbrev pub seek_line : SeekRefusal → List ℕ
seek_line (seek.Run given) = fault_line given
seek_line seek.Format = codes "format\n"
seek_line seek.Input = codes "input\n"
seek_line seek.Settings = codes "settings\n"
seek_line (seek.Places number) = (codes "places " ++ decimal number) ++ codes "\n"

-- the refusal for a cause against an index or a slice
abbrev pub refusal_of : SeekFault → SeekRefusal
refusal_of fault.Options = seek.Run refusal.Words
refusal_of (fault.Polars cause) = seek.Run (refusal.Polars cause)
refusal_of fault.Format = seek.Format
refusal_of fault.Input = seek.Input
refusal_of fault.Settings = seek.Settings
refusal_of (fault.Places number) = seek.Places number
refusal_of fault.OutOfMemory = seek.Run (refusal.Polars error.OutOfMemory)

-- the refusal for a fault of the sink
abbrev pub sink_refusal : SinkFault → SeekRefusal
sink_refusal sink.Device = seek.Run (refusal.Polars error.IO)
sink_refusal sink.OutOfMemory = seek.Run (refusal.Polars error.OutOfMemory)

-- the refusal of a quote that is not ASCII
abbrev pub quote_refusal : SeekRefusal
quote_refusal = seek.Run (refusal.Polars (error.ComputeError compute_fault.Quote))
