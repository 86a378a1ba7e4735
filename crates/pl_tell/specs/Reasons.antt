-- What is wrong, by refusals (docs/command-line.md, "At a terminal").
use Rattle.pl_frame.specs.declared.error.PolarsError.{PolarsError}
use Rattle.pl_frame.specs.declared.error.PolarsError.TheVariants as error
use Rattle.pl_frame.specs.declared.error.OpFault.TheVariants as op_fault
use Rattle.pl_frame.specs.declared.error.ComputeFault.TheVariants as compute_fault
use Rattle.pl_frame.specs.declared.error.NoDataFault.TheVariants as no_data
use Rattle.pl_frame.specs.declared.error.NamePlace.TheVariants as name_place
use Rattle.pl_csv.specs.declared.run.Refusal.{Refusal}
use Rattle.pl_csv.specs.declared.run.Refusal.TheVariants as refusal
use Rattle.pl_multi.specs.declared.run.MultiRefusal.{MultiRefusal}
use Rattle.pl_multi.specs.declared.run.MultiRefusal.TheVariants as multi
use Rattle.pl_seek.specs.declared.run.SeekRefusal.{SeekRefusal}
use Rattle.pl_seek.specs.declared.run.SeekRefusal.TheVariants as seek
use Rattle.pl_stream.specs.declared.run.StreamRefusal.{StreamRefusal}
use Rattle.pl_stream.specs.declared.run.StreamRefusal.TheVariants as stream
use Rattle.pl_tell.specs.declared.reason.Reason.{Reason}
use Rattle.pl_tell.specs.declared.reason.Reason.TheVariants as reason

-- what is wrong where an input has no frame
abbrev pub reason_of_fault : PolarsError → Reason
reason_of_fault error.IO = reason.Sink
reason_of_fault error.OutOfMemory = reason.Memory
reason_of_fault (error.InvalidOperation op_fault.Dialect) = reason.Dialect
reason_of_fault (error.InvalidOperation op_fault.Option) = reason.Setting
reason_of_fault (error.ComputeError compute_fault.Quote) = reason.OutputQuote
reason_of_fault (error.ComputeError compute_fault.Compressed) = reason.Compressed
reason_of_fault (error.NoData no_data.Empty) = reason.NoRecord
reason_of_fault (error.Duplicate name name_place.Schema) = reason.RepeatedName
reason_of_fault (error.InvalidOperation (op_fault.Overrides given columns)) = reason.TooManyTypes
reason_of_fault (error.ComputeError (compute_fault.Dtype column)) = reason.UnreadableType
reason_of_fault (error.ColumnNotFound name) = reason.NoSuchName
reason_of_fault (error.NoData no_data.Skip) = reason.TooFewItems
reason_of_fault (error.OutOfBounds index length) = reason.NoSuchPlace
reason_of_fault (error.Duplicate name name_place.Projection) = reason.ListedTwice
reason_of_fault error.EmptyProjection = reason.NoColumns
reason_of_fault (error.ComputeError (compute_fault.Record row column kind)) = reason.Record
reason_of_fault (error.ComputeError (compute_fault.Index offset rows)) = reason.LastNumber

-- what is wrong where one input is refused
abbrev pub reason_of_run : Refusal → Reason
reason_of_run refusal.Words = reason.Words
reason_of_run refusal.Source = reason.Source
reason_of_run refusal.TooLong = reason.TooLong
reason_of_run (refusal.Polars fault) = reason_of_fault fault

-- what is wrong where many files are refused
abbrev pub reason_of_multi : MultiRefusal → Reason
reason_of_multi (multi.Run given) = reason_of_run given
reason_of_multi (multi.Part place given) = reason_of_run given
reason_of_multi (multi.Partitions place) = reason.OtherPartitions
reason_of_multi (multi.Duplicate name) = reason.RepeatedValueName
reason_of_multi multi.Index = reason.LastNumber

-- what is wrong where an index, or a slice by it, is refused
abbrev pub reason_of_seek : SeekRefusal → Reason
reason_of_seek (seek.Run given) = reason_of_run given
reason_of_seek seek.Format = reason.NoIndex
reason_of_seek seek.Input = reason.OtherInput
reason_of_seek seek.Settings = reason.OtherSettings
reason_of_seek (seek.Places number) = reason.OtherPlaces

-- what is wrong where a stream is refused
abbrev pub reason_of_stream : StreamRefusal → Reason
reason_of_stream (stream.Run given) = reason_of_run given
reason_of_stream stream.NoSchema = reason.NoSchema
reason_of_stream (stream.Category column) = reason.Categories
reason_of_stream stream.NoColumn = reason.NothingRead
