-- What stands against a stream whatever its bytes (docs/stream.md, "Options").
use Rattle.std.specs.Prelude.{◌≡◌, ◌⊎◌, ℕ, ◌<◌, Bool, List, [], ◌∷◌, ◌++◌, length, find, Option, None, Some, IsSome}
use Rattle.pl_frame.specs.declared.error.PolarsError.{PolarsError}
use Rattle.pl_frame.specs.declared.error.PolarsError.TheVariants as error
use Rattle.pl_cells.specs.InitBuffers.{entry_at}
use Rattle.pl_csv.specs.Transcoding.{quote_cause}
use Rattle.pl_infer.specs.Schemas.{is_categorical}
use Rattle.pl_options.specs.declared.read_options.CsvReadOptions.{CsvReadOptions}
use Rattle.pl_options.specs.FirstCause.{IsFirstCause}
use Rattle.pl_read.specs.Projection.{projected}
use Rattle.pl_read.specs.Refusals.{early_causes}
use Rattle.pl_read.specs.SettleGiven.{given_schema, settled_causes}
use Rattle.pl_write.specs.declared.options.CsvWriterOptions.{CsvWriterOptions}
use Rattle.pl_stream.specs.declared.fault.StreamFault.{StreamFault}
use Rattle.pl_stream.specs.declared.fault.StreamFault.TheVariants as fault

-- the causes against options with a given schema, in their order, given whether the marks are a dialect
abbrev pub option_causes : CsvReadOptions → CsvWriterOptions → Bool → List (Option PolarsError)
option_causes o write is_dialect = early_causes o is_dialect ++ quote_cause write ∷ settled_causes o (given_schema o)

-- the least column that is read and has categories
abbrev pub first_categorical : CsvReadOptions → Option ℕ
first_categorical o = find (λ place. is_categorical (entry_at (given_schema o) place).1) (projected o (given_schema o))

-- a schema is given, and no cause stands against the options
abbrev pub MaySettle : CsvReadOptions → CsvWriterOptions → Type 0
MaySettle o write = IsSome o.schema × IsFirstCause (option_causes o write) o.parse_options None

-- nothing stands against a stream under these options
pub record IsAccepted (o : CsvReadOptions) (write : CsvWriterOptions) : Type 0 where
  pub given : IsSome o.schema
  pub sound : IsFirstCause (option_causes o write) o.parse_options None
  pub uncoded : first_categorical o ≡ None
  pub some : 0 < length (projected o (given_schema o))

-- why there is no stream: no schema is given; or else the first cause against the options; or else a column that is read has categories; or else
-- no column is read; or memory is wanting, which may be at any time
abbrev pub IsRefused : CsvReadOptions → CsvWriterOptions → StreamFault → Type 0
IsRefused o write fault.NoSchema = o.schema ≡ None
IsRefused o write (fault.Polars refusal) = IsSome o.schema × IsFirstCause (option_causes o write) o.parse_options (Some refusal)
IsRefused o write (fault.Category column) = MaySettle o write × (first_categorical o ≡ Some column)
IsRefused o write fault.NoColumn = MaySettle o write × (first_categorical o ≡ None) × (projected o (given_schema o) ≡ [])
IsRefused o write fault.OutOfMemory = Unit {0}
IsRefused o write _ = ⊥

-- ---- steps

-- the first cause against the options; or memory is wanting
abbrev pub IsOptionFault : CsvReadOptions → CsvWriterOptions → PolarsError → Type 0
IsOptionFault o write given = IsFirstCause (option_causes o write) o.parse_options (Some given) ⊎ (given ≡ error.OutOfMemory)

-- the fault of a cause, or of want of memory
abbrev pub fault_of : PolarsError → StreamFault
fault_of error.OutOfMemory = fault.OutOfMemory
fault_of refusal = fault.Polars refusal
