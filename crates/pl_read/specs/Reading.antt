-- The reference read: the frame that an input means (docs/grammar.md, docs/types.md, docs/options.md).
use Rattle.std.specs.Prelude.{◌≡◌, ◌⊎◌, ℕ, List, [], None, Some, unwrap_or}
use Rattle.pl_frame.specs.Frame.{ColumnValue}
use Rattle.pl_frame.specs.Schema.{Entry}
use Rattle.pl_frame.specs.declared.error.PolarsError.{PolarsError}
use Rattle.pl_frame.specs.declared.error.PolarsError.TheVariants as error
use Rattle.pl_options.specs.declared.read_options.CsvReadOptions.{CsvReadOptions}
use Rattle.pl_options.specs.FirstCause.{IsFirstCause}
use Rattle.pl_read.specs.Options.{data_of}
use Rattle.pl_read.specs.Refusals.{read_causes}
use Rattle.pl_read.specs.Rows.{data_frame}

-- the frame of the rows from the starting point on, given the settled schema
abbrev pub frame_of : CsvReadOptions → List Entry → List ℕ → List ColumnValue
frame_of o schema input = data_frame o schema (unwrap_or (data_of o input) [])

-- The reference read: the frame that an input means under a settled schema. There is none where a cause stands against it.
abbrev pub IsRead : CsvReadOptions → List Entry → List ℕ → List ColumnValue → Type 0
IsRead o schema input frame = IsFirstCause (read_causes o schema input) o.parse_options None × (frame ≡ frame_of o schema input)

-- the first cause against the frame of an input
abbrev pub IsRefusal : CsvReadOptions → List Entry → List ℕ → PolarsError → Type 0
IsRefusal o schema input refusal = IsFirstCause (read_causes o schema input) o.parse_options (Some refusal)

-- the refusal is the first cause; or memory is wanting, which may be at any time
abbrev pub IsReadFault : CsvReadOptions → List Entry → List ℕ → PolarsError → Type 0
IsReadFault o schema input fault = IsRefusal o schema input fault ⊎ (fault ≡ error.OutOfMemory)
