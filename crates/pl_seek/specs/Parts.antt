-- Records of a part of an input, read alone (docs/index.md).
use Rattle.std.specs.Prelude.{◌≡◌, ◌⊎◌, ℕ, ◌<◌, Bool, true, false, List, length, take, drop, Option, Some, None, IsSome}
use Rattle.std.specs.Option.{option_map}
use Rattle.pl_frame.specs.Frame.{ColumnValue}
use Rattle.pl_frame.specs.declared.error.ComputeFault.TheVariants as compute_fault
use Rattle.pl_frame.specs.declared.error.PolarsError.{PolarsError}
use Rattle.pl_frame.specs.declared.error.PolarsError.TheVariants as error
use Rattle.pl_scan.specs.Closing.{ends_open}
use Rattle.pl_table.specs.Rows.{Row, rows}
use Rattle.pl_rows.specs.Columns.{entries_in, frame_of_rows}
use Rattle.pl_rows.specs.Rows.{first_faulty}
use Rattle.pl_options.specs.declared.read_options.CsvReadOptions.{CsvReadOptions}
use Rattle.pl_options.specs.FirstCause.{IsFirstCause}
use Rattle.pl_options.specs.Text.{marks_of, comment_of}
use Rattle.pl_read.specs.Options.{rules_of}
use Rattle.pl_read.specs.Projection.{projected}
use Rattle.pl_read.specs.Rows.{columns_read}
use Rattle.pl_read.specs.SettleGiven.{given_schema, given_causes}
use Rattle.pl_seek.specs.declared.fault.SeekFault.{SeekFault}
use Rattle.pl_seek.specs.declared.fault.SeekFault.TheVariants as fault

-- a part can be read by options with a given schema: no cause stands against them, a column is read, and the part does not end within a
-- quoted field, or is the last one
pub record CanReadPart (o : CsvReadOptions) (part : List ℕ) (last : Bool) : Type 0 where
  pub given : IsSome o.schema
  pub sound : IsFirstCause (given_causes o) o.parse_options None
  pub some : 0 < length (projected o (given_schema o))
  pub closed : (last ≡ true) ⊎ (ends_open (marks_of o.parse_options) (comment_of o.parse_options) part ≡ false)

-- the rows of a text from one on, at most so many
abbrev pub rows_from : CsvReadOptions → (skip count : ℕ) → List ℕ → List Row
rows_from o skip count part = take count (drop skip (rows (marks_of o.parse_options) (comment_of o.parse_options) part))

-- the columns that are read of these rows, each cell from its field
abbrev pub columns_of_rows : CsvReadOptions → List Row → List ColumnValue
columns_of_rows o given = let schema = given_schema o in frame_of_rows (rules_of o schema) (entries_in schema (projected o schema)) given

-- the least of these rows with a fault, where the first one has this number, and its first fault
abbrev pub fault_in_rows : CsvReadOptions → ℕ → List Row → Option PolarsError
fault_in_rows o number given =
    let schema = given_schema o in
    option_map (λ found. error.ComputeError (compute_fault.Record found.0 found.1.0 found.1.1)) (first_faulty (rules_of o schema) (columns_read o schema) number given)

-- why rows are not read: the first cause against them, where there is one; or memory is wanting, which may be at any time
abbrev pub IsReadFault : Option PolarsError → SeekFault → Type 0
IsReadFault first (fault.Polars cause) = first ≡ Some cause
IsReadFault first fault.OutOfMemory = Unit {0}
IsReadFault first _ = ⊥
