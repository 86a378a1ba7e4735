-- The index of an input, and what stands against one (docs/index.md).
use Rattle.std.specs.Prelude.{◌≡◌, ◌≢◌, ℕ, Bool, false, true, ◌||◌, ◌==◌, List, [], ◌++◌, length, Option, None, Some, unwrap_or, is_none, is_some}
use Rattle.sha2.specs.Sha256.{sha256}
use Rattle.pl_frame.specs.declared.error.PolarsError.{PolarsError}
use Rattle.pl_frame.specs.declared.error.PolarsError.TheVariants as error
use Rattle.pl_options.specs.declared.read_options.CsvReadOptions.{CsvReadOptions}
use Rattle.pl_options.specs.FirstCause.{IsFirstCause}
use Rattle.pl_options.specs.Text.{marks_of, comment_of}
use Rattle.pl_read.specs.Options.{keeps_ends, data_of}
use Rattle.pl_read.specs.Refusals.{early_causes, causes_before_rows}
use Rattle.pl_read.specs.SettleGiven.{given_schema}
use Rattle.pl_seek.specs.Index.{Index}
use Rattle.pl_seek.specs.Places.{record_places, group_places}
use Rattle.pl_seek.specs.declared.fault.SeekFault.{SeekFault}
use Rattle.pl_seek.specs.declared.fault.SeekFault.TheVariants as fault
use Rattle.pl_seek.specs.declared.settings.Settings.{Settings}

-- ---- the index of an input

-- the settings that options state
abbrev pub settings_of : CsvReadOptions → Settings
settings_of o = record {
  separator = o.parse_options.separator;
  quote_char = o.parse_options.quote_char;
  eol_char = o.parse_options.eol_char;
  has_header = o.has_header;
  keep_ends = keeps_ends o;
  skip_rows = o.skip_rows;
  skip_lines = o.skip_lines;
  skip_rows_after_header = o.skip_rows_after_header;
}

-- the bytes that a comment begins with; none where there are no comments
abbrev pub prefix_of : CsvReadOptions → List ℕ
prefix_of o = unwrap_or (comment_of o.parse_options) []

-- the places where the records of an input begin
abbrev pub places_in : CsvReadOptions → List ℕ → List ℕ
places_in o input = record_places (marks_of o.parse_options) (comment_of o.parse_options) (length input) (unwrap_or (data_of o input) [])

-- the index of an input under options, of groups of so many records
abbrev pub index_in : CsvReadOptions → ℕ → List ℕ → Index
index_in o every input = record {
  digest = sha256 input;
  settings = settings_of o;
  comment_prefix = prefix_of o;
  every = every;
  records = length (places_in o input);
  places = group_places every (places_in o input);
}

-- ---- what stands against it

-- no column is asked for: the names are none, or else the places are none, or else the schema has no columns
abbrev pub asks_nothing : CsvReadOptions → Bool
asks_nothing o = elim o.columns [
  | Some names ↦ length names == 0
  | None ↦ elim o.projection [ Some places ↦ length places == 0 | None ↦ length (unwrap_or o.schema []) == 0 ]
]

-- no schema is given, or a limit of rows is, or no column is asked for
abbrev pub is_wrong : CsvReadOptions → Bool
is_wrong o = is_none o.schema || (is_some o.n_rows || asks_nothing o)

-- the causes against an input under a given schema that stand before those of its rows
abbrev pub causes_before : CsvReadOptions → List ℕ → Bool → List (Option PolarsError)
causes_before o input is_dialect = early_causes o is_dialect ++ causes_before_rows o (given_schema o) input

-- an input has an index under options: they are not wrong, and no cause stands before those of its rows
abbrev pub MayIndex : CsvReadOptions → List ℕ → Type 0
MayIndex o input = (is_wrong o ≡ false) × IsFirstCause (causes_before o input) o.parse_options None

-- the cause is the first of these, and is not that memory is wanting
abbrev pub IsCause : CsvReadOptions → List ℕ → PolarsError → Type 0
IsCause o input cause = (is_wrong o ≡ false) × IsFirstCause (causes_before o input) o.parse_options (Some cause) × (cause ≢ error.OutOfMemory)

-- why there is no index of an input: wrong options, or else the first cause; or memory is wanting, which may be at any time
abbrev pub IsBuildFault : CsvReadOptions → List ℕ → SeekFault → Type 0
IsBuildFault o input fault.Options = is_wrong o ≡ true
IsBuildFault o input (fault.Polars cause) = IsCause o input cause
IsBuildFault o input fault.OutOfMemory = Unit {0}
IsBuildFault o input _ = ⊥
