-- The text of a frame of columns of the host's own, by words (docs/quoting.md).
use Rattle.std.specs.Prelude.{◌≡◌, ◌⊎◌, ◌<◌, ◌≤◌, ℕ, ◌==◌, if◌then◌else◌, All, List, length, map, take, slice_index_or}
use Rattle.pl_csv.specs.declared.run.Refusal.{Refusal}
use Rattle.pl_csv.specs.declared.run.Refusal.TheVariants as refusal
use Rattle.pl_csv_c.specs.Given.{Asks, IsUnasked}
use Rattle.pl_csv_c.specs.HostColumns.{host_column, IsSound}
use Rattle.pl_csv_c.specs.HostMade.{IsUnmade}
use Rattle.pl_csv_c.specs.declared.given.Given.{Given}
use Rattle.pl_csv_c.specs.declared.host_column.HostColumn.{HostColumn}
use Rattle.pl_csv_c.specs.declared.host_made.Unmade.{Unmade}
use Rattle.pl_csv_c.specs.declared.host_made.Unmade.TheVariants as unmade
use Rattle.pl_frame.specs.Frame.{IsFrame, HaveHeight, height_of, names_of}
use Rattle.pl_frame.specs.Names.{IsRepeatFault, repeated_name}
use Rattle.pl_frame.specs.declared.error.ComputeFault.TheVariants as compute_fault
use Rattle.pl_frame.specs.declared.error.FaultKind.TheVariants as kind
use Rattle.pl_frame.specs.declared.error.NamePlace.TheVariants as name_place
use Rattle.pl_frame.specs.declared.error.OpFault.TheVariants as op_fault
use Rattle.pl_frame.specs.declared.error.PolarsError.{PolarsError}
use Rattle.pl_frame.specs.declared.error.PolarsError.TheVariants as error
use Rattle.pl_text.specs.FrameText.{text_of_frame}
use Rattle.pl_write.specs.Options.{frame_options}
use Rattle.pl_write.specs.declared.options.CsvWriterOptions.{CsvWriterOptions}

-- the fault of a column at a place: a wrong option where its name is not UTF-8, a type that can't be read, or a row without a value, which
-- is one that is not UTF-8 where the type is `String`
abbrev pub fault_of : HostColumn → ℕ → Unmade → PolarsError
fault_of c place unmade.Name = error.InvalidOperation op_fault.Option
fault_of c place unmade.Type = error.ComputeError (compute_fault.Dtype place)
fault_of c place (unmade.Row row) = error.ComputeError (compute_fault.Record row place (if c.dtype == 10 then kind.Utf8 else kind.Value))
fault_of c place unmade.OutOfMemory = error.OutOfMemory

-- a column means none, and each before it means one
pub record IsFirstUnsound (columns : List HostColumn) (fault : PolarsError) : Type 0 where
  pub place : ℕ
  pub column : HostColumn
  pub unmade : Unmade
  pub within : place < length columns
  pub is : column ≡ slice_index_or columns place column
  pub before : All IsSound (take place columns)
  pub why : IsUnmade column unmade
  pub fault_is : fault ≡ fault_of column place unmade

-- why columns are not made: that; or memory is wanting, which may be at any time
abbrev pub IsColumnFault : List HostColumn → PolarsError → Type 0
IsColumnFault columns fault = IsFirstUnsound columns fault ⊎ (fault ≡ error.OutOfMemory)

-- the columns mean columns of several heights: a wrong option
pub record AreUneven (columns : List HostColumn) (fault : PolarsError) : Type 0 where
  pub sound : All IsSound columns
  pub uneven : ¬ (HaveHeight (height_of (map host_column columns)) (map host_column columns))
  pub fault_is : fault ≡ error.InvalidOperation op_fault.Option

-- the columns mean columns of one height, of which two have one name
pub record AreDoubled (columns : List HostColumn) (fault : PolarsError) : Type 0 where
  pub sound : All IsSound columns
  pub even : HaveHeight (height_of (map host_column columns)) (map host_column columns)
  pub doubled : IsRepeatFault (repeated_name (names_of (map host_column columns))) name_place.Projection fault

-- why there is no frame
abbrev pub IsFrameFault : List HostColumn → PolarsError → Type 0
IsFrameFault columns fault = IsColumnFault columns fault ⊎ (AreUneven columns fault ⊎ AreDoubled columns fault)

-- the quote is ASCII, the columns mean a frame, and this is its text
pub record IsHostText (o : CsvWriterOptions) (columns : List HostColumn) (text : List ℕ) : Type 0 where
  pub ascii : o.serialize_options.quote_char < 128
  pub sound : All IsSound columns
  pub frame : IsFrame (map host_column columns)
  pub is : text ≡ text_of_frame (frame_options o) (map host_column columns)

-- why there is no text: the quote is not ASCII; or else there is no frame
abbrev pub HasNoHostText : CsvWriterOptions → List HostColumn → PolarsError → Type 0
HasNoHostText o columns fault =
    ((fault ≡ error.ComputeError compute_fault.Quote) × (128 ≤ o.serialize_options.quote_char))
    ⊎ ((o.serialize_options.quote_char < 128) × IsFrameFault columns fault)

-- the words have a meaning, and by it this is the text of the columns
pub record IsWritten (words : List (List ℕ)) (columns : List HostColumn) (text : List ℕ) : Type 0 where
  pub given : Given
  pub asked : Asks words given
  pub is : IsHostText given.write columns text

-- the words have a meaning, and by it this stands against a text
pub record CannotWrite (words : List (List ℕ)) (columns : List HostColumn) (fault : PolarsError) : Type 0 where
  pub given : Given
  pub asked : Asks words given
  pub is : HasNoHostText given.write columns fault

-- why no text is handed out: the words have no meaning, or this stands against it; or memory is wanting, which may be at any time
abbrev pub IsUnwritten : List (List ℕ) → List HostColumn → Refusal → Type 0
IsUnwritten words columns (refusal.Polars fault) = (fault ≡ error.OutOfMemory) ⊎ CannotWrite words columns fault
IsUnwritten words columns given = IsUnasked words given
