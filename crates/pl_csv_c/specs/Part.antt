-- What a read of records of a part answers, by words (docs/index.md, docs/c.md).
use Rattle.std.specs.Prelude.{◌≡◌, ◌⊎◌, ℕ, true, List, length, Some, None, IsSome, IsNone}
use Rattle.pl_csv.specs.declared.run.Refusal.{Refusal}
use Rattle.pl_csv.specs.declared.run.Refusal.TheVariants as refusal
use Rattle.pl_csv_c.specs.Given.{Asks, IsUnasked}
use Rattle.pl_csv_c.specs.Views.{HasShape, IsFrameKept}
use Rattle.pl_csv_c.specs.declared.given.Given.{Given}
use Rattle.pl_csv_c.specs.declared.kept.KeptFrame.{KeptFrame}
use Rattle.pl_csv_c.specs.declared.views.FrameView.{FrameView}
use Rattle.pl_frame.specs.Frame.{ColumnValue}
use Rattle.pl_frame.specs.declared.error.OpFault.TheVariants as op_fault
use Rattle.pl_frame.specs.declared.error.PolarsError.{PolarsError}
use Rattle.pl_frame.specs.declared.error.PolarsError.TheVariants as error
use Rattle.pl_options.specs.FirstCause.{IsFirstCause}
use Rattle.pl_options.specs.declared.read_options.CsvReadOptions.{CsvReadOptions}
use Rattle.pl_read.specs.Projection.{projected}
use Rattle.pl_read.specs.SettleGiven.{given_schema, given_causes}
use Rattle.pl_seek.specs.Parts.{CanReadPart, rows_from, columns_of_rows, fault_in_rows}

-- why no part can be read by options: no schema is given; or the first cause stands against the options alone; or no column is read
abbrev pub IsBarred : CsvReadOptions → PolarsError → Type 0
IsBarred o fault =
    (IsNone o.schema × (fault ≡ error.InvalidOperation op_fault.Option))
    ⊎ (IsSome o.schema × IsFirstCause (given_causes o) o.parse_options (Some fault))
    ⊎ (IsSome o.schema × IsFirstCause (given_causes o) o.parse_options None × (length (projected o (given_schema o)) ≡ 0) × (fault ≡ error.EmptyProjection))

-- why records of a part are not read by options: no part can be; or the first fault of the least of these records that has one
abbrev pub IsPartCause : CsvReadOptions → List ℕ → ℕ → ℕ → PolarsError → Type 0
IsPartCause o part skip count fault = IsBarred o fault ⊎ (CanReadPart o part true × (fault_in_rows o skip (rows_from o skip count part) ≡ Some fault))

-- the words have a meaning, and by it the records of the part from one on, at most so many, are this frame
pub record MeansPart (words : List (List ℕ)) (part : List ℕ) (skip count : ℕ) (frame : List ColumnValue) : Type 0 where
  pub given : Given
  pub asked : Asks words given
  pub can : CanReadPart given.read part true
  pub sound : fault_in_rows given.read skip (rows_from given.read skip count part) ≡ None
  pub is : frame ≡ columns_of_rows given.read (rows_from given.read skip count part)

-- the words have a meaning, and by it this stands against the records
pub record HasPartCause (words : List (List ℕ)) (part : List ℕ) (skip count : ℕ) (fault : PolarsError) : Type 0 where
  pub given : Given
  pub asked : Asks words given
  pub is : IsPartCause given.read part skip count fault

-- the frame of the records is kept
pub record IsKeptPart (words : List (List ℕ)) (part : List ℕ) (skip count : ℕ) (kept : KeptFrame) : Type 0 where
  pub frame : List ColumnValue
  pub means : MeansPart words part skip count frame
  pub is : IsFrameKept frame kept

-- the records are a frame, and a view has its width and its height
pub record IsPartReadInto (words : List (List ℕ)) (part : List ℕ) (skip count : ℕ) (view : FrameView) : Type 0 where
  pub frame : List ColumnValue
  pub means : MeansPart words part skip count frame
  pub shape : HasShape view frame

-- why nothing was read: the words have no meaning, or a cause stands against the records; or memory is wanting, which may be at any time
abbrev pub IsPartUnread : List (List ℕ) → List ℕ → ℕ → ℕ → Refusal → Type 0
IsPartUnread words part skip count (refusal.Polars fault) = (fault ≡ error.OutOfMemory) ⊎ HasPartCause words part skip count fault
IsPartUnread words part skip count given = IsUnasked words given
