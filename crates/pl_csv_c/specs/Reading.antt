-- What a read answers, by words (docs/c.md).
use Rattle.std.specs.Prelude.{◌≡◌, ◌⊎◌, ℕ, List}
use Rattle.pl_csv.specs.declared.run.Refusal.{Refusal}
use Rattle.pl_csv.specs.declared.run.Refusal.TheVariants as refusal
use Rattle.pl_csv_c.specs.Given.{Asks, IsUnasked}
use Rattle.pl_csv_c.specs.Views.{HasShape, IsFrameKept}
use Rattle.pl_csv_c.specs.declared.given.Given.{Given}
use Rattle.pl_csv_c.specs.declared.kept.KeptFrame.{KeptFrame}
use Rattle.pl_csv_c.specs.declared.views.FrameView.{FrameView}
use Rattle.pl_frame.specs.Frame.{ColumnValue}
use Rattle.pl_frame.specs.Schema.{Entry}
use Rattle.pl_frame.specs.declared.error.PolarsError.{PolarsError}
use Rattle.pl_frame.specs.declared.error.PolarsError.TheVariants as error
use Rattle.pl_options.specs.declared.read_options.CsvReadOptions.{CsvReadOptions}
use Rattle.pl_read.specs.Options.{settled_schema}
use Rattle.pl_read.specs.Reading.{IsRead, IsRefusal}

-- the words have a meaning, and by it the input means this frame
pub record Means (words : List (List ℕ)) (input : List ℕ) (frame : List ColumnValue) : Type 0 where
  pub given : Given
  pub asked : Asks words given
  pub is : IsRead given.read (settled_schema given.read input) input frame

-- the words have a meaning, and by it this is the first cause against the frame of the input
pub record HasCause (words : List (List ℕ)) (input : List ℕ) (fault : PolarsError) : Type 0 where
  pub given : Given
  pub asked : Asks words given
  pub is : IsRefusal given.read (settled_schema given.read input) input fault

-- an input means a frame under options and its settled schema, and that is kept
pub record IsReadKept (o : CsvReadOptions) (schema : List Entry) (input : List ℕ) (kept : KeptFrame) : Type 0 where
  pub frame : List ColumnValue
  pub read : IsRead o schema input frame
  pub is : IsFrameKept frame kept

-- the frame of the input is kept
pub record IsKeptRead (words : List (List ℕ)) (input : List ℕ) (kept : KeptFrame) : Type 0 where
  pub frame : List ColumnValue
  pub means : Means words input frame
  pub is : IsFrameKept frame kept

-- the input means a frame, and a view has its width and its height
pub record IsReadInto (words : List (List ℕ)) (input : List ℕ) (view : FrameView) : Type 0 where
  pub frame : List ColumnValue
  pub means : Means words input frame
  pub shape : HasShape view frame

-- why nothing was read: the words have no meaning, or a cause stands against the frame, the first one; or memory is wanting, which may
-- be at any time
abbrev pub IsUnread : List (List ℕ) → List ℕ → Refusal → Type 0
IsUnread words input (refusal.Polars fault) = (fault ≡ error.OutOfMemory) ⊎ HasCause words input fault
IsUnread words input given = IsUnasked words given
