-- Where the data of an input begins, by words (docs/grammar.md, "The starting point").
use Rattle.std.specs.Prelude.{◌≡◌, ◌≤◌, ◌⊎◌, ℕ, List, length, drop, Some, None}
use Rattle.pl_csv.specs.declared.run.Refusal.{Refusal}
use Rattle.pl_csv.specs.declared.run.Refusal.TheVariants as refusal
use Rattle.pl_csv_c.specs.Given.{Asks, IsUnasked}
use Rattle.pl_csv_c.specs.declared.given.Given.{Given}
use Rattle.pl_frame.specs.declared.error.PolarsError.{PolarsError}
use Rattle.pl_frame.specs.declared.error.PolarsError.TheVariants as error
use Rattle.pl_options.specs.declared.read_options.CsvReadOptions.{CsvReadOptions}
use Rattle.pl_options.specs.FirstCause.{IsFirstCause}
use Rattle.pl_read.specs.BatchSteps.{IsOpeningFaultOf}
use Rattle.pl_read.specs.Batches.{opening_causes}
use Rattle.pl_read.specs.Options.{data_of, settled_schema}

-- no cause stands against an input before those of its rows, and its data is what stands behind so many bytes
pub record IsStart (o : CsvReadOptions) (input : List ℕ) (start : ℕ) : Type 0 where
  pub sound : IsFirstCause (opening_causes o (settled_schema o input) input) o.parse_options None
  pub within : start ≤ length input
  pub data_is : data_of o input ≡ Some (drop start input)

-- the words have a meaning, and by it the data of an input begins there
pub record StartsAt (words : List (List ℕ)) (input : List ℕ) (start : ℕ) : Type 0 where
  pub given : Given
  pub asked : Asks words given
  pub is : IsStart given.read input start

-- the words have a meaning, and by it this is the first cause that stands against an input before those of its rows, or memory is wanting
pub record CannotStart (words : List (List ℕ)) (input : List ℕ) (fault : PolarsError) : Type 0 where
  pub given : Given
  pub asked : Asks words given
  pub is : IsOpeningFaultOf given.read input fault

-- why no start is told: the words have no meaning, or this stands against it; or memory is wanting, which may be at any time
abbrev pub HasNoStart : List (List ℕ) → List ℕ → Refusal → Type 0
HasNoStart words input (refusal.Polars fault) = (fault ≡ error.OutOfMemory) ⊎ CannotStart words input fault
HasNoStart words input given = IsUnasked words given
