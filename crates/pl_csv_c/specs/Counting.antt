-- What a count of the rows of an input answers, by words (docs/grammar.md, "Counting rows").
use Rattle.std.specs.Prelude.{◌≡◌, ◌⊎◌, ℕ, List, Result, Ok, Err}
use Rattle.pl_csv.specs.Counting.{IsCountOf}
use Rattle.pl_csv.specs.declared.run.Refusal.{Refusal}
use Rattle.pl_csv.specs.declared.run.Refusal.TheVariants as refusal
use Rattle.pl_csv_c.specs.Given.{Asks, IsUnasked}
use Rattle.pl_csv_c.specs.declared.given.Given.{Given}
use Rattle.pl_frame.specs.declared.error.PolarsError.{PolarsError}
use Rattle.pl_frame.specs.declared.error.PolarsError.TheVariants as error
use Rattle.pl_options.specs.declared.read_options.CsvReadOptions.{CsvReadOptions}
use Rattle.pl_options.specs.Text.{marks_of, comment_of}

-- what a count of an input answers by the marks, the comments and the header of options
abbrev pub IsCounting : CsvReadOptions → List ℕ → Result ℕ PolarsError → Type 0
IsCounting o input answer = IsCountOf o.has_header (marks_of o.parse_options) (comment_of o.parse_options) input answer

-- the words have a meaning, and by it the input has so many rows
pub record IsCounted (words : List (List ℕ)) (input : List ℕ) (rows : ℕ) : Type 0 where
  pub given : Given
  pub asked : Asks words given
  pub is : IsCounting given.read input (Ok rows)

-- the words have a meaning, and by it this stands against a count
pub record HasNoCount (words : List (List ℕ)) (input : List ℕ) (fault : PolarsError) : Type 0 where
  pub given : Given
  pub asked : Asks words given
  pub is : IsCounting given.read input (Err fault)

-- why rows were not counted: the words have no meaning, or this stands against a count; or memory is wanting, which may be at any time
abbrev pub IsUncounted : List (List ℕ) → List ℕ → Refusal → Type 0
IsUncounted words input (refusal.Polars fault) = (fault ≡ error.OutOfMemory) ⊎ HasNoCount words input fault
IsUncounted words input given = IsUnasked words given
