-- Summaries of pieces as numbers, by words (docs/pieces.md).
use Rattle.std.specs.Prelude.{◌≡◌, ◌⊎◌, ℕ, ◌==◌, if◌then◌else◌, List, Some, None}
use Rattle.std.specs.List.{last_or}
use Rattle.pl_csv.specs.declared.run.Refusal.{Refusal}
use Rattle.pl_csv.specs.declared.run.Refusal.TheVariants as refusal
use Rattle.pl_csv_c.specs.Given.{Asks, IsUnasked}
use Rattle.pl_csv_c.specs.declared.given.Given.{Given}
use Rattle.pl_csv_c.specs.declared.summarizing.StateNumbers.{StateNumbers}
use Rattle.pl_frame.specs.declared.error.OpFault.TheVariants as op_fault
use Rattle.pl_frame.specs.declared.error.PolarsError.{PolarsError}
use Rattle.pl_frame.specs.declared.error.PolarsError.TheVariants as error
use Rattle.pl_options.specs.declared.read_options.CsvReadOptions.{CsvReadOptions}
use Rattle.pl_options.specs.FirstCause.{IsFirstCause}
use Rattle.pl_options.specs.Text.{marks_of, comment_of}
use Rattle.pl_read.specs.Refusals.{early_causes}
use Rattle.pl_read.specs.Steps.{MayRead}
use Rattle.pl_scan.specs.LineStates.{summary_of}
use Rattle.pl_scan.specs.declared.summary.LineState.{LineState}
use Rattle.pl_scan.specs.declared.summary.LineState.TheVariants as state
use Rattle.pl_scan.specs.declared.summary.PieceSummary.{PieceSummary}

-- the number of a state: 0 at the start of an item, 1 inside an open quoted field
abbrev pub state_number : LineState → ℕ
state_number state.Start = 0
state_number state.Open = 1

-- the state of a number: any but 0 is the inside of an open quoted field
abbrev pub numbered_state : ℕ → LineState
numbered_state number = if number == 0 then state.Start else state.Open

-- a summary as numbers
abbrev pub state_numbers : PieceSummary → StateNumbers
state_numbers summary = record { from_start = state_number summary.from_start; from_open = state_number summary.from_open }

-- the summary that numbers give
abbrev pub numbered_summary : StateNumbers → PieceSummary
numbered_summary numbers = record { from_start = numbered_state numbers.from_start; from_open = numbered_state numbers.from_open }

-- the last byte of a piece is the line end
abbrev pub EndsLine : CsvReadOptions → List ℕ → Type 0
EndsLine o piece = last_or None piece ≡ Some o.parse_options.eol_char

-- the options may stand, a piece ends with the line end, and these are the states behind it
pub record IsSummary (o : CsvReadOptions) (piece : List ℕ) (summary : PieceSummary) : Type 0 where
  pub allowed : MayRead o
  pub ended : EndsLine o piece
  pub is : summary ≡ summary_of (marks_of o.parse_options) (comment_of o.parse_options) piece

-- the options may stand, and a piece does not end with the line end: a wrong option
pub record IsNoPiece (o : CsvReadOptions) (piece : List ℕ) (fault : PolarsError) : Type 0 where
  pub allowed : MayRead o
  pub unended : ¬ (EndsLine o piece)
  pub is : fault ≡ error.InvalidOperation op_fault.Option

-- why a piece has no summary: the marks are no dialect, or an option may not stand; or else it does not end with the line end
abbrev pub HasNoSummary : CsvReadOptions → List ℕ → PolarsError → Type 0
HasNoSummary o piece fault = IsFirstCause (early_causes o) o.parse_options (Some fault) ⊎ IsNoPiece o piece fault

-- the words have a meaning, and by it these are the states behind a piece
pub record IsSummarized (words : List (List ℕ)) (piece : List ℕ) (numbers : StateNumbers) : Type 0 where
  pub given : Given
  pub summary : PieceSummary
  pub asked : Asks words given
  pub is : IsSummary given.read piece summary
  pub numbers_are : numbers ≡ state_numbers summary

-- the words have a meaning, and by it this stands against a summary
pub record CannotSummarize (words : List (List ℕ)) (piece : List ℕ) (fault : PolarsError) : Type 0 where
  pub given : Given
  pub asked : Asks words given
  pub is : HasNoSummary given.read piece fault

-- why a piece was not summarized: the words have no meaning, or this stands against it; or memory is wanting, which may be at any time
abbrev pub IsUnsummarized : List (List ℕ) → List ℕ → Refusal → Type 0
IsUnsummarized words piece (refusal.Polars fault) = (fault ≡ error.OutOfMemory) ⊎ CannotSummarize words piece fault
IsUnsummarized words piece given = IsUnasked words given
