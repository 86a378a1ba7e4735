-- The rows that a test wants of what an input means.
use Rattle.std.proofs.Common.{◌≡◌, ℕ, Bool, List}
use Rattle.std.specs.Prelude.{Option}
use Rattle.pl_frame.specs.Frame.{Scalar, ColumnValue}
use Rattle.pl_options.specs.declared.read_options.CsvReadOptions.{CsvReadOptions}
use Rattle.pl_read.specs.CsvReader.{OfInput}
use Rattle.pl_read.specs.Options.{settled_schema}
use Rattle.pl_read.specs.Reading.{IsRead}
use Rattle.pl_read.specs.RowTest.{IsTested, rows_wanted}

-- they are those of the frame that is read
pub tested-of : {R : Type 0} (lent left : R → Option (List ℕ)) (before now : R) (wants : List (List ℕ × Option Scalar) → Bool) (o : CsvReadOptions) (whole frame : List ColumnValue)
    → OfInput lent left before now (λ (input : List ℕ). IsRead o (settled_schema o input) input whole) → frame ≡ rows_wanted wants whole
    → OfInput lent left before now (λ (input : List ℕ). IsTested wants o input frame)
tested-of lent left before now wants o whole frame (input, is, read) same = (input, is, (whole, read, same))
