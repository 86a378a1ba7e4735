-- What is written, read again and written once more.
use Rattle.std.proofs.Common.{◌≡◌, ℕ, List, refl, sym, ◌∙◌, ap, subst, inl, inr}
use Rattle.std.specs.Prelude.{Result, Ok, Err, IsErr, IfErr}
use Rattle.pl_frame.specs.declared.error.PolarsError.{PolarsError}
use Rattle.pl_frame.specs.declared.error.PolarsError.TheVariants as error
use Rattle.pl_frame.specs.Frame.{ColumnValue}
use Rattle.pl_text.specs.FrameText.{WriteOptions, text_of_frame}
use Rattle.pl_options.specs.declared.read_options.CsvReadOptions.{CsvReadOptions}
use Rattle.pl_read.specs.CsvReader.{AnswersUnlessFailed}
use Rattle.pl_read.specs.Options.{settled_schema}
use Rattle.pl_read.specs.RoundTrip.{ComesBack}
use Rattle.pl_read.proofs.ComesBackLaws.{frames-return}
use Rattle.pl_write.specs.declared.options.CsvWriterOptions.{CsvWriterOptions}
use Rattle.pl_csv.specs.Transcoding.{HasAsciiQuote, IsValidRead, IsTranscodeFault, ReturnsFrame}
use Rattle.pl_csv.specs.Views.{SinkView}
use Rattle.pl_csv.proofs.RunLaws.{no_cause}

-- the text of a frame that comes back means that frame
valid : (read : CsvReadOptions) (write : CsvWriterOptions) (input : List ℕ) (written : WriteOptions) (columns : List ColumnValue) → ComesBack read written columns → HasAsciiQuote write
    → input ≡ text_of_frame written columns → IsValidRead read (settled_schema read input) input write columns
valid read write input written columns back small is =
    subst (λ (text : List ℕ). IsValidRead read (settled_schema read text) text write columns) (sym is) (small, frames-return read written columns back)

-- it is answered
pub same_frame : (read : CsvReadOptions) (write : CsvWriterOptions) (input : List ℕ) (frame : List ColumnValue) (before now : ℕ) → IsValidRead read (settled_schema read input) input write frame
    → ReturnsFrame read write input (Ok frame) before now
same_frame read write input frame before now own written columns back small is =
    inl (ap (λ (f : List ColumnValue). Ok f) (own.1.1 ∙ sym (valid read write input written columns back small is).1.1))

-- and a fault of the sink rose, or memory was wanting
pub fault_returned : (read : CsvReadOptions) (write : CsvWriterOptions) (input : List ℕ) (before now : SinkView) (fault : PolarsError) → IsTranscodeFault read write input before now fault
    → ReturnsFrame read write input (Err fault) before.faults now.faults
fault_returned read write input before now fault wrong written columns back small is =
    by fault (valid read write input written columns back small is) wrong
  where
    by : (fault : PolarsError) → IsValidRead read (settled_schema read input) input write columns → IsTranscodeFault read write input before now fault
        → AnswersUnlessFailed (Err fault) (Ok columns) before.faults now.faults
    by error.IO own wrong = inr (inr (refl, wrong.0))
    by error.OutOfMemory own wrong = inr (inl refl)
    by (error.InvalidOperation op) own wrong = absurd (no_cause read (settled_schema read input) input write columns (error.InvalidOperation op) own wrong.0)
    by (error.ComputeError fault) own wrong = absurd (no_cause read (settled_schema read input) input write columns (error.ComputeError fault) own wrong.0)
    by (error.NoData fault) own wrong = absurd (no_cause read (settled_schema read input) input write columns (error.NoData fault) own wrong.0)
    by (error.ColumnNotFound name) own wrong = absurd (no_cause read (settled_schema read input) input write columns (error.ColumnNotFound name) own wrong.0)
    by (error.OutOfBounds index length) own wrong = absurd (no_cause read (settled_schema read input) input write columns (error.OutOfBounds index length) own wrong.0)
    by (error.Duplicate name at) own wrong = absurd (no_cause read (settled_schema read input) input write columns (error.Duplicate name at) own wrong.0)
    by error.EmptyProjection own wrong = absurd (no_cause read (settled_schema read input) input write columns error.EmptyProjection own wrong.0)

pub err_returned : (read : CsvReadOptions) (write : CsvWriterOptions) (input : List ℕ) (before now : SinkView) (result : Result (List ColumnValue) PolarsError) → IsErr result
    → IfErr result (IsTranscodeFault read write input before now) → ReturnsFrame read write input result before.faults now.faults
err_returned read write input before now (Ok frame) failed wrong written columns back small is = let no = failed in cc
err_returned read write input before now (Err fault) failed wrong written columns back small is = fault_returned read write input before now fault wrong written columns back small is
