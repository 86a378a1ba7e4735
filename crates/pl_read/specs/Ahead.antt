-- The input that a source gives, and the frame that is read of it as it comes (docs/workers.md, "From a source to a frame").
use Rattle.std.specs.Prelude.{◌≡◌, ◌⊎◌, ℕ, ◌≤◌, List, ◌++◌, length, drop, Option, IsSome, None, Result, Err, MatchResult}
use Rattle.std.specs.Io.KnownBytes.{Consumes, IsAtEnd}
use Rattle.pl_frame.specs.Frame.{ColumnValue}
use Rattle.pl_frame.specs.Causes.{Rose}
use Rattle.pl_frame.specs.declared.error.PolarsError.{PolarsError}
use Rattle.pl_frame.specs.declared.error.PolarsError.TheVariants as error
use Rattle.pl_frame.specs.declared.read_all.ReadAllFault.{ReadAllFault}
use Rattle.pl_frame.specs.declared.read_all.ReadAllFault.TheVariants as read_fault
use Rattle.pl_options.specs.declared.read_options.CsvReadOptions.{CsvReadOptions}
use Rattle.pl_read.specs.Options.{settled_schema}
use Rattle.pl_read.specs.Preparing.{IsPrepared}
use Rattle.pl_read.specs.Reading.{IsRead, IsReadFault}
use Rattle.pl_read.specs.Steps.{MayRead, opening_cause, IsDataRead}
use Rattle.pl_read.specs.declared.preparing.Prepared.{Prepared}
use Rattle.pl_rows.specs.declared.columns.RangeColumns.{RangeColumns}
use Rattle.pl_rows.specs.declared.plan.RangePlan.{RangePlan}

-- the options may stand, a schema is given, and no lines are skipped: where the records begin is told by a front of the input
pub record MayReadAhead (o : CsvReadOptions) : Type 0 where
  pub allowed : MayRead o
  pub given : IsSome o.schema
  pub lines : o.skip_lines ≡ 0

-- what the rows of an input are read by: no cause against it stands before those of its rows
pub record IsReadBy (o : CsvReadOptions) (input : List ℕ) (prepared : Prepared) : Type 0 where
  pub is : IsPrepared o (settled_schema o input) input prepared
  pub sound : opening_cause o (settled_schema o input) input ≡ None

-- a front of an input tells what the rows are read by, whatever stands behind it; they begin within it
pub record IsReadAhead (o : CsvReadOptions) (first : List ℕ) (prepared : Prepared) : Type 0 where
  pub within : prepared.start ≤ length first
  pub is : (rest : List ℕ) → IsReadBy o (first ++ rest) prepared

-- the source gave this input and was read to its end, and the answer is that of a read of it
pub record IsInputRead (o : CsvReadOptions) (before now : Option (List ℕ)) (result : Result (List ColumnValue) PolarsError) : Type 0 where
  pub input : List ℕ
  pub came : Consumes before now input
  pub end : IsAtEnd now
  pub is : MatchResult result (IsRead o (settled_schema o input) input) (IsReadFault o (settled_schema o input) input)

-- the answer is that of a read of the input that a source gave; or memory was wanting, or the source failed, and its count rose
abbrev pub IsSourceRead : CsvReadOptions → (before now : Option (List ℕ)) → (faults faults_now : ℕ) → Result (List ColumnValue) PolarsError → Type 0
IsSourceRead o before now faults faults_now result = IsInputRead o before now result ⊎ (result ≡ Err error.OutOfMemory) ⊎ ((result ≡ Err error.IO) × Rose faults faults_now)

-- the same where these bytes came before, and the count of faults was no more than it is
abbrev pub IsReadBehind : CsvReadOptions → (kept : List ℕ) → (left now : Option (List ℕ)) → (faults faults_now : ℕ) → Result (List ColumnValue) PolarsError → Type 0
IsReadBehind o kept left now faults faults_now result =
    (before : Option (List ℕ)) (count : ℕ) → Consumes before left kept → count ≤ faults → IsSourceRead o before now count faults_now result

-- why a source was not read to its end
abbrev pub unread_of : ReadAllFault → PolarsError
unread_of read_fault.Source = error.IO
unread_of read_fault.TooLong = error.OutOfMemory
unread_of read_fault.OutOfMemory = error.OutOfMemory

-- the rows of an input were read by what was prepared for it
pub record AreRowsRead (o : CsvReadOptions) (input : List ℕ) (read : RangeColumns) : Type 0 where
  pub plan : RangePlan
  pub prepared : Prepared
  pub by : IsReadBy o input prepared
  pub data_is : IsDataRead plan o prepared.schema (drop prepared.start input) read
