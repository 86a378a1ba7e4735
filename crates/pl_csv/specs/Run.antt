-- What a run has done, by its status (docs/command-line.md).
use Rattle.std.specs.Prelude.{◌≡◌, ℕ, ◌^◌, ◌<◌, ◌≤◌, ◌⊎◌, List, length, Option, None, Some}
use Rattle.std.specs.Io.KnownBytes.{Consumes, IsAtEnd}
use Rattle.pl_frame.specs.Causes.{Rose}
use Rattle.pl_frame.specs.Frame.{ColumnValue}
use Rattle.pl_frame.specs.declared.error.PolarsError.{PolarsError}
use Rattle.pl_frame.specs.declared.error.PolarsError.TheVariants as error
use Rattle.pl_frame.specs.declared.error.OpFault.TheVariants as op_fault
use Rattle.pl_read.specs.Options.{settled_schema}
use Rattle.pl_words.specs.declared.job.Job.TheVariants as job
use Rattle.pl_words.specs.Words.{Conversion, converting, job_of_words}
use Rattle.pl_csv.specs.Making.{IsMade, IsMadePart, IsZero, making_status}
use Rattle.pl_csv.specs.declared.run.Refusal.{Refusal}
use Rattle.pl_csv.specs.declared.run.Refusal.TheVariants as refusal
use Rattle.pl_csv.specs.declared.run.Work.{Work}
use Rattle.pl_csv.specs.declared.run.Work.TheVariants as work
use Rattle.pl_csv.specs.Telling.{status_of, status_of_fault, fault_line, IsTold}
use Rattle.pl_csv.specs.Sources.{IsTooLong, HasFailed}
use Rattle.pl_csv.specs.Transcoding.{IsValidRead, IsCause, IsTranscoded, IsCutShort}
use Rattle.pl_csv.specs.Views.{SinkView, Views}

-- ---- what the words mean

-- a conversion
abbrev pub Converts : List (List ℕ) → Type 0
Converts words = (conversion : Conversion) × (job_of_words words ≡ Some (converting conversion))

-- a making job of so many rows, by so many workers in pieces of so many bytes
abbrev pub Makes : List (List ℕ) → ℕ → ℕ → ℕ → Type 0
Makes words rows workers piece = job_of_words words ≡ Some (job.Make rows workers piece)

-- ---- what was read and written

-- the words mean a conversion, and the source gave this input of at most 2 ^ 36 bytes and was read to its end
pub record HasRead (words : List (List ℕ)) (before now : Option (List ℕ)) (conversion : Conversion) (input : List ℕ) : Type 0 where
  pub meaning : job_of_words words ≡ Some (converting conversion)
  pub came : Consumes before now input
  pub end : IsAtEnd now
  pub within : length input ≤ 2 ^ 36

-- The reference read of the input exists, and the sink received exactly the text of its frame.
pub record Converted (words : List (List ℕ)) (left left_now received received_now : Option (List ℕ)) : Type 0 where
  pub conversion : Conversion
  pub input : List ℕ
  pub read : HasRead words left left_now conversion input
  pub frame : List ColumnValue
  pub is : IsTranscoded conversion.read conversion.write input received received_now frame

-- the reference read of the input exists, and the sink received a prefix of the text of its frame
pub record ConvertedPart (words : List (List ℕ)) (left left_now received received_now : Option (List ℕ)) : Type 0 where
  pub conversion : Conversion
  pub input : List ℕ
  pub read : HasRead words left left_now conversion input
  pub is : IsCutShort conversion.read conversion.write input received received_now

-- the input has no reference read that can be written, first for this cause
pub record HasNoRead (words : List (List ℕ)) (left left_now : Option (List ℕ)) (first : PolarsError) : Type 0 where
  pub conversion : Conversion
  pub input : List ℕ
  pub read : HasRead words left left_now conversion input
  pub is : IsCause conversion.read (settled_schema conversion.read input) input conversion.write first

-- The words mean a making job, and the sink received exactly its summary line.
pub record Made (words : List (List ℕ)) (received received_now : Option (List ℕ)) : Type 0 where
  pub rows : ℕ
  pub workers : ℕ
  pub piece : ℕ
  pub meaning : Makes words rows workers piece
  pub is : IsMade rows workers piece received received_now

-- the words mean a making job, and the sink received a prefix of its summary line
pub record MadePart (words : List (List ℕ)) (received received_now : Option (List ℕ)) : Type 0 where
  pub rows : ℕ
  pub workers : ℕ
  pub piece : ℕ
  pub meaning : Makes words rows workers piece
  pub is : IsMadePart rows workers piece received received_now

-- the words mean a making job without workers or in pieces of no bytes, and this is the refusal of a wrong option
pub record HasWrongOption (words : List (List ℕ)) (first : PolarsError) : Type 0 where
  pub rows : ℕ
  pub workers : ℕ
  pub piece : ℕ
  pub meaning : Makes words rows workers piece
  pub zero : IsZero workers piece
  pub is : first ≡ error.InvalidOperation op_fault.Option

-- ---- refusals

-- part of the text of a conversion, or of the line of a making job, was written
abbrev pub PartWritten : List (List ℕ) → Views → Views → Type 0
PartWritten words before now =
    ConvertedPart words before.source.left now.source.left before.out.received now.out.received
    ⊎ MadePart words before.out.received now.out.received

-- The cause of a refusal, and what then came of source and sink: words without a meaning leave both as they were, and only a
-- fault of the sink and want of memory may leave part of the text in the sink.
abbrev pub IsRefused : List (List ℕ) → Views → Views → Refusal → Type 0
IsRefused words before now refusal.Words = (job_of_words words ≡ None) × (now ≡ before)
IsRefused words before now refusal.Source = Converts words × HasFailed before.source now.source × (now.out ≡ before.out)
IsRefused words before now refusal.TooLong = Converts words × IsTooLong before.source.left now.source.left × (now.out ≡ before.out)
IsRefused words before now (refusal.Polars error.IO) = Rose before.out.faults now.out.faults × PartWritten words before now
IsRefused words before now (refusal.Polars error.OutOfMemory) = (now.out ≡ before.out) ⊎ PartWritten words before now
IsRefused words before now (refusal.Polars first) = (HasNoRead words before.source.left now.source.left first ⊎ HasWrongOption words first) × (now.out ≡ before.out)

-- a refusal with this status holds, and its fault line was told
pub record IsRefusedWith (words : List (List ℕ)) (before now : Views) (err err_now : SinkView) (status : ℕ) : Type 0 where
  pub given : Refusal
  pub is : status ≡ status_of given
  pub holds : IsRefused words before now given
  pub told : IsTold (fault_line given) err err_now

-- what is to be done: what the words mean, a conversion or a making job
abbrev pub IsWork : List (List ℕ) → Work → Type 0
IsWork words (work.Convert conversion) = job_of_words words ≡ Some (converting (record { read = conversion.read; write = conversion.write }))
IsWork words (work.Make rows workers piece) = Makes words rows workers piece

-- it has at most 1000000 rows
abbrev pub HasFewRows : Work → Type 0
HasFewRows (work.Make rows workers piece) = rows ≤ 1000000
HasFewRows _ = Unit {0}

-- why there is nothing to do: the words have no meaning, or memory was wanting
abbrev pub IsNoWork : List (List ℕ) → Refusal → Type 0
IsNoWork words refusal.Words = job_of_words words ≡ None
IsNoWork words refusal.Source = ⊥
IsNoWork words refusal.TooLong = ⊥
IsNoWork words (refusal.Polars fault) = fault ≡ error.OutOfMemory

-- ---- the status

-- the words mean a conversion by which an input of at most 2 ^ 36 bytes has a reference read, which can be written
pub record IsValid (words : List (List ℕ)) (input : List ℕ) : Type 0 where
  pub conversion : Conversion
  pub meaning : job_of_words words ≡ Some (converting conversion)
  pub within : length input ≤ 2 ^ 36
  pub frame : List ColumnValue
  pub read : IsValidRead conversion.read (settled_schema conversion.read input) input conversion.write frame

-- the words mean a conversion by which an input of at most 2 ^ 36 bytes has no reference read that can be written, first for
-- this cause
pub record IsInvalid (words : List (List ℕ)) (input : List ℕ) (first : PolarsError) : Type 0 where
  pub conversion : Conversion
  pub meaning : job_of_words words ≡ Some (converting conversion)
  pub within : length input ≤ 2 ^ 36
  pub is : IsCause conversion.read (settled_schema conversion.read input) input conversion.write first

-- the words mean a making job to which this status is due, whatever the input
pub record IsDueMade (words : List (List ℕ)) (status : ℕ) : Type 0 where
  pub rows : ℕ
  pub workers : ℕ
  pub piece : ℕ
  pub meaning : Makes words rows workers piece
  pub is : status ≡ making_status workers piece

-- The status that is due to words and a whole input: 2 where the words have no meaning, 6 where the input is too long,
-- 0 where it has a reference read that can be written, and else that of the first cause for which it has none; and that of a
-- making job.
abbrev pub IsDue : List (List ℕ) → List ℕ → ℕ → Type 0
IsDue words input status =
    ((job_of_words words ≡ None) × (status ≡ 2))
    ⊎ (Converts words × (2 ^ 36 < length input) × (status ≡ 6))
    ⊎ (IsValid words input × (status ≡ 0))
    ⊎ ((first : PolarsError) × IsInvalid words input first × (status ≡ status_of_fault first))
    ⊎ IsDueMade words status

-- the status that is due, or want of memory, or a fault of the source, or of the sink where a text is due; of the two only
-- one whose count rose
abbrev pub EndsAsDue : ℕ → ℕ → Views → Views → Type 0
EndsAsDue due status before now =
    (status ≡ due)
    ⊎ (status ≡ 5)
    ⊎ ((status ≡ 3) × HasFailed before.source now.source)
    ⊎ ((status ≡ 4) × (due ≡ 0) × Rose before.out.faults now.out.faults)

-- the status that is due to a making job, or want of memory, or a fault of the sink, whose count rose, where a line is due
abbrev pub EndsAsMade : ℕ → ℕ → ℕ → ℕ → ℕ → Type 0
EndsAsMade workers piece status faults faults_now =
    (status ≡ making_status workers piece) ⊎ (status ≡ 5) ⊎ ((status ≡ 4) × (making_status workers piece ≡ 0) × Rose faults faults_now)

-- words and an input have one status that is due
abbrev pub HasOneDue : List (List ℕ) → List ℕ → Type 0
HasOneDue words input = (status : ℕ) × IsDue words input status × ((other : ℕ) → IsDue words input other → other ≡ status)
