-- What a run over a stream has done, by its status (docs/command-line.md, "A stream").
use Rattle.std.specs.Prelude.{◌≡◌, ◌⊎◌, ℕ, ◌≤◌, List, length, Option, None, Some}
use Rattle.pl_frame.specs.Causes.{Rose}
use Rattle.pl_frame.specs.declared.error.PolarsError.TheVariants as error
use Rattle.pl_options.specs.declared.read_options.CsvReadOptions.{CsvReadOptions}
use Rattle.pl_words.specs.declared.job.Job.{Job}
use Rattle.pl_words.specs.declared.job.Job.TheVariants as job
use Rattle.pl_words.specs.Words.{job_of_words}
use Rattle.pl_write.specs.declared.options.CsvWriterOptions.{CsvWriterOptions}
use Rattle.pl_csv.specs.declared.run.Refusal.TheVariants as refusal
use Rattle.pl_csv.specs.Telling.{IsTold}
use Rattle.pl_csv.specs.Views.{SinkView, SourceView}
use Rattle.pl_stream.specs.declared.fault.StreamFault.{StreamFault}
use Rattle.pl_stream.specs.declared.run.StreamRefusal.{StreamRefusal}
use Rattle.pl_stream.specs.declared.run.StreamRefusal.TheVariants as stream
use Rattle.pl_stream.specs.Feeding.{finish_cause}
use Rattle.pl_stream.specs.Options.{IsAccepted}
use Rattle.pl_stream.specs.Streaming.{IsStreamed, IsStreamRefused, most_bytes}
use Rattle.pl_stream.specs.Telling.{refusal_of, stream_status, stream_line}

-- ---- what words ask for

-- the words ask for a conversion, which is streamed
abbrev pub Asks : List (List ℕ) → CsvReadOptions → CsvWriterOptions → Type 0
Asks words read write = job_of_words words ≡ Some (job.Convert read write)

-- they ask for no conversion: they have no meaning, or an input is to be made
abbrev pub asks_nothing : Option Job → Type 0
asks_nothing None = Unit {0}
asks_nothing (Some (job.Convert read write)) = ⊥
asks_nothing (Some (job.Make rows workers piece)) = Unit {0}

abbrev pub HasNoStream : List (List ℕ) → Type 0
HasNoStream words = asks_nothing (job_of_words words)

-- ---- what was written

-- the options are accepted, the bytes of the source have a frame, and the sink received exactly its text
pub record IsStreamedBy (read : CsvReadOptions) (write : CsvWriterOptions) (left left_now received received_now : Option (List ℕ)) : Type 0 where
  pub accepted : IsAccepted read write
  pub is : IsStreamed read write left left_now received received_now

-- the words ask for a stream, and that
pub record IsWordsStreamed (words : List (List ℕ)) (left left_now received received_now : Option (List ℕ)) : Type 0 where
  pub read : CsvReadOptions
  pub write : CsvWriterOptions
  pub asks : Asks words read write
  pub is : IsStreamedBy read write left left_now received received_now

-- ---- refusals

-- the refusal is that of a fault of the stream
abbrev pub IsOutcome : CsvReadOptions → CsvWriterOptions → (source source_now : SourceView) → (out out_now : SinkView) → StreamRefusal → Type 0
IsOutcome read write source source_now out out_now given =
    (cause : StreamFault) × (given ≡ refusal_of cause) × IsStreamRefused read write source source_now out out_now cause

-- Why a run did not write all text: the words ask for no stream, or memory was wanting, and source and sink are as they were; or the stream that they ask
-- for was refused.
abbrev pub IsRunRefused : List (List ℕ) → (source source_now : SourceView) → (out out_now : SinkView) → StreamRefusal → Type 0
IsRunRefused words source source_now out out_now given =
    ((given ≡ stream.Run refusal.Words) × HasNoStream words × (source_now ≡ source) × (out_now ≡ out))
    ⊎ ((given ≡ stream.Run (refusal.Polars error.OutOfMemory)) × (source_now ≡ source) × (out_now ≡ out))
    ⊎ ((read : CsvReadOptions) × (write : CsvWriterOptions) × Asks words read write × IsOutcome read write source source_now out out_now given)

-- a refusal with this status holds, and its fault line was told
pub record IsRunRefusedWith (words : List (List ℕ)) (source source_now : SourceView) (out out_now err err_now : SinkView) (status : ℕ) : Type 0 where
  pub given : StreamRefusal
  pub is : status ≡ stream_status given
  pub holds : IsRunRefused words source source_now out out_now given
  pub told : IsTold (stream_line given) err err_now

-- ---- what is due

-- the words ask for a stream whose options are accepted, and the source tells an input that has a frame
pub record MustStream (words : List (List ℕ)) (left : Option (List ℕ)) : Type 0 where
  pub read : CsvReadOptions
  pub write : CsvWriterOptions
  pub asks : Asks words read write
  pub accepted : IsAccepted read write
  pub input : List ℕ
  pub told : left ≡ Some input
  pub sound : finish_cause read input ≡ None
  pub within : length input ≤ most_bytes

-- all was written, or memory was wanting, or a count rose
abbrev pub EndsStreamed : (status source source_now out out_now : ℕ) → Type 0
EndsStreamed status source source_now out out_now = (status ≡ 0) ⊎ (status ≡ 5) ⊎ ((status ≡ 3) × Rose source source_now) ⊎ ((status ≡ 4) × Rose out out_now)
