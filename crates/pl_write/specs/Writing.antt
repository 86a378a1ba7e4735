-- How frames are written to a sink: by which writer, how far, and why not (docs/quoting.md).
use Rattle.std.specs.Prelude.{◌≡◌, ℕ, ◌<◌, ◌≤◌, zero, suc, List, [], ◌∷◌, ◌++◌, take, Option}
use Rattle.std.specs.Io.KnownBytes.{Appends}
use Rattle.pl_frame.specs.Causes.{Rose}
use Rattle.pl_frame.specs.declared.error.ComputeFault.TheVariants as compute_fault
use Rattle.pl_frame.specs.declared.error.OpFault.TheVariants as op_fault
use Rattle.pl_frame.specs.declared.error.PolarsError.{PolarsError}
use Rattle.pl_frame.specs.declared.error.PolarsError.TheVariants as error
use Rattle.pl_write.specs.declared.options.CsvWriterOptions.{CsvWriterOptions}

-- a separator, but before the first text of a line
abbrev pub separator_before : ℕ → ℕ → List ℕ
separator_before separator zero = []
separator_before separator (suc place) = separator ∷ []

-- bytes grew at their end, or not at all: the old ones stay in front
pub record StaysInFront (old new : List ℕ) : Type 0 where
  pub added : List ℕ
  pub is : new ≡ old ++ added

-- known bytes grow by a prefix of a text
abbrev pub AppendsPrefix : Option (List ℕ) → Option (List ℕ) → List ℕ → Type 0
AppendsPrefix old new text = (n : ℕ) × Appends old new (take n text)

-- what was written of a text: some bytes reached the sink, a block is next, and something is left
pub record IsWriting (old now : Option (List ℕ)) (block left text : List ℕ) : Type 0 where
  pub flushed : List ℕ
  pub appended : Appends old now flushed
  pub whole : (flushed ++ block) ++ left ≡ text

-- a writer of frames: its sink, how it writes, and its number of threads
pub record Writer (S : Type 0) : Type 0 where
  pub sink : S
  pub options : CsvWriterOptions
  pub n_threads : ℕ

-- frames can be written: on one thread or more, and with a quote that is ASCII
pub record CanWrite (n_threads quote : ℕ) : Type 0 where
  pub threads : 0 < n_threads
  pub ascii : quote < 128

-- no threads, or else a quote that is not ASCII
abbrev pub IsEarlyFault : ℕ → ℕ → PolarsError → Type 0
IsEarlyFault n_threads quote (error.InvalidOperation op) = (op ≡ op_fault.Option) × (n_threads ≡ 0)
IsEarlyFault n_threads quote (error.ComputeError fault) = (fault ≡ compute_fault.Quote) × (0 < n_threads) × (128 ≤ quote)
IsEarlyFault n_threads quote _ = ⊥

-- why a frame was not written: no threads, or else a quote that is not ASCII, and then the writer is as it was; else a
-- fault of the sink, whose count rose, or want of memory
abbrev pub IsWriteFault : {S : Type 0} → (S → ℕ) → Writer S → Writer S → PolarsError → Type 0
IsWriteFault faults before now error.IO = CanWrite before.n_threads before.options.serialize_options.quote_char × Rose (faults before.sink) (faults now.sink)
IsWriteFault faults before now error.OutOfMemory = CanWrite before.n_threads before.options.serialize_options.quote_char
IsWriteFault faults before now fault = IsEarlyFault before.n_threads before.options.serialize_options.quote_char fault × (now ≡ before)

-- a writer whose options are changed
abbrev pub with_change : {S : Type 0} → (CsvWriterOptions → CsvWriterOptions) → Writer S → Writer S
with_change change w = record { sink = w.sink; options = change w.options; n_threads = w.n_threads }

abbrev pub with_threads : {S : Type 0} → ℕ → Writer S → Writer S
with_threads n_threads w = record { sink = w.sink; options = w.options; n_threads = n_threads }
