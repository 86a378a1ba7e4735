-- What a job over an index means, by the files that it names: the bytes of an index or the text of a slice, or the first cause against them
-- (docs/command-line.md, "An index").
use Rattle.std.specs.Prelude.{◌≡◌, ◌≢◌, ◌⊎◌, ℕ, Bool, false, not, nat_lt, List, None, Result, Ok, Err}
use Rattle.pl_text.specs.FrameText.{text_of_frame}
use Rattle.pl_options.specs.declared.read_options.CsvReadOptions.{CsvReadOptions}
use Rattle.pl_write.specs.Options.{frame_options}
use Rattle.pl_write.specs.declared.options.CsvWriterOptions.{CsvWriterOptions}
use Rattle.pl_seek.specs.Binding.{IsBindFault}
use Rattle.pl_seek.specs.Building.{index_in, MayIndex, IsBuildFault}
use Rattle.pl_seek.specs.Files.{IsReadAnd}
use Rattle.pl_seek.specs.Index.{Index, IsIndex, HasIndex, index_bytes}
use Rattle.pl_seek.specs.Parts.{IsReadFault}
use Rattle.pl_seek.specs.Slices.{slice_rows, slice_cause, slice_frame}
use Rattle.pl_seek.specs.Telling.{refusal_of}
use Rattle.pl_seek.specs.declared.fault.SeekFault.{SeekFault}
use Rattle.pl_seek.specs.declared.fault.SeekFault.TheVariants as fault
use Rattle.pl_seek.specs.declared.job.SeekJob.{SeekJob}
use Rattle.pl_seek.specs.declared.job.SeekJob.TheVariants as job
use Rattle.pl_seek.specs.declared.run.SeekRefusal.{SeekRefusal}

-- ---- an index

-- an input means the bytes of its index, or the refusal for the first cause against one
abbrev pub IsBuildMeaning : CsvReadOptions → ℕ → List ℕ → Result (List ℕ) SeekRefusal → Type 0
IsBuildMeaning o every input (Ok text) = MayIndex o input × (text ≡ index_bytes (index_in o every input))
IsBuildMeaning o every input (Err given) = (cause : SeekFault) × IsBuildFault o input cause × (cause ≢ fault.OutOfMemory) × (given ≡ refusal_of cause)

-- ---- a slice

-- the bytes are those of the index of an input
pub record IsBoundBy (o : CsvReadOptions) (input bytes : List ℕ) : Type 0 where
  pub index : Index
  pub is : IsIndex index
  pub bytes_are : bytes ≡ index_bytes index
  pub may : MayIndex o input
  pub own : index ≡ index_in o index.every input

-- Why there is no slice: the bytes are no index; or else the index is not that of the input; or else the first cause against the records
-- of the slice. Or memory is wanting, which may be at any time.
abbrev pub IsSliceFault : CsvReadOptions → (start count : ℕ) → (input bytes : List ℕ) → SeekFault → Type 0
IsSliceFault o start count input bytes cause =
    ((¬ HasIndex bytes) × (cause ≡ fault.Format))
    ⊎ ((i : Index) × IsIndex i × (bytes ≡ index_bytes i) × IsBindFault o input i cause)
    ⊎ (IsBoundBy o input bytes × IsReadFault (slice_cause o start (slice_rows o input start count)) cause)
    ⊎ (cause ≡ fault.OutOfMemory)

-- an input and the bytes of its index mean the text of a slice, or the refusal for the first cause against it
abbrev pub IsSliceMeaning : CsvReadOptions → CsvWriterOptions → (start count : ℕ) → (input bytes : List ℕ) → Result (List ℕ) SeekRefusal → Type 0
IsSliceMeaning o write start count input bytes (Ok text) =
    IsBoundBy o input bytes × (slice_cause o start (slice_rows o input start count) ≡ None)
    × (text ≡ text_of_frame (frame_options write) (slice_frame o start (slice_rows o input start count)))
IsSliceMeaning o write start count input bytes (Err given) =
    (cause : SeekFault) × IsSliceFault o start count input bytes cause × (cause ≢ fault.OutOfMemory) × (given ≡ refusal_of cause)

-- ---- a job

-- a text is asked for that can't be written: its quote is not ASCII
abbrev pub is_unprintable : SeekJob → Bool
is_unprintable (job.Build every path read) = false
is_unprintable (job.Slice start count path index_path read write) = not (nat_lt write.serialize_options.quote_char 128)

-- what a job means, given which bytes stand at a path: the file of the input is read first
abbrev pub IsMeaning : (List ℕ → List ℕ → Type 0) → SeekJob → Result (List ℕ) SeekRefusal → Type 0
IsMeaning At (job.Build every path read) meaning = IsReadAnd At path (IsBuildMeaning read every) meaning
IsMeaning At (job.Slice start count path index_path read write) meaning =
    IsReadAnd At path (λ input. IsReadAnd At index_path (IsSliceMeaning read write start count input)) meaning
