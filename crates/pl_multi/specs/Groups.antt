-- Parts that are read one after another and printed side by side; only the proofs of the code need them.
use Rattle.std.specs.Prelude.{◌≡◌, ◌⊎◌, ℕ, ◌+◌, ◌<◌, List, [], ◌∷◌, All, length, get_or, slice_index_or, Option, None, Some, Result, Ok, Err}
use Rattle.pl_frame.specs.Causes.{Rose}
use Rattle.pl_frame.specs.declared.error.PolarsError.{PolarsError}
use Rattle.pl_options.specs.FirstCause.{IsFault}
use Rattle.pl_options.specs.declared.read_options.CsvReadOptions.{CsvReadOptions}
use Rattle.pl_read.specs.SettleGiven.{given_schema}
use Rattle.pl_read.specs.Steps.{late_cause}
use Rattle.pl_write.specs.declared.options.CsvWriterOptions.{CsvWriterOptions}
use Rattle.pl_multi.specs.Joining.{part_fault}
use Rattle.pl_multi.specs.Lines.{found_text}
use Rattle.pl_multi.specs.Printing.{AreLinesOf}
use Rattle.pl_multi.specs.Scan.{IsHeld}
use Rattle.pl_multi.specs.declared.settling.TakenPart.{TakenPart}
use Rattle.pl_multi.specs.declared.groups.PartLines.{PartLines}
use Rattle.pl_multi.specs.declared.lines.FoundLines.{FoundLines}
use Rattle.pl_multi.specs.declared.part.Part.{Part}
use Rattle.pl_multi.specs.declared.scan.MultiFault.{MultiFault}
use Rattle.pl_multi.specs.declared.scan.MultiFault.TheVariants as fault

-- ---- the bytes

-- the bytes of the part at a place
pub record IsPartAt (holds : List ℕ → Option (List ℕ)) (parts : List Part) (place : ℕ) (bytes : List ℕ) : Type 0 where
  pub part : Part
  pub within : place < length parts
  pub at : part ≡ get_or parts place part
  pub held : IsHeld holds (part, bytes)

-- the bytes of the parts from a place on
abbrev pub AreRead : (List ℕ → Option (List ℕ)) → List Part → ℕ → List (List ℕ) → Type 0
AreRead holds parts place [] = Unit {0}
AreRead holds parts place (bytes ∷ more) = IsPartAt holds parts place bytes × AreRead holds parts (place + 1) more

-- why the part at a place was not read
abbrev pub IsUnread : (before now : ℕ) → ℕ → MultiFault → Type 0
IsUnread before now place fault.OutOfMemory = Unit {0}
IsUnread before now place (fault.Io at) = (at ≡ place) × Rose before now
IsUnread before now place _ = ⊥

-- ---- what came of them

-- the options for one worker alone
abbrev pub for_one : CsvReadOptions → CsvReadOptions
for_one read = record read { n_threads = Some 1 }

-- the lines of the rows of bytes, or the first cause against these, or want of memory
abbrev pub IsPrintedOf : CsvReadOptions → CsvWriterOptions → List ℕ → Result FoundLines PolarsError → Type 0
IsPrintedOf read write bytes (Ok found) = AreLinesOf read write bytes (found_text bytes found)
IsPrintedOf read write bytes (Err refusal) = IsFault (late_cause read (given_schema read) bytes) refusal

-- what came of each part of a group is that of its bytes
abbrev pub ArePrintedOf : CsvReadOptions → CsvWriterOptions → List PartLines → Type 0
ArePrintedOf read write group = All (λ one. IsPrintedOf read write one.bytes.items one.printed) group

-- what came of one of these bytes, which a worker took
pub record IsTakenOf (read : CsvReadOptions) (write : CsvWriterOptions) (texts : List (List ℕ)) (taken : TakenPart) : Type 0 where
  pub inside : taken.place < length texts
  pub printed : IsPrintedOf read write (slice_index_or texts taken.place []) taken.printed

-- what came of the parts from a place on, each with its bytes
abbrev pub ArePrintedFrom : (List ℕ → Option (List ℕ)) → CsvReadOptions → CsvWriterOptions → List Part → ℕ → List (List ℕ × Result FoundLines PolarsError) → Type 0
ArePrintedFrom holds read write parts place [] = Unit {0}
ArePrintedFrom holds read write parts place ((bytes, printed) ∷ more) =
    (IsPartAt holds parts place bytes × IsPrintedOf read write bytes printed) × ArePrintedFrom holds read write parts (place + 1) more

-- their lines
abbrev pub texts_of : List (List ℕ × Result FoundLines PolarsError) → List (List ℕ)
texts_of [] = []
texts_of ((bytes, Ok found) ∷ more) = found_text bytes found ∷ texts_of more
texts_of ((bytes, Err refusal) ∷ more) = texts_of more

-- the first refusal, with the place of its part, the first of them being at this place
abbrev pub first_refusal : ℕ → List (List ℕ × Result FoundLines PolarsError) → Option MultiFault
first_refusal place [] = None
first_refusal place ((bytes, Ok found) ∷ more) = first_refusal (place + 1) more
first_refusal place ((bytes, Err refusal) ∷ more) = Some (part_fault place refusal)

-- it is that refusal; or memory is wanting, which may be at any time
abbrev pub IsFirstRefusal : ℕ → List (List ℕ × Result FoundLines PolarsError) → MultiFault → Type 0
IsFirstRefusal place came given = (first_refusal place came ≡ Some given) ⊎ (given ≡ fault.OutOfMemory)
