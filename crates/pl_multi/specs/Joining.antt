-- The steps of a joined read; only the proofs of the code need them.
use Rattle.std.specs.Prelude.{◌≡◌, ◌⊎◌, ℕ, ◌<◌, ◌++◌, List, length, take, Option, None, Some, Result, Ok, Err, false, AllPairs, ◌≢◌}
use Rattle.pl_frame.specs.Causes.{Rose}
use Rattle.pl_frame.specs.Frame.{ColumnValue, height_of, names_of}
use Rattle.pl_frame.specs.FrameParts.{stacked}
use Rattle.pl_options.specs.declared.read_options.CsvReadOptions.{CsvReadOptions}
use Rattle.pl_frame.specs.declared.error.PolarsError.{PolarsError}
use Rattle.pl_frame.specs.declared.error.PolarsError.TheVariants as error
use Rattle.pl_options.specs.declared.row_index.RowIndex.{RowIndex}
use Rattle.pl_options.specs.FirstCause.{IsFirstCause}
use Rattle.pl_read.specs.Refusals.{is_zero}
use Rattle.pl_read.specs.SettleGiven.{given_schema, given_causes}
use Rattle.pl_read.specs.Steps.{late_cause}
use Rattle.pl_multi.specs.Parts.{index_name, early_fault}
use Rattle.pl_multi.specs.Scan.{PartBytes, part_rows, no_rows, wanted_behind, joined, late_fault, IsHeld, AreHeld}
use Rattle.pl_multi.specs.declared.part.Part.{Part}
use Rattle.pl_multi.specs.declared.scan.MultiFault.{MultiFault}
use Rattle.pl_multi.specs.declared.scan.MultiFault.TheVariants as fault

-- ---- one part

-- a part was read without a cause, and its rows stand behind the columns
pub record IsPartJoined (holds : List ℕ → Option (List ℕ)) (options : CsvReadOptions) (part : Part) (before now : List ColumnValue) (rows : ℕ) : Type 0 where
  pub bytes : List ℕ
  pub held : IsHeld holds (part, bytes)
  pub sound : late_cause options (given_schema options) bytes ≡ None
  pub is : now ≡ stacked before (part_rows options (given_schema options) (part, bytes))
  pub counted : rows ≡ height_of (part_rows options (given_schema options) (part, bytes))

-- why a part was not joined
abbrev pub IsPartFault : (List ℕ → Option (List ℕ)) → (before now : ℕ) → CsvReadOptions → Part → ℕ → MultiFault → Type 0
IsPartFault holds before now options part place fault.OutOfMemory = Unit {0}
IsPartFault holds before now options part place (fault.Io at) = (at ≡ place) × Rose before now
IsPartFault holds before now options part place (fault.Part at refusal) =
    (at ≡ place) × ((bytes : List ℕ) × IsHeld holds (part, bytes) × (late_cause options (given_schema options) bytes ≡ Some refusal))
IsPartFault holds before now options part place _ = ⊥

-- ---- all parts

-- the parts before this place were read, and these are their rows
pub record AreJoined (holds : List ℕ → Option (List ℕ)) (o : CsvReadOptions) (end : Option ℕ) (parts : List Part) (place : ℕ) (columns : List ColumnValue) : Type 0 where
  pub given : List PartBytes
  pub held : AreHeld holds (take place parts) given
  pub behind : (more : List PartBytes) → joined o end 0 (no_rows o parts) (given ++ more) ≡ joined o end place columns more

-- parts with their bytes give this
abbrev pub Join : (List ℕ → Option (List ℕ)) → CsvReadOptions → Option ℕ → List Part → Result (List ColumnValue) MultiFault → Type 0
Join holds o end parts result = (given : List PartBytes) × AreHeld holds parts given × (joined o end 0 (no_rows o parts) given ≡ result)

-- the parts before this one were read, and rows are still wanted of it
pub record IsWanted (holds : List ℕ → Option (List ℕ)) (o : CsvReadOptions) (end : Option ℕ) (parts : List Part) (place : ℕ) : Type 0 where
  pub within : place < length parts
  pub given : List PartBytes
  pub held : AreHeld holds (take place parts) given
  pub columns : List ColumnValue
  pub read : joined o end 0 (no_rows o parts) given ≡ Ok columns
  pub wanted : is_zero (wanted_behind end (height_of columns)) ≡ false

-- why parts were not joined
abbrev pub IsJoinFault : (List ℕ → Option (List ℕ)) → (before now : ℕ) → CsvReadOptions → Option ℕ → List Part → MultiFault → Type 0
IsJoinFault holds before now o end parts fault.OutOfMemory = Unit {0}
IsJoinFault holds before now o end parts (fault.Io place) = Rose before now × IsWanted holds o end parts place
IsJoinFault holds before now o end parts refused = Join holds o end parts (Err refused)

-- ---- before and behind

-- nothing stands against the options and the parts, whatever their bytes
pub record IsSound (o : CsvReadOptions) (slice : Option (ℕ × ℕ)) (parts : List Part) : Type 0 where
  pub sound : IsFirstCause (given_causes o) o.parse_options None
  pub early : early_fault None o slice parts ≡ None

-- the first cause against them; or memory is wanting, which may be at any time
abbrev pub IsEarlyFault : CsvReadOptions → Option (ℕ × ℕ) → List Part → MultiFault → Type 0
IsEarlyFault o slice parts given =
    ((refused : Option PolarsError) × IsFirstCause (given_causes o) o.parse_options refused × (early_fault refused o slice parts ≡ Some given)) ⊎ (given ≡ fault.OutOfMemory)

-- a number or a code is too great; or memory is wanting
abbrev pub IsLateFault : Option RowIndex → ℕ → List ColumnValue → MultiFault → Type 0
IsLateFault index start columns given = (late_fault index start columns ≡ Some given) ⊎ (given ≡ fault.OutOfMemory)

-- the fault of a cause against the options, or of want of memory
abbrev pub read_fault : PolarsError → MultiFault
read_fault error.OutOfMemory = fault.OutOfMemory
read_fault refused = fault.Read refused

-- no name stands twice, that of the row index among them
abbrev pub HasFreeName : Option RowIndex → List ColumnValue → Type 0
HasFreeName index columns = AllPairs (λ a b. a ≢ b) (index_name index ++ names_of columns)

-- the fault of a cause against the bytes of a part, or of want of memory
abbrev pub part_fault : ℕ → PolarsError → MultiFault
part_fault place error.OutOfMemory = fault.OutOfMemory
part_fault place refusal = fault.Part place refusal
