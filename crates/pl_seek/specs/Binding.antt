-- An index bound to an input, and what stands against that (docs/index.md).
use Rattle.std.specs.Prelude.{◌≡◌, ◌≢◌, ℕ, ◌==◌, true, not, min, if◌then◌else◌, List, [], ◌∷◌, length, Option, None, Some}
use Rattle.std.specs.List.{position, zip}
use Rattle.pl_options.specs.declared.read_options.CsvReadOptions.{CsvReadOptions}
use Rattle.pl_options.specs.FirstCause.{first_some}
use Rattle.pl_seek.specs.Index.{Index}
use Rattle.pl_seek.specs.Building.{index_in, MayIndex, IsCause, is_wrong}
use Rattle.pl_seek.specs.declared.fault.SeekFault.{SeekFault}
use Rattle.pl_seek.specs.declared.fault.SeekFault.TheVariants as fault

-- an input, the options by which it is read, and how many of its records are a group of its index
pub record Binding : Type 0 where
  pub input : List ℕ
  pub read : CsvReadOptions
  pub every : ℕ

-- two indices are of the same settings
abbrev pub HaveSameSettings : Index → Index → Type 0
HaveSameSettings i own = (i.settings ≡ own.settings) × (i.comment_prefix ≡ own.comment_prefix)

-- the least number of a place that is another one in the other list, as far as both go
abbrev pub first_difference : List ℕ → List ℕ → Option ℕ
first_difference places own = position (λ pair. not (pair.0 == pair.1)) (zip places own)

-- the number of the least place that is another one in the other index; where only the numbers of records differ, the lesser number of
-- places
abbrev pub places_difference : Index → Index → Option ℕ
places_difference i own =
    first_some (first_difference i.places own.places ∷ (if i.records == own.records then None else Some (min (length i.places) (length own.places))) ∷ [])

-- why an index is not another one of groups of as many records: its digest is another one; or else its settings are; or else a place or
-- the number of records is
abbrev pub IsDifference : Index → Index → SeekFault → Type 0
IsDifference i own fault.Input = i.digest ≢ own.digest
IsDifference i own fault.Settings = (i.digest ≡ own.digest) × (¬ HaveSameSettings i own)
IsDifference i own (fault.Places number) = (i.digest ≡ own.digest) × HaveSameSettings i own × (places_difference i own ≡ Some number)
IsDifference i own _ = ⊥

-- why an index is not that of an input under options: the input has none, or else they differ; or memory is wanting, which may be at any
-- time
abbrev pub IsBindFault : CsvReadOptions → List ℕ → Index → SeekFault → Type 0
IsBindFault o input i fault.Options = is_wrong o ≡ true
IsBindFault o input i (fault.Polars cause) = IsCause o input cause
IsBindFault o input i fault.OutOfMemory = Unit {0}
IsBindFault o input i difference = MayIndex o input × IsDifference i (index_in o i.every input) difference
