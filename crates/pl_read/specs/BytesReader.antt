-- The bytes that a reader reads (docs/files.md, "The bytes of an input").
use Rattle.std.specs.Prelude.{◌≡◌, ◌≢◌, ℕ, List, Option, None, Some}
use Rattle.pl_frame.specs.Causes.{Rose}
use Rattle.pl_frame.specs.declared.error.PolarsError.{PolarsError}
use Rattle.pl_frame.specs.declared.error.PolarsError.TheVariants as error

-- the bytes that a reader lends, or else those that are left of its source, where the source tells them
abbrev pub input_of : (lent left : Option (List ℕ)) → Option (List ℕ)
input_of None left = left
input_of (Some lent) left = Some lent

-- a fault of a source comes only where its count rose; want of memory may come at any time
abbrev pub IsSourceFault : (before now : ℕ) → PolarsError → Type 0
IsSourceFault before now fault = fault ≢ error.OutOfMemory → (fault ≡ error.IO) × Rose before now
