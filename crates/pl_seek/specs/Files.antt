-- Files that are read, each of at most 2 ^ 36 bytes.
use Rattle.std.specs.Prelude.{◌≡◌, ◌⊎◌, ℕ, ◌<◌, ◌≤◌, ◌^◌, List, length, Option, Some, Result, Err, IfSome}
use Rattle.pl_frame.specs.Causes.{Rose}
use Rattle.pl_frame.specs.declared.error.PolarsError.TheVariants as error
use Rattle.pl_csv.specs.declared.run.Refusal.{Refusal}
use Rattle.pl_csv.specs.declared.run.Refusal.TheVariants as refusal
use Rattle.pl_seek.specs.declared.run.SeekRefusal.{SeekRefusal}
use Rattle.pl_seek.specs.declared.run.SeekRefusal.TheVariants as seek

-- the bytes are those at a path, where an opener tells them
abbrev pub IsHeld : (List ℕ → Option (List ℕ)) → (path bytes : List ℕ) → Type 0
IsHeld holds path bytes = IfSome (holds path) (λ told. bytes ≡ told)

-- an opener tells that these are the bytes at a path
abbrev pub IsToldAt : (List ℕ → Option (List ℕ)) → (path bytes : List ℕ) → Type 0
IsToldAt holds path bytes = holds path ≡ Some bytes

-- why a file was not read: it was not opened or not read to its end, and then the count of the opener rose; there are more bytes; or
-- memory was wanting
abbrev pub IsUnreadFile : (List ℕ → Option (List ℕ)) → List ℕ → (before now : ℕ) → Refusal → Type 0
IsUnreadFile holds path before now refusal.Source = Rose before now
IsUnreadFile holds path before now refusal.TooLong = (bytes : List ℕ) × IsHeld holds path bytes × (2 ^ 36 < length bytes)
IsUnreadFile holds path before now (refusal.Polars cause) = cause ≡ error.OutOfMemory
IsUnreadFile holds path before now refusal.Words = ⊥

-- what comes of the bytes at a path: they are refused where there are more, and else it is what is said of them
abbrev pub IsReadAnd : {X : Type 0} → (List ℕ → List ℕ → Type 0) → (path : List ℕ) → (List ℕ → Result X SeekRefusal → Type 0) → Result X SeekRefusal → Type 0
IsReadAnd At path Next meaning =
    (bytes : List ℕ) × At path bytes
    × (((2 ^ 36 < length bytes) × (meaning ≡ Err (seek.Run refusal.TooLong))) ⊎ ((length bytes ≤ 2 ^ 36) × Next bytes meaning))
