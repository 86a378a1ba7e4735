-- What counting the rows at a path answers (docs/grammar.md, "Counting rows").
use Rattle.std.specs.Prelude.{◌≡◌, ℕ, ◌⊎◌, Bool, if◌then◌else◌, List, Option, None, Some, Result, Ok, Err}
use Rattle.std.specs.Io.KnownBytes.{Consumes, IsAtEnd}
use Rattle.pl_frame.specs.Dialect.{Marks, IsDialect}
use Rattle.pl_frame.specs.declared.error.PolarsError.{PolarsError}
use Rattle.pl_frame.specs.declared.error.PolarsError.TheVariants as error
use Rattle.pl_frame.specs.declared.error.OpFault.TheVariants as op_fault
use Rattle.pl_frame.specs.declared.error.ComputeFault.TheVariants as compute_fault
use Rattle.pl_scan.specs.RowCount.{row_count}
use Rattle.pl_frame.specs.Compression.{is_compressed}

-- these are the bytes at a path, where they are told
abbrev pub IsHeld : Option (List ℕ) → List ℕ → Type 0
IsHeld None bytes = Unit {0}
IsHeld (Some held) bytes = held ≡ bytes

-- bytes that are those at a path, where they are told, and of which this holds
abbrev pub HoldsSome : Option (List ℕ) → (List ℕ → Type 0) → Type 0
HoldsSome held P = (bytes : List ℕ) × IsHeld held bytes × P bytes

-- all that was left of a source came, and this holds of it
abbrev pub CameWhole : Option (List ℕ) → Option (List ℕ) → (List ℕ → Type 0) → Type 0
CameWhole before now P = (bytes : List ℕ) × Consumes before now bytes × IsAtEnd now × P bytes

abbrev pub no_dialect : PolarsError
no_dialect = error.InvalidOperation op_fault.Dialect

abbrev pub compressed : PolarsError
compressed = error.ComputeError compute_fault.Compressed

-- what bytes have under a dialect: the refusal of a compressed stream, or else the number of rows
abbrev pub counted : Bool → Marks → Option (List ℕ) → List ℕ → Result ℕ PolarsError
counted has_header m comment bytes = if is_compressed bytes then Err compressed else Ok (row_count has_header m comment bytes)

-- what a count of the rows of bytes answers: that there is no dialect, or else what they have under the dialect
abbrev pub IsCountOf : Bool → Marks → Option (List ℕ) → List ℕ → Result ℕ PolarsError → Type 0
IsCountOf has_header m comment bytes answer =
    ((¬ IsDialect m comment) × (answer ≡ Err no_dialect)) ⊎ (IsDialect m comment × (answer ≡ counted has_header m comment bytes))

-- the faults that counting the rows at a path may have
abbrev pub IsCountFault : PolarsError → Type 0
IsCountFault fault = (fault ≡ error.IO) ⊎ (fault ≡ no_dialect) ⊎ (fault ≡ compressed) ⊎ (fault ≡ error.OutOfMemory)
