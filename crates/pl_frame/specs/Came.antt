-- What came from a source over several reads.
use Rattle.std.specs.Prelude.{ℕ, List, Option}
use Rattle.std.specs.Io.KnownBytes.{Consumes}

-- the source stands where its reads left it: some bytes came, and they are no longer left
abbrev pub IsReadOn : Option (List ℕ) → Option (List ℕ) → Type 0
IsReadOn before now = (bytes : List ℕ) × Consumes before now bytes

-- the bytes that came, of which this holds
abbrev pub Came : Option (List ℕ) → Option (List ℕ) → (List ℕ → Type 0) → Type 0
Came before now P = (bytes : List ℕ) × Consumes before now bytes × P bytes
