-- Parts of a group in cells, which workers take; only the proofs of the code need them.
use Rattle.std.specs.Prelude.{◌≡◌, ℕ, List, [], map, length, take, slice_index_or, Option, None, Some, Vec}
use Rattle.std.specs.Global.{Global}
use Rattle.std.specs.Sync.OnceLock.{Named}
use Rattle.std.specs.declared.sync.Arc.{Arc}
use Rattle.std.specs.declared.sync.OnceToken.{OnceToken}
use Rattle.pl_options.specs.declared.read_options.CsvReadOptions.{CsvReadOptions}
use Rattle.pl_write.specs.declared.options.CsvWriterOptions.{CsvWriterOptions}
use Rattle.pl_multi.specs.Groups.{IsPrintedOf}
use Rattle.pl_multi.specs.declared.settling.TakenCell.{TakenCell}

-- the bytes of a part, which several hold
abbrev pub Held : Type 0
Held = Arc (Vec ℕ Global) Global

-- what shows what a cell holds
abbrev pub CellToken : Type 0
CellToken = OnceToken (Option Held)

-- the bytes in a cell; none where no part comes
abbrev pub cell_bytes : Option Held → List ℕ
cell_bytes None = []
cell_bytes (Some held) = held.value.items

-- the bytes in cells
abbrev pub token_bytes : List CellToken → List (List ℕ)
token_bytes tokens = map (λ (token : CellToken). cell_bytes token.value) tokens

-- the bytes of parts
abbrev pub held_bytes : List Held → List (List ℕ)
held_bytes held = map (λ (one : Held). one.value.items) held

-- these tokens are those of the first cells, in order
abbrev pub AreSetIn : List Named → List CellToken → Type 0
AreSetIn cells tokens = map (λ (token : CellToken). token.of) tokens ≡ take (length tokens) (map (λ (cell : Named). cell.id) cells)

-- what came of the bytes in a cell, which a worker took
pub record IsTakenCell (read : CsvReadOptions) (write : CsvWriterOptions) (cells : List Named) (taken : TakenCell) : Type 0 where
  pub of : (cell : Named) → taken.token.of ≡ (slice_index_or cells taken.place cell).id
  pub printed : IsPrintedOf read write (cell_bytes taken.token.value) taken.printed
