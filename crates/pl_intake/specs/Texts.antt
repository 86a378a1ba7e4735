-- Texts of a source, each in a cell (docs/workers.md, "From a source to regions").
use Rattle.std.specs.Prelude.{◌≡◌, ℕ, List, length, map, take, Vec}
use Rattle.std.specs.Sync.OnceLock.{Named}
use Rattle.std.specs.Global.{Global}
use Rattle.std.specs.declared.sync.OnceToken.{OnceToken}

-- these tokens are those of the first cells, in order
abbrev pub AreSetIn : List Named → List (OnceToken (Vec ℕ Global)) → Type 0
AreSetIn cells tokens = map (λ token. token.of) tokens ≡ take (length tokens) (map (λ cell. cell.id) cells)
