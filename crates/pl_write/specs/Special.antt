-- What only a quoted text may hold (docs/quoting.md).
use Rattle.std.specs.Prelude.{◌≡◌, ℕ, ◌<◌, ◌≤◌, false, List, slice_index}
use Rattle.pl_text.specs.FrameText.{is_special}

-- no such byte stands from one place up to another
abbrev pub HasNoSpecial : ℕ → ℕ → List ℕ → ℕ → ℕ → Type 0
HasNoSpecial separator quote text i j = (k : ℕ) → i ≤ k → k < j → is_special separator quote (slice_index text k) ≡ false
