-- Bytes that do not stand in a text.
use Rattle.std.specs.Prelude.{◌≡◌, ℕ, ◌<◌, ◌≤◌, ◌==◌, false, List, slice_index}

-- the byte stands nowhere from one place up to another
abbrev pub LacksBetween : ℕ → List ℕ → ℕ → ℕ → Type 0
LacksBetween byte text i j = (k : ℕ) → i ≤ k → k < j → (slice_index text k == byte) ≡ false
