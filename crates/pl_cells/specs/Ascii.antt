-- Bytes that are ASCII.
use Rattle.std.specs.Prelude.{ℕ, ◌<◌, ◌≤◌, List, slice_index}

-- every byte from one place up to another is ASCII
abbrev pub IsAsciiBetween : List ℕ → ℕ → ℕ → Type 0
IsAsciiBetween text i j = (k : ℕ) → i ≤ k → k < j → slice_index text k < 128
