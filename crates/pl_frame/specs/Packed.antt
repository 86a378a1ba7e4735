-- Texts in no more memory than they need.
use Rattle.std.specs.Prelude.{ℕ, ℤ, pos, ◌<◌, ◌≤ℤ◌, Bool, if◌then◌else◌, List, [], length, get_or, IsUtf8}
use Rattle.std.specs.List.{list_all, AllByRecursion}
use Rattle.pl_frame.specs.Flags.{AreMarked}
use Rattle.pl_frame.specs.Optional.{parts_between, RiseTo}

-- a buffer of texts with their ends, and flags as far as they are kept
pub record ArePacked (bytes ends : List ℕ) (flags : List Bool) : Type 0 where
  pub marked : AreMarked ends flags
  pub rising : RiseTo 0 ends (length bytes)
  pub utf8 : AllByRecursion IsUtf8 (parts_between 0 ends bytes)

-- no flags where all are set
abbrev pub needed : List Bool → List Bool
needed flags = if list_all (λ flag. flag) flags then [] else flags

-- each number lies between two others, or is one of them
abbrev pub AreBetween : ℤ → ℤ → List ℤ → Type 0
AreBetween low high numbers = (k : ℕ) → k < length numbers → (low ≤ℤ get_or numbers k (pos 0)) × (get_or numbers k (pos 0) ≤ℤ high)
