-- Values with flags beside them, as far as flags are kept.
use Rattle.std.specs.Prelude.{ℕ, ◌-◌, ◌≤◌, Bool, true, if◌then◌else◌, List, [], ◌∷◌, ◌++◌, length, take, replicate, Option, None, Some}

-- each value, but none where a flag is not set: behind the last flag every value is there
abbrev pub marked : {X : Type 0} → List X → List Bool → List (Option X)
marked [] flags = []
marked (x ∷ xs) [] = Some x ∷ marked xs []
marked (x ∷ xs) (flag ∷ flags) = (if flag then Some x else None) ∷ marked xs flags

-- no more flags than values
abbrev pub AreMarked : {X : Type 0} → List X → List Bool → Type 0
AreMarked values flags = length flags ≤ length values

-- flags with set ones behind them, up to so many
abbrev pub filled : ℕ → List Bool → List Bool
filled n flags = take n flags ++ replicate (n - length flags) true

-- flags with further ones behind them, which belong to values behind so many
abbrev pub flags_behind : List Bool → ℕ → List Bool → List Bool
flags_behind flags len [] = flags
flags_behind flags len (flag ∷ more) = filled len flags ++ (flag ∷ more)
