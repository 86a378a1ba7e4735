-- Values with flags beside them, and texts in one buffer with their ends, seen as lists of optional values.
use Rattle.std.specs.Prelude.{◌≡◌, ℕ, ◌-◌, ◌≤◌, Bool, if◌then◌else◌, List, [], ◌∷◌, length, take, drop, Option, None, Some, IfSome, IsUtf8}
use Rattle.std.specs.List.{AllByRecursion}

-- each value where its flag is set, and no value elsewhere
abbrev pub flagged : {X : Type 0} → List X → List Bool → List (Option X)
flagged [] flags = []
flagged (x ∷ xs) [] = []
flagged (x ∷ xs) (flag ∷ flags) = (if flag then Some x else None) ∷ flagged xs flags

-- the parts of a list behind a place, each up to its end
abbrev pub parts_between : ℕ → List ℕ → List ℕ → List (List ℕ)
parts_between from [] bytes = []
parts_between from (end ∷ ends) bytes = take (end - from) (drop from bytes) ∷ parts_between end ends bytes

-- the ends do not fall, from a place on, and the last of them is another place
abbrev pub RiseTo : ℕ → List ℕ → ℕ → Type 0
RiseTo from [] last = from ≡ last
RiseTo from (end ∷ ends) last = (from ≤ end) × RiseTo end ends last

-- a buffer of texts with their ends, and a flag for each text
pub record AreTexts (bytes ends : List ℕ) (flags : List Bool) : Type 0 where
  pub one_length : length ends ≡ length flags
  pub rising : RiseTo 0 ends (length bytes)
  pub utf8 : AllByRecursion IsUtf8 (parts_between 0 ends bytes)

-- every text among values of which some are missing is UTF-8
abbrev pub AreAllUtf8 : List (Option (List ℕ)) → Type 0
AreAllUtf8 values = AllByRecursion (λ value. IfSome value IsUtf8) values
