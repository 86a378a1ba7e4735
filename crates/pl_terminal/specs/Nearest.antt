-- Words that are near to one another (docs/command-line.md, "At a terminal").
use Rattle.std.specs.Prelude.{ℕ, ◌<◌, ◌≤◌, List, [], length, get_or, nat_eq, Option, MatchOption}
use Rattle.std.specs.Str.{chars}
use Rattle.strsim.specs.Edits.{levenshtein_row}

-- how many characters have to be put in, left out or changed to come from one word to another
abbrev pub distance : List ℕ → List ℕ → ℕ
distance from to = levenshtein_row nat_eq (chars from) (chars to) (length (chars to))

-- how far a word is from that at a place of a list
abbrev pub distance_at : List ℕ → List (List ℕ) → ℕ → ℕ
distance_at word words place = distance word (get_or words place [])

-- among so many words of a list, the first of those that are nearest to a word; fewer than so many characters differ
pub record IsNearest (word : List ℕ) (words : List (List ℕ)) (few count place : ℕ) : Type 0 where
  pub within : place < count
  pub near : distance_at word words place < few
  pub least : (k : ℕ) → k < count → distance_at word words place ≤ distance_at word words k
  pub first : (k : ℕ) → k < place → distance_at word words place < distance_at word words k

-- such a place, or none where as many characters differ at each
abbrev pub IsNearestOrNone : List ℕ → List (List ℕ) → ℕ → ℕ → Option ℕ → Type 0
IsNearestOrNone word words few count found =
    MatchOption found ((k : ℕ) → k < count → few ≤ distance_at word words k) (IsNearest word words few count)
