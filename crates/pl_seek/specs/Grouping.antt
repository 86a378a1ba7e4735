-- The places of records, taken one by one. Only the proofs of the code need this.
use Rattle.std.specs.Prelude.{◌≡◌, ℕ, ◌+◌, ◌*◌, ◌<◌, ◌≤◌, ◌++◌, ◌∷◌, [], Bool, if◌then◌else◌, List, length, drop, Option}
use Rattle.pl_frame.specs.Dialect.{Marks}
use Rattle.pl_seek.specs.Places.{record_places, group_places}
use Rattle.pl_seek.specs.declared.places.Groups.{Groups}

-- these places came, and no others
pub record HasSeen (groups : Groups) (seen : List ℕ) : Type 0 where
  pub every : 0 < groups.every
  pub records : groups.records ≡ length seen
  pub places : groups.places.items ≡ group_places groups.every seen
  pub wait : groups.wait < groups.every
  pub counted : length groups.places.items * groups.every ≡ length seen + groups.wait

-- the place of an item, where it is no comment
abbrev pub unless_comment : Bool → ℕ → List ℕ
unless_comment is_comment place = if is_comment then [] else (place ∷ [])

-- the places of the records in front of what is left of the data, which begins at a place of the input
pub record HasCome (m : Marks) (comment : Option (List ℕ)) (input : List ℕ) (start : ℕ) (groups : Groups) (rest : List ℕ) : Type 0 where
  pub seen : List ℕ
  pub has : HasSeen groups seen
  pub all : seen ++ record_places m comment (length input) rest ≡ record_places m comment (length input) (drop start input)
  pub few : length seen + length rest ≤ length input
