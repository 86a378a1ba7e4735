-- The ends of fields in a text, from the left, and the same as words hold it that have a bit for each byte.
use Rattle.std.specs.Prelude.{◌≡◌, ℕ, zero, suc, ◌+◌, ◌/◌, ◌%◌, ◌<◌, ◌++◌, Bool, ◌==◌, if◌then◌else◌, List, [], ◌∷◌, take}
use Rattle.pl_frame.specs.Dialect.{Marks}
use Rattle.pl_table.specs.declared.block.Spot.{Spot}
use Rattle.pl_table.specs.Ends.{ends_field, next_spot}

-- the end of a field: its place, and whether a line end stands there
pub record End : Type 0 where
  pub place : ℕ
  pub last : Bool

abbrev pub end_at : ℕ → Bool → End
end_at place last = record { place = place; last = last }

-- the ends of fields in bytes that a scan comes to at a spot, where the first byte has this place
abbrev pub entries : Marks → Spot → ℕ → List ℕ → List End
entries m s k [] = []
entries m s k (x ∷ xs) = if ends_field m s x then end_at k (x == m.line_end) ∷ entries m (next_spot m s x) (k + 1) xs else entries m (next_spot m s x) (k + 1) xs

-- the place behind an end
abbrev pub place_behind : End → ℕ
place_behind e = e.place + 1

-- the number of ends up to each line end, where so many came before
abbrev pub row_ends : ℕ → List End → List ℕ
row_ends n [] = []
row_ends n (e ∷ es) = if e.last then (n + 1) ∷ row_ends (n + 1) es else row_ends (n + 1) es

-- for each bit that is set, of the lowest n, the number of ends up to it, where c came before
unfoldable pub counts : ℕ → ℕ → ℕ → ℕ → List ℕ
counts zero c ends bits = []
counts (suc n) c ends bits =
    if bits % 2 == 1 then (c + ends % 2) ∷ counts n (c + ends % 2) (ends / 2) (bits / 2)
    else counts n (c + ends % 2) (ends / 2) (bits / 2)

-- what stands before a place, and what is left to put there for some bits, make `want`; once no bit is left, junk may follow
abbrev pub Written : List ℕ → List ℕ → ℕ → List ℕ → ℕ → Type 0
Written want out at left bits = (junk : List ℕ) × (take at out ++ left ≡ want ++ junk) × (0 < bits → junk ≡ [])
