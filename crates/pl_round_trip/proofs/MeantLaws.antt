-- Which written texts mean null.
use Rattle.std.proofs.Common.{◌≡◌, ◌≢◌, ℕ, ◌<◌, true, false, List, [], ◌∷◌, length, refl, arith}
use Rattle.std.specs.Str.{bytes_eq}
use Rattle.std.proofs.lemmas.Slice.Eq.{bytes_eq-Decides}
use Rattle.pl_cells.specs.NullValues.{means_null}
use Rattle.pl_round_trip.specs.Returning.{nulls_of}

same-true : (a b : List ℕ) → a ≡ b → bytes_eq a b ≡ true
same-true a b is = grind (arith, bytes_eq-Decides a b, is)

other-false : (a b : List ℕ) → a ≢ b → bytes_eq a b ≡ false
other-false a b other = grind (arith, bytes_eq-Decides a b, other)

-- the null text does, where it is not empty
pub null-meant : (null : List ℕ) (column : ℕ) → 0 < length null → means_null (nulls_of null) column null ≡ true
null-meant [] column some = absurd (omega (arith, some))
null-meant (x ∷ null) column some = rw (same-true (x ∷ null) (x ∷ null) refl) refl

-- any other does not
pub other-not_meant : (null text : List ℕ) (column : ℕ) → text ≢ null → means_null (nulls_of null) column text ≡ false
other-not_meant [] text column apart = refl
other-not_meant (x ∷ null) text column apart = rw (other-false text (x ∷ null) apart) refl
