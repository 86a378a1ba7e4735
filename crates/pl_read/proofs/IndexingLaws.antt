-- The first of the causes that columns give.
use Rattle.std.proofs.Common.{◌≡◌, ℕ, zero, suc, ◌+◌, ◌<◌, List, [], ◌∷◌, ◌∙◌, map, length, take, get_or, add-one, arith}
use Rattle.std.specs.Prelude.{Option, None, Some}
use Rattle.pl_options.specs.FirstCause.{first_some}
use Rattle.pl_read.proofs.CauseLaws.{first_some-here, first_some-front, first_some-rest, first_some-behind}

-- the first element that gives one
pub first-found : {X Y : Type 0} (f : X → Option Y) (xs : List X) (i : ℕ) (d : X) (y : Y) → i < length xs → first_some (map f (take i xs)) ≡ None → f (get_or xs i d) ≡ Some y
    → first_some (map f xs) ≡ Some y
first-found f [] i d y l none some = absurd (omega arith)
first-found f (x ∷ xs) zero d y l none some = first_some-here (f x) (map f xs) y some
first-found f (x ∷ xs) (suc i) d y l none some =
    first_some-behind (f x) (map f xs) (first_some-front (f x) (map f (take i xs)) none)
    ∙ first-found f xs i d y (omega arith) (first_some-rest (f x) (map f (take i xs)) none) some

more : {X Y : Type 0} (f : X → Option Y) (xs : List X) (i : ℕ) (d : X) → i < length xs → first_some (map f (take i xs)) ≡ None → f (get_or xs i d) ≡ None
    → first_some (map f (take (suc i) xs)) ≡ None
more f [] i d l none still = absurd (omega arith)
more f (x ∷ xs) zero d l none still = first_some-behind (f x) [] still
more f (x ∷ xs) (suc i) d l none still =
    first_some-behind (f x) (map f (take (suc i) xs)) (first_some-front (f x) (map f (take i xs)) none)
    ∙ more f xs i d (omega arith) (first_some-rest (f x) (map f (take i xs)) none) still

-- one element more that gives none
pub first-more : {X Y : Type 0} (f : X → Option Y) (xs : List X) (i : ℕ) (d : X) → i < length xs → first_some (map f (take i xs)) ≡ None → f (get_or xs i d) ≡ None
    → first_some (map f (take (i + 1) xs)) ≡ None
first-more f xs i d l none still = rw add-one (more f xs i d l none still)
