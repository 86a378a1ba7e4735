-- Laws of tests, and of the first place at which one passes.
use Rattle.std.proofs.Common.{◌≡◌, ℕ, ◌<◌, Bool, true, false, not, List, length, get_or, nat_lt, Some, None, refl, arith}
use Rattle.std.specs.List.{position, position_or_len}
use Rattle.std.proofs.lemmas.Bool.{lt-ltb, le-ltb}
use Rattle.std.proofs.lemmas.List.Sums.{position_or_len_is}

pub position-found : {X : Type 0} (p : X → Bool) (xs : List X) (i : ℕ) (d : X) → i < length xs →
    ((k : ℕ) → k < i → p (get_or xs k d) ≡ false) → p (get_or xs i d) ≡ true → position p xs ≡ Some i
position-found p xs i d l before found =
    let same : position_or_len p xs ≡ i = position_or_len_is p xs i d (omega arith) before (λ _. found) in
    let within : nat_lt i (length xs) ≡ true = lt-ltb i (length xs) l in
    rw (same, within) refl

pub position-nowhere : {X : Type 0} (p : X → Bool) (xs : List X) (d : X) →
    ((k : ℕ) → k < length xs → p (get_or xs k d) ≡ false) → position p xs ≡ None
position-nowhere p xs d nowhere =
    let same : position_or_len p xs ≡ length xs = position_or_len_is p xs (length xs) d (omega arith) nowhere (λ h. absurd (omega arith)) in
    let past : nat_lt (length xs) (length xs) ≡ false = le-ltb (length xs) (length xs) (omega arith) in
    rw (same, past) refl

pub true_from_not : (b : Bool) → not b ≡ false → b ≡ true
true_from_not true h = refl
true_from_not false h = cc
