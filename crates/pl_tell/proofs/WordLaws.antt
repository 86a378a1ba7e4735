-- Words that stand among others.
use Rattle.std.proofs.Common.{◌≡◌, ℕ, ◌+◌, ◌-◌, List, take, drop, arith, subst}

-- what holds of the words from a place up to another holds of so many from there on
pub unit_at : {X : Type 0} (P : List X → Type 0) (words : List X) (start count : ℕ) → P (take ((start + count) - start) (drop start words))
    → P (take count (drop start words))
unit_at P words start count h =
    let e : (start + count) - start ≡ count = omega arith in
    let Q : ℕ → Type 0 = λ n. P (take n (drop start words)) in
    subst Q e h
