-- A law of lists that are put one behind the other.
use Rattle.std.proofs.Common.{◌≡◌, ℕ, ◌+◌, ◌<◌, List, [], ◌++◌, length, take, get_or, sym, ◌∙◌, ap}
use Rattle.std.specs.List.{flat_map}
use Rattle.std.proofs.lemmas.List.{take_more, flat_map_more}

-- what comes of one item more
pub flat_map_step : {X A : Type 0} (f : X → List A) (xs : List X) (i : ℕ) (x : X) → i < length xs → x ≡ get_or xs i x →
    flat_map f (take (i + 1) xs) ≡ flat_map f (take i xs) ++ f x
flat_map_step f xs i x l at =
    ap (flat_map f) (take_more xs i x l) ∙ sym (flat_map_more f [] (take i xs) (get_or xs i x)) ∙ ap (λ y. flat_map f (take i xs) ++ f y) (sym at)
