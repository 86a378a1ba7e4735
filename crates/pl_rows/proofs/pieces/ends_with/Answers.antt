use Rattle.std.proofs.Common.{◌≡◌, ℕ, suc, ◌-◌, ◌<◌, true, List, [], ◌∷◌, length, get_or, ◌∙◌, sym, ap, refl, ◌==◌, arith}
use Rattle.std.specs.Prelude.{Option, None, Some}
use Rattle.std.specs.List.{last_or}
use Rattle.std.specs.Option.{option_map_or}
use Rattle.pl_rows.proofs.pieces.ends_with.Goals as goal

-- the last of a list that is not empty
last_is : (b : List ℕ) (before : Option ℕ) → 0 < length b → last_or before b ≡ Some (get_or b (length b - 1) 0)
last_is [] before some = absurd (omega arith)
last_is (x ∷ []) before some = refl
last_is (x ∷ y ∷ ys) before some =
    let same : suc (length (y ∷ ys) - 1) ≡ suc (suc (length ys)) - 1 = omega arith in
    last_is (y ∷ ys) (Some x) (omega arith) ∙ ap (λ k. Some (get_or (x ∷ y ∷ ys) k 0)) same

pub returns-in-len1-up : goal.returns-in-len1-up
returns-in-len1-up c = sym (ap (λ o. option_map_or (λ (x : ℕ). x == c.args.byte) o true) (last_is c.args.bytes.now None (omega arith)))
