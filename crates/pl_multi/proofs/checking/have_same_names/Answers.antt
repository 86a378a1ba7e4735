use Rattle.std.proofs.Common.{◌≡◌, ◌∙◌, ℕ, List, map, sym, arith, false, get_or}
use Rattle.std.proofs.lemmas.List.{get_or_default}
use Rattle.std.specs.Cmp.Lexicographic.{pointwise}
use Rattle.std.specs.Str.{bytes_eq}
use Rattle.pl_multi.proofs.NameLaws.{no_value, names-all, names-differ, not-true}
use Rattle.pl_multi.proofs.checking.have_same_names.Goals as goal

pub returns-then-ne : goal.returns-then-ne
returns-then-ne c =
    let values = c.values-values.result.now in
    let others = c.values-others.result.now in
    let i = c.loop-i.i in
    let mine = get_or_default values i no_value c.index-values-i.result (omega arith) in
    let its = get_or_default others i no_value c.index-others-i.result (omega arith) in
    let differ : bytes_eq (get_or values i no_value).0 (get_or others i no_value).0 ≡ false =
    (λ j. bytes_eq (mine j).0 (its j).0) ∙ not-true _ (sym c.if-ne.true ∙ c.ne.ensures) in
    sym (names-differ values others i (omega arith) (omega arith) differ) ∙ (λ j. pointwise bytes_eq (map (λ (value : List ℕ × List ℕ). value.0) (c.values-values.ensures j)) (map (λ (value : List ℕ × List ℕ). value.0) (c.values-others.ensures j)))

pub returns : goal.returns
returns c =
    sym (names-all c.values-values.result.now c.values-others.result.now (omega arith) (λ k l. c.loop-i.invariant k (omega arith)))
    ∙ (λ j. pointwise bytes_eq (map (λ (value : List ℕ × List ℕ). value.0) (c.values-values.ensures j)) (map (λ (value : List ℕ × List ℕ). value.0) (c.values-others.ensures j)))
