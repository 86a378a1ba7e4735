use Rattle.std.proofs.Common.{◌++◌, ◌∷◌, [], sym, ◌∙◌, ap, arith}
use Rattle.std.proofs.lemmas.List.FromFn.{map-range_with_len_more}
use Rattle.pl_infer.specs.SampleSteps.{nothing_seen}
use Rattle.pl_infer.proofs.sample.unseen.Goals as goal

pub loop-column-preserved : goal.loop-column-preserved
loop-column-preserved c =
    let n = c.loop-column._column in
    c.in_ok-push.ensures.pushed
    ∙ ap (λ s. s ++ nothing_seen ∷ []) c.loop-column.invariant
    ∙ sym (map-range_with_len_more (λ column. nothing_seen) 0 n n (omega arith))
