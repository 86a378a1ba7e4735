use Rattle.std.proofs.Common.{◌++◌, ◌∷◌, [], ◌∙◌, ap, arith}
use Rattle.std.specs.Prelude.{unwrap_or}
use Rattle.std.specs.Option.{option_copied}
use Rattle.pl_infer.proofs.InferenceLaws.{overwritten-more}
use Rattle.pl_infer.proofs.columns.overwritten_columns.Goals as goal

pub loop-place-preserved : goal.loop-place-preserved
loop-place-preserved c =
    let items = c.loop-place.columns.items in
    c.in_ok-push.ensures.pushed
    ∙ ap (λ column. items ++ column ∷ []) c.in_ok-column.ensures.overwritten
    ∙ overwritten-more (unwrap_or (option_copied c.args.other) []) c.args.names.now c.args.types.now c.loop-place.place items c.index-names-place.result c.index-types-place.result
    (omega arith) (omega (arith, c.requires)) c.index-names-place.is c.index-types-place.is c.loop-place.invariant
