use Rattle.std.proofs.Common.{sym, ◌∙◌, ◌<◌, length, arith}
use Rattle.pl_infer.proofs.SchemaLaws.{categorical-here, categorical-none}
use Rattle.pl_infer.proofs.schemas.has_categorical.Goals as goal

pub returns-then-is_categorical_at : goal.returns-then-is_categorical_at
returns-then-is_categorical_at c =
    let within : c.loop-place.place < length c.args.schema.now = omega (arith, c.len-place-end.ensures.len) in
    sym (categorical-here c.args.schema.now c.loop-place.place within (sym c.is_categorical_at.ensures ∙ c.if-is_categorical_at.true))

pub returns : goal.returns
returns c = sym (categorical-none c.args.schema.now (λ k l. c.loop-place.invariant k (omega (arith, c.len-place-end.ensures.len))))
