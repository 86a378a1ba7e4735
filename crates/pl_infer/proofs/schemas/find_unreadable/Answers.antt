use Rattle.std.proofs.Common.{not, sym, ◌∙◌, ap, ◌<◌, length, arith}
use Rattle.pl_infer.proofs.SchemaLaws.{first_unreadable-here, first_unreadable-none}
use Rattle.pl_infer.proofs.schemas.find_unreadable.Goals as goal

pub returns-then-not-is_readable_at : goal.returns-then-not-is_readable_at
returns-then-not-is_readable_at c =
    let within : c.loop-place.place < length c.args.schema.now = omega (arith, c.len-place-end.ensures.len) in
    sym (first_unreadable-here c.args.schema.now c.loop-place.place within c.loop-place.invariant (ap not (sym c.is_readable_at.ensures) ∙ ap not c.if-not-is_readable_at.true))

pub returns : goal.returns
returns c = sym (first_unreadable-none c.args.schema.now (λ k l. c.loop-place.invariant k (omega (arith, c.len-place-end.ensures.len))))
