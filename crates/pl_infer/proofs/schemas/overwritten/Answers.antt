use Rattle.std.proofs.Common.{◌≡◌, length, ◌<◌, ◌∙◌, ap, add-one, arith}
use Rattle.pl_frame.specs.Schema.{with_type_at}
use Rattle.pl_cells.specs.InitBuffers.{entry_at}
use Rattle.pl_infer.specs.Schemas.{retyped}
use Rattle.pl_infer.proofs.SchemaLaws.{retyped_to, retyped_to-more, retyped_to-all}
use Rattle.pl_infer.proofs.schemas.overwritten.Goals as goal

pub loop-place-preserved : goal.loop-place-preserved
loop-place-preserved c =
    let schema = c.args.schema.now in
    let other = c.args.other.now in
    let within : c.loop-place.place < length schema = omega (arith, c.len-place-end.ensures.len) in
    rw add-one
    (c.set_dtype_at_index.ensures.set
    ∙ ap (with_type_at c.loop-place.changed c.loop-place.place) c.in_ok-dtype.ensures.retyped
    ∙ ap (λ s. with_type_at s c.loop-place.place (retyped other (entry_at schema c.loop-place.place)).1) c.loop-place.invariant
    ∙ retyped_to-more other schema c.loop-place.place within)

pub returns-clause-overwritten : goal.returns-clause-overwritten
returns-clause-overwritten c =
    let schema = c.args.schema.now in
    let other = c.args.other.now in
    let all : c.loop-place.place ≡ length schema = omega (arith, c.len-place-end.ensures.len) in
    c.loop-place.invariant ∙ ap (λ k. retyped_to other k schema) all ∙ retyped_to-all other schema
