use Rattle.std.proofs.Common.{take, add-one, sym, ◌∙◌, ap, arith}
use Rattle.pl_frame.specs.Schema.{with_type_at}
use Rattle.pl_read.specs.Options.{with_types}
use Rattle.pl_read.proofs.SettlingLaws.{types-more}
use Rattle.pl_read.proofs.settling.put_types.Goals as goal

pub loop-place-preserved : goal.loop-place-preserved
loop-place-preserved c =
    rw add-one
    (c.set_dtype_at_index.ensures.set
    ∙ ap (with_type_at c.loop-place.schema c.loop-place.place) c.in_ok-dtype.ensures.equal
    ∙ ap (λ s. with_type_at s c.loop-place.place c.index-types-place.result) c.loop-place.invariant
    ∙ ap (with_type_at (with_types (take c.loop-place.place c.args.types.now) c.args.schema.now) c.loop-place.place) c.index-types-place.is
    ∙ sym (types-more c.args.types.now c.args.schema.now c.loop-place.place c.index-types-place.result (omega arith)))
