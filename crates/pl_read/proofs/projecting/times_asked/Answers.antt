use Rattle.std.proofs.Common.{◌≡◌, ◌<◌, get_or, refl, length, take, ◌∙◌, ap, arith}
use Rattle.std.specs.Prelude.{slice_set}
use Rattle.pl_read.specs.Projection.{times_asked}
use Rattle.pl_read.specs.Steps.{once_more, times_of}
use Rattle.pl_read.proofs.ProjectionLaws.{time-at, all_times-none, all_times-more, asked-below, length-all_times}
use Rattle.pl_read.proofs.projecting.times_asked.Goals as goal

pub loop-place-init : goal.loop-place-init
loop-place-init c = c.in-Ok.ensures.items_if_clones_equal (λ y e. e) ∙ all_times-none c.args.width

pub index-requires : goal.index-requires
index-requires c =
    omega (arith, asked-below c.args.places.now c.args.width c.loop-place.place-index c.requires c.loop-place-test.true, c.loop-place.times.ok, ap length c.loop-place.invariant, length-all_times (take c.loop-place.place-index c.args.places.now) c.args.width)

pub index_mut-requires : goal.index_mut-requires
index_mut-requires c =
    omega (arith, asked-below c.args.places.now c.args.width c.loop-place.place-index c.requires c.loop-place-test.true, c.loop-place.times.ok, ap length c.loop-place.invariant, length-all_times (take c.loop-place.place-index c.args.places.now) c.args.width)

pub loop-place-preserved : goal.loop-place-preserved
loop-place-preserved c =
    let places = c.args.places.now in
    let width = c.args.width in
    let i = c.loop-place.place-index in
    let p = get_or places i 0 in
    let below : p < width = asked-below places width i c.requires c.loop-place-test.true in
    let before : c.more.result ≡ once_more (times_of (times_asked (take i places) p)) = c.more.ensures ∙ ap once_more (c.index.ensures ∙ ap (λ l. get_or l p c.index.result.now) c.loop-place.invariant ∙ time-at (take i places) width p c.index.result.now below) in
    ap (slice_set c.loop-place.times.items p) before
    ∙ ap (λ l. slice_set l p (once_more (times_of (times_asked (take i places) p)))) c.loop-place.invariant
    ∙ all_times-more places width i p c.loop-place-test.true refl below
