use Rattle.std.proofs.Common.{refl, sym, ◌∙◌, subst, arith, true≢false}
use Rattle.pl_frame.specs.FrameParts.{AreDistinctPlaces}
use Rattle.pl_frame.proofs.DistinctLaws.{differ_where_none, distinct_where_empty, none_where_differ}
use Rattle.pl_frame.proofs.frame_columns.are_distinct.Goals as goal

pub loop-place-init : goal.loop-place-init
loop-place-init c = (λ here. here, λ here. here)

pub returns-then-contains : goal.returns-then-contains
returns-then-contains c =
    let found = c.contains.ensures.value in (
      λ never. absurd (true≢false (sym never)),
      λ distinct. let here = subst AreDistinctPlaces c.in-Some.ensures.cases.0 (c.loop-place.invariant.0 distinct) in
          absurd (true≢false (sym c.if-contains.true ∙ found ∙ none_where_differ c.in-Some.place.now c.in-Some.rest.now here.0)),
    )

pub loop-place-smaller : goal.loop-place-smaller
loop-place-smaller c = let less = c.in-Some.ensures.cases.1 in omega (arith, less)

pub loop-place-preserved : goal.loop-place-preserved
loop-place-preserved c =
    let parts = c.in-Some.ensures.cases.0 in
    let differ = differ_where_none c.in-Some.place.now c.in-Some.rest.now (sym c.contains.ensures.value ∙ c.if-contains.false) in
    (λ distinct. (subst AreDistinctPlaces parts (c.loop-place.invariant.0 distinct)).1, λ rest. c.loop-place.invariant.1 (subst AreDistinctPlaces (sym parts) (differ, rest)))

pub returns : goal.returns
returns c = (λ _. c.loop-place.invariant.1 (distinct_where_empty c.loop-place.left.now c.in_default.ensures.cases), λ _. refl)
