use Rattle.std.proofs.Common.{arith, length, [], ◌∷◌, ◌++◌, IfErr, ◌∙◌, ap, sym, subst, map}
use Rattle.pl_cells.specs.CastPlaces.{placed_cast}
use Rattle.pl_cells.specs.Casts.{field_fault, first_fault, IsCastFault}
use Rattle.pl_cells.proofs.CastLaws.{refused_first}
use Rattle.pl_cells.proofs.CastWorkerLaws.{next-made, one-more, all-made}
use Rattle.pl_cells.proofs.cast_workers.casts_by_workers.Goals as goal

pub loop-one-preserved : goal.loop-one-preserved
loop-one-preserved g c =
    let next =
    next-made c.args.ignore_errors c.args.columns.now c.args.to_cast.now c.in-Ok.all.items c.deref_mut.result.now c.make_each.new.all c.in-Ok.all.len c.into_iter-one-iterator.result c.loop-one.yielded
    c.loop-one.one-iterator c.in-Some.one c.next.new.self c.in-Ok.ensures (omega (arith, c.in-Ok.all.ok, c.deref_mut.ensures.len)) c.deref_mut.ensures.value (omega (arith, c.make_each.auto.all)) c.make_each.ensures.fields c.make_each.ensures.made c.into_iter-one-iterator.ensures.into_iter_gives.0
    c.loop-one.yielded_by c.in-Some.ensures.steps.0 in
    let more =
    one-more c.args.ignore_errors c.args.columns.now c.args.to_cast.now c.loop-one.yielded c.in-Some.one c.loop-one.casts.items c.push_cast.new.casts.items c.in-Ok-made.cast next c.in-Ok-made.is
    c.loop-one.invariant.made c.loop-one.invariant.faultless (c.in_ok-push_cast-in-Ok-made.ensures.pushed ∙ ap (λ k. c.loop-one.casts.items ++ k ∷ []) c.in-Ok-made.cast-is) in
    record { made = more.0; faultless = more.1 }

pub returns-in-Err-clause-refused : goal.returns-in-Err-clause-refused
returns-in-Err-clause-refused g c =
    let next =
    next-made c.args.ignore_errors c.args.columns.now c.args.to_cast.now c.in-Ok.all.items c.deref_mut.result.now c.make_each.new.all c.in-Ok.all.len c.into_iter-one-iterator.result c.loop-one.yielded
    c.loop-one.one-iterator c.in-Some.one c.next.new.self c.in-Ok.ensures (omega (arith, c.in-Ok.all.ok, c.deref_mut.ensures.len)) c.deref_mut.ensures.value (omega (arith, c.make_each.auto.all)) c.make_each.ensures.fields c.make_each.ensures.made c.into_iter-one-iterator.ensures.into_iter_gives.0
    c.loop-one.yielded_by c.in-Some.ensures.steps.0 in
    subst (IsCastFault (first_fault c.args.ignore_errors c.args.columns.now c.args.to_cast.now)) (sym c.in-Err.fault-is)
    (refused_first c.args.ignore_errors c.args.columns.now c.args.to_cast.now (length c.loop-one.yielded) c.in-Some.one.field.now c.in-Err.fault next.at
    (ap (first_fault c.args.ignore_errors c.args.columns.now) next.before ∙ c.loop-one.invariant.faultless)
    (subst (λ made. IfErr made (IsCastFault (field_fault c.args.ignore_errors c.args.columns.now c.in-Some.one.field.now))) c.in-Err.is next.made.refused))

pub returns-clause-made : goal.returns-clause-made
returns-clause-made g c =
    let all =
    all-made c.args.to_cast.now c.in-Ok.all.items c.deref_mut.result.now c.make_each.new.all c.in-Ok.all.len c.into_iter-one-iterator.result c.loop-one.yielded c.loop-one.one-iterator c.in-Ok.ensures
    (omega (arith, c.in-Ok.all.ok, c.deref_mut.ensures.len)) c.deref_mut.ensures.value (omega (arith, c.make_each.auto.all)) c.make_each.ensures.fields c.into_iter-one-iterator.ensures.into_iter_gives.0
    c.loop-one.yielded_by (sym c.loop-one.one-iterator.rest.ok.0 ∙ c.in-None.ensures.steps.0) in
    c.loop-one.invariant.made ∙ ap (map (placed_cast c.args.columns.now)) all

pub returns-clause-faultless : goal.returns-clause-faultless
returns-clause-faultless g c =
    let all =
    all-made c.args.to_cast.now c.in-Ok.all.items c.deref_mut.result.now c.make_each.new.all c.in-Ok.all.len c.into_iter-one-iterator.result c.loop-one.yielded c.loop-one.one-iterator c.in-Ok.ensures
    (omega (arith, c.in-Ok.all.ok, c.deref_mut.ensures.len)) c.deref_mut.ensures.value (omega (arith, c.make_each.auto.all)) c.make_each.ensures.fields c.into_iter-one-iterator.ensures.into_iter_gives.0
    c.loop-one.yielded_by (sym c.loop-one.one-iterator.rest.ok.0 ∙ c.in-None.ensures.steps.0) in
    sym (ap (first_fault c.args.ignore_errors c.args.columns.now) all) ∙ c.loop-one.invariant.faultless
