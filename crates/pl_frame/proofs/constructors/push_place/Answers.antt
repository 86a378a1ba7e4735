use Rattle.std.proofs.Common.{sym, ◌∙◌}
use Rattle.pl_frame.proofs.CategoryLaws.{decoded-value, codes-value}
use Rattle.pl_frame.proofs.CellLaws.{category_holds, category_misfits}
use Rattle.pl_frame.proofs.constructors.push_place.Goals as goal

pub returns-in-None-find-clause-tested : goal.returns-in-None-find-clause-tested
returns-in-None-find-clause-tested c =
    category_misfits c.args.categories.now c.args.value.now c.as_str.result.now (cc (c.in-Some.is, c.as_str.ensures)) (sym c.find.ensures ∙ c.in-None-find.is)

pub returns-in_ok-push-in-Some-find-clause-tested : goal.returns-in_ok-push-in-Some-find-clause-tested
returns-in_ok-push-in-Some-find-clause-tested c =
    category_holds c.args.categories.now c.args.value.now c.as_str.result.now c.in-Some-find.place (cc (c.in-Some.is, c.as_str.ensures)) c.as_str.utf8 (sym c.find.ensures ∙ c.in-Some-find.is)

pub returns-in_ok-push-in-Some-find-clause-pushed : goal.returns-in_ok-push-in-Some-find-clause-pushed
returns-in_ok-push-in-Some-find-clause-pushed c =
    λ _. decoded-value c.args.categories.now c.args.places.now c.push.new.self c.args.value.now c.as_str.result.now c.in-Some-find.place (cc (c.in-Some.is, c.as_str.ensures))
    (sym c.find.ensures ∙ c.in-Some-find.is) c.in_ok-push-in-Some-find.ensures.ok

pub returns-in_ok-push-in-Some-find-clause-places : goal.returns-in_ok-push-in-Some-find-clause-places
returns-in_ok-push-in-Some-find-clause-places c =
    λ _. codes-value c.args.categories.now c.args.places.now c.push.new.self c.as_str.result.now c.in-Some-find.place c.requires
    (sym c.find.ensures ∙ c.in-Some-find.is) c.in_ok-push-in-Some-find.ensures.ok
