use Rattle.std.proofs.Common.{◌∷◌, ◌++◌, [], sym, subst}
use Rattle.pl_csv_c.proofs.KeptLaws.{AreKept-more}
use Rattle.pl_csv_c.specs.Views.{AreKept}
use Rattle.pl_csv_c.proofs.growing.keep_one.Goals as goal

pub returns-clause-kept : goal.returns-clause-kept
returns-clause-kept c = λ columns column all grown apart.
    let kept = c.kept_plain-kept.ensures column grown.name_is grown.cells apart in
    let view = c.view_of-view.ensures column grown.type_is grown.nulls_are in
    let more = AreKept-more columns c.args.frame.now.columns.items c.args.frame.now.views.items column c.kept_plain-kept.result c.view_of-view.result all kept view in
    subst (λ views. AreKept (columns ++ column ∷ []) c.push.new.items.items views) (sym c.in_ok-push-2.ensures.pushed)
    (subst (λ kept. AreKept (columns ++ column ∷ []) kept (c.args.frame.now.views.items ++ c.view_of-view.result ∷ [])) (sym c.in_ok-push.ensures.pushed) more)
