use Rattle.std.proofs.Common.{◌∷◌, ◌++◌, [], sym, subst}
use Rattle.pl_csv_c.proofs.KeptLaws.{AreKept-more}
use Rattle.pl_csv_c.specs.Views.{AreKept}
use Rattle.pl_csv_c.proofs.kept.keep_next.Goals as goal

pub returns-clause-kept : goal.returns-clause-kept
returns-clause-kept c = λ columns all.
    let column = c.args.column.now in
    let more = AreKept-more columns c.args.frame.now.columns.items c.args.frame.now.views.items column c.in_ok-kept.kept c.view_of-view.result all c.in_ok-kept.ensures (c.view_of-view.ensures column c.dtype.ensures.dtype c.null_count.ensures) in
    subst (λ views. AreKept (columns ++ column ∷ []) c.push.new.items.items views) (sym c.in_ok-push-2.ensures.pushed)
    (subst (λ kept. AreKept (columns ++ column ∷ []) kept (c.args.frame.now.views.items ++ c.view_of-view.result ∷ [])) (sym c.in_ok-push.ensures.pushed) more)
