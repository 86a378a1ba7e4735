-- One text is marked where none was; and texts that differ by columns are none that are alike.
use Rattle.std.proofs.Common.{Some, [], sym, subst, ap, ◌∙◌}
use Rattle.pl_verbatim.specs.Nulls.{are_alike, AreStartsOf}
use Rattle.pl_verbatim.proofs.form_options.starts_of.Goals as goal

pub returns-in-AllColumnsSingle : goal.returns-in-AllColumnsSingle
returns-in-AllColumnsSingle c =
    subst (λ nulls. AreStartsOf (Some nulls) c.mark_start.new.starts) (sym c.in-AllColumnsSingle.is) (c.mark_start.ensures [] (λ x rest any. absurd (cc)))

pub returns-in-Columns : goal.returns-in-Columns
returns-in-Columns c = let differ = sym (ap (λ nulls. are_alike (Some nulls)) c.in-Columns.is) ∙ c.requires in absurd (cc)
