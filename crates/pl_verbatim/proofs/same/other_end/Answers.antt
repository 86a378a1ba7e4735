-- A field that does not mean null is written as it stands.
use Rattle.std.specs.Prelude.{slice_range}
use Rattle.pl_verbatim.proofs.ChangeLaws.{other-change, other-of, slice-some}
use Rattle.pl_verbatim.proofs.SameLaws.{same-change}
use Rattle.pl_verbatim.proofs.same.other_end.Goals as goal

pub returns-clause-cell : goal.returns-clause-cell
returns-clause-cell c =
    let found = c.in_ok-end.ensures in
    let field = slice_range c.args.text.now c.args.at c.in_ok-end.end in
    other-change c.args.separator c.args.quote c.args.form.now c.args.kind field field (other-of c.args.form.now c.in-Some.nulls c.args.quote field c.in-Some.is (c.in_ok-means_null.ensures.other c.if-branch.false))
    (same-change c.args.separator c.args.quote c.args.form.now c.args.kind field c.requires.alike (slice-some c.args.text.now c.args.at c.in_ok-end.end found.after found.within) found.cell)
