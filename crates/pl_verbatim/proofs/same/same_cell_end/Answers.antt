-- A field that begins as no text that means null does is written as it stands.
use Rattle.std.proofs.Common.{arith}
use Rattle.std.specs.Prelude.{slice_range}
use Rattle.std.proofs.lemmas.Bool.Decides.{nat_tests}
use Rattle.pl_verbatim.proofs.ChangeLaws.{other-change, slice-some}
use Rattle.pl_verbatim.proofs.SameLaws.{same-change, same-missing}
use Rattle.pl_verbatim.proofs.StartLaws.{other-start}
use Rattle.pl_verbatim.proofs.same.same_cell_end.Goals as goal

pub returns-then-is_empty-clause-cell : goal.returns-then-is_empty-clause-cell
returns-then-is_empty-clause-cell g c = same-missing c.args.separator c.args.quote c.args.form.now c.args.kind c.args.text.now c.args.at (grind (arith, nat_tests, c.is_empty.ensures, c.if-is_empty.true))

pub returns-then-text-end-clause-cell : goal.returns-then-text-end-clause-cell
returns-then-text-end-clause-cell g c =
    let found = c.in_ok-end.ensures in
    let field = slice_range c.args.text.now c.args.at c.in_ok-end.end in
    other-change c.args.separator c.args.quote c.args.form.now c.args.kind field field
    (other-start c.args.form.now c.args.quote c.args.text.now c.args.at c.in_ok-end.end c.requires.begin c.if-form-text.false (omega (arith, c.if-at-text.false)) (omega (arith, found.after)))
    (same-change c.args.separator c.args.quote c.args.form.now c.args.kind field c.requires.alike (slice-some c.args.text.now c.args.at c.in_ok-end.end found.after found.within) found.cell)
