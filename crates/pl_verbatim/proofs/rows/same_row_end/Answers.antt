-- Each cell is one more of the line, and the last ends it.
use Rattle.std.proofs.Common.{◌<◌, ◌+◌, length, sym, subst, arith}
use Rattle.std.specs.Prelude.{slice_range}
use Rattle.std.proofs.lemmas.Bool.Decides.{nat_tests}
use Rattle.pl_verbatim.specs.Changes.{IsLineChangeOfKinds}
use Rattle.pl_verbatim.specs.declared.kinds.Kind.TheVariants as kind
use Rattle.pl_verbatim.proofs.SameLaws.{AreSameBefore, same-none, same-cell, same-row}
use Rattle.pl_verbatim.proofs.rows.same_row_end.Goals as goal

pub loop-index-init : goal.loop-index-init
loop-index-init c = same-none c.args.text.now c.args.start c.args.kinds.now c.args.separator c.args.quote c.args.form.now c.requires.inside

pub loop-index-preserved : goal.loop-index-preserved
loop-index-preserved c =
    let found = c.in_ok-end.ensures in
    subst (AreSameBefore c.args.text.now c.args.start c.args.kinds.now c.args.separator c.args.quote c.args.form.now (c.loop-index.index + 1)) (sym c.pass-at.ensures)
    (same-cell c.args.text.now c.args.start c.args.kinds.now c.args.separator c.args.quote c.args.form.now c.loop-index.index c.loop-index.at c.in_ok-end.end kind.Text c.requires.alike c.loop-index.invariant
    (omega arith) (c.requires.whole c.loop-index.index kind.Text (omega arith)) found.after found.within found.mark found.cell)

pub returns-clause-line : goal.returns-clause-line
returns-clause-line c =
    let some : 0 < length c.args.kinds.now = grind (arith, nat_tests, c.if-is_empty.ensures) in
    let found = c.in_ok-end-2.ensures in
    subst (λ end. IsLineChangeOfKinds c.args.separator c.args.quote c.args.form.now c.args.kinds.now (slice_range c.args.text.now c.args.start end) (slice_range c.args.text.now c.args.start end)) (sym c.pass.ensures)
    (same-row c.args.text.now c.args.start c.args.kinds.now c.args.separator c.args.quote c.args.form.now c.loop-index.index c.loop-index.at c.in_ok-end-2.end kind.Text c.requires.alike c.loop-index.invariant
    (omega arith) some (c.requires.whole _ kind.Text (omega (arith, some))) found.after found.within found.mark found.cell)
