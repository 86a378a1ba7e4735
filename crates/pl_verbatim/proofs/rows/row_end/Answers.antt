-- Each cell is one more of the line, and the last ends it.
use Rattle.std.proofs.Common.{◌<◌, ◌+◌, length, sym, subst, arith}
use Rattle.std.specs.Prelude.{slice_range}
use Rattle.std.proofs.lemmas.Bool.Decides.{nat_tests}
use Rattle.pl_verbatim.specs.declared.kinds.Kind.TheVariants as kind
use Rattle.pl_verbatim.proofs.RowLaws.{IsLineOfKinds, AreCellsBefore, cells-step, cells-last}
use Rattle.pl_verbatim.proofs.rows.row_end.Goals as goal

pub loop-index-preserved : goal.loop-index-preserved
loop-index-preserved c =
    let next = c.loop-index.index + 1 in
    subst (AreCellsBefore c.args.text.now c.args.start c.args.kinds.now c.args.separator c.args.quote next) (sym c.pass-at.ensures)
    (cells-step c.args.text.now c.args.start c.args.kinds.now c.args.separator c.args.quote c.loop-index.index c.loop-index.at c.in_ok-end.end kind.Text c.loop-index.invariant (omega arith)
    c.in_ok-end.ensures.after c.in_ok-end.ensures.within c.in_ok-end.ensures.mark c.in_ok-end.ensures.cell)

pub returns-clause-line : goal.returns-clause-line
returns-clause-line c =
    let some : 0 < length c.args.kinds.now = grind (arith, nat_tests, c.if-is_empty.ensures) in
    subst (λ end. IsLineOfKinds c.args.separator c.args.quote c.args.kinds.now (slice_range c.args.text.now c.args.start end)) (sym c.pass.ensures)
    (cells-last c.args.text.now c.args.start c.args.kinds.now c.args.separator c.args.quote c.loop-index.index c.loop-index.at c.in_ok-end-2.end kind.Text c.loop-index.invariant (omega arith)
    some c.in_ok-end-2.ensures.after c.in_ok-end-2.ensures.within c.in_ok-end-2.ensures.mark c.in_ok-end-2.ensures.cell)
