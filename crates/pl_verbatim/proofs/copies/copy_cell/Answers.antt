-- A datetime without a fraction is written with zeros behind a point, and any other cell without quotes as it stands.
use Rattle.std.proofs.Common.{◌≡◌, ◌+◌, sym, ◌∙◌, subst, arith}
use Rattle.std.specs.Prelude.{slice_range}
use Rattle.pl_verbatim.specs.CellTexts.{zeros_text}
use Rattle.pl_verbatim.specs.Verbatim.{IsCellCopied}
use Rattle.pl_verbatim.proofs.MomentCellLaws.{seconds-kind}
use Rattle.pl_verbatim.proofs.RowCopyLaws.{cell-zeros, cell-whole}
use Rattle.pl_verbatim.proofs.copies.copy_cell.Goals as goal
use Rattle.pl_verbatim.proofs.copies.copy_cell.Goals.{in-Datetime+in_default-marked_seconds_end, in_default}

pub returns-in-Some-clause-copied : goal.returns-in-Some-clause-copied
returns-in-Some-clause-copied g c =
    let field = slice_range c.args.text.now c.args.at c.in-Some.end in
    let found = c.in-Some.ensures in
    let lines = c.append.new.lines.items in
    subst (IsCellCopied c.args.text.now c.args.from.now (c.in-Some.end + 1) c.args.at c.args.kind c.args.mark c.args.separator c.args.quote c.args.lines.now.items lines) (sym c.pass.ensures)
    (cell-zeros c.args.text.now c.args.from.now c.args.at c.in-Some.end c.args.kind c.args.mark c.args.separator c.args.quote c.args.lines.now.items lines
    (zeros_text c.in-Datetime.places) c.requires.before (omega (arith, found.after)) found.within found.mark
    (λ o type fits options can holds. seconds-kind c.args.separator c.args.quote c.args.kind c.in-Datetime.places field c.in-Datetime.is found.seconds o type fits options holds)
    c.if-not-append.ensures.copied)

pub returns-clause-copied : goal.returns-clause-copied
returns-clause-copied g c =
    let same : c.match-kind.kind ≡ c.args.kind = elim c.match-kind.branch [ in-Datetime+in_default-marked_seconds_end w ↦ w.kind-is ∙ sym w.in-Datetime.is | in_default w ↦ w.kind-is ] in
    let found = c.in_ok-end.ensures in
    let lines = c.args.lines.now.items in
    subst (IsCellCopied c.args.text.now c.args.from.now c.args.from.now c.args.at c.args.kind c.args.mark c.args.separator c.args.quote lines lines) (sym c.pass-2.ensures)
    (subst (λ k. IsCellCopied c.args.text.now c.args.from.now c.args.from.now c.args.at k c.args.mark c.args.separator c.args.quote lines lines (c.in_ok-end.end + 1)) same
    (cell-whole c.args.text.now c.args.from.now c.args.at c.in_ok-end.end c.match-kind.kind c.args.mark c.args.separator c.args.quote lines c.requires.before found.after found.within found.mark found.cell))
