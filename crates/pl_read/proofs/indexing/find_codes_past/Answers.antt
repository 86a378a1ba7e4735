use Rattle.std.proofs.Common.{sym, ◌∙◌, ap}
use Rattle.pl_read.specs.Refusals.{codes_past}
use Rattle.pl_read.proofs.IndexingLaws.{first-found, first-more}
use Rattle.pl_read.proofs.indexing.find_codes_past.Goals as goal

pub returns-in-Some : goal.returns-in-Some
returns-in-Some c =
    sym (first-found codes_past c.args.columns.now c.loop-column.column-index c.column-item.result c.in-Some.fault c.loop-column-test.true c.loop-column.invariant
    (ap codes_past (sym c.column-item.is) ∙ sym c.codes_past.ensures ∙ c.in-Some.is))

pub loop-column-preserved : goal.loop-column-preserved
loop-column-preserved c =
    first-more codes_past c.args.columns.now c.loop-column.column-index c.column-item.result c.loop-column-test.true c.loop-column.invariant
    (ap codes_past (sym c.column-item.is) ∙ sym c.codes_past.ensures ∙ c.in_default.is)
