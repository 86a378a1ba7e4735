use Rattle.std.proofs.Common.{sym, subst}
use Rattle.pl_write.specs.Options.{cell_options}
use Rattle.pl_regions.specs.Arriving.{HasPrinted}
use Rattle.pl_regions.proofs.ArrivingLaws.{HasInLine-first, HasInLine-back}
use Rattle.pl_regions.proofs.in_line.print_and_keep.Goals as goal

pub returns-in-Ok-clause-printed : goal.returns-in-Ok-clause-printed
returns-in-Ok-clause-printed g c = λ before first has.
    let left = g.So.Source.left in
    let plan = c.args.plan.now in
    let schema = c.args.schema.now in
    let o = cell_options c.args.options.now in
    let limit = c.args.limit in
    let line = c.new-line.result in
    let new = c.new-line.ensures in
    let last = c.in_ok-line.line in
    let at = HasInLine-first plan schema o before (left c.args.source.now) limit first c.args.intake.now line.kept line.left.items line.pending
    (subst (HasPrinted plan schema o before (left c.args.source.now) limit first c.args.intake.now) (sym new.kept) has) new.left new.pending in
    subst (HasPrinted plan schema o before (left c.print_in_line.new.source) limit first c.put_back.new.intake) (sym c.in-Ok.ensures.kept)
    (HasInLine-back plan schema o before (left c.print_in_line.new.source) limit first c.print_in_line.new.intake c.put_back.new.intake last.kept last.left.items last.pending (c.in_ok-line.ensures.line before first at)
    c.in-Ok.ensures.rest c.put_back.ensures.size c.put_back.ensures.ended)
