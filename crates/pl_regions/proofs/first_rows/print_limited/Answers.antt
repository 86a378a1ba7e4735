use Rattle.std.proofs.Common.{◌≤◌, length, sym, subst, arith}
use Rattle.std.specs.Prelude.{IfSome}
use Rattle.pl_write.specs.Options.{cell_options}
use Rattle.pl_regions.specs.Limits.{without_limit}
use Rattle.pl_regions.specs.Printing.{IsPrinted}
use Rattle.pl_regions.proofs.LimitLaws.{all-printed, nothing-printed, if_ok}
use Rattle.pl_regions.proofs.first_rows.print_limited.Goals as goal

pub returns-then-limit-records : goal.returns-then-limit-records
returns-then-limit-records g c =
    let plan = c.args.plan.now in
    let schema = c.args.schema.now in
    let o = cell_options c.args.options.now in
    let records = c.args.records.now in
    if_ok c.print_front.result (IsPrinted c.without_limit-all.result schema o records) (IsPrinted plan schema o records)
    (λ printed is.
    all-printed plan schema o records printed c.requires.can.dialect (subst (λ limit. IfSome limit (λ most. length records ≤ most)) (sym c.requires.limit) (omega arith))
    (subst (λ p. IsPrinted p schema o records printed) c.without_limit-all.ensures is))
    c.print_front.ensures

pub print_limited_rest-requires-clause-left : goal.print_limited_rest-requires-clause-left
print_limited_rest-requires-clause-left g c κs within =
    let plan = without_limit c.args.plan.now in
    let records = c.args.records.now in
    (records, nothing-printed plan c.args.schema.now (cell_options c.args.options.now) records c.new.result (omega arith) c.new.ensures.end c.new.ensures.rows c.new.ensures.lines)

pub returns : goal.returns
returns g c =
    let plan = without_limit c.args.plan.now in
    let records = c.args.records.now in
    c.print_limited_rest.ensures records (nothing-printed plan c.args.schema.now (cell_options c.args.options.now) records c.new.result (omega arith) c.new.ensures.end c.new.ensures.rows c.new.ensures.lines)
