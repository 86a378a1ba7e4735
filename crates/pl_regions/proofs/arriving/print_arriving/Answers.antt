use Rattle.std.proofs.Common.{◌++◌, arith}
use Rattle.pl_write.specs.Options.{cell_options}
use Rattle.pl_regions.proofs.ArrivingLaws.{small-come, HasArrived-of}
use Rattle.pl_regions.proofs.arriving.print_arriving.Goals as goal

pub print_left-requires-clause-left : goal.print_left-requires-clause-left
print_left-requires-clause-left g c κs within =
    let left = g.So.Source.left in
    let come = c.in_ok-arrived.ensures.arrived in (
      c.args.intake.now.rest.items ++ come.bytes,
      small-come c.args.plan.now c.args.schema.now (cell_options c.args.options.now) (left c.args.source.now) (left c.print_texts.new.source) c.args.limit c.args.intake.now c.in_ok-arrived.arrived (omega arith) c.requires.held come,
      come.is,
    )

pub returns-in-Ok-print_left-clause-arrived : goal.returns-in-Ok-print_left-clause-arrived
returns-in-Ok-print_left-clause-arrived g c =
    let left = g.So.Source.left in
    let come = c.in_ok-arrived.ensures.arrived in
    HasArrived-of c.args.plan.now c.args.schema.now (cell_options c.args.options.now) (left c.args.source.now) (left c.print_texts.new.source) c.args.limit c.args.intake.now c.in_ok-arrived.arrived c.in-Ok-print_left.printed come
    (c.in-Ok-print_left.ensures (c.args.intake.now.rest.items ++ come.bytes)
    (small-come c.args.plan.now c.args.schema.now (cell_options c.args.options.now) (left c.args.source.now) (left c.print_texts.new.source) c.args.limit c.args.intake.now c.in_ok-arrived.arrived (omega arith) c.requires.held come) come.is)
