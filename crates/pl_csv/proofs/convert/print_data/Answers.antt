use Rattle.pl_csv.specs.Sources.{ArePrintedOf}
use Rattle.pl_csv.proofs.ConvertLaws.{can-print}
use Rattle.pl_csv.proofs.convert.print_data.Goals as goal

pub print_rows-requires-clause-can : goal.print_rows-requires-clause-can
print_rows-requires-clause-can g c κs within = can-print c.args.plan.now c.args.read.now c.args.schema.now c.args.records.now c.requires.can

pub print_rows-requires-clause-last : goal.print_rows-requires-clause-last
print_rows-requires-clause-last g c κs within = c.requires.can.plan_is.is_last

pub read_printed-requires : goal.read_printed-requires
read_printed-requires g c = record { printed = (c.args.records.now, record { can = c.requires.can; plain = c.requires.plain; is = c.in-Ok.ensures }) }

pub returns-in-Ok : goal.returns-in-Ok
returns-in-Ok g c =
    let records = c.args.records.now in
    let is : ArePrintedOf c.args.plan.now c.args.read.now c.args.schema.now c.args.write.now records c.in-Ok.rows = record { can = c.requires.can; plain = c.requires.plain; is = c.in-Ok.ensures } in
    record {
      text = c.read_printed.ensures.text records is;
      sound = c.read_printed.ensures.sound records is;
      refused = c.read_printed.ensures.refused records is;
    }
