use Rattle.std.proofs.Common.{arith, ◌^◌}
use Rattle.pl_seek.proofs.PartLaws.{none-faulty, are-columns, faulty-row, faulty-fits}
use Rattle.pl_stream.proofs.reading.columns_of.Goals as goal

pub overflow_add-row : goal.overflow_add-row
overflow_add-row c =
    let r = c.requires.read in
    omega (arith, faulty-fits r.0 r.1 c.args.read r.2 c.in-Fault.row c.in-Fault.column c.in-Fault.kind c.in-Fault.is c.args.before (2 ^ 64) r.3)

pub returns-in-Fault-clause-refused : goal.returns-in-Fault-clause-refused
returns-in-Fault-clause-refused c = λ o given are. faulty-row o given c.args.read are c.in-Fault.row c.in-Fault.column c.in-Fault.kind c.in-Fault.is c.args.before

pub returns-in-Closed : goal.returns-in-Closed
returns-in-Closed c = record {
  columns = λ o given are. are-columns o given c.args.read are c.in-Closed.is;
  sound = λ o given are. none-faulty o given c.args.read are c.in-Closed.is c.args.before;
  refused = λ o given are. tt;
}
