use Rattle.pl_frame.proofs.HeldLaws.{codes-append}
use Rattle.pl_frame.proofs.stack.push_all.Goals as goal

pub returns-in-Some-clause-suits : goal.returns-in-Some-clause-suits
returns-in-Some-clause-suits c =
    codes-append c.args.column.now.dtype c.args.gathered.now c.in-Categories.texts c.in-Some.codes.now c.append_codes.new.self c.args.column.now.values c.requires c.in-Categories.is c.in_ok-append_codes.ensures.ok
    c.in-Some.ensures c.dtype-dtype.ensures.held
