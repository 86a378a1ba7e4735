use Rattle.std.proofs.Common.{rules, All, IfOk, Vec, Global}
use Rattle.pl_multi.specs.Cells.{IsTakenCell}
use Rattle.pl_multi.specs.declared.settling.TakenCell.{TakenCell}
use Rattle.pl_multi.proofs.beside.read_beside.Goals as goal

pub returns-clause-taken : goal.returns-clause-taken
returns-clause-taken g c =
    let read = c.args.read.now in
    let write = c.args.write.now in
    let cells = c.args.cells.now in
    let others : IfOk c.join_mut-all.result.0 (λ all. All (λ (taken : Vec TakenCell Global). All (IsTakenCell read write cells) taken.items) all.items) = search rules in
    c.with_own.ensures read write cells others (search rules)
