use Rattle.std.proofs.Common.{ℕ, List, Vec, Global, IfOk, subst}
use Rattle.std.specs.Prelude.{All}
use Rattle.pl_multi.specs.Groups.{IsTakenOf}
use Rattle.pl_multi.specs.declared.settling.TakenPart.{TakenPart}
use Rattle.pl_multi.proofs.beside.print_cells.Goals as goal

pub returns-clause-settled : goal.returns-clause-settled
returns-clause-settled g c =
    subst (λ (texts : List (List ℕ)). IfOk c.settle_each-settled.result (λ all. All (λ (taken : Vec TakenPart Global). All (IsTakenOf c.args.read.now c.args.write.now texts) taken.items) all.items))
    c.read_beside-shown.ensures.same c.settle_each-settled.ensures
