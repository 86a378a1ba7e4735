use Rattle.std.proofs.Common.{sym, subst}
use Rattle.pl_write.specs.Lines.{HaveRows}
use Rattle.pl_write.specs.Printing.{ShareValue}
use Rattle.pl_write.proofs.printing.print_each.Goals as goal

pub for_each_mut-requires-clause-accepts : goal.for_each_mut-requires-clause-accepts
for_each_mut-requires-clause-accepts g c κs within = λ i p inside is.
    subst (λ (share : ShareValue). HaveRows share.end c.args.columns.now) (sym is) (c.requires.rows i p.now inside)
