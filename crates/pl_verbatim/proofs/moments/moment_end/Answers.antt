use Rattle.std.proofs.Common.{arith}
use Rattle.std.proofs.lemmas.Option.{IfSome_then}
use Rattle.pl_verbatim.proofs.moments.moment_end.Goals as goal

pub returns-clause-after : goal.returns-clause-after
returns-clause-after c = IfSome_then c.fraction_end.result c.fraction_end.ensures.after (λ end later. omega (arith, later, c.in_ok-point.ensures.after))

pub returns-clause-moment : goal.returns-clause-moment
returns-clause-moment c = IfSome_then c.fraction_end.result c.fraction_end.ensures.moment (λ end w. w c.args.at c.in_ok-point.ensures.after c.in_ok-point.ensures.seconds)
