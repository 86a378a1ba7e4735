use Rattle.pl_multi.proofs.printing.read_parts.Goals as goal

pub returns-in-Err-clause-refused : goal.returns-in-Err-clause-refused
returns-in-Err-clause-refused g c = c.in-Err.ensures.refused (g.O.Opener.holds c.args.opener.now) (g.O.Opener.faults c.args.opener.now) (g.O.Opener.faults c.args.opener.now)
