use Rattle.std.proofs.Common.{◌≡◌, sym, subst}
use Rattle.pl_multi.specs.Scan.{rows_from}
use Rattle.pl_multi.proofs.RowsLaws.{rows-all}
use Rattle.pl_multi.proofs.scan.rows_from.Goals as goal

pub returns-then-start-eq0-clause-rows : goal.returns-then-start-eq0-clause-rows
returns-then-start-eq0-clause-rows c = subst (λ n. c.args.columns.items ≡ rows_from n c.args.columns.items) (sym c.if-start-eq0.true) (rows-all c.args.columns.items c.requires.frame)
