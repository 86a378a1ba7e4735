use Rattle.std.proofs.Common.{sym, subst}
use Rattle.std.specs.Prelude.{Option, IfSome}
use Rattle.std.specs.Bool.{OnTrue}
use Rattle.pl_options.specs.declared.row_index.RowIndex.{RowIndex}
use Rattle.pl_csv.specs.Converting.{AreNumberable}
use Rattle.pl_csv.proofs.convert.are_numberable.Goals as goal

pub returns-in-Some : goal.returns-in-Some
returns-in-Some c =
    subst (λ (i : Option RowIndex). OnTrue c.is_numberable.result (IfSome i (λ index. AreNumberable c.args.write.now c.args.width index.offset c.args.amount))) (sym c.in-Some.is) c.is_numberable.ensures
