use Rattle.std.proofs.Common.{arith}
use Rattle.pl_write.specs.Options.{cell_options}
use Rattle.pl_write.proofs.PrintLaws.{FollowOn-rows, texts-are}
use Rattle.pl_write.proofs.printing.print_round.Goals as goal

pub print_each-requires-clause-rows : goal.print_each-requires-clause-rows
print_each-requires-clause-rows g c κs within =
    FollowOn-rows c.args.first c.set_rows-end.result c.args.height c.args.columns.now c.set_rows-end.new.shares c.set_rows-end.ensures.rows c.set_rows-end.ensures.inside c.requires.columns

pub returns-then-are_printed-clause-text : goal.returns-then-are_printed-clause-text
returns-then-are_printed-clause-text g c =
    texts-are (cell_options c.args.options.now) c.args.columns.now c.args.first c.set_rows-end.result c.set_rows-end.new.shares c.print_each.new.shares
    c.set_rows-end.ensures.rows (omega (arith, c.print_each.auto.shares)) c.if-are_printed.ensures c.print_each.ensures
