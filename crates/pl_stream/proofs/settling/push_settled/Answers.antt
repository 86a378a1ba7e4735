use Rattle.std.proofs.Common.{arith, ap, ◌∙◌, subst, sym, length, take}
use Rattle.pl_stream.specs.Printing.{AreSettled}
use Rattle.pl_stream.proofs.SettlingLaws.{settled-some, settled-none}
use Rattle.pl_stream.proofs.settling.push_settled.Goals as goal

pub returns-then-rows-gt0-clause-settled : goal.returns-then-rows-gt0-clause-settled
returns-then-rows-gt0-clause-settled c =
    settled-some c.args.read.now c.args.write.now c.args.rows c.args.records.now c.args.text.now.items c.push_head_once.new.text.items c.print_records.new.text.items c.in-Ok-print_records.whole
    c.in-Ok.ensures.head c.in-Ok-print_records.ensures.printed (omega (arith, c.if-rows-gt0.true))

pub returns-then-whole-gt0-clause-settled : goal.returns-then-whole-gt0-clause-settled
returns-then-whole-gt0-clause-settled c =
    settled-some c.args.read.now c.args.write.now c.args.rows c.args.records.now c.args.text.now.items c.push_head_once.new.text.items c.print_records.new.text.items c.in-Ok-print_records.whole
    c.in-Ok.ensures.head c.in-Ok-print_records.ensures.printed (omega (arith, c.if-whole-gt0.true))
