use Rattle.std.proofs.Common.{rules, refl}
use Rattle.pl_read.specs.Options.{settled_schema}
use Rattle.pl_csv.specs.Transcoding.{HasAsciiQuote}
use Rattle.pl_csv.proofs.ConvertLaws.{printed-or-unread}
use Rattle.pl_csv.proofs.convert.print_valid.Goals as goal

pub returns-else-not-is_ascii : goal.returns-else-not-is_ascii
returns-else-not-is_ascii g c =
    let read = c.args.read.now in
    let input = c.args.input.now in
    let small : HasAsciiQuote c.args.write.now = search rules in
    printed-or-unread read (settled_schema read input) input c.args.write.now c.print_checked.result refl c.in-Ok.ensures.passed small
    c.print_checked.ensures.text c.print_checked.ensures.sound c.print_checked.ensures.refused
