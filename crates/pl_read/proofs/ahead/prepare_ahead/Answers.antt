use Rattle.std.proofs.Common.{◌-◌, Some, length, arith}
use Rattle.pl_scan.specs.Laws.{IsEnded}
use Rattle.pl_read.proofs.AheadLaws.{ended-last, read-ahead}
use Rattle.pl_read.proofs.ahead.prepare_ahead.Goals as goal

pub returns-then-prepared-first : goal.returns-then-prepared-first
returns-then-prepared-first c =
    let o = c.args.options.now in
    let first = c.args.first.now in
    let prepared = c.in-Ok.prepared in
    let ended : IsEnded o.parse_options.eol_char first = ended-last o.parse_options.eol_char (Some o.parse_options.eol_char) first (length first - 1) (omega arith) c.if-first-options.false in
    read-ahead o first prepared c.requires (omega arith) ended (omega arith) c.in-Ok.ensures.prepared c.in-Ok.ensures.sound
