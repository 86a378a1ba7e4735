use Rattle.std.proofs.Common.{◌-◌, Some, length, arith, rules}
use Rattle.pl_scan.specs.Laws.{IsEnded}
use Rattle.pl_read.proofs.AheadLaws.{ended-last}
use Rattle.pl_csv.proofs.AheadLaws.{read-ahead}
use Rattle.pl_csv.proofs.convert_source.prepare_ahead.Goals as goal

pub returns-then-is_row_by_row : goal.returns-then-is_row_by_row
returns-then-is_row_by_row c =
    let o = c.args.read.now in
    let first = c.args.first.now in
    let prepared = c.in-Ok.prepared in
    let ended : IsEnded o.parse_options.eol_char first = ended-last o.parse_options.eol_char (Some o.parse_options.eol_char) first (length first - 1) (omega arith) c.if-first-read.false in
    read-ahead o c.args.write.now first prepared c.requires (omega arith) ended (omega arith) c.in-Ok.ensures.prepared c.in-Ok.ensures.sound (search rules)
