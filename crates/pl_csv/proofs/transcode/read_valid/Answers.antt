use Rattle.std.proofs.Common.{rules}
use Rattle.pl_read.specs.Options.{settled_schema}
use Rattle.pl_csv.specs.Transcoding.{HasAsciiQuote}
use Rattle.pl_csv.proofs.TranscodeLaws.{unread-early, valid-or-unread}
use Rattle.pl_csv.proofs.transcode.read_valid.Goals as goal

pub returns-else-not-is_ascii : goal.returns-else-not-is_ascii
returns-else-not-is_ascii g c =
    let read = c.args.read.now in
    let input = c.args.input.now in
    let small : HasAsciiQuote c.args.write.now = search rules in
    valid-or-unread read (settled_schema read input) input c.args.write.now c.read_checked.result c.in-Ok.ensures.passed small
    c.read_checked.ensures.frame c.read_checked.ensures.sound c.read_checked.ensures.refused

pub returns-in-Err : goal.returns-in-Err
returns-in-Err g c =
    let read = c.args.read.now in
    let input = c.args.input.now in
    unread-early read (settled_schema read input) input c.args.write.now c.in-Err.fault c.in-Err.ensures.refused
