use Rattle.std.proofs.Common.{arith, length, take}
use Rattle.pl_frame.specs.Dialect.{IsDialect}
use Rattle.pl_options.specs.Text.{marks_of, comment_of}
use Rattle.pl_rows.proofs.RangeLaws.{few_rows}
use Rattle.pl_table.specs.Rows.{rows}
use Rattle.pl_seek.proofs.PartLaws.{dialect-given}
use Rattle.std.proofs.lemmas.List.{length-take-le}
use Rattle.std.proofs.Common.{length-take}
use Rattle.pl_stream.proofs.PrintLaws.{printed-none}
use Rattle.pl_stream.proofs.printing.print_rest.Goals as goal

pub returns-then-whole-eq0-clause-printed : goal.returns-then-whole-eq0-clause-printed
returns-then-whole-eq0-clause-printed c =
    printed-none c.args.read.now c.args.write.now c.args.before c.args.records.now c.args.text.now.items c.whole_records-whole.result c.whole_records-whole.ensures.front c.if-whole-eq0.true c.requires.numbered

pub push_lines-requires-clause-fits : goal.push_lines-requires-clause-fits
push_lines-requires-clause-fits c =
    let o = c.args.read.now in
    let m = marks_of o.parse_options in
    let comment = comment_of o.parse_options in
    let whole = c.whole_records-whole.result in
    let t = take whole.end c.args.records.now in
    let few = few_rows m comment (dialect-given o c.requires.can.sound).distinct (length t) t (omega arith) in
    omega (arith, few, length-take whole.rows (rows m comment t), length-take whole.end c.args.records.now, c.requires.fits)
