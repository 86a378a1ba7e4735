use Rattle.pl_stream.specs.Printing.{first_rows}
use Rattle.pl_stream.proofs.ReadingLaws.{err-map, number-cause}
use Rattle.pl_stream.proofs.reading.frame_behind.Goals as goal

pub returns-in-Ok-columns_of-clause-frame : goal.returns-in-Ok-columns_of-clause-frame
returns-in-Ok-columns_of-clause-frame c =
    let o = c.args.read.now in
    let given = first_rows o c.args.count c.args.text.now in
    c.with_numbers.ensures.frame given (c.in-Ok-columns_of.ensures.columns o given c.in-Ok.ensures)

pub returns-in-Ok-columns_of-clause-refused : goal.returns-in-Ok-columns_of-clause-refused
returns-in-Ok-columns_of-clause-refused c =
    let o = c.args.read.now in
    let given = first_rows o c.args.count c.args.text.now in
    err-map c.with_numbers.result (λ refused is. number-cause o c.args.before given refused (c.in-Ok-columns_of.ensures.sound o given c.in-Ok.ensures) is)
    (c.with_numbers.ensures.refused given (c.in-Ok-columns_of.ensures.columns o given c.in-Ok.ensures))
