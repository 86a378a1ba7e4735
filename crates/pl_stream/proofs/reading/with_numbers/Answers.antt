use Rattle.std.proofs.Common.{◌≡◌, ◌+◌, length, arith, ap, ◌∙◌, sym, subst}
use Rattle.std.specs.Option.{option_copied}
use Rattle.pl_frame.specs.Frame.{height_of}
use Rattle.pl_options.specs.FirstCause.{IsFault}
use Rattle.pl_read.specs.Batches.{index_behind}
use Rattle.pl_read.specs.Refusals.{index_past, numbers_past}
use Rattle.pl_read.specs.Rows.{with_index}
use Rattle.pl_stream.specs.Printing.{IsRowsFault}
use Rattle.pl_stream.proofs.ReadingLaws.{height-is, numbered-frame, numbered-sound, numbered-fault}
use Rattle.pl_stream.proofs.reading.with_numbers.Goals as goal

pub with_index_behind-requires-clause-fits : goal.with_index_behind-requires-clause-fits
with_index_behind-requires-clause-fits c =
    let h = c.requires.columns in
    omega (arith, height-is c.args.read.now c.args.before h.0 c.args.columns.items h.1 c.requires.uncoded c.requires.some, h.2)

pub returns-in-Ok-clause-frame : goal.returns-in-Ok-clause-frame
returns-in-Ok-clause-frame c = λ given are.
    let o = c.args.read.now in
    let index = c.as_ref.ensures.value in
    numbered-frame o c.args.before given c.args.columns.items are c.requires.uncoded c.requires.some c.in-Ok.frame
    (c.in-Ok.ensures.frame ∙ ap (λ i. with_index (index_behind c.args.before i) (height_of c.args.columns.items) c.args.columns.items) index)

pub returns-in-Ok-clause-sound : goal.returns-in-Ok-clause-sound
returns-in-Ok-clause-sound c = λ given are.
    let o = c.args.read.now in
    let index = c.as_ref.ensures.value in
    numbered-sound o c.args.before given c.args.columns.items are c.requires.uncoded c.requires.some
    (ap (λ i. index_past i (c.args.before + height_of c.args.columns.items) c.args.columns.items) (sym index) ∙ c.in-Ok.ensures.sound)

pub returns-in-Err-clause-refused : goal.returns-in-Err-clause-refused
returns-in-Err-clause-refused c = λ given are.
    let o = c.args.read.now in
    let columns = c.args.columns.items in
    let is = numbered-fault o c.args.before given columns are c.requires.uncoded c.requires.some c.in-Err.fault
    (subst (λ i. IsFault (index_past i (c.args.before + height_of columns) columns) c.in-Err.fault) c.as_ref.ensures.value c.in-Err.ensures.refused) in
    subst (IsRowsFault (numbers_past o.row_index (c.args.before + length given))) (sym c.fault_of.ensures) is
