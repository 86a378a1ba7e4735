use Rattle.std.proofs.Common.{◌∙◌, ap, length, arith}
use Rattle.std.specs.Prelude.{slice_range}
use Rattle.pl_board.proofs.LineStateLaws.{part-within, handed-out-ended}
use Rattle.pl_board.proofs.line_states.work.Goals as goal

pub summarised-done-requires-clause-text : goal.summarised-done-requires-clause-text
summarised-done-requires-clause-text g c =
    let piece = c.in-Ok-Some.piece in
    let setup = g.T.Task.setup in
    let text = rw c.in-Ok-Some.field-0-is at c.in-Ok-Some.ensures.text in
    let some = rw c.in-Ok-Some.field-0-is at c.in-Ok-Some.ensures.some in
    let within = rw c.in-Ok-Some.field-0-is at c.in-Ok-Some.ensures.within in
    text
    ∙ ap (λ b. slice_range b piece.from piece.to) c.requires.text
    ∙ part-within g.K.Scanning.text (length setup.bytes) piece.from piece.to (omega (arith, some)) within

pub summarised-done-requires-clause-ended : goal.summarised-done-requires-clause-ended
summarised-done-requires-clause-ended g c =
    let piece = c.in-Ok-Some.piece in
    let text = rw c.in-Ok-Some.field-0-is at c.in-Ok-Some.ensures.text in
    let some = rw c.in-Ok-Some.field-0-is at c.in-Ok-Some.ensures.some in
    let within = rw c.in-Ok-Some.field-0-is at c.in-Ok-Some.ensures.within in
    let handed_out = rw c.in-Ok-Some.field-0-is at c.in-Ok-Some.ensures.handed_out in
    handed-out-ended c.args.dialect.now.eol_char g.T.Task.setup piece c.requires.behind handed_out some within text
