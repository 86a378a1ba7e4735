use Rattle.std.proofs.Common.{sym, ◌∙◌}
use Rattle.pl_cells.specs.BufferValue.{reading_with}
use Rattle.pl_cells.specs.Cells.{text_cell}
use Rattle.pl_cells.proofs.BufferLaws.{fault_kept}
use Rattle.pl_cells.proofs.text_buffer.add_text.Goals as goal

pub returns-in-Err-2-clause-answers : goal.returns-in-Err-2-clause-answers
returns-in-Err-2-clause-answers g c = λ missing.
    let ignore = c.args.ignore_errors in
    let answer = c.in-Err.ensures.answers missing ignore in (
      fault_kept ignore c.in-Err.fault (text_cell (reading_with c.args.encoding missing ignore) (g.L.TextType.dtype c.args.texts.now) c.args.text.now) answer.0
          (sym c.is_ignored.ensures ∙ c.if-is_ignored.false),
      answer.1,
    )
