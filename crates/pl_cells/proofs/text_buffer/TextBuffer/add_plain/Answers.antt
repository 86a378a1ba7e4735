use Rattle.std.proofs.Common.{sym, ◌∙◌}
use Rattle.pl_cells.proofs.BufferLaws.{plain_same, buffer_answers}
use Rattle.pl_cells.proofs.text_buffer.TextBuffer.add_plain.Goals as goal

pub returns : goal.returns
returns g c =
    buffer_answers c.args.self.now _ _ _ _ _ _ _ _ _ c.add_text.result c.self.view_is c.add_text.ensures.dtype
    (plain_same _ c.args.self.now c.args.missing_is_null c.args.ignore_errors c.args.text.now c.self.view_is (sym c.is_empty.ensures ∙ c.if-is_empty.false))
    (c.add_text.ensures.answers c.args.missing_is_null)
