use Rattle.std.proofs.Common.{true, sym, ◌∙◌}
use Rattle.pl_cells.proofs.BufferLaws.{quoted_same, buffer_answers}
use Rattle.pl_cells.proofs.text_buffer.TextBuffer.add_quoted.Goals as goal

pub returns-then-holds_no_quote : goal.returns-then-holds_no_quote
returns-then-holds_no_quote g c =
    buffer_answers c.args.self.now _ _ _ _ _ _ _ _ _ c.add_text.result c.self.view_is c.add_text.ensures.dtype
    (quoted_same _ c.args.self.now true c.args.ignore_errors c.args.quote c.args.text.now c.args.text.now c.self.view_is (sym (c.holds_no_quote.ensures c.if-holds_no_quote.true)) c.add_text.ensures.is_text)
    (c.add_text.ensures.answers true)

pub returns : goal.returns
returns g c =
    buffer_answers c.args.self.now _ _ _ _ _ _ _ _ _ c.add_text-2.result c.self.view_is c.add_text-2.ensures.dtype
    (quoted_same _ c.args.self.now true c.args.ignore_errors c.args.quote c.args.text.now c.deref.result.now c.self.view_is (c.deref.ensures.value ∙ c.in_ok-undouble_into.ensures.undoubled) c.add_text-2.ensures.is_text)
    (c.add_text-2.ensures.answers true)
