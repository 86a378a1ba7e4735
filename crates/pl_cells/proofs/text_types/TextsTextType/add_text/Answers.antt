use Rattle.pl_cells.specs.Cells.{string_cell}
use Rattle.pl_cells.proofs.BufferLaws.{string_valid, added_text}
use Rattle.pl_cells.proofs.text_types.TextsTextType.add_text.Goals as goal

pub returns-in_ok-push-in-Some-clause-answers : goal.returns-in_ok-push-in-Some-clause-answers
returns-in_ok-push-in-Some-clause-answers c = λ missing ignore.
    added_text c.args.self.now c.push.new.self c.args.text.now c.in-Some.text.now (string_cell c.args.encoding c.args.text.now)
    c.in_ok-push-in-Some.ensures.ok c.in-Some.ensures.1 (string_valid c.args.encoding c.args.text.now c.in-Some.ensures.0)
