use Rattle.std.proofs.Common.{refl}
use Rattle.pl_cells.specs.Cells.{string_cell}
use Rattle.pl_cells.proofs.BufferLaws.{string_valid, added_text}
use Rattle.pl_cells.proofs.text_types.TextsTextType.add_known.Goals as goal

pub returns-clause-seen : goal.returns-clause-seen
returns-clause-seen c = λ reading.
    added_text c.args.self.now c.push.new.self c.args.text.now c.args.text.now (string_cell reading.encoding c.args.text.now)
    c.in_ok-push.ensures.ok refl (string_valid reading.encoding c.args.text.now c.requires)
