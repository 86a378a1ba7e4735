use Rattle.std.proofs.Common.{sym}
use Rattle.pl_write.proofs.SpecialLaws.{clear_text}
use Rattle.pl_write.proofs.special.holds_special.Goals as goal

pub returns-then-is_clear : goal.returns-then-is_clear
returns-then-is_clear c = sym (clear_text c.is_clear.result c.args.separator c.args.quote c.args.text.now c.if-is_clear.true c.is_clear.ensures)
