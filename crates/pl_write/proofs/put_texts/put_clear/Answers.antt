use Rattle.std.proofs.Common.{arith}
use Rattle.pl_write.proofs.SpecialLaws.{clear_bare}
use Rattle.pl_write.proofs.put_texts.put_clear.Goals as goal

pub returns-else-not-is_clear_long-clause-clear : goal.returns-else-not-is_clear_long-clause-clear
returns-else-not-is_clear_long-clause-clear c = clear_bare c.args.separator c.args.quote c.args.text.now (omega arith) c.if-not-is_clear_long.ensures

pub returns-else-not-is_clear_8_to_16-clause-clear : goal.returns-else-not-is_clear_8_to_16-clause-clear
returns-else-not-is_clear_8_to_16-clause-clear c = clear_bare c.args.separator c.args.quote c.args.text.now (omega arith) c.if-not-is_clear_8_to_16.ensures

pub returns-else-not-is_clear_4_to_8-clause-clear : goal.returns-else-not-is_clear_4_to_8-clause-clear
returns-else-not-is_clear_4_to_8-clause-clear c = clear_bare c.args.separator c.args.quote c.args.text.now (omega arith) c.if-not-is_clear_4_to_8.ensures
