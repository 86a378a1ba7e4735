use Rattle.std.proofs.Common.{arith}
use Rattle.pl_csv_c.proofs.CallLaws.{bars}
use Rattle.pl_csv_c.proofs.given.texts_of.Goals as goal

pub returns-in-Err-clause-refused : goal.returns-in-Err-clause-refused
returns-in-Err-clause-refused c = bars c.args.words.now c.loop-word.word-index _ c.in-Err.refusal (omega arith) c.in-Err.ensures.refused
