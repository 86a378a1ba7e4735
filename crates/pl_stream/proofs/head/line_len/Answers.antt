use Rattle.std.proofs.Common.{rules, arith, length}
use Rattle.std.proofs.lemmas.List.Sums.{position_or_len_is}
use Rattle.memchr.specs.Find.{is_byte}
use Rattle.pl_stream.proofs.head.line_len.Goals as goal

pub returns-in-Some-clause-len : goal.returns-in-Some-clause-len
returns-in-Some-clause-len c = position_or_len_is (is_byte c.args.eol_char) c.args.bytes.now c.in-Some.at 0 (search rules) (search rules) (search rules)

pub returns-in-None-clause-len : goal.returns-in-None-clause-len
returns-in-None-clause-len c = position_or_len_is (is_byte c.args.eol_char) c.args.bytes.now (length c.args.bytes.now) 0 (omega arith) (search rules) (search rules)
