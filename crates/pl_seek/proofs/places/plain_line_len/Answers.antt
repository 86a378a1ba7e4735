use Rattle.std.proofs.Common.{rules, arith, length}
use Rattle.std.proofs.lemmas.Bool.Decides.{nat_tests}
use Rattle.pl_seek.proofs.PlaceLaws.{line-at}
use Rattle.pl_seek.proofs.places.plain_line_len.Goals as goal

pub returns-then-bytes-at-clause-value : goal.returns-then-bytes-at-clause-value
returns-then-bytes-at-clause-value c = line-at c.args.eol_char c.args.quote c.args.bytes.now c.in-Some.at (search rules) (search rules) (λ inside. search (rules, nat_tests))

pub returns-in-None-clause-value : goal.returns-in-None-clause-value
returns-in-None-clause-value c =
    line-at c.args.eol_char c.args.quote c.args.bytes.now (length c.args.bytes.now) (omega arith) (search rules) (λ inside. absurd (omega arith))
