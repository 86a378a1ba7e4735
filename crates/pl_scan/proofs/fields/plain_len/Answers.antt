use Rattle.std.proofs.Common.{ℕ, ap, arith, rules, length}
use Rattle.std.proofs.lemmas.List.Sums.{position_or_len_is}
use Rattle.memchr.specs.Find.{is_byte2}
use Rattle.pl_scan.specs.Fields.{cut_at}
use Rattle.pl_scan.proofs.fields.plain_len.Goals as goal

pub returns-in-Some-clause-cut : goal.returns-in-Some-clause-cut
returns-in-Some-clause-cut c =
    ap (λ (n : ℕ). cut_at n c.args.slice.now) (position_or_len_is (is_byte2 c.args.separator c.args.eol_char) c.args.slice.now c.in-Some.at 0 (search rules) (search rules) (search rules))

pub returns-in-None-clause-cut : goal.returns-in-None-clause-cut
returns-in-None-clause-cut c =
    ap (λ (n : ℕ). cut_at n c.args.slice.now) (position_or_len_is (is_byte2 c.args.separator c.args.eol_char) c.args.slice.now (length c.args.slice.now) 0 (omega arith) (search rules) (search rules))
