use Rattle.std.proofs.Common.{rules, arith, ℕ, ◌==◌, length, sym}
use Rattle.std.proofs.lemmas.List.Sums.{position_or_len_is}
use Rattle.pl_seek.proofs.places.line_len.Goals as goal

pub returns-in-Some-clause-value : goal.returns-in-Some-clause-value
returns-in-Some-clause-value c = sym (position_or_len_is (λ (x : ℕ). x == c.args.eol_char) c.args.bytes.now c.in-Some.at 0 (search rules) (search rules) (search rules))

pub returns-in-None-clause-value : goal.returns-in-None-clause-value
returns-in-None-clause-value c = sym (position_or_len_is (λ (x : ℕ). x == c.args.eol_char) c.args.bytes.now (length c.args.bytes.now) 0 (omega arith) (search rules) (search rules))
