use Rattle.std.proofs.Common.{◌+◌, ◌∙◌, ◌≡◌, sym, ap, drop, not, ◌==◌, length, arith, rules}
use Rattle.std.specs.List.{prefix_len}
use Rattle.std.proofs.Math.ListN.{drop_of_length-le}
use Rattle.std.proofs.lemmas.List.{take_rest}
use Rattle.std.proofs.lemmas.List.Sums.{position_or_len_is}
use Rattle.memchr.specs.Find.{is_byte}
use Rattle.pl_rows.proofs.range.behind_comment.Goals as goal

pub returns-in-Some : goal.returns-in-Some
returns-in-Some c =
    let b = c.args.bytes.now in
    let n = c.in-Some.at in
    let size : prefix_len (λ x. not (x == c.args.eol_char)) b ≡ n = position_or_len_is (is_byte c.args.eol_char) b n 0 (search rules) (search rules) (search rules) in
    take_rest b (n + 1) ∙ sym (ap (λ k. drop (k + 1) b) size)

pub returns-in-None : goal.returns-in-None
returns-in-None c =
    let b = c.args.bytes.now in
    let size : prefix_len (λ x. not (x == c.args.eol_char)) b ≡ length b = position_or_len_is (is_byte c.args.eol_char) b (length b) 0 (omega arith) (search rules) (search rules) in
    sym (ap (λ k. drop (k + 1) b) size ∙ drop_of_length-le b (omega arith))
