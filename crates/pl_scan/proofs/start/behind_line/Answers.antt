use Rattle.std.proofs.Common.{◌+◌, ◌∙◌, sym, length, arith, rules}
use Rattle.std.proofs.lemmas.List.{take_rest}
use Rattle.std.proofs.lemmas.List.Sums.{position_or_len_is}
use Rattle.memchr.specs.Find.{is_byte}
use Rattle.pl_scan.proofs.StartLaws.{skip_line-some, skip_line-none}
use Rattle.pl_scan.proofs.start.behind_line.Goals as goal
use Rattle.pl_scan.proofs.start.behind_line.Goals.{in_default-via-in-Some+else-at-input, in_default-via-in_default}

pub returns-in-Some : goal.returns-in-Some
returns-in-Some c =
    let b = c.args.input.now in
    let n = c.in-Some.at in
    take_rest b (n + 1) ∙ sym (skip_line-some c.args.eol_char b n (position_or_len_is (is_byte c.args.eol_char) b n 0 (search rules) (search rules) (search rules)) c.if-at-input.true)

pub returns-in_default : goal.returns-in_default
returns-in_default c =
    let b = c.args.input.now in
    elim c.in_default.branch [
      | in_default-via-in-Some+else-at-input w ↦
          let n = w.in-Some.at in
          skip_line-none c.args.eol_char b n (position_or_len_is (is_byte c.args.eol_char) b n 0 (search rules) (search rules) (search rules)) w.if-at-input.false
      | in_default-via-in_default w ↦
          skip_line-none c.args.eol_char b (length b) (position_or_len_is (is_byte c.args.eol_char) b (length b) 0 (omega arith) (search rules) (search rules)) (omega arith)
    ]
