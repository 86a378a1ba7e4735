use Rattle.std.proofs.Common.{sym, ◌∙◌, ap, arith, ◌+◌, length, ◌-◌}
use Rattle.std.specs.Prelude.{◌≡◌, ◌==◌, count_by}
use Rattle.pl_frame.specs.Dialect.{marks}
use Rattle.pl_scan.specs.RowStates.{rows_behind}
use Rattle.pl_scan.proofs.RowStateLaws.{rows-unquoted, rows-inside}
use Rattle.pl_scan.proofs.row_counter.count_run.Goals as goal

pub returns-then-is_unquoted-clause-rows : goal.returns-then-is_unquoted-clause-rows
returns-then-is_unquoted-clause-rows c = λ quote none rest.
    let m = marks c.args.separator quote c.args.eol_char in
    let last : length c.args.run.now - 1 + 1 ≡ length c.args.run.now = omega (arith, c.requires.2) in
    ap (λ k. k + rows_behind m c.state_behind-behind.result rest) c.count_byte.ensures
    ∙ ap (λ p. count_by (λ x. x == c.args.eol_char) c.args.run.now + rows_behind m p rest) c.state_behind-behind.ensures
    ∙ rows-unquoted m c.args.state c.args.run.now (length c.args.run.now - 1) rest (sym c.is_unquoted.ensures ∙ c.if-is_unquoted.true) c.requires.1 none last

pub returns-else-is_unquoted-clause-rows : goal.returns-else-is_unquoted-clause-rows
returns-else-is_unquoted-clause-rows c = λ quote none rest.
    rows-inside (marks c.args.separator quote c.args.eol_char) c.args.state c.args.run.now rest c.requires.0 (sym c.is_unquoted.ensures ∙ c.if-is_unquoted.false) none
