use Rattle.std.proofs.Common.{◌∙◌, ap, ◌-◌, cond, [], append-nil}
use Rattle.pl_scan.specs.RowStates.{rows_with}
use Rattle.pl_scan.proofs.rows.count_plain_rows.Goals as goal

pub returns : goal.returns
returns c =
    c.rows.ensures
    ∙ ap (λ n. n - cond c.args.has_header 1 0)
    (c.add.ensures.rows [] ∙ ap (rows_with c.new-counter.result) (append-nil c.args.bytes.now) ∙ c.new-counter.ensures.rows c.args.bytes.now)
