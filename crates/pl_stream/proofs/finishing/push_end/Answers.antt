use Rattle.std.proofs.Common.{◌≡◌, ◌++◌, ℕ, List, length, None, arith, subst, append_assoc, ◌∙◌, ap}
use Rattle.std.specs.Prelude.{OnOk, IfErr, unwrap_or}
use Rattle.pl_table.specs.Rows.{Row}
use Rattle.pl_stream.specs.Ending.{end_rows, end_text}
use Rattle.pl_stream.specs.Printing.{first_rows, rows_cause, IsRowsFault, lines_behind, head_once}
use Rattle.pl_stream.proofs.EndLaws.{first-end, first-few, text-end}
use Rattle.pl_stream.proofs.finishing.push_end.Goals as goal

pub push_lines-requires-clause-fits : goal.push_lines-requires-clause-fits
push_lines-requires-clause-fits c = omega (arith, c.requires.fits, first-few c.args.read.now c.unwrap_or-count.result c.args.records.now)

pub returns-clause-text : goal.returns-clause-text
returns-clause-text c =
    text-end c.push_lines.result c.args.text.now.items c.push_head_once.new.text.items c.push_lines.new.text.items c.args.read.now c.args.write.now c.args.rows
    (first_rows c.args.read.now c.unwrap_or-count.result c.args.records.now) (end_rows c.args.read.now c.args.rows c.args.records.now)
    (first-end c.args.read.now c.args.rows c.unwrap_or-count.result c.args.records.now (c.unwrap_or-count.ensures ∙ ap (λ limit. unwrap_or limit (length c.args.records.now)) c.left_limit.ensures))
    c.in-Ok.ensures.head c.push_lines.ensures.lines

pub returns-clause-sound : goal.returns-clause-sound
returns-clause-sound c =
    subst (λ (given : List Row). OnOk c.push_lines.result (rows_cause c.args.read.now c.args.rows given ≡ None))
    (first-end c.args.read.now c.args.rows c.unwrap_or-count.result c.args.records.now (c.unwrap_or-count.ensures ∙ ap (λ limit. unwrap_or limit (length c.args.records.now)) c.left_limit.ensures))
    c.push_lines.ensures.sound

pub returns-clause-refused : goal.returns-clause-refused
returns-clause-refused c =
    subst (λ (given : List Row). IfErr c.push_lines.result (IsRowsFault (rows_cause c.args.read.now c.args.rows given)))
    (first-end c.args.read.now c.args.rows c.unwrap_or-count.result c.args.records.now (c.unwrap_or-count.ensures ∙ ap (λ limit. unwrap_or limit (length c.args.records.now)) c.left_limit.ensures))
    c.push_lines.ensures.refused
