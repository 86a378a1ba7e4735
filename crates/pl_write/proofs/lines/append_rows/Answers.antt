use Rattle.std.proofs.Common.{◌≡◌, length, ◌++◌, ◌∙◌, ap, arith}
use Rattle.std.proofs.lemmas.Result.{on_ok_weaker}
use Rattle.pl_write.specs.Options.{cell_options}
use Rattle.pl_write.specs.Strips.{strip_lines}
use Rattle.pl_write.proofs.LineLaws.{lines-are}
use Rattle.pl_write.proofs.lines.append_rows.Goals as goal

pub returns : goal.returns
returns c =
    let o = cell_options c.args.options.now in
    let strips = c.args.strips.now in
    let lines = c.put_together.new.lines in
    let same : length lines ≡ length c.args.lines.now = omega (arith, c.put_together.auto.lines) in
    let text = lines-are o strips c.args.first lines c.in_ok-put_together.ensures ∙ ap (strip_lines o strips c.args.first) same in
    on_ok_weaker c.append_lines.result (λ e. e ∙ ap (λ l. c.args.block.now ++ l) text) c.append_lines.ensures
