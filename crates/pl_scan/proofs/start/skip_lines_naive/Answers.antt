use Rattle.std.proofs.Common.{◌-◌, ◌+◌, ◌∙◌, sym, ap}
use Rattle.pl_scan.specs.Start.{skip_lines}
use Rattle.pl_scan.proofs.StartLaws.{skip_lines-turn, skip_lines-fixed}
use Rattle.pl_scan.proofs.start.skip_lines_naive.Goals as goal

pub returns-in-None : goal.returns-in-None
returns-in-None c =
    sym (skip_lines-fixed c.args.eol_char (c.args.skip - c.loop-turn._turn) c.loop-turn.rest.now c.in-None.ensures) ∙ c.loop-turn.invariant

pub loop-turn-preserved : goal.loop-turn-preserved
loop-turn-preserved c =
    ap (skip_lines c.args.eol_char (c.args.skip - (c.loop-turn._turn + 1))) c.in-Some.ensures
    ∙ sym (skip_lines-turn c.args.eol_char c.args.skip c.loop-turn._turn c.loop-turn.rest.now c.loop-turn-test.true) ∙ c.loop-turn.invariant
