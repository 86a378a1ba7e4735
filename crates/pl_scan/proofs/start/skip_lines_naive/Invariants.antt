use Rattle.std.proofs.Common.{◌≡◌, ◌-◌}
use Rattle.pl_scan.specs.Start.{skip_lines}
use Rattle.pl_scan.proofs.start.skip_lines_naive.Given as goal

abbrev pub invariant-loop-turn : goal.invariant-loop-turn
invariant-loop-turn l = skip_lines l.eol_char (l.skip - l._turn) l.rest ≡ skip_lines l.eol_char l.skip l.input
