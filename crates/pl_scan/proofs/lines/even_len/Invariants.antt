use Rattle.std.proofs.Common.{◌≡◌, ◌+◌, drop, true}
use Rattle.pl_scan.proofs.LineLaws.{len_from}
use Rattle.pl_scan.proofs.lines.even_len.Given as goal

abbrev pub invariant-loop-i : goal.invariant-loop-i
invariant-loop-i l = len_from l.quote_char l.eol_char true l.slice ≡ l.i + len_from l.quote_char l.eol_char l.even (drop l.i l.slice)
