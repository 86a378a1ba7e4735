use Rattle.std.proofs.Common.{take}
use Rattle.std.specs.Prelude.{Some}
use Rattle.pl_frame.specs.Dialect.{marks}
use Rattle.pl_scan.proofs.Walk.{HasRead}
use Rattle.pl_scan.proofs.fields.quoted_len.Given as goal

abbrev pub invariant-loop-i : goal.invariant-loop-i
invariant-loop-i l = HasRead (marks l.separator (Some l.quote) l.eol_char) (take l.i l.slice) l.even
