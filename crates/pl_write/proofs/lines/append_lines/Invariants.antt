use Rattle.std.proofs.Common.{◌≡◌, ◌++◌, take}
use Rattle.std.specs.List.{flat_map}
use Rattle.pl_write.proofs.lines.append_lines.Given as goal

abbrev pub invariant-loop-line : goal.invariant-loop-line
invariant-loop-line l = l.block ≡ l.initial.block ++ flat_map (λ line. line ++ l.options.line_terminator) (take l.line-index l.lines)
