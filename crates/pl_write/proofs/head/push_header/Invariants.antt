use Rattle.std.proofs.Common.{◌≡◌, ◌++◌, map, take}
use Rattle.std.specs.List.{join_with_byte}
use Rattle.pl_text.specs.FrameText.{written_text}
use Rattle.pl_write.specs.Options.{cell_options}
use Rattle.pl_write.proofs.head.push_header.Given as goal

abbrev pub invariant-loop-place : goal.invariant-loop-place
invariant-loop-place g l = l.block.items ≡ l.initial.block.items ++ join_with_byte l.options.separator (map (written_text (cell_options l.options)) (take l.place (g.N.Names.names l.names)))
