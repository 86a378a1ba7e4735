use Rattle.std.proofs.Common.{◌≡◌, map, take}
use Rattle.pl_frame.specs.Frame.{names_of}
use Rattle.pl_csv_c.specs.FrameText.{name_column}
use Rattle.pl_csv_c.proofs.frame_text.name_columns.Given as goal

abbrev pub invariant-loop-column : goal.invariant-loop-column
invariant-loop-column l = l.names.items ≡ map name_column (names_of (take l.column-index l.columns))
