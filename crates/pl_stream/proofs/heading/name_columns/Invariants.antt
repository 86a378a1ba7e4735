use Rattle.std.proofs.Common.{◌≡◌, map, take}
use Rattle.pl_frame.specs.Frame.{names_of}
use Rattle.pl_stream.specs.Printing.{name_column}
use Rattle.pl_stream.proofs.heading.name_columns.Given as goal

abbrev pub invariant-loop-column : goal.invariant-loop-column
invariant-loop-column l = l.names.items ≡ map name_column (names_of (take l.column-index l.columns))
