use Rattle.std.proofs.Common.{take}
use Rattle.pl_read.specs.NamedColumns.{ArePlaces}
use Rattle.pl_read.proofs.named_columns.places_of.Given as goal

abbrev pub invariant-loop-name : goal.invariant-loop-name
invariant-loop-name l = ArePlaces l.schema l.partitions l.has_row_index (take l.name-index l.names) l.places.items
