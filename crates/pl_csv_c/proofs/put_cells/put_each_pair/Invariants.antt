use Rattle.std.proofs.Common.{◌≡◌, ◌++◌, take}
use Rattle.std.specs.List.{flat_map}
use Rattle.pl_csv_c.specs.Arrays.{words_in}
use Rattle.pl_csv_c.proofs.put_cells.put_each_pair.Given as goal

abbrev pub invariant-loop-row : goal.invariant-loop-row
invariant-loop-row l = l.words.items ≡ l.initial.words.items ++ flat_map words_in (take l.row l.column.values)
