use Rattle.std.proofs.Common.{◌≡◌, ◌+◌, ◌≤◌, ◌++◌, ◌∷◌, map, length, take}
use Rattle.pl_scan.specs.Dialect.{marks_of}
use Rattle.pl_table.specs.declared.block.Spot.TheVariants.{Begin}
use Rattle.pl_table.specs.Entries.{entries, place_behind, row_ends}
use Rattle.pl_table.proofs.index.index_text.Given as goal

abbrev pub invariant-loop-rest : goal.invariant-loop-rest
invariant-loop-rest l = record {
  place : l.place + length l.rest ≡ length l.text;
  starts : take (l.fields + 1) l.starts.items ++ map place_behind (entries (marks_of l.dialect) l.at l.place l.rest) ≡ 0 ∷ map place_behind (entries (marks_of l.dialect) Begin 0 l.text);
  rows : take (l.count + 1) l.firsts.items ++ row_ends l.fields (entries (marks_of l.dialect) l.at l.place l.rest) ≡ 0 ∷ row_ends 0 (entries (marks_of l.dialect) Begin 0 l.text);
  starts_fit : l.fields + 1 ≤ length l.starts.items;
  rows_fit : l.count + 1 ≤ length l.firsts.items;
}

abbrev pub decreases-loop-rest : goal.decreases-loop-rest
decreases-loop-rest l = length l.rest
