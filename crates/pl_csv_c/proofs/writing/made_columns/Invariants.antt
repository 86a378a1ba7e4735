use Rattle.std.proofs.Common.{◌≡◌, All, map, take}
use Rattle.pl_csv_c.specs.HostColumns.{host_column, IsSound}
use Rattle.pl_csv_c.proofs.writing.made_columns.Given as goal

abbrev pub invariant-loop-place : goal.invariant-loop-place
invariant-loop-place l = record {
  columns_are : l.columns.items ≡ map host_column (take l.place l.hosts);
  sound : All IsSound (take l.place l.hosts);
}
