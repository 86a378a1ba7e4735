use Rattle.std.proofs.Common.{◌≡◌, take}
use Rattle.std.specs.Simd.Lanes.{mask_l}
use Rattle.pl_scan.specs.Dialect.{marks_of}
use Rattle.pl_table.specs.Ends.{spot_behind, end_flags, line_flags}
use Rattle.pl_table.proofs.block.ends_by_bytes.Given as goal

abbrev pub invariant-loop-i : goal.invariant-loop-i
invariant-loop-i l = record {
  ends : l.ends ≡ mask_l (end_flags (marks_of l.dialect) l.fn.spot (take l.i l.bytes));
  lines : l.lines ≡ mask_l (line_flags (marks_of l.dialect) (take l.i l.bytes));
  at : l.at ≡ spot_behind (marks_of l.dialect) l.fn.spot (take l.i l.bytes);
}
