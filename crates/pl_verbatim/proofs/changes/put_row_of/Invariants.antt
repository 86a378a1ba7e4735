-- What is put of the fields of the row so far was put.
use Rattle.std.proofs.Common.{◌≡◌, ◌<◌, ◌≤◌, length, take}
use Rattle.pl_verbatim.proofs.RowChangeLaws.{ArePutBefore}
use Rattle.pl_verbatim.proofs.changes.put_row_of.Given as goal

abbrev pub invariant-loop-index : goal.invariant-loop-index
invariant-loop-index g l = record {
  after : l.from ≤ l.place;
  room : l.place < length l.out;
  long : length l.out ≡ length l.fn.out;
  kept : take l.from l.out ≡ take l.from l.fn.out;
  row : ArePutBefore l.text l.start l.kinds l.separator l.quote l.form l.index l.at l.is_first (take l.from l.fn.out) (take l.place l.out);
}
