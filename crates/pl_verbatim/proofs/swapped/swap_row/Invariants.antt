-- The fields of the row so far are put, or wait.
use Rattle.std.proofs.Common.{◌≡◌, ◌≤◌, ◌++◌, length, take}
use Rattle.std.specs.Prelude.{slice_range}
use Rattle.pl_verbatim.specs.Swaps.{swapped}
use Rattle.pl_verbatim.proofs.SwapLaws.{AreSwappedBefore}
use Rattle.pl_verbatim.proofs.swapped.swap_row.Given as goal

abbrev pub invariant-loop-index : goal.invariant-loop-index
invariant-loop-index l = record {
  ordered : l.now.from ≤ l.now.at;
  after : l.fn.start.place ≤ l.now.place;
  room : l.now.place ≤ length l.out;
  long : length l.out ≡ length l.fn.out;
  kept : take l.fn.start.place l.out ≡ take l.fn.start.place l.fn.out;
  row : AreSwappedBefore l.text l.fn.start.at l.kinds l.separator l.quote l.form l.index l.now.from l.now.at (take l.fn.start.place l.fn.out ++ swapped l.separator l.form.separator (slice_range l.text l.fn.start.from l.fn.start.at))
      (take l.now.place l.out);
}
