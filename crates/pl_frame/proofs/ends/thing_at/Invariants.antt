use Rattle.std.proofs.Common.{◌-◌, ◌<◌, ◌≤◌, ◌∷◌, length, slice_index}
use Rattle.pl_frame.proofs.ends.thing_at.Given as goal

abbrev pub invariant-search : goal.invariant-search
invariant-search l = record {
  ordered : l.low ≤ l.high;
  within : l.high ≤ length l.ends;
  begin : slice_index (0 ∷ l.ends) l.low ≤ l.place;
  end : l.high < length l.ends → l.place < slice_index l.ends l.high;
}

abbrev pub decreases-search : goal.decreases-search
decreases-search l = l.high - l.low
