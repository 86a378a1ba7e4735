use Rattle.std.proofs.Common.{◌≤◌, ◌<◌, take}
use Rattle.pl_write.specs.Printing.{FollowOn}
use Rattle.pl_write.proofs.printing.set_rows.Given as goal

abbrev pub invariant-loop-share : goal.invariant-loop-share
invariant-loop-share l = record {
  follow : FollowOn l.first l.row (take l.share-index l.shares);
  up : l.first ≤ l.row;
  further : 0 < l.share-index → l.first < l.row;
  inside : l.row ≤ l.height;
}
