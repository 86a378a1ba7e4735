use Rattle.std.proofs.Common.{◌+◌, ◌<◌, ◌≤◌, length, take, slice_set, sym, subst, arith}
use Rattle.std.proofs.lemmas.List.{take_more_set}
use Rattle.pl_write.specs.Printing.{FollowOn}
use Rattle.pl_write.proofs.PrintLaws.{FollowOn-push, further-end}
use Rattle.pl_write.proofs.printing.set_rows.Goals as goal

pub loop-share-preserved : goal.loop-share-preserved
loop-share-preserved c =
    let first = c.args.first in
    let row = c.loop-share.row in
    let i = c.loop-share.share-index in
    let old = c.loop-share.shares in
    let share = c.set_rows.new.self in
    let end = c.end_of-end.result in
    let inside : i < length old = omega (arith, c.loop-share-test.true, c.loop-share.auto.shares) in
    let up : row ≤ share.end = omega (arith, c.set_rows.ensures.end, c.end_of-end.ensures.up) in
    let more : FollowOn first share.end (take (i + 1) (slice_set old i share)) =
    subst (FollowOn first share.end) (sym (take_more_set old i share inside)) (FollowOn-push first row (take i old) share c.loop-share.invariant.follow c.set_rows.ensures.first up) in
    record {
      follow = subst (λ e. FollowOn first e (take (i + 1) (slice_set old i share))) c.set_rows.ensures.end more;
      up = omega (arith, c.loop-share.invariant.up, c.end_of-end.ensures.up);
      further = λ _. further-end first row c.args.height end c.requires.first c.loop-share.invariant.up c.end_of-end.ensures.further c.end_of-end.ensures.up;
      inside = c.end_of-end.ensures.inside;
    }
