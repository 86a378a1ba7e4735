use Rattle.std.proofs.Common.{arith, take, drop, length-drop}
use Rattle.std.proofs.lemmas.List.{take_rest}
use Rattle.std.proofs.Math.Seq.{take-add}
use Rattle.pl_frame.proofs.Known.{Appends-more}
use Rattle.pl_frame.proofs.sink.write_all.Goals as goal

pub loop-at-preserved : goal.loop-at-preserved
loop-at-preserved g c =
    let i = c.loop-at.at in
    let n = c.in-Ok.count in
    let b = c.args.bytes.now in
    let rest = take_rest b i in
    let bytes = rw rest at c.in-Ok.ensures.bytes in
    let some = rw rest at c.in-Ok.ensures.some in
    let more = Appends-more _ _ _ (take i b) (take n (drop i b)) c.loop-at.invariant.written bytes in
    record {
      within = omega (arith, some.1, length-drop i b);
      written = rw (take-add i n b) more;
      later = omega (arith, c.in-Ok.ensures.later, c.loop-at.invariant.later);
      later_wants = omega (arith, c.in-Ok.ensures.later_wants, c.loop-at.invariant.later_wants);
    }
