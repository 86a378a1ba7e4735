use Rattle.std.proofs.Common.{refl, length, arith, rules}
use Rattle.pl_regions.proofs.PrintingLaws.{next-end}
use Rattle.pl_regions.proofs.RegionLaws.{cut-more}
use Rattle.pl_regions.proofs.printing.texts_between.Goals as goal

pub slice_bounds-push-end : goal.slice_bounds-push-end
slice_bounds-push-end c =
    let next = next-end (length c.args.bytes.now) c.loop-end.from c.loop-end.end-index _ c.args.ends.now c.loop-end-test.true refl c.loop-end.invariant.rise in
    let order = next.order in
    let within = next.within in
    first_of (search (rules, order, within), omega (arith, order, within), grind (arith, order, within))

pub loop-end-preserved : goal.loop-end-preserved
loop-end-preserved c =
    let bytes = c.args.bytes.now in
    let next = next-end (length bytes) c.loop-end.from c.loop-end.end-index _ c.args.ends.now c.loop-end-test.true refl c.loop-end.invariant.rise in
    record {
      from = next.within;
      cut = cut-more bytes c.loop-end.texts.items c.push.new.self.items _ c.loop-end.from _ c.loop-end.invariant.cut c.in_ok-push.ensures.items next.order next.within refl;
      rise = next.rise;
    }
