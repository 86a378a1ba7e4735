use Rattle.std.proofs.Common.{length, refl, ◌∙◌, arith}
use Rattle.std.proofs.lemmas.List.{take_all}
use Rattle.pl_regions.proofs.RegionLaws.{cut-more}
use Rattle.pl_regions.proofs.cutting.guess_regions.Goals as goal

pub loop-to-preserved-then-from-place : goal.loop-to-preserved-then-from-place
loop-to-preserved-then-from-place c = record {
  from = c.in-Some.ensures.within;
  cut = cut-more c.args.records.now c.loop-to.texts.items c.push.new.self.items _ c.loop-to.from c.in-Some.place c.loop-to.invariant.cut c.in_ok-push-in-Some.ensures.items
      (omega (arith, c.if-from-place.true)) c.in-Some.ensures.within refl;
}

pub returns : goal.returns
returns c =
    let records = c.args.records.now in
    cut-more records c.loop-to.texts.items c.push-2.new.self.items _ c.loop-to.from (length records) c.loop-to.invariant.cut c.in_ok-push.ensures.items
    c.loop-to.invariant.from (omega arith) refl
    ∙ take_all (length records) records (omega arith)
