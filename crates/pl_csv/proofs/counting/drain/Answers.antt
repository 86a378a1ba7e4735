use Rattle.std.proofs.Common.{arith, rules}
use Rattle.pl_csv.proofs.CountingLaws.{HasPassed-more}
use Rattle.pl_csv.proofs.counting.drain.Goals as goal

pub loop-count-preserved : goal.loop-count-preserved
loop-count-preserved g c = record {
  within = omega (arith, c.loop-count.invariant.within);
  passed = HasPassed-more _ _ _ _ c.loop-count.invariant.passed c.in-Ok.ensures.bytes.0;
  later = search rules;
}
