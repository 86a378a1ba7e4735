use Rattle.std.proofs.Common.{◌≡◌, Bool, true, false, nat_eq, length, refl, arith}
use Rattle.std.specs.Bool.{OnTrue}
use Rattle.std.specs.List.{range_with_len}
use Rattle.std.proofs.lemmas.Bool.Decides.{nat_tests}
use Rattle.pl_verbatim.proofs.SchemaLaws.{places-all}
use Rattle.pl_verbatim.proofs.front.are_all.Goals as goal

pub returns : goal.returns
returns c = by (nat_eq (length c.args.places.now) c.args.width) refl
  where
    by : (t : Bool) → nat_eq (length c.args.places.now) c.args.width ≡ t → OnTrue t (c.args.places.now ≡ range_with_len 0 c.args.width)
    by true is = places-all c.args.places.now c.args.width (grind (arith, nat_tests, is)) (λ k below. c.loop-index.invariant k (omega (arith, below, c.loop-index-test.false)))
    by false is = tt
