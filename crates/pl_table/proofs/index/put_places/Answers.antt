use Rattle.std.proofs.Common.{◌≡◌, ◌+◌, ◌≤◌, ◌++◌, [], take, refl, sym, ◌∙◌, arith, subst, ap₂}
use Rattle.std.proofs.lemmas.List.{append-nil, length-append, length-take-le}
use Rattle.std.proofs.lemmas.Nat.{ones-le}
use lib.Count.{ones}
use Rattle.pl_scan.specs.Bits.{set_bits}
use Rattle.pl_table.specs.Entries.{Written}
use Rattle.pl_scan.proofs.SetBitLaws.{length-set_bits}
use Rattle.pl_table.proofs.WrittenLaws.{counted}
use Rattle.pl_table.proofs.index.put_places.Goals as goal

pub loop-k-init : goal.loop-k-init
loop-k-init c =
    let a = c.args in
    let want = take a.from a.out.now ++ set_bits 64 a.base a.bits in
    record { written = c.put_eight-rest.ensures.written want ([], sym (append-nil _), λ h. refl); eights = refl; few = omega arith; len = omega arith }

pub loop-k-preserved : goal.loop-k-preserved
loop-k-preserved c =
    let a = c.args in
    let l = c.loop-k in
    let want = take a.from a.out.now ++ set_bits 64 a.base a.bits in
    let few : ones a.bits ≤ 64 = ones-le 64 a.bits c.ranges.bits.fits in
    let e : a.from + l.k + 8 ≡ a.from + (l.k + 8) = omega arith in
    record {
      written = subst (λ n. Written want c.put_eight-rest-in-loop-k.new.out n (set_bits 64 a.base c.put_eight-rest-in-loop-k.result) c.put_eight-rest-in-loop-k.result) e (c.put_eight-rest-in-loop-k.ensures.written want l.invariant.written);
      eights = omega (arith, l.invariant.eights);
      few = omega (arith, l.invariant.eights, few);
      len = omega arith;
    }

pub returns-clause-written : goal.returns-clause-written
returns-clause-written c =
    let a = c.args in
    let l = c.loop-k in
    let long = length-append (take a.from a.out.now) (set_bits 64 a.base a.bits) ∙ ap₂ (λ x y. x + y) (length-take-le a.from a.out.now (omega arith)) (length-set_bits 64 a.base a.bits c.ranges.bits.fits) in
    counted _ l.out (a.from + l.k) _ l.rest (set_bits 64 a.base l.rest) long (omega arith) (omega arith) l.invariant.written

pub returns-clause-count : goal.returns-clause-count
returns-clause-count c = sym (length-set_bits 64 c.args.base c.args.bits c.ranges.bits.fits)

pub returns-clause-few : goal.returns-clause-few
returns-clause-few c = ones-le 64 c.args.bits c.ranges.bits.fits
