use Rattle.std.proofs.Common.{rules, ◌≡◌, ◌++◌, take, slice_range, refl, sym, ◌∙◌, ap, subst, arith, append-nil, length-append}
use Rattle.std.specs.Io.KnownBytes.{Consumes}
use Rattle.std.proofs.lemmas.Slice.{take-put_mid_below}
use Rattle.pl_frame.proofs.Known.{Consumes-nil, Consumes-append}
use Rattle.pl_intake.proofs.IntakeLaws.{Consumes-kept, slice-front, slice-longer, slice-nothing, length-slice}
use Rattle.pl_intake.proofs.intake.fill.Goals as goal

pub loop-to-init : goal.loop-to-init
loop-to-init g c = record {
  after = omega arith;
  inside = c.requires.from;
  kept = refl;
  came = subst (Consumes _ _) (sym (slice-nothing c.args.text.now c.args.from)) (Consumes-nil (g.So.Source.left c.args.source.now));
  within = omega arith;
  later = omega arith;
}

pub returns-in-Err-clause-kept : goal.returns-in-Err-clause-kept
returns-in-Err-clause-kept g c = take-put_mid_below c.loop-to.to _ c.loop-to.text c.read.new.buf c.args.from c.loop-to.invariant.after c.loop-to.invariant.inside ∙ c.loop-to.invariant.kept

pub returns-in-Err-clause-failed : goal.returns-in-Err-clause-failed
returns-in-Err-clause-failed g c = λ _.
    let came = slice_range c.loop-to.text c.args.from c.loop-to.to in
    (came, Consumes-kept _ _ _ came c.loop-to.invariant.came c.in-Err.ensures.bytes, omega (arith, c.loop-to.invariant.within, length-slice c.loop-to.text c.args.from c.loop-to.to c.loop-to.invariant.inside))

pub returns-then-count-eq0-clause-kept : goal.returns-then-count-eq0-clause-kept
returns-then-count-eq0-clause-kept g c = take-put_mid_below c.loop-to.to _ c.loop-to.text c.read.new.buf c.args.from c.loop-to.invariant.after c.loop-to.invariant.inside ∙ c.loop-to.invariant.kept

pub returns-then-count-eq0-clause-bytes : goal.returns-then-count-eq0-clause-bytes
returns-then-count-eq0-clause-bytes g c =
    let came = slice_range c.loop-to.text c.args.from c.loop-to.to in
    let more : Consumes (g.So.Source.left c.args.source.now) (g.So.Source.left c.read.new.self) (came ++ take c.in-Ok.count c.read.new.buf) =
    Consumes-append _ _ _ came (take c.in-Ok.count c.read.new.buf) c.loop-to.invariant.came c.in-Ok.ensures.bytes.0 in
    let none : came ++ take c.in-Ok.count c.read.new.buf ≡ came = ap (λ n. came ++ take n c.read.new.buf) c.if-count-eq0.true ∙ append-nil came in
    let same = slice-front _ c.loop-to.text c.args.from c.loop-to.to (take-put_mid_below c.loop-to.to _ c.loop-to.text c.read.new.buf c.loop-to.to (omega arith) c.loop-to.invariant.inside) in
    subst (Consumes _ _) (none ∙ sym same) more

pub returns-then-count-limit-clause-kept : goal.returns-then-count-limit-clause-kept
returns-then-count-limit-clause-kept g c = take-put_mid_below c.loop-to.to _ c.loop-to.text c.read.new.buf c.args.from c.loop-to.invariant.after c.loop-to.invariant.inside ∙ c.loop-to.invariant.kept

pub returns-then-count-limit-clause-too_long : goal.returns-then-count-limit-clause-too_long
returns-then-count-limit-clause-too_long g c = λ _.
    let came = slice_range c.loop-to.text c.args.from c.loop-to.to in
    let more = take c.in-Ok.count c.read.new.buf in
    (came ++ more, Consumes-append _ _ _ came more c.loop-to.invariant.came c.in-Ok.ensures.bytes.0, omega (arith, c.if-count-limit.true, length-append came more, c.in-Ok.ensures.bound.1, length-slice c.loop-to.text c.args.from c.loop-to.to c.loop-to.invariant.inside))

pub loop-to-preserved : goal.loop-to-preserved
loop-to-preserved g c =
    let i = c.loop-to.invariant in
    record {
      after = omega arith;
      inside = search rules;
      kept = take-put_mid_below c.loop-to.to _ c.loop-to.text c.read.new.buf c.args.from i.after i.inside ∙ i.kept;
      came = subst (Consumes _ _) (sym (slice-longer c.args.from c.loop-to.to _ c.in-Ok.count c.loop-to.text c.read.new.buf i.after i.inside c.in-Ok.ensures.bound.0))
          (Consumes-append _ _ _ _ _ i.came c.in-Ok.ensures.bytes.0);
      within = omega arith;
      later = omega arith;
    }

pub returns-then-count-limit-clause-read_on : goal.returns-then-count-limit-clause-read_on
returns-then-count-limit-clause-read_on g c =
    let came = slice_range c.loop-to.text c.args.from c.loop-to.to in
    let more = take c.in-Ok.count c.read.new.buf in
    (came ++ more, Consumes-append _ _ _ came more c.loop-to.invariant.came c.in-Ok.ensures.bytes.0)
